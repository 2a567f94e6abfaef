-- Each node moves up, the one before it in its place.
use Prim.Native.Nat.{◌+◌, ◌<◌}
use native.Mathlib.Omega.{arith}
use mathlib.Core.Path.{◌≡◌, sym, ap, ◌∙◌}
use mathlib.Core.List.{◌∷◌}
use lib.ListN.{length, take, get_or}
use Rattle.std.proofs.lemmas.List.{take_all}
use Rattle.kinds.specs.declared.kind.Kind.TheVariants as kind
use Rattle.composition.specs.Arranging.{plain}
use Rattle.composition.proofs.Putting.{one_more_moved, next_carried, all_moved}
use Rattle.composition.proofs.bring_forward.Goals as goal

pub loop-i-preserved : goal.loop-i-preserved
loop-i-preserved c =
    let l = c.loop-i in
    let within : l.i < length l.nodes = omega (arith, c.loop-i-test.true, l.auto.nodes, l.auto.i-end) in (
      one_more_moved l.nodes c.args.nodes.now _ l.carried l.i within l.invariant.0 l.invariant.1,
      next_carried l.nodes c.args.nodes.now _ l.carried l.i within l.invariant.0 l.invariant.1 _,
    )

pub returns : goal.returns
returns c =
    let l = c.loop-i in
    let ended : l.i ≡ c.args.last + 1 = omega (arith, c.loop-i-test.false, l.auto.nodes, l.auto.i-end, c.requires) in
    sym (take_all l.i l.nodes (omega (arith, l.auto.nodes, ended, c.requires))) ∙ l.invariant.0
    ∙ ap (λ n. take n (get_or c.args.nodes.now c.args.last (plain kind.BooleanVariable) ∷ c.args.nodes.now)) ended
    ∙ all_moved c.args.nodes.now c.args.last (plain kind.BooleanVariable) c.requires
