use mathlib.Core.Path.{sym, ap, ◌∙◌}
use Prim.Native.Nat.{◌-◌}
use native.Mathlib.Omega.{arith}
use lib.ListN.{length, get_or}
use Rattle.decoding.specs.NextPlaces.{following}
use Rattle.decoding.proofs.Filling.{following_stop, following_turn, following_none}
use Rattle.decoding.proofs.follow.Goals as goal

pub returns-in_default : goal.returns-in_default
returns-in_default c = (sym (following_stop _ _ _ _ (omega (arith, c.in_default.ensures))) ∙ c.loop.invariant.0, c.loop.invariant.1)

pub loop-preserved : goal.loop-preserved
loop-preserved c =
    let found = c.in-Some.ensures.lookup in
    let next = c.from-here.ensures ∙ found.3.1 0 in (
      rw next
          (ap (λ n. following c.args.nexts.now (length c.args.nexts.now) n (get_or c.args.nexts.now c.loop.here 0)) (omega arith)
          ∙ sym (following_turn c.args.nexts.now (length c.args.nexts.now) (c.args.count - c.loop.counter) c.loop.here (omega (arith, c.loop-test.true)) found.3.0)
          ∙ c.loop.invariant.0),
      omega (arith, c.type_inv.nexts c.loop.here, next),
    )

pub returns : goal.returns
returns c = (sym (following_none _ _ _ _ (omega (arith, c.loop-test.false))) ∙ c.loop.invariant.0, c.loop.invariant.1)
