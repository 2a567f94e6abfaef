use mathlib.Core.Path.{sym, ap, ◌∙◌}
use Prim.Native.Nat.{◌+◌, ◌-◌}
use native.Mathlib.Omega.{arith}
use lib.IntN.{pos}
use lib.ListN.{get_or, length-set}
use Rattle.evaluation.proofs.Signed.{read_back}
use Rattle.decoding.specs.NextPlaces.{children_by, following}
use Rattle.decoding.proofs.Filling.{filled_turn, filled_none}
use Rattle.decoding.proofs.next_places.Goals as goal

pub loop-at-preserved : goal.loop-at-preserved
loop-at-preserved c =
    let given = c.args in
    let turn = c.loop-at in
    let p = get_or given.tree.now.parameters.now (turn.at - 1) (pos 0) in (
      sym
          (filled_turn given.tree.now.kinds.now given.tree.now.parameters.now turn.at turn.nexts c.children_of-children.result c.follow-after.result c.loop-at-test.true
          (c.children_of-children.ensures ∙ ap (children_by (get_or given.tree.now.kinds.now (turn.at - 1) 0)) (read_back p (omega arith)))
          (c.follow-after.ensures.0 ∙ ap (λ n. following turn.nexts n c.children_of-children.result (turn.at - 1 + 1)) (turn.invariant.1 ∙ c.requires.1)))
          ∙ turn.invariant.0,
      length-set turn.nexts (turn.at - 1) c.follow-after.result ∙ turn.invariant.1,
    )

pub returns : goal.returns
returns c = sym (filled_none _ _ _ _ c.loop-at-test.false) ∙ c.loop-at.invariant.0
