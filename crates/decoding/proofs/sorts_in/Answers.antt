use mathlib.Core.Path.{sym, ◌∙◌}
use native.Mathlib.Omega.{arith}
use Rattle.decoding.proofs.StoredVariables.{variables_begin, node_left, nodes_left, boolean_turn, number_turn, stored_same, variables_end}
use Rattle.decoding.proofs.sorts_in.Invariants.{sort}
use Rattle.decoding.proofs.sorts_in.Goals.{then-stands_for, else-stands_for}
use Rattle.decoding.proofs.sorts_in.Goals as goal

pub loop-sort-init : goal.loop-sort-init
loop-sort-init c = λ ps. variables_begin sort c.args.kinds.now ps _

pub bounds-kinds-at : goal.bounds-kinds-at
bounds-kinds-at c = node_left sort _ _ _ _ _ _ (c.loop-sort.invariant c.requires.0) c.loop-sort-test.true c.requires.1

pub overflow_add-at-else-stands_for : goal.overflow_add-at-else-stands_for
overflow_add-at-else-stands_for c =
    omega (arith, nodes_left sort _ _ _ _ _ _ (c.loop-sort.invariant c.requires.0) c.loop-sort-test.true c.requires.1 c.stands_for.ensures c.if-stands_for.false)

pub loop-sort-preserved : goal.loop-sort-preserved
loop-sort-preserved c = λ ps.
    let turn = c.loop-sort in
    let more = c.loop-sort-test.true in
    elim c.if-stands_for.branch [
      | then-stands_for w ↦ stored_same sort _ _ w.sorts-is w.at-is
          (boolean_turn sort _ ps turn.sort-index turn.at turn.sorts _ (turn.invariant ps) more (sym c.stands_for.ensures ∙ w.if-stands_for.true))
      | else-stands_for w ↦ stored_same sort _ _ w.sorts-is w.at-is
          (number_turn sort _ ps turn.sort-index turn.at turn.sorts _ (turn.invariant ps) more (sym c.stands_for.ensures ∙ w.if-stands_for.false))
    ]

pub returns : goal.returns
returns c = λ ps read.
    let turn = c.loop-sort in
    (variables_end sort c.args.kinds.now ps turn.sort-index turn.at turn.sorts _ (turn.invariant ps) c.loop-sort-test.false read).1
