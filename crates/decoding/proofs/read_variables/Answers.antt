use mathlib.Core.Path.{sym, ◌∙◌}
use Rattle.evaluation.proofs.Signed.{read_back}
use Rattle.variables.specs.Rows.{variable_row}
use Rattle.decoding.proofs.StoredVariables.{variables_begin, boolean_row, number_row, stored_same, variables_end}
use Rattle.decoding.proofs.read_variables.Goals.{then-stands_for, else-stands_for}
use Rattle.decoding.proofs.read_variables.Goals as goal

pub loop-row-init : goal.loop-row-init
loop-row-init c = variables_begin variable_row _ _ _

pub loop-row-preserved : goal.loop-row-preserved
loop-row-preserved c =
    let turn = c.loop-row in
    let more = c.loop-row-test.true in
    let low = read_back _ c.parameter-1.given in
    elim c.if-stands_for.branch [
      | then-stands_for w ↦ stored_same variable_row _ _ w.variables-is w.at-is
          (boolean_row _ _ turn.row-index turn.at turn.variables _ turn.invariant more _ low (sym c.stands_for.ensures ∙ w.if-stands_for.true))
      | else-stands_for w ↦ stored_same variable_row _ _ w.variables-is w.at-is
          (number_row _ _ turn.row-index turn.at turn.variables _ turn.invariant more _ _ _
          low (read_back _ w.high-1.given) (read_back _ w.first-1.given) (sym c.stands_for.ensures ∙ w.if-stands_for.false))
    ]

pub returns : goal.returns
returns c =
    let turn = c.loop-row in
    variables_end variable_row _ _ turn.row-index turn.at turn.variables _ turn.invariant c.loop-row-test.false
