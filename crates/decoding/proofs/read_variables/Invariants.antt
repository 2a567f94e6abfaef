-- `read_variables` meets its contract: the variables that are left stand from the present place on.
use Rattle.variables.specs.Rows.{variable_row}
use Rattle.decoding.proofs.StoredVariables.{VariablesStored}
use Rattle.decoding.proofs.read_variables.Given as goal

abbrev pub invariant-loop-row : goal.invariant-loop-row
invariant-loop-row l = VariablesStored variable_row l.tree.kinds.now l.tree.parameters.now l.row-index l.at l.variables l.initial.variables
