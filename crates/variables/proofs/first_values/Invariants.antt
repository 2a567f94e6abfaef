-- The cells passed hold first values, and the others are as they were.
use Rattle.variables.specs.Rows.{firsts_in}
use Rattle.variables.proofs.Storing.{Stored}
use Rattle.variables.proofs.first_values.Given as goal

abbrev pub invariant-loop-x : goal.invariant-loop-x
invariant-loop-x l = Stored (firsts_in l.variables) l.initial.values l.values l.x
