-- So many variables. The sorts of those read so far stand in front of the slice.
use Prim.Native.Nat.{◌-◌}
use lib.ListN.{length}
use Rattle.model.specs.Walk.{variable_at, row_at}
use Rattle.model.proofs.Declarations.{Stored}
use Rattle.model.proofs.walk.variables.Given as goal

abbrev pub invariant-loop-sort : goal.invariant-loop-sort
invariant-loop-sort l =
    Stored (variable_at l.tree.kinds.now l.tree.parameters.now) (row_at (variable_at l.tree.kinds.now l.tree.parameters.now) (length l.initial.sorts) 0)
    l.sorts l.sort-index (length l.initial.sorts - l.sort-index) l.here.at
