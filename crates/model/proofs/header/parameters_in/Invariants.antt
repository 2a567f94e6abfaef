-- The parameters so far, and after them the cells as they were.
use mathlib.Core.Path.{◌≡◌}
use mathlib.Core.List.{◌++◌}
use lib.ListN.{drop}
use Rattle.model.specs.Check.{parameters_at}
use Rattle.model.proofs.header.parameters_in.Given as goal

abbrev pub invariant-loop-i : goal.invariant-loop-i
invariant-loop-i l =
    l.parameters ≡ parameters_at l.model l.from l.i ++ drop l.i l.initial.parameters
