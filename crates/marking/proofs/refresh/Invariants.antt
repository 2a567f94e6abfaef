-- The marks before this one are those of their guards, the others as they were.
use mathlib.Core.Path.{◌≡◌}
use mathlib.Core.List.{◌++◌}
use lib.ListN.{length, take, drop}
use Rattle.engine.specs.Lent.{LoadedIn}
use Rattle.engine.proofs.Counts.{meaning}
use Rattle.marking.specs.Marks.{marks_from}
use Rattle.marking.proofs.refresh.Given as goal

abbrev pub invariant-loop-transition : goal.invariant-loop-transition
invariant-loop-transition l =
    ((d : LoadedIn l.decoded.tables) → l.mark-items ≡ marks_from (meaning d) (take (length l.decoded.tables.variables.now) l.values) 0 l.transition ++ drop l.transition l.initial.mark-items)
    × (length l.mark-items ≡ length l.initial.mark-items)
