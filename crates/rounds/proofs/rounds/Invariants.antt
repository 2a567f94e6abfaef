-- `rounds` meets its contract.
use mathlib.Core.Path.{◌≡◌}
use lib.ListN.{length}
use Rattle.expressions.specs.Cells.{valuation_of}
use Rattle.semantics.specs.Counting.{unknowns}
use Rattle.reading.specs.Readings.{SameCells}
use Rattle.rounds.specs.Lent.{FittingIn, ReadyIn}
use Rattle.rounds.proofs.rounds.Given as goal

abbrev pub invariant-loop-fault : goal.invariant-loop-fault
invariant-loop-fault l =
    SameCells l.initial.gathering l.gathering × (length l.cells ≡ length l.initial.cells) × FittingIn l.indexed.tables.now l.cells l.gathering
    × ReadyIn l.indexed.tables.now l.initial.cells l.cells l.gathering l.round l.done

abbrev pub decreases-loop-fault : goal.decreases-loop-fault
decreases-loop-fault l =
    unknowns (valuation_of l.gathering.given.now) (length l.indexed.tables.now.variables.now) 0
