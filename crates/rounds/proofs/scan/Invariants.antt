-- `scan` meets its contract.
use Prim.Native.Nat.{ℕ, ◌≤◌, ◌<◌}
use Rattle.reading.specs.Readings.{SameCells}
use Rattle.rounds.specs.Rounds.{Done}
use Rattle.rounds.specs.Lent.{StillWakingIn}
use Rattle.rounds.proofs.scan.Given as goal

abbrev pub invariant-loop-at : goal.invariant-loop-at
invariant-loop-at l =
    SameCells l.initial.gathering l.gathering × StillWakingIn l.reading l.initial.gathering l.gathering
    × ((p : ℕ) → l.reading.tables.now.model.assertion ≤ p → p < l.at → Done l.reading.round l.gathering.waits.now p)
