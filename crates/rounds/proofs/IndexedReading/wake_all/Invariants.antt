-- `wake_all` meets its contract.
use Prim.Native.Nat.{ℕ, ◌≤◌, ◌<◌}
use lib.ListN.{get_or}
use Rattle.reading.specs.Readings.{SameCells}
use Rattle.rounds.specs.Lent.{StillWakingIn, PassedIn}
use Rattle.rounds.proofs.IndexedReading.wake_all.Given as goal

abbrev pub invariant-loop-k : goal.invariant-loop-k
invariant-loop-k l =
    SameCells l.initial.gathering l.gathering × StillWakingIn l.self.reading l.initial.gathering l.gathering
    × ((j : ℕ) → l.done ≤ j → j < l.k → PassedIn l.self.reading l.gathering (get_or l.initial.gathering.queue.now j 0))
