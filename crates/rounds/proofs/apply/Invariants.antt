-- `apply` meets its contract.
use lib.ListN.{length}
use Rattle.rounds.specs.Rounds.{Pending}
use Rattle.rounds.proofs.apply.Given as goal

abbrev pub invariant-loop-flow : goal.invariant-loop-flow
invariant-loop-flow l = Pending l.flow-items l.flow-index (length l.flow-items) l.cells l.gathering.given.now
