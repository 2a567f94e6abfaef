-- The owners, from the first node to the last.
use Prim.Native.Nat.{◌≤◌}
use lib.ListN.{get_or}
use Rattle.indexing.proofs.Owning.{Owned}
use Rattle.indexing.proofs.own.Given as goal

abbrev pub invariant-loop-here : goal.invariant-loop-here
invariant-loop-here l = (l.owner ≤ l.here) × Owned l.kinds l.assertion l.here l.owner (λ p. get_or l.owners p 0)
