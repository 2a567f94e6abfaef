-- One loop over the nodes that are due.
use Prim.Native.Nat.{◌-◌}
use lib.ListN.{length}
use Rattle.expressions.proofs.Skipping.{Going}
use Rattle.expressions.proofs.past.Given as goal

abbrev pub invariant-loop-due : goal.invariant-loop-due
invariant-loop-due l = Going l.kinds l.at l.here l.due

abbrev pub decreases-loop-due : goal.decreases-loop-due
decreases-loop-due l = length l.kinds - l.here
