-- The theorems on lists of calls, from the theorems of the crates below.
use Rattle.model.proofs.Shuffling.{shuffled_accepted}
use Rattle.model.proofs.CheckExact.{check_exact}
use Rattle.semantics.proofs.Shuffling.{shuffled_means_same}
use Rattle.run.specs.Theorems.{OrderIndependent, ReplayHolds, NoStaleRun}
use Rattle.run.proofs.Order.{order_independence}
use Rattle.run.proofs.Replayed.{replayed_after_start}
use Rattle.run.proofs.Held.{held_after_start}

pub order_independent : OrderIndependent
order_independent = order_independence shuffled_accepted shuffled_means_same

pub replay_holds : ReplayHolds
replay_holds = replayed_after_start

pub no_stale_run : NoStaleRun
no_stale_run = held_after_start check_exact
