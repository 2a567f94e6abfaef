-- The cycle of `evaluate` and `conditional`. The nodes that are left fall from `evaluate` to each call; `conditional` calls `evaluate` where it
-- stands, so its measure is larger by one there.
use Prim.Native.Nat.{◌+◌, ◌*◌, ◌-◌}
use lib.ListN.{length}
use Rattle.expressions.proofs.+conditional_evaluate.Given as goal

abbrev pub decreases-conditional : goal.decreases-conditional
decreases-conditional l = 2 * (length l.kinds.now - l.cursor.at) + 1

abbrev pub decreases-evaluate : goal.decreases-evaluate
decreases-evaluate l = 2 * (length l.kinds.now - l.cursor.at)
