use Rattle.std.proofs.Common.{◌-ℤ◌}
use Rattle.evaluation.proofs.Signed.{held_checked}
use Rattle.evaluation.proofs.difference.Goals as goal

pub returns : goal.returns
returns c = held_checked ◌-ℤ◌ c.ranges.x c.ranges.y c.checked_sub.result c.checked_sub.ensures c.held.ensures
