use Rattle.std.proofs.Common.{◌*ℤ◌}
use Rattle.evaluation.proofs.Signed.{held_checked}
use Rattle.evaluation.proofs.product.Goals as goal

pub returns : goal.returns
returns c = held_checked ◌*ℤ◌ c.ranges.x c.ranges.y c.checked_mul.result c.checked_mul.ensures c.held.ensures
