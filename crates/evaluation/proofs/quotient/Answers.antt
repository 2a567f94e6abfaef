-- By 0 it failed; by another number it fits or is too large.
use lib.Signed.{quot_z}
use Rattle.evaluation.proofs.Signed.{divided_by_zero, quotient_held}
use Rattle.evaluation.proofs.quotient.Goals as goal

pub returns-then-y-eq0 : goal.returns-then-y-eq0
returns-then-y-eq0 c = divided_by_zero quot_z c.args.x c.ranges.y c.if-y-eq0.true

pub returns : goal.returns
returns c = quotient_held c.ranges.x c.ranges.y c.if-y-eq0.false c.checked_div.result c.checked_div.ensures c.held.ensures
