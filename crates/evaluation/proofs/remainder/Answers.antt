-- By 0 it failed; by another number it fits.
use lib.Signed.{rem_z}
use Rattle.evaluation.proofs.Signed.{divided_by_zero, remainder_given}
use Rattle.evaluation.proofs.remainder.Goals as goal

pub returns-then-y-eq0 : goal.returns-then-y-eq0
returns-then-y-eq0 c = divided_by_zero rem_z c.args.x c.ranges.y c.if-y-eq0.true

pub returns : goal.returns
returns c = remainder_given c.ranges.x c.ranges.y c.if-y-eq0.false c.wrapping_rem.ensures
