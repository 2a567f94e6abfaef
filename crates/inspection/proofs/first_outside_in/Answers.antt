-- Too few values, or the check over the rows of its variables.
use Rattle.inspection.proofs.QueryTests.{range_checked}
use Rattle.inspection.proofs.first_outside_in.Goals as goal

pub returns : goal.returns
returns g c = range_checked c.declarations-declared.ensures c.args.values.now c.if-values-declared.false c.check_ranges.result c.check_ranges.ensures.outside c.check_ranges.ensures.looked
