-- One mark is set, and counted.
use native.Mathlib.Omega.{arith}
use lib.ListN.{get_or}
use Rattle.waiting.proofs.Counting.{is_marked_bounded, one_recounted, marks_bounded, one_counted}
use Rattle.reading.proofs.Marking.{is_counted}
use Rattle.reading.proofs.Gathering.mark.Goals as goal

pub overflow_sub-self : goal.overflow_sub-self
overflow_sub-self c =
    let g = c.args.self.now in
    omega (arith, c.from.ensures, is_counted (get_or g.waits.now c.args.at 0), one_counted g.waits.now c.args.at, c.requires.1.1)

pub overflow_add-self : goal.overflow_add-self
overflow_add-self c =
    let g = c.args.self.now in
    record { fits = omega (arith, c.from.ensures, c.from-2.ensures, is_counted (get_or g.waits.now c.args.at 0), is_counted c.args.stamp, is_marked_bounded c.args.stamp, one_counted g.waits.now c.args.at, marks_bounded g.waits.now, c.requires.1.1, c.from-2.type_inv, c.from.type_inv) }

pub returns-clause-whole : goal.returns-clause-whole
returns-clause-whole c =
    let g = c.args.self.now in
    (c.requires.1.0, omega (arith, c.from.ensures, c.from-2.ensures, is_counted (get_or g.waits.now c.args.at 0), is_counted c.args.stamp, one_counted g.waits.now c.args.at, one_recounted g.waits.now c.args.at c.args.stamp c.requires.0, c.requires.1.1))
