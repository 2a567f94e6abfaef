-- `fire` meets its contract.
use native.Mathlib.Omega.{arith}
use Prim.Native.Nat.{◌<◌}
use lib.ListN.{length}
use Rattle.model.specs.Check.{verdict}
use Rattle.standing.specs.Runs.{run}
use Rattle.run.proofs.Following.{placed, fire_counted, fire_kept}
use Rattle.run.proofs.Promised.{fire_promised, fire_allowed}
use Rattle.std.proofs.Common.{Ok, Err}
use Rattle.std.proofs.lemmas.Result.{err_from_is_err_and}
use borrow.Author.Rules.{rules}
use Rattle.run.proofs.fire.Goals as goal

pub overflow_cast-history : goal.overflow_cast-history
overflow_cast-history c =
    let start = c.args in
    let called = c.advance in
    let fits : (c.args.transition < 65536) × (c.args.n.now < length c.args.history.now) =
    fire_allowed start.model.now c.type_inv.model
    start.values.now start.marks.now start.history.now start.n.now start.transition called.result called.new.run.values.now called.new.run.marks.now
    c.in_ok-rounds.rounds c.in_ok-rounds.was called.ensures.moved in
    omega (arith, fits.0)

pub bounds-history-count : goal.bounds-history-count
bounds-history-count c =
    let start = c.args in
    let called = c.advance in
    let fits : (c.args.transition < 65536) × (c.args.n.now < length c.args.history.now) =
    fire_allowed start.model.now c.type_inv.model
    start.values.now start.marks.now start.history.now start.n.now start.transition called.result called.new.run.values.now called.new.run.marks.now
    c.in_ok-rounds.rounds c.in_ok-rounds.was called.ensures.moved in
    omega (arith, fits.1)

pub offset_bounds-history-count : goal.offset_bounds-history-count
offset_bounds-history-count c =
    let start = c.args in
    let called = c.advance in
    let fits : (c.args.transition < 65536) × (c.args.n.now < length c.args.history.now) =
    fire_allowed start.model.now c.type_inv.model
    start.values.now start.marks.now start.history.now start.n.now start.transition called.result called.new.run.values.now called.new.run.marks.now
    c.in_ok-rounds.rounds c.in_ok-rounds.was called.ensures.moved in
    record { fits = omega (arith, fits.1, c.well_formed) }

pub overflow_add-n : goal.overflow_add-n
overflow_add-n c =
    let start = c.args in
    let called = c.advance in
    let fits : (c.args.transition < 65536) × (c.args.n.now < length c.args.history.now) =
    fire_allowed start.model.now c.type_inv.model
    start.values.now start.marks.now start.history.now start.n.now start.transition called.result called.new.run.values.now called.new.run.marks.now
    c.in_ok-rounds.rounds c.in_ok-rounds.was called.ensures.moved in
    omega (arith, fits.1, c.well_formed)

pub returns-in_err-rounds : goal.returns-in_err-rounds
returns-in_err-rounds c =
    let start = c.args in
    let called = c.advance in
    let p = err_from_is_err_and c.from_residual.result c.from_residual.ensures.1 in
    rw (p.1, p.2) (fire_promised start.model.now c.type_inv.model
    (run start.values.now start.marks.now start.history.now start.n.now) start.transition (Err _) _
    (placed (search rules) (search rules) (fire_kept (verdict start.model.now) start.values.now start.marks.now start.history.now start.n.now called.new.run.values.now called.new.run.marks.now
    start.transition called.result called.ensures.moved _ c.in_err-rounds.was)))

pub returns : goal.returns
returns c =
    let start = c.args in
    let called = c.advance in
    fire_promised start.model.now c.type_inv.model
    (run start.values.now start.marks.now start.history.now start.n.now) start.transition (Ok c.in_ok-rounds.rounds) _
    (placed (search rules) (search rules) (fire_counted (verdict start.model.now) start.values.now start.marks.now start.history.now start.n.now called.new.run.values.now called.new.run.marks.now
    start.transition called.result called.ensures.moved c.in_ok-rounds.rounds c.in_ok-rounds.was))
