-- `undo` meets its contract.
use native.Mathlib.Omega.{arith}
use Rattle.model.specs.Check.{verdict}
use Rattle.run.proofs.Following.{placed, undo_counted, undo_kept}
use Rattle.run.proofs.Promised.{undo_allowed}
use Rattle.std.proofs.lemmas.Result.{err_from_is_err_and}
use borrow.Author.Rules.{rules}
use Rattle.run.proofs.undo.Goals as goal

pub overflow_sub-n : goal.overflow_sub-n
overflow_sub-n c =
    let start = c.args in
    let called = c.advance in
    omega (
      arith,
      undo_allowed start.model.now start.values.now start.marks.now start.history.now start.n.now called.result called.new.run.values.now called.new.run.marks.now
          _ c.in_ok-advance.was called.ensures.moved,
    )

pub returns-in_err-advance : goal.returns-in_err-advance
returns-in_err-advance c =
    let start = c.args in
    let called = c.advance in
    let p = err_from_is_err_and c.from_residual.result c.from_residual.ensures.1 in
    rw (p.1, p.2) (placed (search rules) (search rules) (undo_kept (verdict start.model.now) start.values.now start.marks.now start.history.now start.n.now called.new.run.values.now called.new.run.marks.now
    called.result called.ensures.moved _ c.in_err-advance.was))

pub returns : goal.returns
returns c =
    let start = c.args in
    let called = c.advance in
    placed (search rules) (search rules) (undo_counted (verdict start.model.now) start.values.now start.marks.now start.history.now start.n.now called.new.run.values.now called.new.run.marks.now
    called.result called.ensures.moved _ c.in_ok-advance.was)
