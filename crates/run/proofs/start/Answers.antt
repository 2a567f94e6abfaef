-- `start` meets its contract.
use Rattle.model.specs.Check.{verdict}
use Rattle.run.proofs.Following.{placed, start_counted, start_kept}
use Rattle.run.proofs.Promised.{start_promised}
use Rattle.std.proofs.Common.{Ok, Err}
use Rattle.std.proofs.lemmas.Result.{err_from_is_err_and}
use borrow.Author.Rules.{rules}
use Rattle.run.proofs.start.Goals as goal

pub returns-in_err-rounds : goal.returns-in_err-rounds
returns-in_err-rounds c =
    let start = c.args in
    let called = c.advance in
    let p = err_from_is_err_and c.from_residual.result c.from_residual.ensures.1 in
    rw (p.1, p.2) (start_promised start.model.now c.type_inv.model
    start.values.now start.marks.now start.n.now (Err _) _ _ start.n.now (λ history.
    placed (search rules) (search rules) (start_kept (verdict start.model.now) start.values.now start.marks.now history start.n.now called.new.run.values.now called.new.run.marks.now called.result called.ensures.moved
    _ c.in_err-rounds.was)))

pub returns : goal.returns
returns c =
    let start = c.args in
    let called = c.advance in
    start_promised start.model.now c.type_inv.model
    start.values.now start.marks.now start.n.now (Ok c.in_ok-rounds.rounds) _ _ 0 (λ history.
    placed (search rules) (search rules) (start_counted (verdict start.model.now) start.values.now start.marks.now history start.n.now called.new.run.values.now called.new.run.marks.now called.result called.ensures.moved
    c.in_ok-rounds.rounds c.in_ok-rounds.was))
