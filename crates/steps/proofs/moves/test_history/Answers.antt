-- `moves::test_history` meets its contract.
use mathlib.Core.Path.{sym, ◌∙◌}
use Rattle.results.specs.Refusals.{number_of}
use Rattle.standing.specs.Runs.{run_in}
use Rattle.steps.specs.Lent.{tested}
use Rattle.steps.proofs.Declarations.{holds_same}
use Rattle.steps.proofs.StepTests.{history_stale, history_ends, history_goes}
use Rattle.std.proofs.lemmas.Result.{err_from_is_err_and}
use Rattle.steps.proofs.moves.test_history.Goals as goal

pub returns-in_err-check : goal.returns-in_err-check
unfolding tested number_of
returns-in_err-check c =
    let a = c.args in
    let r = run_in a.run.now in
    let p = err_from_is_err_and c.from_residual.result c.from_residual.ensures.1 in
    let stale = c.in_err-check.ensures.stale in
    λ m d. rw (p.1, p.2, stale.0) (history_stale m r a.end (number_of a.at_end) (sym (holds_same d r) ∙ stale.1))

pub returns-then-run-end : goal.returns-then-run-end
unfolding tested
returns-then-run-end c =
    let a = c.args in
    let r = run_in a.run.now in
    λ m d. history_ends m r a.end (number_of a.at_end) (sym (holds_same d r) ∙ c.in_ok-check.ensures.held) c.if-run-end.true

pub returns : goal.returns
unfolding tested
returns c =
    let a = c.args in
    let r = run_in a.run.now in
    λ m d. history_goes m r a.end (number_of a.at_end) (sym (holds_same d r) ∙ c.in_ok-check.ensures.held) c.if-run-end.false
