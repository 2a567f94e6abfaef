-- The tests in their order, then the marks of the run in the first cells.
use native.Mathlib.Omega.{arith}
use mathlib.Core.Path.{ap}
use mathlib.Core.List.{◌++◌}
use lib.ListN.{drop}
use Rattle.standing.specs.Runs.{run_in}
use Rattle.inspection.proofs.QueryTests.{marks_of_no_run, marks_copied}
use Rattle.results.specs.Refusals.{number_of}
use Rattle.std.proofs.lemmas.Result.{err_from_is_err_and}
use Rattle.inspection.proofs.marks_in.Goals as goal

pub returns-in_err-check : goal.returns-in_err-check
returns-in_err-check g c =
    let p = err_from_is_err_and c.from_residual-in_err-check.result c.from_residual-in_err-check.ensures.1 in
    let stale = c.in_err-check.ensures.stale in
    rw (p.1, p.2) (
    marks_of_no_run c.declarations-declared.ensures (run_in c.args.run.now) c.in_ok-measure.ensures.enough c.args.buffer.now (omega (arith, c.if-buffer-transitions.false))
    (ap number_of stale.0) stale.1
    )

pub returns : goal.returns
returns g c =
    marks_copied c.declarations-declared.ensures (run_in c.args.run.now) c.in_ok-measure.ensures.enough c.args.buffer.now (omega (arith, c.if-buffer-transitions.false))
    c.in_ok-check.ensures.held _ (ap (λ l. l ++ drop c.declarations-declared.result.transitions c.args.buffer.now) c.copy.ensures)
