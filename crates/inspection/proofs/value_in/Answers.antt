-- The tests in their order, then the value.
use mathlib.Core.Path.{ap, ◌∙◌}
use native.Mathlib.Omega.{arith}
use mir.Syntax.{w32}
use mir.ValLaws.{to_z-of_z}
use Rattle.results.specs.Refusals.{number_of}
use Rattle.standing.specs.Runs.{run_in}
use Rattle.inspection.proofs.QueryTests.{there, value_of_no_run, value_held}
use Rattle.std.proofs.lemmas.Result.{err_from_is_err_and}
use Rattle.inspection.proofs.value_in.Goals as goal

pub returns-in_err-check : goal.returns-in_err-check
returns-in_err-check g c =
    let p = err_from_is_err_and c.from_residual-in_err-check.result c.from_residual-in_err-check.ensures.1 in
    let enough = c.in_ok-measure.ensures.enough in
    let found = there _ c.args.run.now.values.now enough.0 c.args.variable c.get.result c.get.ensures.lookup c.ok_or.result c.ok_or.ensures.value _ c.in_ok-value.was in
    let stale = c.in_err-check.ensures.stale in
    rw (p.1, p.2) (value_of_no_run c.declarations-declared.ensures (run_in c.args.run.now) enough c.args.variable found.0 (ap number_of stale.0) stale.1)

pub returns : goal.returns
returns g c =
    let enough = c.in_ok-measure.ensures.enough in
    let found = there _ c.args.run.now.values.now enough.0 c.args.variable c.get.result c.get.ensures.lookup c.ok_or.result c.ok_or.ensures.value _ c.in_ok-value.was in
    value_held c.declarations-declared.ensures (run_in c.args.run.now) enough c.args.variable found.0
    c.in_ok-check.ensures.held _ (to_z-of_z w32 _ (record { sfits = omega arith }) ∙ found.1)
