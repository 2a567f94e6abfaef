-- The tests in their order, then one guard after the other.
use mathlib.Core.Path.{◌∙◌}
use lib.ListN.{length, take}
use Rattle.std.specs.Prelude.{Some, None}
use Rattle.results.specs.Refusals.{number_of}
use Rattle.engine.proofs.Counts.{meaning, rows_count, guards_count}
use Rattle.standing.specs.Runs.{run_in}
use Rattle.marking.proofs.MarksWritten.{guard_held}
use Rattle.inspection.specs.Queries.{pick}
use Rattle.std.proofs.Common.{arith}
use Rattle.std.proofs.lemmas.Grind.{common_steps}
use Rattle.steps.proofs.Declarations.{holds_same, loaded_declares}
use Rattle.picking.proofs.Picking.{as_many, pick_done, found_here, go_on_lem, found_none, all_marks}
use Rattle.picking.proofs.pick_loaded.Goals as goal

pub returns-in_err-measure : goal.returns-in_err-measure
unfolding pick number_of
returns-in_err-measure c =
    let many = as_many c.args.decoded.now.tables c.from-declared.ensures in
    λ d. grind (arith, common_steps, rows_count d, guards_count d, many.0, many.1)

pub returns-in_err-check : goal.returns-in_err-check
unfolding pick number_of
returns-in_err-check c =
    let many = as_many c.args.decoded.now.tables c.from-declared.ensures in
    λ d.
    let same = holds_same (loaded_declares c.args.decoded.now.tables d c.from-declared.ensures) (run_in c.args.run.now) in
    grind (arith, common_steps, rows_count d, guards_count d, many.0, many.1, same)

pub returns-then-mark_of-eq1 : goal.returns-then-mark_of-eq1
returns-then-mark_of-eq1 c =
    let a = c.args in
    let t = a.decoded.now.tables in
    let loop = c.loop-transition in
    let enough = c.in_ok-measure.ensures.enough in
    let many = as_many c.args.decoded.now.tables c.from-declared.ensures in
    λ d.
    pick_done (meaning d) c.from-declared.result (loaded_declares t d c.from-declared.ensures) (run_in a.run.now) enough c.in_ok-check.ensures.held (Some loop.transition)
    (found_here (meaning d) (take (length a.decoded.now.tables.variables.now) a.run.now.values.now) (length a.decoded.now.tables.guards.now) loop.transition c.mark_of.result
    (guard_held d a.run.now.values.now (omega (arith, enough.0, many.0)) _ _ c.requires c.overwrite.ensures
    loop.transition c.guard-guard.result (c.guard-guard.ensures d) c.mark_of.result c.mark_of.ensures)
    (loop.invariant d) (omega (arith, c.loop-transition-test.true, many.1)) c.if-mark_of-eq1.true
    ∙ all_marks (meaning d) a.run.now.values.now (length a.decoded.now.tables.variables.now) (length a.decoded.now.tables.guards.now) (rows_count d) (guards_count d))

pub loop-transition-preserved : goal.loop-transition-preserved
loop-transition-preserved c =
    let a = c.args in
    let loop = c.loop-transition in
    let many = as_many c.args.decoded.now.tables c.from-declared.ensures in
    λ d.
    go_on_lem (meaning d) (take (length a.decoded.now.tables.variables.now) a.run.now.values.now) (length a.decoded.now.tables.guards.now) loop.transition c.mark_of.result
    (guard_held d a.run.now.values.now (omega (arith, c.in_ok-measure.ensures.enough.0, many.0)) _ _ c.requires c.overwrite.ensures
    loop.transition c.guard-guard.result (c.guard-guard.ensures d) c.mark_of.result c.mark_of.ensures)
    (loop.invariant d) (omega (arith, c.loop-transition-test.true, many.1)) c.if-mark_of-eq1.false

pub returns : goal.returns
returns c =
    let a = c.args in
    let t = a.decoded.now.tables in
    let loop = c.loop-transition in
    let enough = c.in_ok-measure.ensures.enough in
    let many = as_many c.args.decoded.now.tables c.from-declared.ensures in
    λ d.
    pick_done (meaning d) c.from-declared.result (loaded_declares t d c.from-declared.ensures) (run_in a.run.now) enough c.in_ok-check.ensures.held None
    (found_none (meaning d) (take (length a.decoded.now.tables.variables.now) a.run.now.values.now) (length a.decoded.now.tables.guards.now) loop.transition (omega (arith, c.loop-transition-test.false, many.1)) (loop.invariant d)
    ∙ all_marks (meaning d) a.run.now.values.now (length a.decoded.now.tables.variables.now) (length a.decoded.now.tables.guards.now) (rows_count d) (guards_count d))
