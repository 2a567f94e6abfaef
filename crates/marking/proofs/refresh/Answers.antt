-- `refresh` meets its contract.
use mathlib.Core.Path.{refl, ◌∙◌}
use native.Mathlib.Omega.{arith}
use lib.ListN.{length, take, length-set}
use lib.Seq.{length-take-le}
use Rattle.engine.proofs.Counts.{meaning, rows_count, guards_count}
use Rattle.marking.proofs.MarksWritten.{marks_before, marks_step, marks_all, guard_held, length_blank}
use Rattle.marking.proofs.refresh.Goals as goal

pub loop-transition-init : goal.loop-transition-init
loop-transition-init c =
    (λ d. marks_before (meaning d) (take (length c.args.decoded.now.tables.variables.now) c.args.values.now) _, refl)

pub loop-transition-preserved : goal.loop-transition-preserved
loop-transition-preserved c =
    let t = c.args.decoded.now.tables in
    let written = c.overwrite in
    let loop = c.loop-transition in
    let marked = c.mark_of in (
      λ d.
          marks_step (meaning d) (take (length t.variables.now) c.args.values.now) _ loop.transition
          (omega (arith, c.loop-transition-test.true, loop.invariant.1)) loop.mark-items (loop.invariant.0 d) marked.result
          (guard_held d c.args.values.now c.requires.variables_in_bounds.0 _ _
          (length_blank (length t.variables.now) c.args.cells.now c.requires.variables_in_bounds.2) written.ensures
          loop.transition c.guard.result (c.guard.ensures d) marked.result marked.ensures),
      length-set loop.mark-items loop.transition marked.result ∙ loop.invariant.1,
    )

pub returns-clause-marked : goal.returns-clause-marked
returns-clause-marked c =
    let t = c.args.decoded.now.tables in
    let loop = c.loop-transition in
    λ d.
    marks_all (meaning d) c.args.values.now c.args.marks.now (length t.variables.now) (rows_count d) loop.transition _
    (omega (arith, c.loop-transition-test.false, loop.auto.transition-end, length-take-le _ _ c.requires.variables_in_bounds.1)) (guards_count d) loop.mark-items (loop.invariant.0 d)
