-- 41, 10 and 20 in their order, then the figures of all rows.
use mathlib.Core.Path.{sym, ◌∙◌}
use Rattle.std.proofs.lemmas.Result.{err_from_is_err_and}
use Rattle.windows.proofs.Reporting.{row_there, window_fits, not_counted, no_room, enough_cells, row_outside, rows_reported}
use Rattle.windows.proofs.report_over.Goals as goal

pub returns-in_err-count : goal.returns-in_err-count
returns-in_err-count c = λ a.
    let q = c.args.question.now in
    let e = err_from_is_err_and c.from_residual.result c.from_residual.ensures.1 in
    rw (e.1, e.2) (not_counted c.args.variables.now a.condition a.number q.window q.log.now c.args.figures.now _ (sym c.count_rows.ensures ∙ c.in_err-count.was))

pub returns-then-figures-count : goal.returns-then-figures-count
returns-then-figures-count c = λ a.
    let q = c.args.question.now in
    no_room c.args.variables.now a.condition a.number q.window q.log.now c.args.figures.now _ (sym c.count_rows.ensures ∙ c.in_ok-count.was) c.if-figures-count.true

pub all_within-requires : goal.all_within-requires
all_within-requires c =
    let q = c.args.question.now in
    row_there _ q.window _ _ (sym c.count_rows.ensures ∙ c.in_ok-count.was)

pub returns-then-not-all_within : goal.returns-then-not-all_within
returns-then-not-all_within c = λ a.
    let q = c.args.question.now in
    row_outside c.args.variables.now a.condition a.number q.window q.log.now c.args.figures.now _ (sym c.count_rows.ensures ∙ c.in_ok-count.was) c.if-figures-count.false
    (sym c.all_within.ensures ∙ c.if-not-all_within.true)

pub slide-requires-clause-sizes : goal.slide-requires-clause-sizes
slide-requires-clause-sizes c =
    let q = c.args.question.now in
    let counted = sym c.count_rows.ensures ∙ c.in_ok-count.was in
    let fits = window_fits _ q.window _ _ counted in
    rw c.requires.cells (
      row_there _ q.window _ _ counted,
      fits.0,
      fits.1,
      enough_cells c.args.variables.now c.requires.asked.condition c.requires.asked.number q.window q.log.now c.args.figures.now _ counted c.if-figures-count.false,
    )

pub returns : goal.returns
returns c = λ a.
    let q = c.args.question.now in
    rows_reported c.args.variables.now a.condition a.number q.window q.log.now c.args.figures.now _ (sym c.count_rows.ensures ∙ c.in_ok-count.was) c.if-figures-count.false
    (sym c.all_within.ensures ∙ c.if-not-all_within.false) _ (rw c.requires.cells at (c.slide.ensures.figures a))
