-- A report over the rows that were decoded is over the model's variables.
use mathlib.Core.Path.{ap, ◌∙◌}
use mathlib.Core.List.{map}
use lib.ListN.{take}
use Rattle.standing.specs.Holding.{ends_of}
use Rattle.decoding.proofs.VariablesInUse.{rows_in_use}
use Rattle.windows.specs.Reports.{reported_over}
use Rattle.windows.proofs.Reporting.{over_decoded}
use Rattle.windows.proofs.report_in.Goals as goal

pub returns : goal.returns
returns g c = λ a t v.
    let given = c.args in
    let q = given.question.now in
    let left = c.rows_in.new.variables in
    c.report_over.ensures a
    ∙ ap (λ n. reported_over (map ends_of (take n left)) a.condition a.number q.window q.log.now given.figures.now) c.variables-count.ensures
    ∙ over_decoded given.model.now given.sizes left (rows_in_use given.model.now _ left given.sizes c.requires.accepted c.rows_in.ensures) t v
    a.condition a.number q.window q.log.now given.figures.now
