-- No order in which a model is written changes the report: its windows are over the variables, which no exchange touches.
use mathlib.Core.Path.{ap}
use mathlib.Core.List.{List}
use Rattle.model.specs.Trees.{Variable}
use Rattle.model.proofs.Shuffling.{shuffled_accepted, shuffled_variables}
use Rattle.kinds.specs.declared.Sort.TheVariants.{Boolean, Number}
use Rattle.decoding.specs.Outside.{on_found}
use Rattle.windows.specs.Reports.{given_over, reported_over, reported_in}
use Rattle.windows.specs.Theorems.{ReportOrderIndependent}

pub report_order : ReportOrderIndependent
unfolding reported_in
report_order m m' b f condition number w log old =
    rw (f.read, shuffled_accepted m m' b f)
    (ap (λ (vs : List Variable).
    on_found (given_over vs condition Boolean) old (λ b. on_found (given_over vs number Number) old (λ x. reported_over vs b x w log old))) (shuffled_variables f.shuffled))
