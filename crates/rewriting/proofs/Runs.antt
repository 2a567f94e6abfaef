-- A rewritten model runs as the old one did: a list of calls depends on its file by the check alone.
use mathlib.Core.Path.{sym, ap, ◌∙◌}
use Rattle.run.specs.Lists.{call_by, calls_by}
use Rattle.run.proofs.Order.{performed_by}
use Rattle.rewriting.specs.Theorems.{RewrittenRuns}
use Rattle.rewriting.proofs.Accepted.{rewritten_accepted}

pub rewritten_runs : RewrittenRuns
rewritten_runs m b z t e cs s =
    let same = rewritten_accepted m b z t e ∙ sym e in
    (ap (λ v. calls_by v cs s) same, λ rs p. performed_by _ _ (λ c s. ap (λ v. call_by v c s) same) p)
