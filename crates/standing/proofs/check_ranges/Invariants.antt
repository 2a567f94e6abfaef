-- What is left to look at decides, and what came before it was counted.
use mathlib.Core.Path.{◌≡◌}
use Rattle.standing.proofs.Holding.{Left}
use Rattle.standing.proofs.check_ranges.Given as goal

abbrev pub invariant-loop-variable : goal.invariant-loop-variable
invariant-loop-variable l = record { counted : l.looked ≡ l.variable; left : Left l.variables l.values l.variable }
