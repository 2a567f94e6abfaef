-- Cells filled with first values. After i turns the first i cells hold what they are to hold.
use mathlib.Core.Path.{◌≡◌}
use Rattle.variables.specs.Rows.{firsts_in}
use Rattle.results.specs.Results.{over}
use Rattle.propagation.specs.Cells.{cells_of, held_or}
use Rattle.propagation.proofs.Overwriting.{partly}
use Rattle.propagation.proofs.fill.Given as goal

abbrev pub invariant-loop-i : goal.invariant-loop-i
invariant-loop-i l =
    l.cells ≡ partly (over (cells_of (held_or l.initial.cells (firsts_in l.variables))) l.initial.cells) l.initial.cells l.i
