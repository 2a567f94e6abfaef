-- Values over cells. After i turns the first i cells are the values.
use mathlib.Core.Path.{◌≡◌}
use Rattle.results.specs.Results.{over}
use Rattle.propagation.specs.Cells.{cells_of}
use Rattle.propagation.proofs.Overwriting.{partly}
use Rattle.propagation.proofs.overwrite.Given as goal

abbrev pub invariant-loop-i : goal.invariant-loop-i
invariant-loop-i l = l.cells ≡ partly (over (cells_of l.values) l.initial.cells) l.initial.cells l.i
