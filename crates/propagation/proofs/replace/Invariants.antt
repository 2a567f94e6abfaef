-- Values replaced. After i turns the first i values are what the cells hold in their place.
use mathlib.Core.Path.{◌≡◌}
use Rattle.propagation.proofs.Overwriting.{partly}
use Rattle.propagation.specs.Cells.{held_or}
use Rattle.propagation.proofs.replace.Given as goal

abbrev pub invariant-loop-i : goal.invariant-loop-i
invariant-loop-i l = l.values ≡ partly (held_or l.cells l.initial.values) l.initial.values l.i
