-- After i turns the first i cells are the items.
use Rattle.std.specs.Prelude.{◌≡◌, take}
use Rattle.results.proofs.cells.copy.Given as goal

abbrev pub invariant-loop-i : goal.invariant-loop-i
invariant-loop-i g l = take l.i l.cells ≡ take l.i l.items
