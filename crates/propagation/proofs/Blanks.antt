-- Blank cells, and the lengths of what is left in them: how many there are, that a gathering has room in them and nothing waits, and that they are blank again once each was set.
use Rattle.std.specs.Prelude.{Option as Optional}
use mathlib.Core.Path.{◌≡◌, sym, ap, ◌∙◌}
use mathlib.Core.List.{List}
use Prim.Native.Nat.{ℕ, ◌≤◌}
use native.Mathlib.Omega.{arith}
use lib.IntN.{ℤ}
use lib.ListN.{length, length-replicate}
use Rattle.semantics.proofs.Counting.{unknowns_bounded}
use Rattle.expressions.specs.Cells.{valuation_of}
use Rattle.scratch.specs.Blank.{unknown_cell, BlankGathering, BlankCells}
use Rattle.waiting.specs.News.{Room}
use Rattle.waiting.specs.Marks.{mark_count}
use Rattle.waiting.proofs.Counting.{none_marked}

-- a queue that is no shorter than the cells has room for each of them
pub room_for_all : (given : List (Optional ℤ)) (queue : List ℕ) → length given ≤ length queue → Room given 0 queue
room_for_all given queue h = omega (arith, h, unknowns_bounded (valuation_of given) (length given) 0)

module _ {n m : ℕ} {given : List (Optional ℤ)} {queue waits : List ℕ} (b : BlankGathering n m given queue waits) where
  pub length_given : length given ≡ n
  length_given = ap length b.nothing_given ∙ length-replicate n unknown_cell

  pub length_queue : length queue ≡ n
  length_queue = ap length b.nothing_queued ∙ length-replicate n 0

  pub length_waits : length waits ≡ m
  length_waits = ap length b.nothing_marked ∙ length-replicate m 0

  pub nothing_waits : 0 ≡ mark_count waits
  nothing_waits = sym (ap mark_count b.nothing_marked ∙ none_marked m)

module _ {n m : ℕ} {cells given : List (Optional ℤ)} {queue waits : List ℕ} (b : BlankCells n m cells given queue waits) where
  pub length_cells : length cells ≡ n
  length_cells = ap length b.nothing_known ∙ length-replicate n unknown_cell
