-- The flows that effects make known, in the order in which they are given, and room for them in a queue.
use Rattle.std.specs.Prelude.{cond, List, [], ◌∷◌, ℕ, ◌+◌, ◌≤◌, ℤ, length, get_or, set, Option as Optional, Some, None, is_some}
use Rattle.expressions.specs.Cells.{valuation_of}
use Rattle.interpreter.specs.Instructions.{Effect}
use Rattle.interpreter.specs.Instructions.Effect.{fails, gives}
use Rattle.semantics.specs.Counting.{unknowns}

-- over the values given so far
unfoldable pub news_of : List Effect → List (Optional ℤ) → List ℕ
news_of [] given = []
news_of (fails m ∷ es) given = news_of es given
news_of (gives x v ∷ es) given =
    cond (is_some (get_or given x None)) (news_of es given) (x ∷ news_of es (set given x (Some v)))

-- the cells without a value
abbrev pub open_cells : List (Optional ℤ) → ℕ
open_cells given = unknowns (valuation_of given) (length given) 0

-- the queue has room for every cell that is open
abbrev pub Room : List (Optional ℤ) → ℕ → List ℕ → Type 0
Room given queued queue = queued + open_cells given ≤ length queue
