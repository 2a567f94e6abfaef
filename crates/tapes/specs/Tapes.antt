-- Cells that are written one after another. Past the last cell nothing is written, so a tape takes anything.
use Rattle.std.specs.Prelude.{cond, List, [], ◌∷◌, ℕ, ◌+◌, ltb, length, set}
use Rattle.tapes.specs.declared.Tape.{Tape as Lent}

-- the cells, and the place of the next one that is written
pub record Tape (A : Type 0) : Type 0 where
  pub cells : List A
  pub at : ℕ

-- cells with a place
abbrev pub tape : {A : Type 0} → List A → ℕ → Tape A
tape cells at = record { cells = cells; at = at }

-- the cells that are lent, and the place
abbrev pub tape_in : {A : Type 0} → Lent A → Tape A
tape_in t = tape t.cells.now t.at

-- one item, where there is a cell for it
unfoldable pub put : {A : Type 0} → A → Tape A → Tape A
put a t = cond (ltb t.at (length t.cells)) (tape (set t.cells t.at a) (t.at + 1)) t

-- several, one after another
unfoldable pub put_all : {A : Type 0} → List A → Tape A → Tape A
put_all [] t = t
put_all (a ∷ rest) t = put_all rest (put a t)
