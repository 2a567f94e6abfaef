-- The table follows 01's list: at all 256 bytes its row is the list's.
use mathlib.Core.Path.{◌≡◌, refl, sym, ap, ◌∙◌}
use mathlib.Core.List.{List}
use Prim.Native.Nat.{ℕ, zero, suc, ◌+◌, ◌<◌}
use native.Mathlib.Nat.{add-zero, zero-add, le_of_suc-le-suc, not-suc-le-zero}
use native.Mathlib.Omega.{arith}
use lib.ListN.{get_or}
use Rattle.kinds.specs.declared.Row.{Row}
use Rattle.kinds.specs.declared.table.TheConstants.{ROWS}
use Rattle.kinds.specs.Kinds.{place_of, children_of, result_of, row_of, row_in, column, table, TableFollows}

from : {A : Type 0} (f : ℕ → A) (d : A) (n i k : ℕ) → k < n → get_or (column f i n) k d ≡ f (i + k)
unfolding column
from f d zero i k h = absurd (not-suc-le-zero h)
from f d (suc n) i zero h = ap f (sym (add-zero i))
from f d (suc n) i (suc k) h = from f d n (suc i) k (le_of_suc-le-suc h) ∙ ap f (omega arith)

pub row_at : (rows : List Row) (d : Row) (k : ℕ) → rows ≡ table → k < 256 → get_or rows k d ≡ row_of k
unfolding table
row_at rows d k e h = ap (λ l. get_or l k d) e ∙ (from row_of d 256 0 k h ∙ ap row_of (zero-add k))

pub table_follows : TableFollows
unfolding table column row_in row_of place_of children_of result_of
table_follows k h = (row_at ROWS _ k refl h, row_at table _ k refl h)
