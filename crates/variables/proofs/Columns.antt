-- The columns of rows, and of the rows of variables.
use mathlib.Core.Path.{◌≡◌, refl, sym, ◌∙◌, ap}
use mathlib.Core.List.{List, [], ◌∷◌, map}
use Prim.Native.Nat.{ℕ}
use lib.IntN.{ℤ, pos}
use lib.ListN.{get_or, length, length-map, get_or-map}
use Rattle.model.specs.Trees.{Variable}
use Rattle.variables.specs.declared.VariableRow.{VariableRow}
use Rattle.variables.specs.Rows.{variable_row, variable_rows, lows_in, highs_in, firsts_in, within_row, within_ends}

-- the row that stands for one that is missing
abbrev pub blank : VariableRow
blank = record { low = pos 0; high = pos 0; first = pos 0 }

-- the ends of a row are those of its columns
pub within_columns : (rows : List VariableRow) (x : ℕ) (v : ℤ) → within_row (get_or rows x blank) v ≡ within_ends (lows_in rows) (highs_in rows) x v
within_columns rows x v = rw (sym (get_or-map (λ row. row.low) rows x blank), sym (get_or-map (λ row. row.high) rows x blank)) refl

-- a column is as long as the rows
pub column_length : (column : VariableRow → ℤ) (rows : List VariableRow) → length (map column rows) ≡ length rows
column_length column rows = length-map rows column

-- the columns of the rows of variables are their low ends, high ends and first values
pub lows_of : (vs : List Variable) → lows_in (variable_rows vs) ≡ map (λ v. v.low) vs
lows_of [] = refl
lows_of (v ∷ vs) = ap (λ l. v.low ∷ l) (lows_of vs)

pub highs_of : (vs : List Variable) → highs_in (variable_rows vs) ≡ map (λ v. v.high) vs
highs_of [] = refl
highs_of (v ∷ vs) = ap (λ l. v.high ∷ l) (highs_of vs)

pub firsts_of : (vs : List Variable) → firsts_in (variable_rows vs) ≡ map (λ v. v.first) vs
firsts_of [] = refl
firsts_of (v ∷ vs) = ap (λ l. v.first ∷ l) (firsts_of vs)

-- the rows are those of these variables
module _ (vs : List Variable) {rows : List VariableRow} (held : rows ≡ variable_rows vs) where
  pub low_ends : lows_in rows ≡ map (λ v. v.low) vs
  low_ends = ap lows_in held ∙ lows_of vs

  pub high_ends : highs_in rows ≡ map (λ v. v.high) vs
  high_ends = ap highs_in held ∙ highs_of vs

  pub first_values : firsts_in rows ≡ map (λ v. v.first) vs
  first_values = ap firsts_in held ∙ firsts_of vs

  pub row_count : length rows ≡ length vs
  row_count = ap length held ∙ length-map vs variable_row
