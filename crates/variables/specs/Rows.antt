-- A variable in a row: its low end, its high end and its first value.
use Rattle.std.specs.Prelude.{Bool, ◌&&◌, List, map, ℕ, ℤ, pos, get_or}
use Rattle.std.specs.Int.Signed.{le_z}
use Rattle.model.specs.Trees.{Variable}
use Rattle.variables.specs.declared.VariableRow.{VariableRow}

abbrev pub variable_row : Variable → VariableRow
variable_row v = record { low = v.low; high = v.high; first = v.first }

abbrev pub variable_rows : List Variable → List VariableRow
variable_rows = map variable_row

-- the columns of rows
abbrev pub lows_in : List VariableRow → List ℤ
lows_in = map (λ row. row.low)

abbrev pub highs_in : List VariableRow → List ℤ
highs_in = map (λ row. row.high)

abbrev pub firsts_in : List VariableRow → List ℤ
firsts_in = map (λ row. row.first)

-- the value lies within the ends of the row
abbrev pub within_row : VariableRow → ℤ → Bool
within_row row v = le_z row.low v && le_z v row.high

-- the value lies within the ends of the variable
abbrev pub within_ends : List ℤ → List ℤ → ℕ → ℤ → Bool
within_ends lows highs x v = le_z (get_or lows x (pos 0)) v && le_z v (get_or highs x (pos 0))
