-- A log. 02, A9: "a slice of rows, each S+F values of one moment".
use Rattle.std.specs.Prelude.{Bool, ◌||◌, not, List, [], ◌∷◌, map, ℕ, zero, suc, ◌-◌, ◌/◌, ◌%◌, eqb, ltb, ℤ, length, take, drop, is_none}
use Rattle.std.specs.List.{list_all}
use Rattle.evaluation.specs.declared.Evaluation.{Evaluation}
use Rattle.model.specs.Trees.{Expression, Variable}
use Rattle.expressions.specs.Expressions.{evaluate, known_from}
use Rattle.standing.specs.Holding.{first_outside}

-- the first rows of a log, of so many values each
unfoldable pub rows_of : ℕ → ℕ → List ℤ → List (List ℤ)
rows_of width zero log = []
rows_of width (suc n) log = take width log ∷ rows_of width n (drop width log)

-- 02: "W [..] above 1,000"
abbrev pub max_window : ℕ
max_window = 1000

-- 41 "W zero or above 1,000, S+F zero, or a slice that is no whole number of rows": for rows of so many values, W, and a slice of so many
-- cells
unfoldable pub no_windows : ℕ → ℕ → ℕ → Bool
no_windows width w cells = eqb w 0 || (ltb max_window w || (eqb width 0 || not (eqb (cells % width) 0)))

-- where it is no 41: all its rows
abbrev pub rows_over : ℕ → List ℤ → List (List ℤ)
rows_over width log = rows_of width (length log / width) log

-- 20 "for a row's value outside its ends": there is none
abbrev pub all_within : List Variable → List (List ℤ) → Bool
all_within vs rows = list_all (λ row. is_none (first_outside vs row 0)) rows

-- what an expression comes to in each row, in which every variable is known
abbrev pub evaluations : Expression → List (List ℤ) → List Evaluation
evaluations e rows = map (λ row. evaluate e (known_from row)) rows

-- 02: "the last W rows (fewer at the beginning)": of the first n entries of a list the last w
abbrev pub last_of : {A : Type 0} → ℕ → ℕ → List A → List A
last_of w n l = drop (n - w) (take n l)
