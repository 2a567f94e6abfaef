-- 9, 10 and 20: does a run fit a model. 01: "every other call takes 9 and, start excepted, 20"; A4: 10 "in every call on a run". A3's
-- check of the values takes 9 alone.
use Rattle.std.specs.Prelude.{◌≡◌, ◌⊎◌, ◌≤◌, ◌<◌, Bool, cond, ◌&&◌, List, [], ◌∷◌, map, ℕ, suc, leb, ltb, ℤ, length, take, Option, Some, None, is_none}
use Rattle.std.specs.List.{list_all}
use Rattle.std.specs.Int.Signed.{le_z}
use Rattle.kinds.specs.declared.Sort.TheVariants.{Number}
use Rattle.model.specs.Trees.{Variable}
use Rattle.results.specs.declared.refusal.Refusal.{Refusal}
use Rattle.results.specs.declared.refusal.Refusal.TheVariants.{ShortValues, ShortSlice}
use Rattle.semantics.specs.Meanings.{Meaning}
use Rattle.standing.specs.declared.Declared.{Declared}
use Rattle.standing.specs.Runs.{Run}
use Rattle.tables.specs.declared.Tables.{Tables}
use Rattle.variables.specs.declared.VariableRow.{VariableRow}

-- 9 "values slice under S+F"
abbrev pub too_short : Meaning → List ℤ → Bool
too_short m values = ltb (length values) (length m.declarations)

-- 10 "marks slice under T": the slice that is lent to the marks call and, A4, the one that the run holds: "The run's marks slice under T is
-- number 10 in every call on a run"
abbrev pub too_few : Meaning → List ℕ → Bool
too_few m marks = ltb (length marks) m.transitions

-- neither 9 nor 10: a value for each of these variables, a mark for each of these transitions
abbrev pub IsEnough : Declared → Run → Type 0
IsEnough d r = (length d.variables.now ≤ length r.values) × (d.transitions ≤ length r.marks)

-- 9, or else 10: too few values for these variables, or too few marks for so many transitions
abbrev pub IsShort : Declared → Run → Refusal → Type 0
IsShort d r e =
    ((e ≡ ShortValues) × (length r.values < length d.variables.now))
    ⊎ ((e ≡ ShortSlice) × (length d.variables.now ≤ length r.values) × (length r.marks < d.transitions))

-- every number of a list is below t
abbrev pub all_below : ℕ → List ℕ → Bool
all_below t ks = list_all (λ k. ltb k t) ks

-- 20, the part of the history: "n above the record's length, one of the first n entries T or above"
abbrev pub history_holds : ℕ → ℕ → List ℕ → Bool
history_holds t n history = leb n (length history) && all_below t (take n history)

-- 20, the part of the marks. A4: "a held mark above 2 is number 20". The cells from T on are not looked at.
abbrev pub marks_within : ℕ → List ℕ → Bool
marks_within t marks = all_below 3 (take t marks)

-- 20, the part of the values, "a value outside its ends": the first such variable, lowest first, counted from x; a value that is
-- missing is outside. A3: "The first value outside its ends, lowest variable first, finishes it."
unfoldable pub first_outside : List Variable → List ℤ → ℕ → Option ℕ
first_outside [] values x = None
first_outside (v ∷ vs) [] x = Some x
first_outside (v ∷ vs) (c ∷ cs) x = cond (le_z v.low c && le_z c v.high) (first_outside vs cs (suc x)) (Some x)

-- A3: "how many values it looked at: that number plus one, or S+F". Where 9 was tried none is missing; a missing one counts too.
unfoldable pub looked_at : ℕ → Option ℕ → ℕ
looked_at total None = total
looked_at total (Some x) = suc x

-- 20 as a whole, over so many transitions and these variables
abbrev pub holds_over : ℕ → List Variable → Run → Bool
holds_over t vs r = history_holds t r.count r.history && (marks_within t r.marks && is_none (first_outside vs r.values 0))

abbrev pub holds : Meaning → Run → Bool
holds m r = holds_over m.transitions m.declarations r

-- the variable with the ends and the first value of a row; its sort, which nothing here asks, is not in the row
abbrev pub ends_of : VariableRow → Variable
ends_of row = record { sort = Number; low = row.low; high = row.high; first = row.first }

-- what the tables of a decoded model declare
abbrev pub declared_by : Tables → Declared
declared_by t = record { transitions = length t.guards.now; variables = t.variables }

-- 20 as a whole, over what is declared
abbrev pub holds_declared : Declared → Run → Bool
holds_declared d r = holds_over d.transitions (map ends_of d.variables.now) r
