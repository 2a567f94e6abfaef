-- The marks of the guards, and the marks that a run holds.
use Rattle.std.specs.Prelude.{◌≡◌, true, cond, List, [], ◌∷◌, ◌++◌, ℕ, zero, suc, ℤ, length, take, drop}
use Rattle.evaluation.specs.declared.Evaluation.{Evaluation}
use Rattle.evaluation.specs.declared.Evaluation.TheVariants.{Unknown, Failed, Value}
use Rattle.evaluation.specs.Numbers.{eq_z, boolean}
use Rattle.semantics.specs.Meanings.{Meaning}
use Rattle.standing.specs.Runs.{Run, with_values, with_marks}

-- "for each transition 1 if its guard is true, 0 false, 2 failed", in either manner
unfoldable pub mark_of : Evaluation → ℕ
mark_of Unknown = 0
mark_of (Failed m) = 2
mark_of (Value v) = cond (eq_z v (boolean true)) 1 0

unfoldable pub marks_from : Meaning → List ℤ → ℕ → ℕ → List ℕ
marks_from m values t zero = []
marks_from m values t (suc n) = mark_of (m.guard t values) ∷ marks_from m values (suc t) n

-- the marks over the values in use
abbrev pub marks_of : Meaning → List ℤ → List ℕ
marks_of m values = marks_from m (take (length m.declarations) values) 0 m.transitions

-- these marks in the first T cells, "cells from T on untouched"
abbrev pub marks_over : Meaning → List ℤ → List ℕ → List ℕ
marks_over m values old = marks_of m values ++ drop m.transitions old

-- A4: "start, fire and take back leave them equal to the guards over the new values"
abbrev pub refreshed : Meaning → List ℤ → Run → Run
refreshed m values r = with_marks (marks_over m values r.marks) (with_values values r)

-- A4: "runs that hold those of their guards"
abbrev pub HoldsMarks : Meaning → Run → Type 0
HoldsMarks m r = take m.transitions r.marks ≡ marks_of m r.values
