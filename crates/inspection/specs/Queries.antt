-- Marks, value, pick and the check of the values, over the meaning of an accepted model and exactly what each is lent.
use Rattle.std.specs.Prelude.{cond, not, ◌&&◌, List, [], ◌∷◌, ◌++◌, ℕ, suc, eqb, ltb, ℤ, pos, length, get_or, take, drop, Option, Some, None, is_none}
use Rattle.semantics.specs.Meanings.{Meaning}
use Rattle.standing.specs.Runs.{Run, Answer, Done, answered}
use Rattle.standing.specs.Runs.Answer.{refused, done, number, picked, outside}
use Rattle.standing.specs.Holding.{too_short, too_few, history_holds, first_outside, looked_at, holds}
use Rattle.marking.specs.Marks.{marks_of, marks_over}

-- Marks: "into a lent slice, cells from T on untouched". A4: "The marks call copies them, also where a caller made them up". 10 for the
-- slice that the run holds and for the one lent.
unfoldable pub marks : Meaning → Run → List ℕ → Done (List ℕ)
marks m r buffer =
    cond (too_short m r.values) (answered (refused 9) buffer)
    (cond (too_few m r.marks) (answered (refused 10) buffer)
    (cond (too_few m buffer) (answered (refused 10) buffer)
    (cond (not (holds m r)) (answered (refused 20) buffer)
    (answered done (take m.transitions r.marks ++ drop m.transitions buffer)))))

-- 01's marks: "for each transition 1 if its guard is true, 0 false, 2 failed, into a lent slice, cells from T on untouched", with 01's 9, 10
-- and 20, which know no marks held. A4's marks call is this on a run that holds the marks of its guards (`MarksOfGuards`).
unfoldable pub guard_marks : Meaning → Run → List ℕ → Done (List ℕ)
guard_marks m r buffer =
    cond (too_short m r.values) (answered (refused 9) buffer)
    (cond (too_few m buffer) (answered (refused 10) buffer)
    (cond (not (history_holds m.transitions r.count r.history && is_none (first_outside m.declarations r.values 0)))
    (answered (refused 20) buffer)
    (answered done (marks_over m r.values buffer))))

-- Value of a variable. 12 "variable S+F or above"
unfoldable pub value : Meaning → ℕ → Run → Answer
value m x r =
    cond (too_short m r.values) (refused 9)
    (cond (too_few m r.marks) (refused 10)
    (cond (not (ltb x (length m.declarations))) (refused 12)
    (cond (not (holds m r)) (refused 20)
    (number (get_or r.values x (pos 0))))))

-- the first mark that is 1, counted from t
unfoldable pub first_fireable : List ℕ → ℕ → Option ℕ
first_fireable [] t = None
first_fireable (k ∷ ks) t = cond (eqb k 1) (Some t) (first_fireable ks (suc t))

-- Pick. A1: "the fireable transition with the lowest number"; 01: "or none exactly if no mark is 1". A4: "Fire and pick go by the guards",
-- not by the marks held.
unfoldable pub pick : Meaning → Run → Answer
pick m r =
    cond (too_short m r.values) (refused 9)
    (cond (too_few m r.marks) (refused 10)
    (cond (not (holds m r)) (refused 20)
    (picked (first_fireable (marks_of m r.values) 0))))

-- First outside: the check of the values, a variable's ends being its range. A3: "It answers that variable's number, or none exactly if
-- all are within, and how many values it looked at". After the model's numbers it has 9 alone: history, n and marks are not lent, and a
-- value outside is its answer, not 20.
unfoldable pub range_check : Meaning → List ℤ → Answer
range_check m values =
    cond (too_short m values) (refused 9)
    (outside (first_outside m.declarations values 0) (looked_at (length m.declarations) (first_outside m.declarations values 0)))
