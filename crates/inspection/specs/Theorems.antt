-- The theorems on pick, on the check of the values, on marks and on fire by the guards. Proved in proofs/.
use Rattle.std.specs.Prelude.{true, false, List, map, ◌++◌, ◌↔◌, ◌⊎◌, ◌≡◌, ℕ, suc, ◌≤◌, ◌<◌, T, ℤ, pos, length, get_or, take, drop, Option, Some, None}
use Rattle.std.specs.Int.Signed.{le_z}
use Rattle.evaluation.specs.declared.Evaluation.TheVariants.{Value}
use Rattle.evaluation.specs.Numbers.{boolean}
use Rattle.model.specs.Trees.{Variable}
use Rattle.semantics.specs.Meanings.{Meaning}
use Rattle.standing.specs.Runs.{Run, answered, with_marks}
use Rattle.standing.specs.Runs.Answer.{refused, done, picked, outside}
use Rattle.standing.specs.Holding.{too_short, too_few, history_holds, marks_within, holds}
use Rattle.marking.specs.Marks.{marks_of, HoldsMarks}
use Rattle.steps.specs.Calls.{fire}
use Rattle.inspection.specs.Queries.{marks, guard_marks, pick, range_check}

-- 01: fireable is mark 1 ("none exactly if no mark is 1"): the transition is below T and the mark of its guard, not the one held, is 1
abbrev pub Fireable : Meaning → List ℤ → ℕ → Type 0
Fireable m values t = (t < m.transitions) × (get_or (marks_of m values) t 0 ≡ 1)

-- 01: a mark is "1 if its guard is true": a transition is fireable exactly then. One whose guard failed (2) is not.
abbrev pub FireableExact : Type 0
FireableExact =
    (m : Meaning) (values : List ℤ) (t : ℕ)
    → Fireable m values t ↔ ((t < m.transitions) × (m.guard t (take (length m.declarations) values) ≡ Value (boolean true)))

-- On a run that 9, 10 and 20 do not refuse. A1: "Pick should give the fireable transition with the lowest number": one is picked exactly if
-- it is fireable and no lower one is. 01: "none exactly if no mark is 1".
abbrev pub PickLowest : Type 0
PickLowest =
    (m : Meaning) (r : Run) → too_short m r.values ≡ false → too_few m r.marks ≡ false → holds m r ≡ true
    → ((t : ℕ) → (pick m r ≡ picked (Some t)) ↔ (Fireable m r.values t × ((k : ℕ) → k < t → Fireable m r.values k → ⊥)))
    × ((pick m r ≡ picked None) ↔ ((t : ℕ) → Fireable m r.values t → ⊥))

-- Pick and fire agree on what is fireable: fire of the transition picked is refused neither for the run (9, 10, 20) nor for its number (11)
-- nor by its guard (23, 24; 02, A8: 38). What may still refuse it is a full history (21), its action and the assertion (25 to 30; A8: 39,
-- 40). 01: 23, 24 "guard false, guard failed".
abbrev pub PickedFires : Type 0
PickedFires =
    (m : Meaning) (r : Run) (t : ℕ) → pick m r ≡ picked (Some t)
    → (k : ℕ) → (fire m t r).answer ≡ refused k → (k ≡ 21) ⊎ (((25 ≤ k) × (k ≤ 30)) ⊎ ((39 ≤ k) × (k ≤ 40)))

-- the value of a variable lies within its ends: not below its low end, not above its high end
abbrev pub InRangeOver : List Variable → List ℤ → ℕ → Type 0
InRangeOver vs values x =
    T (le_z (get_or (map (λ v. v.low) vs) x (pos 0)) (get_or values x (pos 0)))
    × T (le_z (get_or values x (pos 0)) (get_or (map (λ v. v.high) vs) x (pos 0)))

abbrev pub InRange : Meaning → List ℤ → ℕ → Type 0
InRange m values x = InRangeOver m.declarations values x

-- On values that 9 does not refuse. A3: "The first value outside its ends, lowest variable first [..]. It answers that variable's number,
-- or none exactly if all are within, and how many values it looked at: that number plus one, or S+F."
abbrev pub FirstOutsideExact : Type 0
FirstOutsideExact =
    (m : Meaning) (values : List ℤ) → too_short m values ≡ false
    → ((x looked : ℕ) → (range_check m values ≡ outside (Some x) looked)
    ↔ ((looked ≡ suc x) × (x < length m.declarations) × (InRange m values x → ⊥) × ((k : ℕ) → k < x → InRange m values k)))
    × ((looked : ℕ) → (range_check m values ≡ outside None looked)
    ↔ ((looked ≡ length m.declarations) × ((x : ℕ) → x < length m.declarations → InRange m values x)))

-- The values that were not looked at change nothing: whatever they are, the answer is the same. A3: the check "should not go on when the
-- second is already wrong". That the code reads no others is its loop (`first_outside` of standing): a promise cannot speak of reads.
abbrev pub LookedOnly : Type 0
LookedOnly =
    (m : Meaning) (values other : List ℤ) → too_short m other ≡ false
    → (x : Option ℕ) (looked : ℕ) → range_check m values ≡ outside x looked
    → take looked other ≡ take looked values → range_check m other ≡ outside x looked

-- A3: it is "the check of the values behind number 20". On values that 9 does not refuse, a run holds (20 does not refuse it) exactly if
-- its history holds, no mark held is above 2 and the check answers none.
abbrev pub HoldsByRangeCheck : Type 0
HoldsByRangeCheck =
    (m : Meaning) (r : Run) → too_short m r.values ≡ false
    → (holds m r ≡ true)
    ↔ ((history_holds m.transitions r.count r.history ≡ true) × (marks_within m.transitions r.marks ≡ true)
    × (range_check m r.values ≡ outside None (length m.declarations)))

-- A4: "The marks call copies them, also where a caller made them up": on a run and a buffer that 9, 10 and 20 do not refuse it is done and
-- gives what is held, whatever the guards come to
abbrev pub MarksCopied : Type 0
MarksCopied =
    (m : Meaning) (r : Run) (buffer : List ℕ) → too_short m r.values ≡ false → too_few m r.marks ≡ false → too_few m buffer ≡ false
    → holds m r ≡ true → marks m r buffer ≡ answered done (take m.transitions r.marks ++ drop m.transitions buffer)

-- A4: "what demand 2 says of marks is meant for runs that hold those of their guards": on these the marks call is 01's
abbrev pub MarksOfGuards : Type 0
MarksOfGuards = (m : Meaning) (r : Run) (buffer : List ℕ) → HoldsMarks m r → marks m r buffer ≡ guard_marks m r buffer

-- A4: "Fire and pick go by the guards": held marks that neither 10 nor 20 refuses have no say in what fire answers, nor in the values that
-- it leaves. Of pick `PickLowest` says it.
abbrev pub FireByGuards : Type 0
FireByGuards =
    (m : Meaning) (t : ℕ) (r : Run) (held : List ℕ) → too_few m r.marks ≡ false → too_few m held ≡ false
    → marks_within m.transitions r.marks ≡ true → marks_within m.transitions held ≡ true
    → ((fire m t (with_marks held r)).answer ≡ (fire m t r).answer) × ((fire m t (with_marks held r)).left.values ≡ (fire m t r).left.values)
