-- 01, "Rows to prove", (a) to (g): the rows that speak of operators alone; where 01 says failed, in which manner (02, A8). After them rows
-- for 46, by 01 and by 02, A6.
-- Proved in proofs/Rows.antt.
use Rattle.std.specs.Prelude.{◌≡◌, true, false, ℤ, pos, neg_ℤ}
use Rattle.evaluation.specs.declared.Evaluation.{Evaluation}
use Rattle.evaluation.specs.declared.Evaluation.TheVariants.{Unknown, Failed, Value}
use Rattle.evaluation.specs.declared.Manner.{Manner}
use Rattle.evaluation.specs.declared.Manner.TheVariants.{TooLarge}
use Rattle.evaluation.specs.declared.Operator.TheVariants.{Conjunction, Disjunction, Product, Quotient, Remainder}
use Rattle.evaluation.specs.Numbers.{boolean}
use Rattle.evaluation.specs.Meaning.{operated, chosen}

-- (a) false and failed, in either manner: false, in either order
abbrev pub RowA : Type 0
RowA =
    (m : Manner)
    → (operated Conjunction (Value (boolean false)) (Failed m) ≡ Value (boolean false))
    × (operated Conjunction (Failed m) (Value (boolean false)) ≡ Value (boolean false))

-- (b) failed, in either manner, and unknown: unknown, in either order
abbrev pub RowB : Type 0
RowB = (m : Manner) → (operated Conjunction (Failed m) Unknown ≡ Unknown) × (operated Conjunction Unknown (Failed m) ≡ Unknown)

-- (c) true or unknown: true, in either order
abbrev pub RowC : Type 0
RowC =
    (operated Disjunction (Value (boolean true)) Unknown ≡ Value (boolean true))
    × (operated Disjunction Unknown (Value (boolean true)) ≡ Value (boolean true))

-- (d) 7 div −2 is −3, mod 1
abbrev pub RowD : Type 0
RowD =
    (operated Quotient (Value (pos 7)) (Value (neg_ℤ (pos 2))) ≡ Value (neg_ℤ (pos 3)))
    × (operated Remainder (Value (pos 7)) (Value (neg_ℤ (pos 2))) ≡ Value (pos 1))

-- (e) −7 div 2 is −3, mod −1
abbrev pub RowE : Type 0
RowE =
    (operated Quotient (Value (neg_ℤ (pos 7))) (Value (pos 2)) ≡ Value (neg_ℤ (pos 3)))
    × (operated Remainder (Value (neg_ℤ (pos 7))) (Value (pos 2)) ≡ Value (neg_ℤ (pos 1)))

-- (f) −2,147,483,648 div −1 failed: it is too large
abbrev pub RowF : Type 0
RowF = operated Quotient (Value (neg_ℤ (pos 2147483648))) (Value (neg_ℤ (pos 1))) ≡ Failed TooLarge

-- (g) 46,340 times itself 2,147,395,600; 46,341 times itself failed: it is too large
abbrev pub RowG : Type 0
RowG =
    (operated Product (Value (pos 46340)) (Value (pos 46340)) ≡ Value (pos 2147395600))
    × (operated Product (Value (pos 46341)) (Value (pos 46341)) ≡ Failed TooLarge)

-- 01: "else the chosen branch", whatever the other one is: the first at true alone
abbrev pub KnownConditionRows : Type 0
KnownConditionRows =
    (a b : Evaluation)
    → (chosen (Value (boolean true)) a b ≡ a) × ((v : ℤ) → (v ≡ boolean true → ⊥) → chosen (Value v) a b ≡ b)

-- 02, A6: "If the condition is unknown and both branches have one and the same value, that is its value." Else, by 01, "unknown [..] as
-- its condition is", also where both branches failed.
abbrev pub UnknownConditionRows : Type 0
UnknownConditionRows =
    ((v : ℤ) → chosen Unknown (Value v) (Value v) ≡ Value v)
    × ((v w : ℤ) → (v ≡ w → ⊥) → chosen Unknown (Value v) (Value w) ≡ Unknown)
    × ((a : Evaluation) → (chosen Unknown Unknown a ≡ Unknown) × (chosen Unknown a Unknown ≡ Unknown))
    × ((m : Manner) (a : Evaluation) → (chosen Unknown (Failed m) a ≡ Unknown) × (chosen Unknown a (Failed m) ≡ Unknown))

-- 02, A6: "If the condition failed: that value likewise; unknown if a branch is unknown; else failed." 02, A8: "a failed condition of
-- if-then-else passes its own on", also where a branch failed in the other manner.
abbrev pub FailedConditionRows : Type 0
FailedConditionRows =
    (m : Manner)
    → ((v : ℤ) → chosen (Failed m) (Value v) (Value v) ≡ Value v)
    × ((a : Evaluation) → (chosen (Failed m) Unknown a ≡ Unknown) × (chosen (Failed m) a Unknown ≡ Unknown))
    × ((v w : ℤ) → (v ≡ w → ⊥) → chosen (Failed m) (Value v) (Value w) ≡ Failed m)
    × ((n : Manner) (v : ℤ) → (chosen (Failed m) (Failed n) (Value v) ≡ Failed m) × (chosen (Failed m) (Value v) (Failed n) ≡ Failed m))
    × ((n o : Manner) → chosen (Failed m) (Failed n) (Failed o) ≡ Failed m)

-- 46 at every condition and every two branches
abbrev pub ConditionalRows : Type 0
ConditionalRows = KnownConditionRows × UnknownConditionRows × FailedConditionRows
