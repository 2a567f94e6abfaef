-- What holds of the operators for all evaluations. Proved in proofs/Laws.antt.
use Rattle.std.specs.Prelude.{◌≡◌, true, false, ℤ, pos, neg_ℤ}
use Rattle.evaluation.specs.declared.Evaluation.{Evaluation}
use Rattle.evaluation.specs.declared.Evaluation.TheVariants.{Unknown, Failed, Value}
use Rattle.evaluation.specs.declared.Manner.{Manner}
use Rattle.evaluation.specs.declared.Manner.TheVariants.{ZeroDivisor, TooLarge}
use Rattle.evaluation.specs.declared.Operator.{Operator}
use Rattle.evaluation.specs.declared.Operator.TheVariants.{Quotient, Remainder}
use Rattle.evaluation.specs.Numbers.{checked}
use Rattle.evaluation.specs.Meaning.{decisive, operated, negated, chosen, symmetric}

-- both ends are values, and one beyond each is too large
abbrev pub EndsExact : Type 0
EndsExact =
    (checked (neg_ℤ (pos 2147483648)) ≡ Value (neg_ℤ (pos 2147483648)))
    × (checked (pos 2147483647) ≡ Value (pos 2147483647))
    × (checked (neg_ℤ (pos 2147483649)) ≡ Failed TooLarge)
    × (checked (pos 2147483648) ≡ Failed TooLarge)

-- the operands of a symmetric operator may be exchanged
abbrev pub OperandsExchange : Type 0
OperandsExchange = (op : Operator) → symmetric op ≡ true → (a b : Evaluation) → operated op a b ≡ operated op b a

-- b is a, or more is known at b: an evaluation that is not unknown stays
pub data Grows : Evaluation → Evaluation → Type 0 where
  stays : {a : Evaluation} → Grows a a
  known : {b : Evaluation} → Grows Unknown b

-- an answer that is not unknown stays when an unknown operand becomes known
abbrev pub OperatorsGrow : Type 0
OperatorsGrow =
    ((op : Operator) (a a' b b' : Evaluation) → Grows a a' → Grows b b' → Grows (operated op a b) (operated op a' b'))
    × ((a a' : Evaluation) → Grows a a' → Grows (negated a) (negated a'))
    × ((c c' a a' b b' : Evaluation) → Grows c c' → Grows a a' → Grows b b' → Grows (chosen c a b) (chosen c' a' b'))

-- 01: failed if "a divisor is 0", whatever the dividend is; 02, A8: a division by zero
abbrev pub ZeroDivides : Type 0
ZeroDivides =
    (v : ℤ)
    → (operated Quotient (Value v) (Value (pos 0)) ≡ Failed ZeroDivisor) × (operated Remainder (Value v) (Value (pos 0)) ≡ Failed ZeroDivisor)

-- 02, A8: "where operands failed in both manners, zero divisor wins, and a failed condition of if-then-else passes its own on". Two failed
-- operands; one beside a value that does not decide; not; a failed condition over failed branches (others: FailedConditionRows).
-- By OperandsExchange no order of operands changes the manner, and by OperatorsGrow nothing that is known later does.
abbrev pub MannersPass : Type 0
MannersPass =
    ((op : Operator) (m : Manner)
    → (operated op (Failed ZeroDivisor) (Failed m) ≡ Failed ZeroDivisor) × (operated op (Failed m) (Failed ZeroDivisor) ≡ Failed ZeroDivisor))
    × ((op : Operator) → operated op (Failed TooLarge) (Failed TooLarge) ≡ Failed TooLarge)
    × ((op : Operator) (m : Manner) (v : ℤ) → decisive op v ≡ false
    → (operated op (Failed m) (Value v) ≡ Failed m) × (operated op (Value v) (Failed m) ≡ Failed m))
    × ((m : Manner) → negated (Failed m) ≡ Failed m)
    × ((m n o : Manner) → chosen (Failed m) (Failed n) (Failed o) ≡ Failed m)
