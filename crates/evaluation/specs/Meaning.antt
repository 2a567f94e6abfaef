-- 01, "Meaning of an expression", and 02, A6 and A8: what the operators make of their operands' evaluations (01: readings).
use Rattle.std.specs.Prelude.{Bool, true, false, cond, ◌||◌, ℤ, pos, ◌+ℤ◌, ◌-ℤ◌, ◌*ℤ◌}
use Rattle.std.specs.Int.Signed.{lt_z, le_z, quot_z, rem_z}
use Rattle.evaluation.specs.declared.Evaluation.{Evaluation}
use Rattle.evaluation.specs.declared.Evaluation.TheVariants.{Unknown, Failed, Value}
use Rattle.evaluation.specs.declared.Manner.{Manner}
use Rattle.evaluation.specs.declared.Manner.TheVariants.{ZeroDivisor, TooLarge}
use Rattle.evaluation.specs.declared.Operator.{Operator}
use Rattle.evaluation.specs.declared.Operator.TheVariants.{Conjunction, Disjunction, Equality, Less, LessOrEqual, Sum, Difference, Product, Quotient, Remainder, Equivalence}
use Rattle.evaluation.specs.Numbers.{checked, eq_z, boolean}

-- 01: "a divisor is 0"; 02, A8: "a division by zero"
unfoldable pub divided : (ℤ → ℤ → ℤ) → ℤ → ℤ → Evaluation
divided f a b = cond (eq_z b (pos 0)) (Failed ZeroDivisor) (checked (f a b))

-- the value of an operator at two values; of and, or: where neither operand decides
unfoldable pub calculated : Operator → ℤ → ℤ → Evaluation
calculated Conjunction a b = Value (boolean true)
calculated Disjunction a b = Value (boolean false)
calculated Equality a b = Value (boolean (eq_z a b))
calculated Less a b = Value (boolean (lt_z a b))
calculated LessOrEqual a b = Value (boolean (le_z a b))
calculated Sum a b = checked (a +ℤ b)
calculated Difference a b = checked (a -ℤ b)
calculated Product a b = checked (a *ℤ b)
calculated Quotient a b = divided quot_z a b
calculated Remainder a b = divided rem_z a b
calculated Equivalence a b = Value (boolean (eq_z a b))

-- 01: "And: false if an operand is false", "Or: the same with true and false exchanged"
unfoldable pub decisive : Operator → ℤ → Bool
decisive Conjunction v = eq_z v (boolean false)
decisive Disjunction v = eq_z v (boolean true)
decisive Equality v = false
decisive Less v = false
decisive LessOrEqual v = false
decisive Sum v = false
decisive Difference v = false
decisive Product v = false
decisive Quotient v = false
decisive Remainder v = false
decisive Equivalence v = false

-- the answer of and, or where an operand decides; no other operator has a deciding operand
unfoldable pub decision : Operator → ℤ
decision Conjunction = boolean false
decision Disjunction = boolean true
decision Equality = boolean false
decision Less = boolean false
decision LessOrEqual = boolean false
decision Sum = boolean false
decision Difference = boolean false
decision Product = boolean false
decision Quotient = boolean false
decision Remainder = boolean false
decision Equivalence = boolean false

unfoldable pub decides : Operator → Evaluation → Bool
decides op Unknown = false
decides op (Failed m) = false
decides op (Value v) = decisive op v

unfoldable pub is_unknown : Evaluation → Bool
is_unknown Unknown = true
is_unknown (Failed m) = false
is_unknown (Value v) = false

-- are they one and the same?
unfoldable pub same_manner : Manner → Manner → Bool
same_manner ZeroDivisor ZeroDivisor = true
same_manner ZeroDivisor TooLarge = false
same_manner TooLarge ZeroDivisor = false
same_manner TooLarge TooLarge = true

-- did it fail in this manner?
unfoldable pub failed_in : Manner → Evaluation → Bool
failed_in m Unknown = false
failed_in m (Failed n) = same_manner m n
failed_in m (Value v) = false

-- is it a value, and true?
unfoldable pub is_true : Evaluation → Bool
is_true Unknown = false
is_true (Failed m) = false
is_true (Value v) = eq_z v (boolean true)

-- the value, where there is one
unfoldable pub number : Evaluation → ℤ
number Unknown = pos 0
number (Failed m) = pos 0
number (Value v) = v

-- 01: kinds 36 to 45 and 47. "And: false if an operand is false; else unknown if one is unknown; else failed if one is
-- failed; else true. [..] Every other operator but 46: unknown if an operand is; else failed if one is; else its value." 02, A8: "where
-- operands failed in both manners, zero divisor wins".
unfoldable pub operated : Operator → Evaluation → Evaluation → Evaluation
operated op a b =
    cond (decides op a || decides op b) (Value (decision op))
    (cond (is_unknown a || is_unknown b) Unknown
    (cond (failed_in ZeroDivisor a || failed_in ZeroDivisor b) (Failed ZeroDivisor)
    (cond (failed_in TooLarge a || failed_in TooLarge b) (Failed TooLarge)
    (calculated op (number a) (number b)))))

-- 01: kind 35, not
unfoldable pub negated : Evaluation → Evaluation
negated Unknown = Unknown
negated (Failed m) = Failed m
negated (Value v) = Value (boolean (eq_z v (boolean false)))

-- 02, A6: "both branches have one and the same value"
unfoldable pub agree : Evaluation → Evaluation → Bool
agree Unknown b = false
agree (Failed m) b = false
agree (Value v) Unknown = false
agree (Value v) (Failed m) = false
agree (Value v) (Value w) = eq_z v w

-- Kind 46. 01: "unknown [..] as its condition is, else the chosen branch". 02, A6: "If the condition is unknown and both branches have
-- one and the same value, that is its value. If the condition failed: that value likewise; unknown if a branch is unknown; else failed."
-- 02, A8: "a failed condition of if-then-else passes its own on".
unfoldable pub chosen : Evaluation → Evaluation → Evaluation → Evaluation
chosen Unknown a b = cond (agree a b) a Unknown
chosen (Failed m) a b = cond (agree a b) a (cond (is_unknown a || is_unknown b) Unknown (Failed m))
chosen (Value v) a b = cond (eq_z v (boolean true)) a b

-- 01: "Symmetric operators: 36, 37, 38, 41, 43, 47."
unfoldable pub symmetric : Operator → Bool
symmetric Conjunction = true
symmetric Disjunction = true
symmetric Equality = true
symmetric Less = false
symmetric LessOrEqual = false
symmetric Sum = true
symmetric Difference = false
symmetric Product = true
symmetric Quotient = false
symmetric Remainder = false
symmetric Equivalence = true
