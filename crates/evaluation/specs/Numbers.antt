-- Whole numbers of 32 bits. Sums, differences, products, quotients and remainders are the logic's own:
-- `◌+ℤ◌`, `◌-ℤ◌`, `◌*ℤ◌`, `quot_z` (toward zero) and `rem_z` (with the dividend's sign).
use Rattle.std.specs.Prelude.{Bool, true, false, cond, ◌&&◌, ℤ, pos, negsuc, neg_ℤ, eqb}
use Rattle.std.specs.Int.Signed.{le_z}
use Rattle.evaluation.specs.declared.Evaluation.{Evaluation}
use Rattle.evaluation.specs.declared.Evaluation.TheVariants.{Failed, Value}
use Rattle.evaluation.specs.declared.Manner.TheVariants.{TooLarge}

-- 01: "−2,147,483,648 to 2,147,483,647"
abbrev pub least : ℤ
least = neg_ℤ (pos 2147483648)

abbrev pub greatest : ℤ
greatest = pos 2147483647

abbrev pub representable : ℤ → Bool
representable v = le_z least v && le_z v greatest

-- 01: "Failed if the value leaves −2,147,483,648 to 2,147,483,647"; 02, A8: "a number beyond 32 bits"
unfoldable pub checked : ℤ → Evaluation
checked v = cond (representable v) (Value v) (Failed TooLarge)

unfoldable pub eq_z : ℤ → ℤ → Bool
eq_z (pos a) (pos b) = eqb a b
eq_z (pos a) (negsuc b) = false
eq_z (negsuc a) (pos b) = false
eq_z (negsuc a) (negsuc b) = eqb a b

-- a Boolean is 0 or 1
abbrev pub boolean : Bool → ℤ
boolean true = pos 1
boolean false = pos 0
