-- Parameters: what the tests on their bits tell; and the equality of sorts.
use mathlib.Core.Path.{◌≡◌, refl}
use mathlib.Core.Bool.{true}
use lib.Dec.{eqb}
use lib.IntN.{ℤ, pos}
use mir.Syntax.{w32}
use mir.Val.{of_z, SFits}
use Rattle.std.specs.Prelude.{Option, Some, None}
use Rattle.std.specs.Option.{option_eq}
use Rattle.kinds.specs.declared.Sort.{Sort}
use Rattle.kinds.specs.declared.Sort.TheVariants.{Boolean, Number}
use Rattle.kinds.specs.contracts.SortPartialEq.TheImpl.{eq-value}
use Rattle.kinds.specs.Sameness.{same_sort}
use Rattle.evaluation.specs.Numbers.{eq_z}
use Rattle.evaluation.proofs.Signed.{same_bits, equal_bits, other_bits, zero_fits, one_fits}
use Rattle.syntax.specs.Readings.{is_truth}

-- the equality of sorts, as it is derived, and ours
pub sorts_equal : (a b : Option Sort) → option_eq (eq-value).it a b ≡ same_sort a b
sorts_equal None None = refl
sorts_equal None (Some b) = refl
sorts_equal (Some a) None = refl
sorts_equal (Some Boolean) (Some Boolean) = refl
sorts_equal (Some Boolean) (Some Number) = refl
sorts_equal (Some Number) (Some Boolean) = refl
sorts_equal (Some Number) (Some Number) = refl

-- ---- zero and one

module _ {p : ℤ} (f : SFits w32 p) where
  pub is_zero : eqb (of_z w32 p) 0 ≡ eq_z p (pos 0)
  is_zero = same_bits w32 f zero_fits

  pub truth_zero : of_z w32 p ≡ 0 → true ≡ is_truth p
  truth_zero b = rw (equal_bits w32 f zero_fits b)

  pub truth_one : (of_z w32 p ≡ 0 → ⊥) → eqb (of_z w32 p) 1 ≡ is_truth p
  truth_one n = rw (other_bits w32 f zero_fits n) (same_bits w32 f one_fits)
