-- Signed numbers as the machine has them. `SFits w z` says that z is a signed number of width w: `mag z` is below half the
-- width's power.
use mathlib.Core.Path.{◌≡◌, refl, sym, ap, ◌∙◌}
use mathlib.Core.Bool.{Bool, true, false, true≢false}
use Prim.Native.Nat.{◌<◌, ◌^◌}
use native.Mathlib.Omega.{arith}
use borrow.Author.Tests.{eq-eqb, ne_eqb, le-leb, lt-leb}
use lib.Dec.{eqb}
use lib.IntN.{ℤ, pos, negsuc}
use lib.Signed.{mag, mag_rem, quot_z, rem_z}
use mir.Syntax.{Width, w32}
use mir.Val.{to_z, of_z, SFits}
use mir.ValLaws.{to_z-of_z}
use Rattle.std.specs.Prelude.{Option, Some, None, MatchOption}
use Rattle.std.specs.Option.{SomeIff}
use Rattle.std.specs.Int.{CanDivide}
use Rattle.evaluation.specs.declared.Evaluation.{Evaluation}
use Rattle.evaluation.specs.declared.Evaluation.TheVariants.{Failed, Value}
use Rattle.evaluation.specs.declared.Manner.TheVariants.{ZeroDivisor, TooLarge}
use Rattle.evaluation.specs.Numbers.{checked, eq_z}
use Rattle.evaluation.specs.Meaning.{divided}
use Rattle.evaluation.proofs.Laws.{eq_z_refl, eq_z_true}

-- ---- numbers read back from their bits

-- a number as its 32 bits have it
abbrev pub stored : ℤ → ℤ
stored x = to_z w32 (of_z w32 x)

pub read_back : (z : ℤ) → mag z < 2 ^ 31 → to_z w32 (of_z w32 z) ≡ z
read_back z h = to_z-of_z w32 z (record { sfits = h })

-- in any function of one number, of two
pub read_one : {A : Type 0} (g : ℤ → A) {x : ℤ} → SFits w32 x → g (stored x) ≡ g x
read_one g {x} f = ap g (to_z-of_z w32 x f)

pub read_both : {A : Type 0} (g : ℤ → ℤ → A) {x y : ℤ} → SFits w32 x → SFits w32 y → g (stored x) (stored y) ≡ g x y
read_both g {x} {y} f h = rw (to_z-of_z w32 x f, to_z-of_z w32 y h)

-- two numbers are equal exactly if their bits are
module _ (w : Width) {x y : ℤ} (f : SFits w x) (g : SFits w y) where
  bits_differ : eq_z x y ≡ false → of_z w x ≡ of_z w y → ⊥
  bits_differ e b =
      let q : x ≡ y = sym (to_z-of_z w x f) ∙ ap (to_z w) b ∙ to_z-of_z w y g in true≢false (cc (eq_z_refl x))

  pub same_bits : eqb (of_z w x) (of_z w y) ≡ eq_z x y
  same_bits = by (eq_z x y) refl
    where
      by : (t : Bool) → eq_z x y ≡ t → eqb (of_z w x) (of_z w y) ≡ t
      by true e = eq-eqb (of_z w x) (of_z w y) (ap (of_z w) (eq_z_true x y e))
      by false e = ne_eqb (of_z w x) (of_z w y) (bits_differ e)

  pub equal_bits : of_z w x ≡ of_z w y → eq_z x y ≡ true
  equal_bits b = sym same_bits ∙ eq-eqb (of_z w x) (of_z w y) b

  pub other_bits : (of_z w x ≡ of_z w y → ⊥) → eq_z x y ≡ false
  other_bits n = sym same_bits ∙ ne_eqb (of_z w x) (of_z w y) n

-- the literals
pub zero_fits : SFits w32 (pos 0)
zero_fits = record { sfits = omega arith }

pub one_fits : SFits w32 (pos 1)
one_fits = record { sfits = omega arith }

-- ---- `checked`

checked_beyond : (z : ℤ) → (SFits w32 z → ⊥) → checked z ≡ Failed TooLarge
unfolding checked
checked_beyond (pos n) e =
    let beyond : n < 2147483648 → ⊥ = λ h. e (record { sfits = h }) in rw (lt-leb n 2147483647 (omega arith))
checked_beyond (negsuc n) e =
    let beyond : n < 2147483648 → ⊥ = λ h. e (record { sfits = h }) in rw (lt-leb n 2147483647 (omega arith))

pub checked_fits : (z : ℤ) → SFits w32 z → checked z ≡ Value z
unfolding checked
checked_fits (pos n) f = rw (le-leb n 2147483647 (omega (arith, f.sfits)))
checked_fits (negsuc n) f = rw (le-leb n 2147483647 (omega (arith, f.sfits)))

-- what `held` makes of a number or nothing, as a checked operator of the library answers
abbrev pub Held : Option ℤ → Evaluation → Type 0
Held v r = MatchOption v (r ≡ Failed TooLarge) (λ x. r ≡ Value x)

pub held_checked : (op : ℤ → ℤ → ℤ) {x y : ℤ} → SFits w32 x → SFits w32 y → (v : Option ℤ)
    → SomeIff v (SFits w32 (op (stored x) (stored y))) (op (stored x) (stored y)) → {r : Evaluation} → Held v r → r ≡ checked (op x y)
held_checked op {x} {y} f g v s {r} m = by v s m ∙ read_both (λ a b. checked (op a b)) f g
  where
    by : (v : Option ℤ) → SomeIff v (SFits w32 (op (stored x) (stored y))) (op (stored x) (stored y)) → Held v r → r ≡ checked (op (stored x) (stored y))
    by None n m = m ∙ sym (checked_beyond _ n)
    by (Some z) s m = m ∙ ap Value s.1 ∙ sym (checked_fits _ s.0)

-- ---- division

pub divided_by_zero : (op : ℤ → ℤ → ℤ) (x : ℤ) {y : ℤ} → SFits w32 y → of_z w32 y ≡ 0 → Failed ZeroDivisor ≡ divided op x y
unfolding divided
divided_by_zero op x {y} g b = rw (equal_bits w32 g zero_fits b)

-- by another number
divided_other : (op : ℤ → ℤ → ℤ) (x : ℤ) {y : ℤ} → SFits w32 y → (of_z w32 y ≡ 0 → ⊥) → divided op x y ≡ checked (op x y)
unfolding divided
divided_other op x g n = rw (other_bits w32 g zero_fits n)

module _ {x y : ℤ} (f : SFits w32 x) (g : SFits w32 y) where
  pub quotient_held : (of_z w32 y ≡ 0 → ⊥) → (v : Option ℤ) → SomeIff v (CanDivide w32 (stored x) (stored y)) (quot_z (stored x) (stored y))
      → {r : Evaluation} → Held v r → r ≡ divided quot_z x y
  quotient_held n v s {r} m = by v (rw (to_z-of_z w32 x f, to_z-of_z w32 y g) at s) m ∙ sym (divided_other quot_z x g n)
    where
      by : (v : Option ℤ) → SomeIff v (CanDivide w32 x y) (quot_z x y) → Held v r → r ≡ checked (quot_z x y)
      by None u m = m ∙ sym (checked_beyond (quot_z x y) (λ h. u (omega (arith, n), h)))
      by (Some q) s m = m ∙ ap Value s.1 ∙ sym (checked_fits (quot_z x y) s.0.1)

  remainder_fits : SFits w32 (rem_z x y)
  remainder_fits = record { sfits = omega (arith, mag_rem x y, f.sfits) }

  pub remainder_given : (of_z w32 y ≡ 0 → ⊥) → {r : ℤ} → r ≡ rem_z (stored x) (stored y) → Value (stored r) ≡ divided rem_z x y
  remainder_given n {r} e =
      ap (λ z. Value (stored z)) (e ∙ read_both rem_z f g) ∙ read_one Value remainder_fits
      ∙ sym (divided_other rem_z x g n ∙ checked_fits (rem_z x y) remainder_fits)
