-- Numerals by their first digit.
use mathlib.Core.Path.{◌≡◌, refl}
use mathlib.Core.Bool.{Bool, true, false, ◌&&◌, and-false, and-true, or-true}
use mathlib.Core.List.{List, [], ◌∷◌}
use Prim.Native.Nat.{ℕ, ◌≤◌, ◌<◌}
use native.Mathlib.Omega.{arith}
use borrow.Author.Tests.{leb-true, lt-ltb, eqb-true, eqb-false}
use lib.Dec.{eqb, leb}
use lib.ListN.{length, get_or}
use Rattle.std.specs.Prelude.{None}
use Rattle.ascii.specs.Ascii.{same, is_digit, are_digits, number_of}
use Rattle.grammar.specs.Tokens.{is_numeral}
use Rattle.scanner.specs.Scanning.{numeral_of}

-- ---- the first byte

-- no byte
pub no_digits : (l : List ℕ) → length l ≡ 0 → None ≡ numeral_of l
unfolding numeral_of is_numeral are_digits same
no_digits [] h = refl
no_digits (b ∷ l) h = absurd (omega arith)

-- `0`, 48, before others
pub leading_zero : (l : List ℕ) → 1 < length l → get_or l 0 0 ≡ 48 → None ≡ numeral_of l
unfolding numeral_of is_numeral are_digits same
leading_zero [] h e = absurd (omega arith)
leading_zero (b ∷ []) h e = absurd (omega arith)
leading_zero (b ∷ a ∷ l) h e = rw (e, and-false (is_digit a && are_digits l))

module _ (b : ℕ) (l : List ℕ) where
  -- without a leading zero
  all_digits : (b ≡ 48 → ⊥) → numeral_of (b ∷ l) ≡ number_of (b ∷ l)
  unfolding numeral_of is_numeral are_digits same
  all_digits n = by (leb 48 b) refl
    where
      by : (t : Bool) → leb 48 b ≡ t → numeral_of (b ∷ l) ≡ number_of (b ∷ l)
      by true e = let least : 48 ≤ b = leb-true 48 b e in rw (lt-ltb 48 b (omega (arith, n)), or-true (eqb b 48 && same l []), and-true (leb 48 b && leb b 57 && are_digits l))
      by false e = rw e

-- any other digits
pub no_leading_zero : (l : List ℕ) → 0 < length l → (1 < length l → get_or l 0 0 ≡ 48 → ⊥) → numeral_of l ≡ number_of l
unfolding numeral_of is_numeral are_digits same
no_leading_zero [] h n = absurd (omega arith)
no_leading_zero (b ∷ l) h n = by (eqb b 48) refl l n
  where
    by : (t : Bool) → eqb b 48 ≡ t → (k : List ℕ) → (1 < length (b ∷ k) → b ≡ 48 → ⊥) → numeral_of (b ∷ k) ≡ number_of (b ∷ k)
    by true e [] m = rw (eqb-true b 48 e)
    by true e (a ∷ k) m = absurd (m (omega arith) (eqb-true b 48 e))
    by false e k m = all_digits b k (eqb-false b 48 e)
