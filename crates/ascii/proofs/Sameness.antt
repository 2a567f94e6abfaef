-- Two lists of bytes compared from a place on.
use mathlib.Core.Path.{◌≡◌, refl, ap}
use mathlib.Core.Bool.{true, false, and-false}
use mathlib.Core.List.{List, [], ◌∷◌}
use Prim.Native.Nat.{ℕ, suc, ◌+◌, ◌≤◌, ◌<◌}
use native.Mathlib.Numerals.{add-one}
use borrow.Author.Tests.{eq-eqb, ne_eqb}
use lib.Dec.{eqb}
use lib.ListN.{length, drop, get_or, drop_of_length-le}
use lib.Seq.{drop-cons}
use Rattle.std.specs.Str.{bytes_eq}
use Rattle.ascii.specs.Ascii.{same}

-- lists of different lengths
pub other_length : (l s : List ℕ) → (length l ≡ length s → ⊥) → same l s ≡ false
unfolding same
other_length [] [] h = absurd (h refl)
other_length [] (b ∷ s) h = refl
other_length (a ∷ l) [] h = refl
other_length (a ∷ l) (b ∷ s) h = rw (other_length l s (λ e. h (ap suc e))) (and-false (eqb a b))

module _ (l s : List ℕ) (i : ℕ) where
  -- different bytes at this place
  pub differs : i < length l → i < length s → (get_or l i 0 ≡ get_or s i 0 → ⊥) → false ≡ same (drop i l) (drop i s)
  unfolding same
  differs h g n = rw (drop-cons l i 0 h, drop-cons s i 0 g, ne_eqb (get_or l i 0) (get_or s i 0) n)

  -- the same byte at this place
  pub agrees : i < length l → i < length s → get_or l i 0 ≡ get_or s i 0 → same (drop i l) (drop i s) ≡ same (drop (i + 1) l) (drop (i + 1) s)
  unfolding same
  agrees h g e = rw (drop-cons l i 0 h, drop-cons s i 0 g, eq-eqb (get_or l i 0) (get_or s i 0) e, add-one i)

  -- nothing is left of either
  pub no_more : length l ≤ i → length s ≤ i → true ≡ same (drop i l) (drop i s)
  unfolding same
  no_more h g = rw (drop_of_length-le l h, drop_of_length-le s g)

-- what `==` on slices answers
pub same_bytes : (l s : List ℕ) → bytes_eq l s ≡ same l s
unfolding same
same_bytes [] [] = refl
same_bytes [] (b ∷ s) = refl
same_bytes (a ∷ l) [] = refl
same_bytes (a ∷ l) (b ∷ s) = rw (same_bytes l s)
