-- The order of whole numbers, as its tests tell it.
use mathlib.Core.Path.{◌≡◌, refl, sym, subst, ◌∙◌}
use mathlib.Core.Bool.{Bool, true, false, true≢false}
use native.Mathlib.Omega.{arith}
use borrow.Author.Tests.{leb-false, le-leb, lt-leb, ltb-true, ltb-false}
use lib.Dec.{T}
use lib.IntN.{ℤ, pos, negsuc}
use lib.Signed.{le_z, lt_z}
use Rattle.model.proofs.CompleteRows.{le_z_trans}

pub le_total : (a b : ℤ) → le_z a b ≡ false → le_z b a ≡ true
le_total (pos a) (pos b) h = le-leb b a (omega (arith, leb-false a b h))
le_total (pos a) (negsuc b) h = refl
le_total (negsuc a) (pos b) h = absurd (true≢false h)
le_total (negsuc a) (negsuc b) h = le-leb a b (omega (arith, leb-false b a h))

told : (b : Bool) → T b → b ≡ true
told true h = refl
told false h = absurd h

pub le_trans : (a b c : ℤ) → le_z a b ≡ true → le_z b c ≡ true → le_z a c ≡ true
le_trans a b c h k = told (le_z a c) (le_z_trans a b c (subst T (sym h) tt) (subst T (sym k) tt))

-- a above b, and b above c: a is not reached by c
pub not_reached : (a b c : ℤ) → le_z a b ≡ false → le_z b c ≡ false → le_z a c ≡ false
not_reached a b c h k = go (le_z a c) refl
  where
    go : (t : Bool) → le_z a c ≡ t → t ≡ false
    go false e = refl
    go true e = sym (le_trans a c b e (le_total b c k)) ∙ h

pub below_not_reached : (a b : ℤ) → lt_z a b ≡ true → le_z b a ≡ false
below_not_reached (pos a) (pos b) h = lt-leb b a (ltb-true a b h)
below_not_reached (pos a) (negsuc b) h = absurd (true≢false (sym h))
below_not_reached (negsuc a) (pos b) h = refl
below_not_reached (negsuc a) (negsuc b) h = lt-leb a b (ltb-true b a h)

pub not_below_reached : (a b : ℤ) → lt_z a b ≡ false → le_z b a ≡ true
not_below_reached (pos a) (pos b) h = le-leb b a (ltb-false a b h)
not_below_reached (pos a) (negsuc b) h = refl
not_below_reached (negsuc a) (pos b) h = absurd (true≢false h)
not_below_reached (negsuc a) (negsuc b) h = le-leb a b (ltb-false b a h)
