-- How many are marked: one mark set, none marked, and no more than there are places.
use mathlib.Core.Path.{◌≡◌, refl}
use mathlib.Core.List.{List, [], ◌∷◌}
use Prim.Native.Nat.{ℕ, zero, suc, ◌+◌, ◌≤◌, ◌<◌}
use native.Mathlib.Nat.{not-suc-le-zero, le_of_suc-le-suc}
use native.Mathlib.Omega.{arith}
use lib.ListN.{length, get_or, set, replicate}
use Rattle.waiting.specs.Marks.{is_marked, mark_count}

pub is_marked_bounded : (r : ℕ) → is_marked r ≤ 1
unfolding is_marked
is_marked_bounded zero = omega arith
is_marked_bounded (suc r) = omega arith

pub one_recounted : (w : List ℕ) (p r : ℕ) → p < length w → mark_count (set w p r) + is_marked (get_or w p 0) ≡ mark_count w + is_marked r
unfolding mark_count
one_recounted [] p r h = absurd (not-suc-le-zero h)
one_recounted (a ∷ w) zero r h = omega arith
one_recounted (a ∷ w) (suc p) r h = omega (arith, one_recounted w p r (le_of_suc-le-suc h))

pub marks_bounded : (w : List ℕ) → mark_count w ≤ length w
unfolding mark_count
marks_bounded [] = omega arith
marks_bounded (a ∷ w) = omega (arith, is_marked_bounded a, marks_bounded w)

-- a mark is one of those counted
pub one_counted : (w : List ℕ) (p : ℕ) → is_marked (get_or w p 0) ≤ mark_count w
unfolding mark_count is_marked
one_counted [] p = omega arith
one_counted (a ∷ w) zero = omega arith
one_counted (a ∷ w) (suc p) = omega (arith, one_counted w p)

pub none_counted : (w : List ℕ) → mark_count w ≡ 0 → (p : ℕ) → get_or w p 0 ≡ 0
unfolding is_marked
none_counted w e p = by (get_or w p 0) (omega (arith, one_counted w p))
  where
    by : (r : ℕ) → is_marked r ≤ 0 → r ≡ 0
    by zero h = refl
    by (suc r) h = absurd (omega arith)

pub none_marked : (n : ℕ) → mark_count (replicate n 0) ≡ 0
unfolding mark_count is_marked
none_marked zero = refl
none_marked (suc n) = omega (arith, none_marked n)
