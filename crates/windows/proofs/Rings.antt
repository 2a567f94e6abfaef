-- A ring: its places, its entries from one of them on, and the entry that is put after them.
use mathlib.Core.Path.{◌≡◌, refl, sym, ap, ap₂, ◌∙◌}
use mathlib.Core.Bool.{Bool, true, false, cond}
use mathlib.Core.List.{List, [], ◌∷◌, ◌++◌}
use Prim.Native.Nat.{ℕ, zero, suc, ◌+◌, ◌-◌, ◌≤◌, ◌<◌}
use native.Mathlib.Omega.{arith}
use borrow.Author.Tests.{ltb-true, ltb-false}
use lib.Dec.{ltb}
use lib.ListN.{length, get_or, set}
use lib.Seq.{get_or-set_same, get_or-set_other}
use Rattle.windows.specs.declared.queue.Entry.{Entry}
use Rattle.windows.specs.Logs.{max_window}
use Rattle.windows.specs.Lent.{blank, place_after, ring_from}

-- ---- the places

pub place_within : (at before : ℕ) → at + before < max_window → at + before ≡ place_after at before
unfolding place_after
place_within at before h = let t : ltb (at + before) max_window ≡ true = grind (arith) in rw t

pub place_wrapped : (at before : ℕ) → max_window ≤ at + before → (at + before) - max_window ≡ place_after at before
unfolding place_after
place_wrapped at before h = let t : ltb (at + before) max_window ≡ false = grind (arith) in rw t

-- what is shown of a place where it is no step past the end, and where it is
by_place : (P : ℕ → Type 0) (at before : ℕ) → (at + before < max_window → P (at + before)) → (max_window ≤ at + before → P ((at + before) - max_window)) → P (place_after at before)
unfolding place_after
by_place P at before f g = go (ltb (at + before) max_window) refl
  where
    go : (b : Bool) → ltb (at + before) max_window ≡ b → P (cond b (at + before) ((at + before) - max_window))
    go true e = f (ltb-true (at + before) max_window e)
    go false e = g (ltb-false (at + before) max_window e)

pub place_below : (at before : ℕ) → at < max_window → before ≤ max_window → place_after at before < max_window
place_below at before h k = by_place (λ p. p < max_window) at before (λ w. w) (λ w. omega (arith, h, k, w))

-- one place on, and from there so many more
place_on : (at before : ℕ) → at < max_window → before < max_window → place_after (place_after at 1) before ≡ place_after at (suc before)
place_on at before h k =
    by_place (λ p. place_after p before ≡ place_after at (suc before)) at 1
    (λ w.
    by_place (λ p. p ≡ place_after at (suc before)) (at + 1) before
    (λ u. let n : at + suc before ≡ at + 1 + before = omega arith in sym n ∙ place_within at (suc before) (omega (arith, u)))
    (λ u. let n : (at + suc before) - max_window ≡ (at + 1 + before) - max_window = omega arith in sym n ∙ place_wrapped at (suc before) (omega (arith, u))))
    (λ w.
    by_place (λ p. p ≡ place_after at (suc before)) ((at + 1) - max_window) before
    (λ u. let n : (at + suc before) - max_window ≡ (at + 1) - max_window + before = omega (arith, w) in sym n ∙ place_wrapped at (suc before) (omega (arith, w)))
    (λ u. absurd (omega (arith, h, k, w, u))))

other_place : (at before : ℕ) → at < max_window → suc before < max_window → at ≡ place_after at (suc before) → ⊥
other_place at before h k =
    by_place (λ p. at ≡ p → ⊥) at (suc before) (λ w e. absurd (omega (arith, e))) (λ w e. absurd (omega (arith, h, k, w, e)))

-- ---- the entries

pub ring_length : (entries : List Entry) (at n : ℕ) → length (ring_from entries at n) ≡ n
unfolding ring_from
ring_length entries at zero = refl
ring_length entries at (suc n) = ap suc (ring_length entries (place_after at 1) n)

-- the last of them
pub ring_back : (entries : List Entry) (at n : ℕ) → at < max_window → n < max_window
    → ring_from entries at (suc n) ≡ ring_from entries at n ++ (get_or entries (place_after at n) blank ∷ [])
unfolding ring_from
ring_back entries at zero h k =
    let n : at + 0 ≡ at = omega arith in
    ap (λ p. get_or entries p blank ∷ []) (sym n ∙ place_within at 0 (omega (arith, h)))
ring_back entries at (suc n) h k =
    ap (λ r. get_or entries at blank ∷ r)
    (ring_back entries (place_after at 1) n (place_below at 1 h (omega arith)) (omega (arith, k))
    ∙ ap (λ p. ring_from entries (place_after at 1) n ++ (get_or entries p blank ∷ [])) (place_on at n h (omega (arith, k))))

-- an entry that is put past them
ring_put : (entries : List Entry) (c : Entry) (at k n : ℕ) → at < max_window → n ≤ k → k < max_window
    → ring_from (set entries (place_after at k) c) at n ≡ ring_from entries at n
unfolding ring_from
ring_put entries c at k zero h i l = refl
ring_put entries c at zero (suc n) h i l = absurd (omega (arith, i))
ring_put entries c at (suc k) (suc n) h i l =
    ap₂ (λ a r. a ∷ r)
    (get_or-set_other entries (place_after at (suc k)) at c blank (other_place at k h l))
    (ap (λ p. ring_from (set entries p c) (place_after at 1) n) (sym (place_on at k h (omega (arith, l))))
    ∙ ring_put entries c (place_after at 1) k n (place_below at 1 h (omega arith)) (omega (arith, i)) (omega (arith, l)))

pub ring_entered : (entries : List Entry) (c : Entry) (at n : ℕ) → at < max_window → n < max_window → length entries ≡ max_window
    → ring_from (set entries (place_after at n) c) at (suc n) ≡ ring_from entries at n ++ (c ∷ [])
ring_entered entries c at n h k l =
    let p : place_after at n < length entries = omega (arith, l, place_below at n h (omega (arith, k))) in
    ring_back (set entries (place_after at n) c) at n h k
    ∙ ap₂ (λ r a. r ++ (a ∷ [])) (ring_put entries c at n n h (omega arith) k) (get_or-set_same entries (place_after at n) c blank p)
