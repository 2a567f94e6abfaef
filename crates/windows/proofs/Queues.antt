-- What a queue holds when its oldest entry is asked for or leaves, and when those at the back leave that a value reaches.
use mathlib.Core.Path.{◌≡◌, refl, ap}
use mathlib.Core.Bool.{Bool, true, false, cond}
use mathlib.Core.List.{List, [], ◌∷◌, ◌++◌}
use Prim.Native.Nat.{ℕ, zero, suc, ◌≤◌, ◌<◌}
use native.Mathlib.Omega.{arith}
use borrow.Author.Tests.{eq-eqb, ne_eqb}
use lib.IntN.{ℤ}
use lib.Signed.{le_z}
use lib.ListN.{length, get_or}
use Rattle.std.specs.Prelude.{Some, None}
use Rattle.windows.specs.declared.queue.Entry.{Entry}
use Rattle.windows.specs.Sliding.{without, front_value}
use Rattle.windows.specs.Lent.{blank, place_after, ring_from, yielding, yielded}

module _ (entries : List Entry) (at : ℕ) where
  -- ---- the oldest entry

  pub front_there : (n : ℕ) → 0 < n → Some (get_or entries at blank).value ≡ front_value (ring_from entries at n)
  unfolding ring_from front_value
  front_there zero h = absurd (omega (arith, h))
  front_there (suc n) h = refl

  pub front_missing : (n : ℕ) → n ≤ 0 → None ≡ front_value (ring_from entries at n)
  unfolding ring_from front_value
  front_missing zero h = refl
  front_missing (suc n) h = absurd (omega (arith, h))

  -- it leaves
  pub front_left : (row n m : ℕ) → n ≡ suc m → (get_or entries at blank).row ≡ row → ring_from entries (place_after at 1) m ≡ without row (ring_from entries at n)
  unfolding ring_from without
  front_left row zero m e h = absurd (omega (arith, e))
  front_left row (suc n) m e h =
      let k : m ≡ n = omega (arith, e) in
      rw (eq-eqb (get_or entries at blank).row row h) (ap (ring_from entries (place_after at 1)) k)

  pub front_kept : (row n : ℕ) → ((get_or entries at blank).row ≡ row → ⊥) → ring_from entries at n ≡ without row (ring_from entries at n)
  unfolding ring_from without
  front_kept row zero h = refl
  front_kept row (suc n) h = rw (ne_eqb (get_or entries at blank).row row h)

  pub none_left : (row n : ℕ) → n ≤ 0 → ring_from entries at n ≡ without row (ring_from entries at n)
  unfolding ring_from without
  none_left row zero h = refl
  none_left row (suc n) h = absurd (omega (arith, h))

  pub none_yielded : (v : ℤ) (n : ℕ) → n ≤ 0 → yielded v (ring_from entries at n) ≡ ring_from entries at n
  unfolding ring_from yielded
  none_yielded v zero h = refl
  none_yielded v (suc n) h = absurd (omega (arith, h))

-- ---- those at the back

module _ (v : ℤ) (c : Entry) where
  -- the last one leaves
  pub last_leaves : (cs : List Entry) → le_z c.value v ≡ true → yielded v (cs ++ (c ∷ [])) ≡ yielded v cs
  unfolding yielded yielding
  last_leaves [] e = rw e
  last_leaves (d ∷ ds) e = ap (yielding v d) (last_leaves ds e)

  -- or none does
  pub last_stays : (cs : List Entry) → le_z c.value v ≡ false → yielded v (cs ++ (c ∷ [])) ≡ cs ++ (c ∷ [])
  unfolding yielded yielding
  last_stays [] e = rw e
  last_stays (d ∷ []) e = ap (yielding v d) (last_stays [] e)
  last_stays (d ∷ f ∷ ds) e = ap (yielding v d) (last_stays (f ∷ ds) e)

yielding_short : (v : ℤ) (c : Entry) (ds : List Entry) → length (yielding v c ds) ≤ suc (length ds)
unfolding yielding
yielding_short v c [] = go (le_z c.value v)
  where
    go : (b : Bool) → length (cond b [] (c ∷ [])) ≤ 1
    go true = omega arith
    go false = omega arith
yielding_short v c (d ∷ ds) = omega arith

-- no more are left than there were
pub yielded_short : (v : ℤ) (cs : List Entry) → length (yielded v cs) ≤ length cs
unfolding yielded
yielded_short v [] = omega arith
yielded_short v (c ∷ cs) = omega (arith, yielding_short v c (yielded v cs), yielded_short v cs)
