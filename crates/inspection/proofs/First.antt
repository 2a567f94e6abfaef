-- The first place of n at which something is so, counted from x: of what pick looks for, and of what is outside.
use mathlib.Core.Path.{◌≡◌, refl, sym, ap}
use mathlib.Core.Logic.{◌↔◌}
use Rattle.std.specs.Prelude.{Option, Some, None}
use Rattle.std.proofs.lemmas.Option.{none-some, same_Some}
use Prim.Native.Nat.{ℕ, zero, suc, ◌-◌, ◌≤◌, ◌<◌}
use native.Mathlib.Omega.{arith}

-- it is so at a place, and at none before; or at none
pub IsFirst : (ℕ → Type 0) → (ℕ → Type 0) → ℕ → ℕ → Option ℕ → Type 0
IsFirst So Not n x None = (k : ℕ) → k < n → Not k
IsFirst So Not n x (Some t) = (x ≤ t) × (t - x < n) × So (t - x) × ((k : ℕ) → k < t - x → Not k)

module _ (So Not : ℕ → Type 0) where
  pub nowhere : (x : ℕ) → IsFirst So Not 0 x None
  unfolding IsFirst
  nowhere x k h = absurd (omega arith)

  pub here : (n x : ℕ) → So 0 → IsFirst So Not (suc n) x (Some x)
  unfolding IsFirst
  here n x s =
      let z : x - x ≡ 0 = omega arith in
      (omega arith, rw z (omega arith), rw z s, λ k h. absurd (omega (arith, z)))

  pub later : (n x : ℕ) → Not 0 → (p : Option ℕ) → IsFirst (λ k. So (suc k)) (λ k. Not (suc k)) n (suc x) p → IsFirst So Not (suc n) x p
  unfolding IsFirst
  later n x o None f = λ k. elim k as (λ k. k < suc n → Not k) [ zero ↦ λ h. o | suc j ↦ λ h. f j (omega arith) ]
  later n x o (Some t) f =
      let e : t - x ≡ suc (t - suc x) = omega (arith, f.0) in
      (omega (arith, f.0), omega (arith, f.0, f.1), rw e f.2, λ k. elim k as (λ k. k < t - x → Not k) [ zero ↦ λ h. o | suc j ↦ λ h. f.3 j (omega (arith, e)) ])

  pub counted_from : (n x t : ℕ) → IsFirst So Not n x (Some t) → x ≤ t
  unfolding IsFirst
  counted_from n x t f = f.0

  -- counted from 0, where a place is not both: which is the first, and whether there is one
  module _ (clash : (k : ℕ) → So k → Not k → ⊥) (n : ℕ) where
    found_at : (p : Option ℕ) → IsFirst So Not n 0 p → (t : ℕ) → p ≡ Some t → (t < n) × So t × ((k : ℕ) → k < t → Not k)
    unfolding IsFirst
    found_at None f t e = absurd (none-some t e)
    found_at (Some u) f t e =
        let s : u ≡ t = same_Some u t e in
        let z : u - 0 ≡ t = omega arith in
        (omega (arith, f.1), rw z at f.2, λ k h. f.3 k (omega (arith, z)))

    at_found : (p : Option ℕ) → IsFirst So Not n 0 p → (t : ℕ) → (t < n) × So t × ((k : ℕ) → k < t → Not k) → p ≡ Some t
    unfolding IsFirst
    at_found None f t a = absurd (clash t a.1 (f t a.0))
    at_found (Some u) f t a =
        let z : u - 0 ≡ u = omega arith in
        let not_below : (u < t → ⊥) = λ h. clash u (rw z at f.2) (a.2 u h) in
        let not-above : (t < u → ⊥) = λ h. clash t a.1 (f.3 t (omega arith)) in
        ap Some (omega (arith, not_below, not-above))

    none_found : (p : Option ℕ) → IsFirst So Not n 0 p → p ≡ None → (t : ℕ) → t < n → Not t
    unfolding IsFirst
    none_found None f e = f
    none_found (Some u) f e = absurd (none-some u (sym e))

    found_none : (p : Option ℕ) → IsFirst So Not n 0 p → ((t : ℕ) → t < n → Not t) → p ≡ None
    unfolding IsFirst
    found_none None f a = refl
    found_none (Some u) f a = absurd (clash (u - 0) f.2 (a (u - 0) f.1))

    module _ (p : Option ℕ) (f : IsFirst So Not n 0 p) where
      pub first_is : (t : ℕ) → (p ≡ Some t) ↔ ((t < n) × So t × ((k : ℕ) → k < t → Not k))
      first_is t = (found_at p f t, at_found p f t)

      pub none_is : (p ≡ None) ↔ ((t : ℕ) → t < n → Not t)
      none_is = (none_found p f, found_none p f)
