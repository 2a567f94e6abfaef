-- The loop that finds the owners, from the first node to the last.
use mathlib.Core.Path.{◌≡◌, refl, sym, ap, subst, ◌∙◌}
use mathlib.Core.Logic.{⊎_elim}
use mathlib.Core.Bool.{Bool, true, false}
use mathlib.Core.List.{List}
use Prim.Native.Nat.{ℕ, ◌+◌, ◌≤◌, ◌<◌}
use native.Mathlib.Omega.{arith}
use native.Mathlib.Nat.{eq-or-lt_of_le}
use borrow.Author.Tests.{eqb-true, eqb-false}
use lib.Dec.{eqb}
use lib.ListN.{get_or}
use Rattle.waiting.specs.Index.{Owning, Owners}

-- the owners below a place, and the last assignment or if-then there
pub record Owned (ks : List ℕ) (at to last : ℕ) (owner : ℕ → ℕ) : Type 0 where
  pub latest : (o : ℕ) → at ≤ o → o < to → Owning (get_or ks o 0) → ((q : ℕ) → o < q → q < to → Owning (get_or ks q 0) → ⊥) → last ≡ o
  pub owners : Owners ks at to owner

module _ (ks : List ℕ) (at here last : ℕ) (owner : ℕ → ℕ) (o : Owned ks at here last owner) (below : last ≤ here) (r : ℕ)
    (assigns : get_or ks here 0 ≡ 17 → r ≡ here) (tests : get_or ks here 0 ≡ 18 → r ≡ here)
    (other : (get_or ks here 0 ≡ 17 → ⊥) → (get_or ks here 0 ≡ 18 → ⊥) → r ≡ last) where
  owning_here : Owning (get_or ks here 0) → r ≡ here
  owning_here w = by (eqb (get_or ks here 0) 17) (eqb (get_or ks here 0) 18) refl refl
    where
      by : (s t : Bool) → eqb (get_or ks here 0) 17 ≡ s → eqb (get_or ks here 0) 18 ≡ t → r ≡ here
      by true t e f = assigns (eqb-true (get_or ks here 0) 17 e)
      by false true e f = tests (eqb-true (get_or ks here 0) 18 f)
      by false false e f = absurd (w (eqb-false (get_or ks here 0) 17 e) (eqb-false (get_or ks here 0) 18 f))

  pub latest_within : r ≤ here
  latest_within = by (eqb (get_or ks here 0) 17) (eqb (get_or ks here 0) 18) refl refl
    where
      by : (s t : Bool) → eqb (get_or ks here 0) 17 ≡ s → eqb (get_or ks here 0) 18 ≡ t → r ≤ here
      by true t e f = omega (arith, assigns (eqb-true (get_or ks here 0) 17 e))
      by false true e f = omega (arith, tests (eqb-true (get_or ks here 0) 18 f))
      by false false e f = omega (arith, below, other (eqb-false (get_or ks here 0) 17 e) (eqb-false (get_or ks here 0) 18 f))

  now_latest : (p : ℕ) → at ≤ p → p < here + 1 → Owning (get_or ks p 0) → ((q : ℕ) → p < q → q < here + 1 → Owning (get_or ks q 0) → ⊥) → r ≡ p
  now_latest p l u w n =
      ⊎_elim (λ e. let z : p ≡ here = e in owning_here (subst (λ k. Owning (get_or ks k 0)) z w) ∙ sym z)
      (λ k. let none = n here k (omega arith) in
      other (λ e. none (λ a b. a e)) (λ e. none (λ a b. b e)) ∙ o.latest p l k w (λ q m v. n q m (omega (arith, v))))
      (eq-or-lt_of_le {n = p} {m = here} (omega (arith, u)))

  -- the next node's owner is found, and the others stay
  pub owned_goes : (next : ℕ → ℕ) → next here ≡ r → ((p : ℕ) → p < here → next p ≡ owner p) → Owned ks at (here + 1) r next
  owned_goes next now kept =
      record {
        latest = now_latest;
        owners =
            record {
              exact =
                  λ p q l u w. ⊎_elim
                  (λ e. let z : p ≡ here = e in
                  ap next z ∙ now ∙ now_latest q l (omega (arith, z, w.before)) w.owning (λ k m v. w.last k m (omega (arith, v, z))))
                  (λ k. kept p k ∙ o.owners.exact p q l k w)
                  (eq-or-lt_of_le {n = p} {m = here} (omega (arith, u)));
              within =
                  λ p l u. ⊎_elim
                  (λ e. let z : p ≡ here = e in let v : next p ≡ r = ap next z ∙ now in omega (arith, v, z, latest_within))
                  (λ k. omega (arith, kept p k, o.owners.within p l k))
                  (eq-or-lt_of_le {n = p} {m = here} (omega (arith, u)));
            };
      }
