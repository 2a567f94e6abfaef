-- The number of unknown variables among so many from one on: it never rises as more becomes known, and it falls where one of
-- them becomes known.
use mathlib.Core.Path.{◌≡◌, refl}
use mathlib.Core.Logic.{⊎_elim}
use mathlib.Core.Option.{Option, some, none}
use Prim.Native.Nat.{ℕ, zero, suc, ◌+◌, ◌≤◌, ◌<◌}
use native.Mathlib.Nat.{eq-or-lt_of_le}
use native.Mathlib.Omega.{arith}
use lib.IntN.{ℤ}
use Rattle.expressions.specs.Expressions.{Valuation}
use Rattle.semantics.specs.Theorems.{Extends}
use Rattle.semantics.specs.Counting.{unknown_one, unknowns}

one_bounded : (a : Option ℤ) → unknown_one a ≤ 1
one_bounded none = omega arith
one_bounded (some v) = omega arith

pub unknowns_bounded : (σ : Valuation) (n x : ℕ) → unknowns σ n x ≤ n
unfolding unknowns
unknowns_bounded σ zero x = omega arith
unknowns_bounded σ (suc n) x = omega (arith, one_bounded (σ x), unknowns_bounded σ n (suc x))

one_keeps : (a b : Option ℤ) → ((v : ℤ) → a ≡ some v → b ≡ some v) → unknown_one b ≤ unknown_one a
one_keeps none b h = one_bounded b
one_keeps (some v) b h = rw (h v refl) (omega arith)

pub unknowns_keep : (σ τ : Valuation) → Extends σ τ → (n x : ℕ) → unknowns τ n x ≤ unknowns σ n x
unfolding unknowns
unknowns_keep σ τ h zero x = omega arith
unknowns_keep σ τ h (suc n) x = omega (arith, one_keeps (σ x) (τ x) (h x), unknowns_keep σ τ h n (suc x))

pub unknowns_fall : (σ τ : Valuation) → Extends σ τ → (y : ℕ) (v : ℤ) → σ y ≡ none → τ y ≡ some v
    → (n x : ℕ) → x ≤ y → y < x + n → unknowns τ n x < unknowns σ n x
unfolding unknowns
unknowns_fall σ τ h y v p q zero x l u = absurd (omega arith)
unknowns_fall σ τ h y v p q (suc n) x l u =
    ⊎_elim here (λ k. omega (arith, one_keeps (σ x) (τ x) (h x), unknowns_fall σ τ h y v p q n (suc x) k (omega arith)))
    (eq-or-lt_of_le l)
  where
    here : x ≡ y → unknown_one (τ x) + unknowns τ n (suc x) < unknown_one (σ x) + unknowns σ n (suc x)
    here e = rw (e, p, q) (omega (arith, unknowns_keep σ τ h n (suc y)))
