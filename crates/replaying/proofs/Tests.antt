-- Tests: by their outcome, tests made of two, and one on every number of a list.
use mathlib.Core.Path.{◌≡◌, refl}
use mathlib.Core.Bool.{Bool, true, false, true≢false, cond, ◌&&◌, ◌||◌}
use mathlib.Core.List.{List, [], ◌∷◌}
use Prim.Native.Nat.{ℕ, zero, suc, ◌≤◌}
use native.Mathlib.Nat.{le_of_suc-le-suc, not-suc-le-zero}
use lib.Dec.{T, ltb}
use lib.ListN.{take}
use Rattle.standing.specs.Holding.{all_below}

-- two constructors that are told apart: `cc` proves the premise
pub clash : {X : Type 0} → true ≡ false → X
clash e = absurd (true≢false e)

-- by the outcome of a test
pub by_test {ℓ} : {A : Type 0} (P : A → Type ℓ) (b : Bool) (x y : A) → (b ≡ true → P x) → (b ≡ false → P y) → P (cond b x y)
by_test P true x y f g = f refl
by_test P false x y f g = g refl

pub passed : {A : Type 0} (P : A → Type 0) (b : Bool) (x y : A) → T b → P x → P (cond b x y)
passed P true x y t p = p
passed P false x y t p = absurd t

pub neither : (a b : Bool) → (a || b) ≡ false → (a ≡ false) × (b ≡ false)
neither true b e = absurd (true≢false e)
neither false b e = (refl, e)

pub both : (a b : Bool) → T a → T b → T (a && b)
both true b p q = q
both false b p q = p

pub each : (a b : Bool) → T (a && b) → T a × T b
each true b t = (tt, t)
each false b t = absurd t

-- numbers that are all below t in a beginning of a list are so in a shorter one
pub below_take : (t k n : ℕ) (ks : List ℕ) → k ≤ n → T (all_below t (take n ks)) → T (all_below t (take k ks))
below_take t zero n ks h b = tt
below_take t (suc k) zero ks h b = absurd (not-suc-le-zero h)
below_take t (suc k) (suc n) [] h b = tt
below_take t (suc k) (suc n) (j ∷ ks) h b =
    let parts : T (ltb j t) × T (all_below t (take n ks)) = each (ltb j t) (all_below t (take n ks)) b in
    both (ltb j t) (all_below t (take k ks)) parts.0 (below_take t k n ks (le_of_suc-le-suc h) parts.1)
