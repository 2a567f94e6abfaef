-- The transitions of a model with one more, and the members of a list: MembersExact.
use mathlib.Core.Path.{◌≡◌, refl, sym, ap, ap₂, ◌∙◌, subst}
use mathlib.Core.Bool.{Bool, true, false, ◌&&◌}
use mathlib.Core.List.{List, [], ◌∷◌, ◌++◌, map}
use mathlib.Core.Option.{Option, some, none}
use Prim.Native.Nat.{ℕ, zero, suc, ◌<◌}
use native.Mathlib.Omega.{arith}
use borrow.Author.Tests.{lt-ltb}
use lib.Dec.{ltb, leb-suc-zero, leb-suc-suc}
use lib.ListN.{length, get_elem?}
use Rattle.model.specs.Trees.{Transition}
use Rattle.model.specs.WellFormed.{All}
use Rattle.semantics.proofs.Knowing.{element_all}
use Rattle.standing.specs.Holding.{all_below}
use Rattle.replaying.proofs.Tests.{clash}
use Rattle.synchronisation.specs.Synchronisations.{with_first, members_of}
use Rattle.synchronisation.specs.Theorems.{MembersExact}

-- ---- one transition more

-- the transition after the others is the new one
pub last_is : {A : Type 0} (ts : List A) (u : A) → get_elem? (ts ++ (u ∷ [])) (length ts) ≡ some u
last_is [] u = refl
last_is (t ∷ ts) u = last_is ts u

-- the others are where they were
pub old_stays : {A : Type 0} (ts : List A) (u : A) (k : ℕ) → k < length ts → get_elem? (ts ++ (u ∷ [])) k ≡ get_elem? ts k
old_stays [] u k h = absurd (omega arith)
old_stays (t ∷ ts) u zero h = refl
old_stays (t ∷ ts) u (suc k) h = old_stays ts u k (omega arith)

-- their number is one higher
pub one_more : {A : Type 0} (ts : List A) (u : A) → length (ts ++ (u ∷ [])) ≡ suc (length ts)
one_more [] u = refl
one_more (t ∷ ts) u = ap suc (one_more ts u)

-- what follows of each follows of all
pub all_weaken : {A : Type 0} (P Q : A → Type 0) → ((a : A) → P a → Q a) → (ts : List A) → All P ts → All Q ts
unfolding All
all_weaken P Q f [] h = tt
all_weaken P Q f (t ∷ ts) h = (f t h.0, all_weaken P Q f ts h.1)

-- ---- members

-- where a list with one more is there, both are
pub first_and_rest : (t : Option Transition) (us : Option (List Transition)) (vs : List Transition) → with_first t us ≡ some vs
    → (u : Transition) × (ws : List Transition) × (t ≡ some u) × (us ≡ some ws) × (vs ≡ u ∷ ws)
unfolding with_first
first_and_rest none us vs e = clash (cc)
first_and_rest (some t) none vs e = clash (cc)
first_and_rest (some t) (some us) vs e = (t, us, refl, refl, (cc))

-- what holds of every transition holds of every member
pub members_all : (P : Transition → Type 0) (ts : List Transition) → All P ts → (ks : List ℕ) (us : List Transition)
    → members_of ts ks ≡ some us → All P us
unfolding members_of All
members_all P ts h [] us e = let z : [] ≡ us = cc in subst (All P) z tt
members_all P ts h (k ∷ ks) us e =
    let f = first_and_rest (get_elem? ts k) (members_of ts ks) us e in
    rw f.4 (element_all P ts k f.0 h f.2, members_all P ts h ks f.1 f.3)

pub members_exact : MembersExact
unfolding members_of with_first
members_exact ts [] [] = (λ e. refl, λ e. refl)
members_exact ts (u ∷ us) [] = (λ e. clash (cc), λ e. clash (cc))
members_exact ts [] (k ∷ ks) = (
  λ e. let f = (first_and_rest (get_elem? ts k) (members_of ts ks) [] e).4 in clash (cc),
  λ e. clash (cc),
)
members_exact ts (u ∷ us) (k ∷ ks) = (
  λ e.
      let f = first_and_rest (get_elem? ts k) (members_of ts ks) (u ∷ us) e in
      let p : u ≡ f.0 = cc f.4 in
      let q : us ≡ f.1 = cc f.4 in
      ap₂ (λ (o : Option Transition) (os : List (Option Transition)). o ∷ os) (f.2 ∙ ap some (sym p)) ((members_exact ts us ks).0 (f.3 ∙ ap some (sym q))),
  λ e.
      let p : get_elem? ts k ≡ some u = cc in
      let q : map (λ k. get_elem? ts k) ks ≡ map some us = cc in
      rw (p, (members_exact ts us ks).1 q),
)

-- a member for each number: no members, no numbers
pub no_members : (ts : List Transition) (ks : List ℕ) → members_of ts ks ≡ some [] → ks ≡ []
unfolding members_of
no_members ts [] e = refl
no_members ts (k ∷ ks) e = let f = (first_and_rest (get_elem? ts k) (members_of ts ks) [] e).4 in clash (cc)

-- ---- which numbers have members

-- something is there
unfoldable pub is_there : {A : Type 0} → Option A → Bool
is_there none = false
is_there (some a) = true

-- a place below the length has a transition
place_there : (ts : List Transition) (k : ℕ) → is_there (get_elem? ts k) ≡ ltb k (length ts)
unfolding is_there
place_there [] k = rw (leb-suc-zero k)
place_there (t ∷ ts) zero = rw (lt-ltb 0 (suc (length ts)) (omega arith))
place_there (t ∷ ts) (suc k) = rw (leb-suc-suc (suc k) (length ts)) (place_there ts k)

-- a list with one more is there if both are
first_there : (t : Option Transition) (ts : Option (List Transition)) → is_there (with_first t ts) ≡ (is_there t && is_there ts)
unfolding is_there with_first
first_there none ts = refl
first_there (some t) none = refl
first_there (some t) (some ts) = refl

-- numbers that are all below the length have members
pub members_there : (ts : List Transition) (ks : List ℕ) → is_there (members_of ts ks) ≡ all_below (length ts) ks
unfolding members_of is_there
members_there ts [] = refl
members_there ts (k ∷ ks) = first_there (get_elem? ts k) (members_of ts ks) ∙ rw (place_there ts k, members_there ts ks)
