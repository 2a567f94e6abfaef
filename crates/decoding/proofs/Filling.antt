-- The table of next places, filled from the last node to the first: every entry follows the entries of its node's children.
use mathlib.Core.Path.{◌≡◌, refl, sym, ap, ◌∙◌, subst}
use mathlib.Core.Logic.{⊎_elim}
use mathlib.Core.Bool.{Bool, true, false, cond}
use mathlib.Core.List.{List}
use Prim.Native.Nat.{ℕ, zero, suc, ◌+◌, ◌-◌, ◌≤◌, ◌<◌}
use native.Mathlib.Nat.{eq-or-lt_of_le}
use native.Mathlib.Omega.{arith}
use borrow.Author.Tests.{lt-ltb, le-ltb, ltb-true}
use lib.Dec.{eqb, ltb}
use lib.IntN.{ℤ, pos, nat_abs}
use lib.ListN.{length, get_or, set, length-set}
use lib.Seq.{get_or-set_same, get_or-set_other}
use Rattle.kinds.specs.Kinds.{children_of}
use Rattle.decoding.specs.NextPlaces.{children_by, following, filled}

pub following_step : (nexts : List ℕ) (nodes n at : ℕ) → at < nodes
    → following nexts nodes (suc n) at ≡ following nexts nodes n (get_or nexts at 0)
unfolding following
following_step nexts nodes n at h = rw (lt-ltb at nodes h)

pub following_stop : (nexts : List ℕ) (nodes n at : ℕ) → nodes ≤ at → following nexts nodes n at ≡ at
unfolding following
following_stop nexts nodes zero at h = refl
following_stop nexts nodes (suc n) at h = rw (le-ltb at nodes h)

pub following_none : (nexts : List ℕ) (nodes n at : ℕ) → n ≤ 0 → following nexts nodes n at ≡ at
unfolding following
following_none nexts nodes zero at h = refl
following_none nexts nodes (suc n) at h = absurd (omega arith)

-- one entry further
pub following_turn : (nexts : List ℕ) (nodes n at : ℕ) → 0 < n → at < nodes
    → following nexts nodes n at ≡ following nexts nodes (n - 1) (get_or nexts at 0)
following_turn nexts nodes zero at h l = absurd (omega arith)
following_turn nexts nodes (suc n) at h l =
    let e : n ≡ suc n - 1 = omega arith in
    following_step nexts nodes n at l ∙ ap (λ n. following nexts nodes n (get_or nexts at 0)) e

-- ---- children

pub children_block : (k : ℕ) (p : ℤ) → eqb k 19 ≡ true → nat_abs p ≡ children_by k p
unfolding children_by
children_block k p e = rw (e)

pub children_row : (k : ℕ) (p : ℤ) → eqb k 19 ≡ false → children_of k ≡ children_by k p
unfolding children_by
children_row k p h = rw (h)

-- ---- two tables that agree from a place on

module _ (a b : List ℕ) (nodes from : ℕ)
    (same : (i : ℕ) → from ≤ i → i < nodes → get_or a i 0 ≡ get_or b i 0)
    (ascends : (i : ℕ) → from ≤ i → i < nodes → i < get_or b i 0) where
  pub following_same : (n at : ℕ) → from ≤ at → following a nodes n at ≡ following b nodes n at
  unfolding following
  following_same zero at h = refl
  following_same (suc n) at h = go (following_same n) (ltb at nodes) refl
    where
      go : ((next : ℕ) → from ≤ next → following a nodes n next ≡ following b nodes n next) → (t : Bool) → ltb at nodes ≡ t
          → cond t (following a nodes n (get_or a at 0)) at ≡ cond t (following b nodes n (get_or b at 0)) at
      go f true e =
          let l : at < nodes = ltb-true at nodes e in
          ap (following a nodes n) (same at h l) ∙ f (get_or b at 0) (omega (arith, ascends at h l))
      go f false e = refl

  pub following_above : (n at : ℕ) → from ≤ at → at ≤ following b nodes n at
  unfolding following
  following_above zero at h = omega arith
  following_above (suc n) at h = go (following_above n) (ltb at nodes) refl
    where
      go : ((next : ℕ) → from ≤ next → next ≤ following b nodes n next) → (t : Bool) → ltb at nodes ≡ t
          → at ≤ cond t (following b nodes n (get_or b at 0)) at
      go f true e =
          let l : at < nodes = ltb-true at nodes e in
          omega (arith, ascends at h l, f (get_or b at 0) (omega (arith, ascends at h l)))
      go f false e = omega arith

-- ---- filling

module _ (ks : List ℕ) (ps : List ℤ) where
  -- the number of children of the node at this place
  abbrev pub children_at : ℕ → ℕ
  children_at i = children_by (get_or ks i 0) (get_or ps i (pos 0))

  -- the entries from this place on are those of the nodes, and lead forward
  pub record FollowsFrom (nexts : List ℕ) (left : ℕ) : Type 0 where
    pub ascends : (i : ℕ) → left ≤ i → i < length ks → i < get_or nexts i 0
    pub follows : (i : ℕ) → left ≤ i → i < length ks → get_or nexts i 0 ≡ following nexts (length ks) (children_at i) (i + 1)

  pub follows_none : (nexts : List ℕ) → FollowsFrom nexts (length ks)
  follows_none nexts = record { ascends = λ i h l. absurd (omega arith); follows = λ i h l. absurd (omega arith) }

  abbrev pub entry_at : List ℕ → ℕ → ℕ
  entry_at nexts left = following nexts (length ks) (children_at left) (left + 1)

  module _ (nexts : List ℕ) (left : ℕ) (l : left < length nexts) (f : FollowsFrom nexts (suc left)) where
    other : (i : ℕ) → suc left ≤ i → get_or (set nexts left (entry_at nexts left)) i 0 ≡ get_or nexts i 0
    other i h = get_or-set_other nexts left i (entry_at nexts left) 0 (λ (e : i ≡ left). omega arith)

    same_after : (n at : ℕ) → suc left ≤ at
        → following (set nexts left (entry_at nexts left)) (length ks) n at ≡ following nexts (length ks) n at
    same_after = following_same (set nexts left (entry_at nexts left)) nexts (length ks) (suc left) (λ i h k. other i h) f.ascends

    follows_more : FollowsFrom (set nexts left (entry_at nexts left)) left
    follows_more =
        record {
          ascends = λ i h k.
              ⊎_elim
              (λ e. subst (λ i. i < get_or (set nexts left (entry_at nexts left)) i 0) e
              (omega (
                arith,
                get_or-set_same nexts left (entry_at nexts left) 0 l,
                following_above nexts nexts (length ks) (suc left) (λ i h k. refl) f.ascends (children_at left) (left + 1) (omega arith),
              )))
              (λ g. omega (arith, other i g, f.ascends i g k))
              (eq-or-lt_of_le h);
          follows = λ i h k.
              ⊎_elim
              (λ e. subst (λ i. get_or (set nexts left (entry_at nexts left)) i 0 ≡ entry_at (set nexts left (entry_at nexts left)) i) e
              (get_or-set_same nexts left (entry_at nexts left) 0 l ∙ sym (same_after (children_at left) (left + 1) (omega arith))))
              (λ g. other i g ∙ f.follows i g k ∙ sym (same_after (children_at i) (i + 1) (omega arith)))
              (eq-or-lt_of_le h);
        }

  pub filled_none : (left : ℕ) (nexts : List ℕ) → left ≤ 0 → filled ks ps left nexts ≡ nexts
  unfolding filled
  filled_none zero nexts h = refl
  filled_none (suc left) nexts h = absurd (omega arith)

  -- one entry more
  pub filled_turn : (left : ℕ) (nexts : List ℕ) (children entry : ℕ) → 0 < left → children ≡ children_at (left - 1)
      → entry ≡ following nexts (length ks) children (left - 1 + 1) → filled ks ps left nexts ≡ filled ks ps (left - 1) (set nexts (left - 1) entry)
  unfolding filled
  filled_turn zero nexts children entry h k e = absurd (omega arith)
  filled_turn (suc left) nexts children entry h k e =
      let p : left ≡ suc left - 1 = omega arith in
      subst (λ n. filled ks ps (suc left) nexts ≡ filled ks ps n (set nexts n entry)) p
      (ap (λ x. filled ks ps left (set nexts left x))
      (sym (e ∙ ap (λ n. following nexts (length ks) n (suc left - 1 + 1)) k ∙ ap (λ n. following nexts (length ks) (children_at n) (n + 1)) (sym p))))

  filled_follows : (left : ℕ) (nexts : List ℕ) → left ≤ length nexts → FollowsFrom nexts left → FollowsFrom (filled ks ps left nexts) 0
  unfolding filled
  filled_follows zero nexts h f = f
  filled_follows (suc left) nexts h f =
      filled_follows left (set nexts left (entry_at nexts left)) (omega (arith, length-set nexts left (entry_at nexts left))) (follows_more nexts left h f)

  pub filled_all : (nexts : List ℕ) → length ks ≤ length nexts → FollowsFrom (filled ks ps (length ks) nexts) 0
  filled_all nexts h = filled_follows (length ks) nexts h (follows_none nexts)

  pub filled_length : (left : ℕ) (nexts : List ℕ) → length (filled ks ps left nexts) ≡ length nexts
  unfolding filled
  filled_length zero nexts = refl
  filled_length (suc left) nexts =
      filled_length left (set nexts left (entry_at nexts left)) ∙ length-set nexts left (entry_at nexts left)
