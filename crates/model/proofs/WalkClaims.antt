-- Walks that find something of which a claim holds, and what a refusal of none tells of the node that is due.
use mathlib.Core.Path.{◌≡◌, refl, subst}
use mathlib.Core.Bool.{Bool, true, false, cond, not}
use mathlib.Core.List.{List}
use Prim.Native.Nat.{ℕ, ◌<◌}
use native.Mathlib.Omega.{arith}
use borrow.Author.Tests.{leb-false, eqb-false, lt-leb, ne_eqb}
use lib.Dec.{eqb, leb}
use lib.IntN.{ℤ}
use lib.ListN.{length}
use Rattle.std.specs.Prelude.{Option, Some, None}
use Rattle.results.specs.declared.refusal.Refusal.{Refusal}
use Rattle.results.specs.declared.refusal.Refusal.TheVariants.{MissingNode, TooDeep, KindNotAllowed, ParameterNotAllowed}
use Rattle.model.specs.Walk.{Walk, and_then, unless_refused}
use Rattle.syntax.specs.Readings.{refusal_at, kind_at, parameter_at}
use Rattle.model.specs.Walk.Walk.{refused, found}
use Rattle.model.specs.Standing.{NodeAt}

-- whatever this walk finds, the claim holds of it
unfoldable pub Holds : {A : Type 0} → (A → ℕ → Type 0) → Walk A → Type 0
Holds P (refused n) = Unit {0}
Holds P (found a next) = P a next

pub holds_found : {A : Type 0} (P : A → ℕ → Type 0) {w : Walk A} {a : A} {next : ℕ} → Holds P w → w ≡ found a next → P a next
unfolding Holds
holds_found P h e = subst (Holds P) e h

pub holds_map : {A : Type 0} (P Q : A → ℕ → Type 0) (w : Walk A) → ((a : A) (next : ℕ) → P a next → Q a next) → Holds P w → Holds Q w
unfolding Holds
holds_map P Q (refused n) f h = tt
holds_map P Q (found a next) f h = f a next h

pub holds_then : {A B : Type 0} (P : A → ℕ → Type 0) (Q : B → ℕ → Type 0) (w : Walk A) (k : A → ℕ → Walk B)
    → Holds P w → ((a : A) (next : ℕ) → P a next → Holds Q (k a next)) → Holds Q (and_then w k)
unfolding Holds and_then
holds_then P Q (refused n) k h f = tt
holds_then P Q (found a next) k h f = f a next h

pub holds_unless : {A : Type 0} (P : A → ℕ → Type 0) (o : Option Refusal) (w : Walk A) → (o ≡ None → Holds P w) → Holds P (unless_refused o w)
unfolding Holds unless_refused
holds_unless P None w f = f refl
holds_unless P (Some r) w f = tt

-- ---- the node that is due offends none of 4 to 7

pub record Due (ks : List ℕ) (ps : List ℤ) (allowed : ℕ → Bool) (fits : ℕ → ℤ → Bool) (left at : ℕ) : Type 0 where
  pub within : at < length ks
  pub deep : 0 < left
  pub allows : allowed (kind_at ks ps at) ≡ true
  pub suits : fits (kind_at ks ps at) (parameter_at ks ps at) ≡ true

module _ (ks : List ℕ) (ps : List ℤ) (allowed : ℕ → Bool) (fits : ℕ → ℤ → Bool) (left at : ℕ) where
  refusal_by : (a b c d : Bool) → leb (length ks) at ≡ a → eqb left 0 ≡ b → allowed (kind_at ks ps at) ≡ c → fits (kind_at ks ps at) (parameter_at ks ps at) ≡ d
      → cond a (Some MissingNode) (cond b (Some TooDeep) (cond (not c) (Some KindNotAllowed) (cond (not d) (Some ParameterNotAllowed) None))) ≡ None → Due ks ps allowed fits left at
  refusal_by true b c d p q r s e = cc
  refusal_by false true c d p q r s e = cc
  refusal_by false false false d p q r s e = cc
  refusal_by false false true false p q r s e = cc
  refusal_by false false true true p q r s e =
      record { within = leb-false (length ks) at p; deep = omega (arith, eqb-false left 0 q); allows = r; suits = s }

  pub no_refusal : refusal_at ks ps allowed fits left at ≡ None → Due ks ps allowed fits left at
  unfolding refusal_at
  no_refusal e = refusal_by (leb (length ks) at) (eqb left 0) (allowed (kind_at ks ps at)) (fits (kind_at ks ps at) (parameter_at ks ps at)) refl refl refl refl e

  pub due_refusal : Due ks ps allowed fits left at → refusal_at ks ps allowed fits left at ≡ None
  unfolding refusal_at
  due_refusal d = rw (lt-leb (length ks) at d.within, ne_eqb left 0 (λ (e : left ≡ 0). omega (arith, d.deep)), d.allows, d.suits)

  -- a node that stands there, allowed and fit
  pub node_refusal : (k : ℕ) (p : ℤ) → NodeAt ks ps at k p → 0 < left → allowed k ≡ true → fits k p ≡ true → refusal_at ks ps allowed fits left at ≡ None
  node_refusal k p n d a f = due_refusal (record { within = n.within; deep = d; allows = rw n.kind a; suits = rw (n.kind, n.parameter) f })
