-- What the rounds come to: a fault met at a derived valuation, or a derived valuation at rest, after at most one round more than
-- there are flows.
use mathlib.Core.Path.{◌≡◌, refl, ap, ◌∙◌}
use mathlib.Core.Logic.{◌⊎◌, inl, inr}
use mathlib.Core.Bool.{Bool, true, false, true≢false, cond}
use mathlib.Core.List.{List, Memᴰ}
use mathlib.Core.Option.{Option, some, none}
use Prim.Native.Nat.{ℕ, zero, suc, ◌+◌, ◌≤◌, ◌<◌}
use native.Mathlib.Omega.{arith}
use lib.IntN.{ℤ}
use lib.ListN.{length}
use Rattle.model.specs.Trees.{Instruction, Variable, System, variables}
use Rattle.model.specs.WellFormed.{WellFormed}
use Rattle.expressions.specs.Expressions.{Valuation, known_from}
use Rattle.interpreter.specs.Instructions.{Effect, any, effects, fault_of, given_to, first_of}
use Rattle.interpreter.specs.declared.Fault.{Fault}
use Rattle.interpreter.specs.Instructions.Effect.{gives}
use Rattle.semantics.specs.Actions.{cells}
use Rattle.semantics.specs.Propagation.{Reached, is_new, extended, rounds, round_by, reset_by, finished_by, finish, settled_from, settle}
use Rattle.semantics.specs.Propagation.Reached.{stopped, reached}
use Rattle.semantics.specs.Propagation.Settled.{settled}
use Rattle.semantics.specs.Theorems.{Extends}
use Rattle.semantics.proofs.Effects.{given_member, member_given, target}
use Rattle.semantics.specs.Counting.{unknowns}
use Rattle.semantics.proofs.Counting.{unknowns_bounded, unknowns_fall}
use Rattle.semantics.proofs.Derived.{Onward, Derived, AtRest, new_value}
use Rattle.semantics.proofs.Derived.Derived.{start, onward}

-- ---- one round

extended_keeps : (es : List Effect) (σ : Valuation) → Extends σ (extended es σ)
unfolding first_of
extended_keeps es σ x v e = rw e

extended_given : (es : List Effect) (σ : Valuation) (x : ℕ) (v : ℤ) → extended es σ x ≡ some v → (σ x ≡ some v) ⊎ Memᴰ (gives x v) es
unfolding first_of
extended_given es σ x v e = go (σ x) refl e
  where
    go : (o : Option ℤ) → σ x ≡ o → first_of o (given_to x es) ≡ some v → (σ x ≡ some v) ⊎ Memᴰ (gives x v) es
    go none k f = inr (given_member x es v f)
    go (some w) k f = inl (k ∙ f)

pub round_onward : (i : Instruction) (σ : Valuation) → Onward i σ (extended (effects i σ) σ)
round_onward i σ = record { keeps = extended_keeps (effects i σ) σ; given = extended_given (effects i σ) σ }

-- ---- all rounds

-- a fault that is met at a derived valuation, or a derived valuation at rest, and the bound of the round count
pub data Outcome (vs : List Variable) (i : Instruction) (flows : ℕ) (σ : Valuation) : Reached → Type 0 where
  fault : {f : Fault} (τ : Valuation) → Derived i σ τ → fault_of vs τ (effects i τ) ≡ some f → Outcome vs i flows σ (stopped f)
  rest : {c : ℕ} {τ : Valuation} → Derived i σ τ → AtRest i vs τ → 1 ≤ c → c ≤ suc flows → Outcome vs i flows σ (reached c τ)

-- the instruction gives values to variables from `first` on alone, `flows` many
abbrev pub Targets : Instruction → ℕ → ℕ → Type 0
Targets i first flows = (σ : Valuation) (x : ℕ) (v : ℤ) → Memᴰ (gives x v) (effects i σ) → (first ≤ x) × (x < first + flows)

module _ (vs : List Variable) (i : Instruction) (first flows : ℕ) (targets : Targets i first flows) where
  -- a round that sets something leaves fewer unknown
  pub round_falls : (σ : Valuation) → any (is_new σ) (effects i σ) ≡ true
      → unknowns (extended (effects i σ) σ) flows first < unknowns σ flows first
  unfolding first_of
  round_falls σ e =
      let n = new_value (effects i σ) σ e in
      let g = member_given n.to n.value (effects i σ) n.given in
      let t = targets σ n.to n.value n.given in
      let k : extended (effects i σ) σ n.to ≡ some g.0 = rw n.unknown g.1 in
      unknowns_fall σ (extended (effects i σ) σ) (extended_keeps (effects i σ) σ) n.to g.0 n.unknown k flows first t.0 t.1

  outcome_from : (σ₀ : Valuation) (fuel count : ℕ) (σ : Valuation) → Derived i σ₀ σ → unknowns σ flows first < fuel
      → count + unknowns σ flows first ≤ flows → Outcome vs i flows σ₀ (rounds vs i fuel count σ)
  unfolding rounds round_by
  outcome_from σ₀ zero count σ d u b = absurd (omega arith)
  outcome_from σ₀ (suc fuel) count σ d u b =
      by_fault (fault_of vs σ (effects i σ)) refl (outcome_from σ₀ fuel (suc count) (extended (effects i σ) σ) (onward d (round_onward i σ)))
    where
      Next : Type 0
      Next = unknowns (extended (effects i σ) σ) flows first < fuel → suc count + unknowns (extended (effects i σ) σ) flows first ≤ flows
          → Outcome vs i flows σ₀ (rounds vs i fuel (suc count) (extended (effects i σ) σ))

      by_new : (t : Bool) → any (is_new σ) (effects i σ) ≡ t → fault_of vs σ (effects i σ) ≡ none → Next
          → Outcome vs i flows σ₀ (cond t (rounds vs i fuel (suc count) (extended (effects i σ) σ)) (reached (suc count) σ))
      by_new true n f next = let k = round_falls σ n in next (omega arith) (omega arith)
      by_new false n f next = rest {c = suc count} d (record { no_fault = f; nothing_new = n }) (omega arith) (omega arith)

      by_fault : (o : Option Fault) → fault_of vs σ (effects i σ) ≡ o → Next
          → Outcome vs i flows σ₀ (round_by (λ c τ. rounds vs i fuel c τ) count σ (effects i σ) o)
      by_fault none f next = by_new (any (is_new σ) (effects i σ)) refl f next
      by_fault (some g) f next = fault σ d f

  pub outcome : (σ : Valuation) (fuel : ℕ) → flows < fuel → Outcome vs i flows σ (rounds vs i fuel 0 σ)
  outcome σ fuel u =
      let b = unknowns_bounded σ flows first in
      outcome_from σ fuel 0 σ start (omega arith) (omega arith)

  -- the fuel is not met: any that is above the number of unknown flows makes the same rounds
  rounds_same : (fuel more count : ℕ) (σ : Valuation) → unknowns σ flows first < fuel → unknowns σ flows first < more
      → rounds vs i fuel count σ ≡ rounds vs i more count σ
  unfolding rounds round_by
  rounds_same zero more count σ u w = absurd (omega arith)
  rounds_same (suc fuel) zero count σ u w = absurd (omega arith)
  rounds_same (suc fuel) (suc more) count σ u w =
      by_fault (fault_of vs σ (effects i σ)) (rounds_same fuel more (suc count) (extended (effects i σ) σ))
    where
      τ : Valuation
      τ = extended (effects i σ) σ

      Next : Type 0
      Next = unknowns τ flows first < fuel → unknowns τ flows first < more → rounds vs i fuel (suc count) τ ≡ rounds vs i more (suc count) τ

      by_new : (t : Bool) → any (is_new σ) (effects i σ) ≡ t → Next
          → cond t (rounds vs i fuel (suc count) τ) (reached (suc count) σ) ≡ cond t (rounds vs i more (suc count) τ) (reached (suc count) σ)
      by_new true n next = let k = round_falls σ n in next (omega arith) (omega arith)
      by_new false n next = refl

      by_fault : (o : Option Fault) → Next
          → round_by (λ c τ. rounds vs i fuel c τ) count σ (effects i σ) o ≡ round_by (λ c τ. rounds vs i more c τ) count σ (effects i σ) o
      by_fault none next = by_new (any (is_new σ) (effects i σ)) refl next
      by_fault (some g) next = refl

  pub fuel_not_met : (σ : Valuation) (fuel more : ℕ) → flows < fuel → flows < more → rounds vs i fuel 0 σ ≡ rounds vs i more 0 σ
  fuel_not_met σ fuel more u w =
      let b = unknowns_bounded σ flows first in
      rounds_same fuel more 0 σ (omega arith) (omega arith)

-- ---- of a model

pub assertion_targets : (t : System) → WellFormed t → Targets t.assertion (length t.states) (length t.flows)
assertion_targets t w σ x v m = target t.assertion _ σ w.assertion x v m

pub finished : (c : ℕ) (cs : List ℤ) (o : Option Fault) (count : ℕ) (values : List ℤ) → finished_by c cs o ≡ settled count values
    → (c ≡ count) × (cs ≡ values)
unfolding finished_by
finished c cs none count values e = (cc, cc)
finished c cs (some f) count values e = (cc, cc)

length_cells : (σ : Valuation) (n x : ℕ) → length (cells σ n x) ≡ n
unfolding cells
length_cells σ zero x = refl
length_cells σ (suc n) x = ap suc (length_cells σ n (suc x))

pub rounds_bounded_tree : (t : System) → WellFormed t → (ss : List ℤ) (count : ℕ) (values : List ℤ) → settle t ss ≡ settled count values
    → (1 ≤ count) × (count ≤ suc (length t.flows)) × (length values ≡ length (variables t))
unfolding settle settled_from finish
rounds_bounded_tree t w ss count values e = go _ (outcome vs i S F (assertion_targets t w) (known_from ss) (suc F) (omega arith)) e
  where
    vs : List Variable
    vs = variables t

    i : Instruction
    i = t.assertion

    S : ℕ
    S = length t.states

    F : ℕ
    F = length t.flows

    go : (r : Reached) → Outcome vs i F (known_from ss) r → settled_from vs i r ≡ settled count values
        → (1 ≤ count) × (count ≤ suc F) × (length values ≡ length vs)
    go r (fault τ d f) e = let z : true ≡ false = cc in absurd (true≢false z)
    go r (rest {c} {τ} d a l u) e =
        let h = finished c (cells (reset_by vs τ) (length vs) 0) _ count values e in
        (rw (← h.0) l, rw (← h.0) u, rw (← h.1) (length_cells (reset_by vs τ) (length vs) 0))
