-- Sequential propagation: every complete sequence of single assignments ends as the rounds do, none has more steps than there are
-- flows, and every one can be completed.
use mathlib.Core.Path.{◌≡◌, refl, sym, ap, ◌∙◌}
use mathlib.Core.Logic.{◌⊎◌, inl, inr}
use mathlib.Core.Bool.{Bool, true, false, true≢false, cond}
use mathlib.Core.List.Memᴰ
use mathlib.Core.List.{List, Memᴰ}
use mathlib.Core.Option.{Option, some, none}
use Prim.Native.Nat.{ℕ, zero, suc, ◌+◌, ◌≤◌, ◌<◌}
use native.Mathlib.Omega.{arith}
use borrow.Author.Tests.{eqb-true, eq-eqb}
use lib.Dec.{eqb}
use lib.IntN.{ℤ}
use lib.ListN.{length}
use Rattle.model.specs.Trees.{Instruction, Variable, System, variables}
use Rattle.model.specs.WellFormed.{WellFormed}
use Rattle.expressions.specs.Expressions.{Valuation, known_from}
use Rattle.interpreter.specs.Instructions.{any, effects, fault_of}
use Rattle.interpreter.specs.declared.Fault.{Fault}
use Rattle.interpreter.specs.Instructions.Effect.{gives}
use Rattle.semantics.specs.Actions.{cells}
use Rattle.semantics.specs.Propagation.{Reached, is_new, reset_by, finished_by, finish, settled_from, settle}
use Rattle.semantics.specs.Sequential.{Ended, end_of, with_value, Steps, Ends, Sequence}
use Rattle.semantics.specs.Sequential.Steps.{start, step}
use Rattle.semantics.specs.Sequential.Ends.{faulted, exhausted}
use Rattle.semantics.specs.Theorems.{Extends}
use Rattle.semantics.specs.Counting.{unknowns}
use Rattle.semantics.proofs.Counting.{unknowns_bounded, unknowns_fall}
use Rattle.semantics.proofs.Derived.{Onward, Derived, derived_no_fault, derived_same, new_value}
use Rattle.semantics.proofs.Derived.Derived.{start as derived_start, onward}
use Rattle.semantics.proofs.Rounds.{Outcome, Targets, outcome, assertion_targets}
use Rattle.semantics.proofs.Rounds.Outcome.{fault, rest}

some≢none : {A : Type 0} (a : A) → some a ≡ none → ⊥
some≢none a e = let z : true ≡ false = cc in true≢false z

-- ---- one assignment

module _ (σ : Valuation) (x : ℕ) (v : ℤ) (unknown : σ x ≡ none) where
  with_value_keeps : Extends σ (with_value x v σ)
  with_value_keeps y w e = go (eqb y x) refl
    where
      go : (t : Bool) → eqb y x ≡ t → cond t (some v) (σ y) ≡ some w
      go true q = absurd (some≢none w (sym e ∙ ap σ (eqb-true y x q) ∙ unknown))
      go false q = e

  with_value_here : with_value x v σ x ≡ some v
  with_value_here = rw (eq-eqb x x refl)

  single_onward : (i : Instruction) → Memᴰ (gives x v) (effects i σ) → Onward i σ (with_value x v σ)
  single_onward i m = record { keeps = with_value_keeps; given = λ y w e. go y w (eqb y x) refl e }
    where
      go : (y : ℕ) (w : ℤ) (t : Bool) → eqb y x ≡ t → cond t (some v) (σ y) ≡ some w → (σ y ≡ some w) ⊎ Memᴰ (gives y w) (effects i σ)
      go y w true q e = let p : gives y w ≡ gives x v = cc (eqb-true y x q) in inr (Memᴰ.cast p m)
      go y w false q e = inl e

-- ---- sequences

-- the round count does not bear on how it ends
end_of_finish : (vs : List Variable) (i : Instruction) (c : ℕ) (σ : Valuation) → end_of (finish vs i 0 σ) ≡ end_of (finish vs i c σ)
unfolding finish finished_by end_of
end_of_finish vs i c σ = go (fault_of vs (reset_by vs σ) (effects i (reset_by vs σ)))
  where
    go : (o : Option Fault) → end_of (finished_by 0 (cells (reset_by vs σ) (length vs) 0) o) ≡ end_of (finished_by c (cells (reset_by vs σ) (length vs) 0) o)
    go none = refl
    go (some f) = refl

module _ (vs : List Variable) (i : Instruction) where
  steps_derive : (n : ℕ) (σ τ : Valuation) → Steps vs i n σ τ → Derived i σ τ
  steps_derive n σ τ start = derived_start
  steps_derive n σ τ (step {n = k} {τ = ρ} {x} {v} s f m u) = onward (steps_derive k σ ρ s) (single_onward ρ x v u i m)

  module _ (flows : ℕ) where
    ends_alike : (σ τ : Valuation) → Derived i σ τ → (e : Ended) → Ends vs i τ e → (r : Reached) → Outcome vs i flows σ r
        → e ≡ end_of (settled_from vs i r)
    unfolding settled_from end_of
    ends_alike σ τ d e (faulted {f} q) r (fault ρ d' p) = refl
    ends_alike σ τ d e (faulted {f} q) r (rest {τ = ρ} d' a l u) = absurd (some≢none f (sym q ∙ derived_no_fault i vs σ τ ρ d d' a))
    ends_alike σ τ d e (exhausted q n) r (fault {f} ρ d' p) =
        absurd (some≢none f (sym p ∙ derived_no_fault i vs σ ρ τ d' d (record { no_fault = q; nothing_new = n })))
    ends_alike σ τ d e (exhausted q n) r (rest {c} {τ = ρ} d' a l u) =
        ap (λ κ. end_of (finish vs i 0 κ)) (derived_same i vs σ τ ρ d d' (record { no_fault = q; nothing_new = n }) a) ∙ end_of_finish vs i c ρ

    module _ (first : ℕ) (targets : Targets i first flows) where
      single_falls : (σ : Valuation) (x : ℕ) (v : ℤ) → Memᴰ (gives x v) (effects i σ) → σ x ≡ none
          → unknowns (with_value x v σ) flows first < unknowns σ flows first
      single_falls σ x v m u =
          let t = targets σ x v m in
          unknowns_fall σ (with_value x v σ) (with_value_keeps σ x v u) x v u (with_value_here σ x v u) flows first t.0 t.1

      steps_fall : (n : ℕ) (σ τ : Valuation) → Steps vs i n σ τ → n + unknowns τ flows first ≤ unknowns σ flows first
      steps_fall n σ τ start = omega arith
      steps_fall n σ τ (step {n = k} {τ = ρ} {x} {v} s f m u) = omega (arith, steps_fall k σ ρ s, single_falls ρ x v m u)

      steps_bounded : (n : ℕ) (σ τ : Valuation) → Steps vs i n σ τ → n ≤ flows
      steps_bounded n σ τ s = omega (arith, steps_fall n σ τ s, unknowns_bounded σ flows first)

      complete_from : (σ : Valuation) (fuel n : ℕ) (τ : Valuation) → Steps vs i n σ τ → unknowns τ flows first < fuel
          → (e : Ended) × Sequence vs i σ e
      complete_from σ zero n τ s u = absurd (omega arith)
      complete_from σ (suc fuel) n τ s u =
          by_fault (fault_of vs τ (effects i τ)) refl (λ κ k b. complete_from σ fuel (suc n) κ k b)
        where
          Next : Type 0
          Next = (κ : Valuation) → Steps vs i (suc n) σ κ → unknowns κ flows first < fuel → (e : Ended) × Sequence vs i σ e

          by_new : (t : Bool) → any (is_new τ) (effects i τ) ≡ t → fault_of vs τ (effects i τ) ≡ none → Next → (e : Ended) × Sequence vs i σ e
          by_new false q f next = (_, record { count = n; last = τ; steps = s; ends = exhausted f q })
          by_new true q f next =
              let w = new_value (effects i τ) τ q in
              let k = single_falls τ w.to w.value w.given w.unknown in
              next (with_value w.to w.value τ) (step s f w.given w.unknown) (omega arith)

          by_fault : (o : Option Fault) → fault_of vs τ (effects i τ) ≡ o → Next → (e : Ended) × Sequence vs i σ e
          by_fault none f next = by_new (any (is_new τ) (effects i τ)) refl f next
          by_fault (some g) f next = (_, record { count = n; last = τ; steps = s; ends = faulted f })

      complete : (σ : Valuation) → (e : Ended) × Sequence vs i σ e
      complete σ = complete_from σ (suc (unknowns σ flows first)) 0 σ start (omega arith)

-- a sequence may be gone on with
steps_append : (vs : List Variable) (i : Instruction) (n k : ℕ) (σ τ ρ : Valuation) → Steps vs i n σ τ → Steps vs i k τ ρ
    → (m : ℕ) × Steps vs i m σ ρ
steps_append vs i n k σ τ ρ s start = (n, s)
steps_append vs i n k σ τ ρ s (step {n = l} {τ = κ} {x} {v} r f m u) =
    let a = steps_append vs i n l σ τ κ s r in (suc a.0, step a.1 f m u)

pub sequence_continues : (vs : List Variable) (i : Instruction) (n : ℕ) (σ τ : Valuation) (e : Ended) → Steps vs i n σ τ
    → Sequence vs i τ e → Sequence vs i σ e
sequence_continues vs i n σ τ e s q =
    let a = steps_append vs i n q.count σ τ q.last s q.steps in
    record { count = a.0; last = q.last; steps = a.1; ends = q.ends }

-- ---- of a model

module _ (t : System) (w : WellFormed t) (ss : List ℤ) where
  vs : List Variable
  vs = variables t

  i : Instruction
  i = t.assertion

  F : ℕ
  F = length t.flows

  agrees : (e : Ended) → Sequence (variables t) t.assertion (known_from ss) e → e ≡ end_of (settle t ss)
  unfolding settle vs i F
  agrees e q =
      ends_alike vs i F (known_from ss) q.last (steps_derive vs i q.count (known_from ss) q.last q.steps) e q.ends _
      (outcome vs i (length t.states) F (assertion_targets t w) (known_from ss) (suc F) (omega arith))

  pub sequential_tree :
      ((e : Ended) → Sequence (variables t) t.assertion (known_from ss) e → e ≡ end_of (settle t ss))
      × ((n : ℕ) (σ : Valuation) → Steps (variables t) t.assertion n (known_from ss) σ
      → (n ≤ length t.flows) × ((e : Ended) × Sequence (variables t) t.assertion σ e × (e ≡ end_of (settle t ss))))
  unfolding vs i F
  sequential_tree = (
    agrees,
    λ n σ s.
        let c = complete vs i F (length t.states) (assertion_targets t w) σ in (
          steps_bounded vs i F (length t.states) (assertion_targets t w) n (known_from ss) σ s,
          (c.0, c.1, agrees c.0 (sequence_continues vs i n (known_from ss) σ c.0 s c.1)),
        ),
  )
