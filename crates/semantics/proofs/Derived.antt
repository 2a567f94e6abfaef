-- A valuation is derived from another by making known, any number of times, some of the values that the instruction gives. All
-- that is derived stays below a valuation at rest (no fault, nothing new) that the start is below; so two derived valuations at
-- rest are the same, and none derived has a fault if one is at rest. Rounds and single assignments both derive.
use mathlib.Core.Path.{◌≡◌, refl, sym, ◌∙◌, fun_ext}
use mathlib.Core.Logic.{◌⊎◌, ⊎_elim}
use mathlib.Core.Bool.{false, true, false≢true, not}
use mathlib.Core.List.{List, Memᴰ}
use mathlib.Core.Option.{Option, some, none}
use Prim.Native.Nat.{ℕ}
use lib.IntN.{ℤ}
use Rattle.model.specs.Trees.{Instruction, Variable}
use Rattle.expressions.specs.Expressions.{Valuation}
use Rattle.interpreter.specs.Instructions.{Effect, any, effects, fault_of}
use Rattle.interpreter.specs.Instructions.Effect.{fails, gives}
use Rattle.semantics.specs.Propagation.{is_new, is_known}
use Rattle.semantics.specs.Theorems.{Extends}
use Rattle.semantics.proofs.Growth.{effects_grow}
use Rattle.semantics.proofs.Effects.{witness, given_at_rest, no_fault_below}

pub extends_antisym : (σ τ : Valuation) → Extends σ τ → Extends τ σ → σ ≡ τ
extends_antisym σ τ h k = fun_ext (λ x. go x (σ x) (τ x) refl refl)
  where
    go : (x : ℕ) (a b : Option ℤ) → σ x ≡ a → τ x ≡ b → σ x ≡ τ x
    go x none none p q = p ∙ sym q
    go x none (some w) p q = k x w q ∙ sym q
    go x (some v) b p q = p ∙ sym (h x v p)

module _ (i : Instruction) where
  -- what is known stays, and what becomes known is given by the instruction
  pub record Onward (σ τ : Valuation) : Type 0 where
    pub keeps : Extends σ τ
    pub given : (x : ℕ) (v : ℤ) → τ x ≡ some v → (σ x ≡ some v) ⊎ Memᴰ (gives x v) (effects i σ)

  pub data Derived (σ : Valuation) : Valuation → Type 0 where
    start : Derived σ σ
    onward : {τ ρ : Valuation} → Derived σ τ → Onward τ ρ → Derived σ ρ

  pub derived_extends : (σ τ : Valuation) → Derived σ τ → Extends σ τ
  derived_extends σ τ start x v e = e
  derived_extends σ τ (onward {τ = ρ} d s) x v e = s.keeps x v (derived_extends σ ρ d x v e)

  module _ (vs : List Variable) where
    pub record AtRest (σ : Valuation) : Type 0 where
      pub no_fault : fault_of vs σ (effects i σ) ≡ none
      pub nothing_new : any (is_new σ) (effects i σ) ≡ false

    pub derived_below : (σ τ ρ : Valuation) → Derived σ τ → Extends σ ρ → AtRest ρ → Extends τ ρ
    derived_below σ τ ρ start h r x v e = h x v e
    derived_below σ τ ρ (onward {τ = τ'} d s) h r x v e =
        let below = derived_below σ τ' ρ d h r in
        ⊎_elim (λ k. below x v k)
        (λ m. given_at_rest vs ρ (effects i ρ) r.no_fault r.nothing_new x v (effects_grow i τ' ρ below (gives x v) m)) (s.given x v e)

    pub derived_no_fault : (σ τ ρ : Valuation) → Derived σ τ → Derived σ ρ → AtRest ρ → fault_of vs τ (effects i τ) ≡ none
    derived_no_fault σ τ ρ d d' r =
        let below = derived_below σ τ ρ d (derived_extends σ ρ d') r in
        no_fault_below vs τ ρ (effects i τ) (effects i ρ) below (effects_grow i τ ρ below) r.no_fault

    pub derived_same : (σ τ ρ : Valuation) → Derived σ τ → Derived σ ρ → AtRest τ → AtRest ρ → τ ≡ ρ
    derived_same σ τ ρ d d' r r' =
        extends_antisym τ ρ (derived_below σ τ ρ d (derived_extends σ ρ d') r') (derived_below σ ρ τ d' (derived_extends σ τ d) r)

-- a value given to a variable that is unknown
pub record NewValue (es : List Effect) (σ : Valuation) : Type 0 where
  pub to : ℕ
  pub value : ℤ
  pub given : Memᴰ (gives to value) es
  pub unknown : σ to ≡ none

pub new_value : (es : List Effect) (σ : Valuation) → any (is_new σ) es ≡ true → NewValue es σ
unfolding is_new is_known
new_value es σ e = let w = witness (is_new σ) es e in go w.0 w.1 w.2
  where
    go : (e : Effect) → Memᴰ e es → is_new σ e ≡ true → NewValue es σ
    go (fails manner) m n = absurd (false≢true n)
    go (gives x v) m n = record { to = x; value = v; given = m; unknown = unknown (σ x) n }
      where
        unknown : (o : Option ℤ) → not (is_known o) ≡ true → o ≡ none
        unknown none k = refl
        unknown (some w) k = absurd (false≢true k)
