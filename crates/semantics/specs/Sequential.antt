-- Sequential propagation (01: the slow hand). "It starts the same, from the same state values, all within their ends. Each step
-- carries out any one active known assignment whose flow is unknown; a fault of any instruction at any moment, before the
-- first step and after the last included, ends it in failure. When none is left it resets and reads over, as above."
use Rattle.std.specs.Prelude.{◌≡◌, false, cond, ℕ, zero, suc, eqb, ℤ}
use mathlib.Core.List.{List, Memᴰ}
use Rattle.std.proofs.Math.Option.{some, none}
use Rattle.model.specs.Trees.{Instruction, Variable}
use Rattle.expressions.specs.Expressions.{Valuation}
use Rattle.interpreter.specs.declared.Fault.{Fault}
use Rattle.interpreter.specs.Instructions.{any, effects, fault_of}
use Rattle.interpreter.specs.Instructions.Effect.{gives}
use Rattle.semantics.specs.Propagation.{Settled, is_new, finish}
use Rattle.semantics.specs.Propagation.Settled.{refused, settled}

-- failure, or success with the values of all variables
pub data Ended : Type 0 where
  failed : Ended
  succeeded : List ℤ → Ended

-- 01: "Which of 28 to 30 it meets, and its number of steps, are not compared." 02, A8, of 28, 40, 29, 30: "which of these the slow hand
-- meets is not compared"
unfoldable pub end_of : Settled → Ended
end_of (refused f) = failed
end_of (settled count values) = succeeded values

-- one variable becomes known
abbrev pub with_value : ℕ → ℤ → Valuation → Valuation
with_value y v σ x = cond (eqb x y) (some v) (σ x)

module _ (vs : List Variable) (i : Instruction) where
  -- so many single assignments lead from one valuation to another, and no fault was met before the last of them
  pub data Steps : ℕ → Valuation → Valuation → Type 0 where
    start : {σ : Valuation} → Steps zero σ σ
    step : {n : ℕ} {σ τ : Valuation} {x : ℕ} {v : ℤ} → Steps n σ τ → fault_of vs τ (effects i τ) ≡ none
        → Memᴰ (gives x v) (effects i τ) → τ x ≡ none → Steps (suc n) σ (with_value x v τ)

  -- a sequence has come to its end: a fault, or nothing left to assign, then the reset and the last reading
  pub data Ends : Valuation → Ended → Type 0 where
    faulted : {σ : Valuation} {f : Fault} → fault_of vs σ (effects i σ) ≡ some f → Ends σ failed
    exhausted : {σ : Valuation} → fault_of vs σ (effects i σ) ≡ none → any (is_new σ) (effects i σ) ≡ false
        → Ends σ (end_of (finish vs i 0 σ))

  -- a complete sequence of single assignments
  pub record Sequence (σ : Valuation) (e : Ended) : Type 0 where
    pub count : ℕ
    pub last : Valuation
    pub steps : Steps count σ last
    pub ends : Ends last e
