-- 01: "The assertion starts with states known and flows unknown. A round reads every instruction over what is known at its
-- beginning [..]. Otherwise all active known values are set. Rounds go on until one sets nothing; the round count is how many
-- were made, that last one included [..]. Then flows still unknown take their reset values and one more, uncounted reading of
-- all instructions must find no fault [..]."
use Rattle.std.specs.Prelude.{Bool, true, false, cond, not, List, ℕ, zero, suc, ℤ, length}
use Rattle.std.proofs.Math.Option.{Option, some, none}
use Rattle.std.proofs.Math.ListN.{get_elem?}
use Rattle.model.specs.Trees.{Instruction, Variable, System, variables}
use Rattle.expressions.specs.Expressions.{Valuation, known_from}
use Rattle.interpreter.specs.declared.Fault.{Fault}
use Rattle.interpreter.specs.Instructions.{Effect, any, effects, fault_of, given_to, first_of}
use Rattle.interpreter.specs.Instructions.Effect.{fails, gives}
use Rattle.semantics.specs.Actions.{cells}

-- a fault, or the round count with the valuation reached
pub data Reached : Type 0 where
  stopped : Fault → Reached
  reached : ℕ → Valuation → Reached

unfoldable pub is_known : Option ℤ → Bool
is_known none = false
is_known (some v) = true

-- the effect gives a value to a variable that is unknown
unfoldable pub is_new : Valuation → Effect → Bool
is_new σ (fails m) = false
is_new σ (gives x v) = not (is_known (σ x))

-- known variables stay, unknown ones take the value given
abbrev pub extended : List Effect → Valuation → Valuation
extended es σ x = first_of (σ x) (given_to x es)

-- one round, over the effects of all instructions and their fault; `next` makes the following rounds
unfoldable pub round_by : (ℕ → Valuation → Reached) → ℕ → Valuation → List Effect → Option Fault → Reached
round_by next count σ es (some f) = stopped f
round_by next count σ es none = cond (any (is_new σ) es) (next (suc count) (extended es σ)) (reached (suc count) σ)

module _ (vs : List Variable) (i : Instruction) where
  -- the fuel is not met where it is above the number of flows (theorem RoundsEnd)
  unfoldable pub rounds : ℕ → ℕ → Valuation → Reached
  rounds zero count σ = reached count σ
  rounds (suc fuel) count σ =
      round_by (λ c τ. rounds fuel c τ) count σ (effects i σ) (fault_of vs σ (effects i σ))

-- a fault, or the round count and the values of all variables
pub data Settled : Type 0 where
  refused : Fault → Settled
  settled : ℕ → List ℤ → Settled

unfoldable pub first_value : Option Variable → Option ℤ
first_value none = none
first_value (some d) = some d.first

-- 01: "flows still unknown take their reset values"
abbrev pub reset_by : List Variable → Valuation → Valuation
reset_by vs σ x = first_of (σ x) (first_value (get_elem? vs x))

unfoldable pub finished_by : ℕ → List ℤ → Option Fault → Settled
finished_by count values (some f) = refused f
finished_by count values none = settled count values

-- reset, and one more reading of all instructions
unfoldable pub finish : List Variable → Instruction → ℕ → Valuation → Settled
finish vs i count σ =
    finished_by count (cells (reset_by vs σ) (length vs) 0) (fault_of vs (reset_by vs σ) (effects i (reset_by vs σ)))

unfoldable pub settled_from : List Variable → Instruction → Reached → Settled
settled_from vs i (stopped f) = refused f
settled_from vs i (reached count σ) = finish vs i count σ

-- the assertion over these values of the states
unfoldable pub settle : System → List ℤ → Settled
settle t ss =
    settled_from (variables t) t.assertion
    (rounds (variables t) t.assertion (suc (length t.flows)) 0 (known_from ss))
