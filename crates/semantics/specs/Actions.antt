-- 01: "An action is read over the old values, all known. [..] Otherwise the assigned states change together."
use Rattle.std.specs.Prelude.{List, [], ◌∷◌, ℕ, zero, suc, ℤ, pos, length}
use Rattle.std.proofs.Math.Option.{Option, some, none}
use Rattle.model.specs.Trees.{Instruction, System, variables}
use Rattle.expressions.specs.Expressions.{Valuation, known_from, nothing_known}
use Rattle.interpreter.specs.declared.Fault.{Fault}
use Rattle.interpreter.specs.Instructions.{Effect, effects, fault_of, given_to, first_of}

-- 0 for a variable that is unknown
unfoldable pub value_or0 : Option ℤ → ℤ
value_or0 none = pos 0
value_or0 (some v) = v

-- the values of so many variables, from variable x on
unfoldable pub cells : Valuation → ℕ → ℕ → List ℤ
cells σ zero x = []
cells σ (suc n) x = value_or0 (σ x) ∷ cells σ n (suc x)

-- a fault, or the new values of the states
pub data Acted : Type 0 where
  faulty : Fault → Acted
  states : List ℤ → Acted

-- the variables that the effects give a value, the others as they were
abbrev pub changed : List Effect → Valuation → Valuation
changed es σ x = first_of (given_to x es) (σ x)

unfoldable pub acted_by : ℕ → List ℤ → List Effect → Option Fault → Acted
acted_by n values es none = states (cells (changed es (known_from values)) n 0)
acted_by n values es (some f) = faulty f

unfoldable pub act : System → Instruction → List ℤ → Acted
act t i values =
    acted_by (length t.states) values (effects i (known_from values))
    (fault_of (variables t) nothing_known (effects i (known_from values)))
