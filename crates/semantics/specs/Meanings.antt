-- The meaning of a model: what the calls on a run depend on. Calls are defined over it and not over the tree.
use Rattle.std.specs.Prelude.{List, ℕ, ℤ, length}
use Rattle.std.proofs.Math.Option.{Option, some, none}
use Rattle.std.proofs.Math.ListN.{get_elem?}
use Rattle.evaluation.specs.declared.Evaluation.{Evaluation}
use Rattle.evaluation.specs.declared.Evaluation.TheVariants.{Unknown}
use Rattle.model.specs.Trees.{Transition, Variable, System, variables}
use Rattle.expressions.specs.Expressions.{Valuation, evaluate, known_from}
use Rattle.semantics.specs.Actions.{Acted, act}
use Rattle.semantics.specs.Propagation.{Settled, settle}

pub record Meaning : Type 0 where
  -- the variables, states first, and how many are states
  pub declarations : List Variable
  pub states : ℕ
  pub transitions : ℕ
  -- a guard over the values of all variables
  pub guard : ℕ → List ℤ → Evaluation
  -- an action over the values of all variables
  pub action : ℕ → List ℤ → Acted
  -- the assertion over the values of the states
  pub propagate : List ℤ → Settled

unfoldable pub guard_in : Option Transition → Valuation → Evaluation
guard_in none σ = Unknown
guard_in (some t) σ = evaluate t.guard σ

-- the guard of the transition with this number, unknown where there is none
abbrev pub guard_over : System → ℕ → Valuation → Evaluation
guard_over s k = guard_in (get_elem? s.transitions k)

unfoldable pub action_in : System → Option Transition → List ℤ → Acted
action_in s none values = Acted.states values
action_in s (some t) values = act s t.action values

unfoldable pub meaning_of : System → Meaning
meaning_of s =
    record {
      declarations = variables s;
      states = length s.states;
      transitions = length s.transitions;
      guard = λ k values. guard_over s k (known_from values);
      action = λ k. action_in s (get_elem? s.transitions k);
      propagate = settle s;
    }
