-- What the functions on a loaded model use of it: it is well formed, its trees stand at the decoded places, and the next places
-- lead past them.
use mathlib.Core.Path.{◌≡◌, ap}
use mathlib.Core.List.{List}
use mathlib.Core.Option.{some}
use Prim.Native.Nat.{ℕ, ◌+◌}
use lib.IntN.{ℤ}
use lib.ListN.{length, get_or, get_elem?}
use Rattle.model.specs.declared.Model.{Model}
use Rattle.model.specs.Trees.{Transition, variables}
use Rattle.model.specs.WellFormed.{WellFormed, Scoped, GuardedBy, sizes_of, encode}
use Rattle.model.specs.Check.{action_scope}
use Rattle.model.specs.Standing.{ExpressionAt, InstructionAt, size_of_expression}
use Rattle.model.proofs.CheckExact.{check_exact}
use Rattle.decoding.proofs.Decoded.{decoded_nexts, decoded_expression_next, decoded_instruction_next, decoded_assertion, decoded_guards, decoded_transition}
use Rattle.semantics.proofs.Knowing.{element_all}
use Rattle.rounds.specs.Cells.{AssertionStands}
use Rattle.engine.specs.Cells.{Loaded}
use Rattle.interpreter.specs.Cells.{NextPlaces}
use Rattle.variables.specs.declared.VariableRow.{VariableRow}

module _ {model : Model} {kinds : List ℕ} {parameters : List ℤ} {rows : List VariableRow} {nexts guards : List ℕ}
    (d : Loaded model kinds parameters rows nexts guards) where
  pub exact : (d.file ≡ encode d.decoded.system) × (model.sizes ≡ sizes_of d.decoded.system) × WellFormed d.decoded.system
  exact = (check_exact d.file d.bytes model.sizes d.decoded.system).0 d.decoded.checked

  pub loaded_well_formed : WellFormed d.decoded.system
  loaded_well_formed = exact.2

  pub loaded_states : model.sizes.states ≡ length d.decoded.system.states
  loaded_states = ap (λ s. s.states) exact.1

  pub loaded_flows : model.sizes.flows ≡ length d.decoded.system.flows
  loaded_flows = ap (λ s. s.flows) exact.1

  pub loaded_places : NextPlaces kinds parameters nexts
  loaded_places =
      record {
        long = decoded_nexts d.file model kinds parameters rows nexts guards d.decoded;
        expression = decoded_expression_next d.file model kinds parameters rows nexts guards d.decoded;
        instruction = decoded_instruction_next d.file model kinds parameters rows nexts guards d.decoded;
      }

  pub loaded_assertion : InstructionAt kinds parameters d.decoded.system.assertion model.assertion
  loaded_assertion = decoded_assertion d.file model kinds parameters rows nexts guards d.decoded

  pub loaded_guards : length guards ≡ length d.decoded.system.transitions
  loaded_guards = decoded_guards d.file model kinds parameters rows nexts guards d.decoded

  -- the transition with this number
  module _ (k : ℕ) (t : Transition) (is : get_elem? d.decoded.system.transitions k ≡ some t) where
    pub loaded_guard : ExpressionAt kinds parameters t.guard (get_or guards k 0)
    loaded_guard = (decoded_transition d.file model kinds parameters rows nexts guards d.decoded k t is).guard

    action_after : InstructionAt kinds parameters t.action (get_or guards k 0 + size_of_expression t.guard)
    action_after = (decoded_transition d.file model kinds parameters rows nexts guards d.decoded k t is).action

    -- the action stands where the guard's next place leads
    pub loaded_action : InstructionAt kinds parameters t.action (get_or nexts (get_or guards k 0) 0)
    loaded_action = rw (loaded_places.expression t.guard (get_or guards k 0) loaded_guard) action_after

    pub loaded_scoped : Scoped t.action (action_scope (sizes_of d.decoded.system) (variables d.decoded.system))
    loaded_scoped =
        (element_all (GuardedBy d.decoded.system.events (action_scope (sizes_of d.decoded.system) (variables d.decoded.system)))
        d.decoded.system.transitions k t loaded_well_formed.guarded is).action

  abbrev pub assertion_stands : AssertionStands kinds parameters nexts rows model.assertion
  assertion_stands =
      record {
        system = d.decoded.system;
        well_formed = loaded_well_formed;
        stands = loaded_assertion;
        places = loaded_places;
        rows_held = d.decoded.variables_decoded;
      }
