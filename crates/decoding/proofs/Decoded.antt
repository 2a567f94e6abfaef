-- What the layers above use of a decoded file: its trees stand at the decoded places, and the next places lead past them.
use mathlib.Core.Path.{◌≡◌, refl, sym, ap, ◌∙◌, subst}
use mathlib.Core.Option.{some}
use mathlib.Core.List.{List, [], ◌∷◌}
use Prim.Native.Nat.{ℕ, zero, suc, ◌+◌}
use native.Mathlib.Omega.{arith}
use lib.IntN.{ℤ}
use lib.ListN.{length, get_or, get_elem?, length-map}
use Rattle.model.specs.declared.Model.{Model}
use Rattle.model.specs.Trees.{Expression, Instruction, Transition, variables}
use Rattle.model.specs.Standing.{ExpressionAt, InstructionAt, size_of_expression, size_of, size_of_transition}
use Rattle.model.proofs.NodeLists.{TransitionsAt}
use Rattle.variables.specs.declared.VariableRow.{VariableRow}
use Rattle.variables.specs.Rows.{variable_row}
use Rattle.decoding.specs.Decoding.{Decoded, guard_places, transitions_place}
use Rattle.decoding.proofs.Accepted.{FileRead, accepted_file}
use Rattle.model.proofs.LittleBytes.{parameters_length}
use Rattle.model.proofs.CheckExact.{kinds_length}
use Rattle.decoding.proofs.Filling.{FollowsFrom}
use Rattle.decoding.proofs.Places.{SystemAt, expression_next, instruction_next, nexts_length, nexts_follow}

-- ---- guards and actions

-- the guard of this transition stands at this place, and its action right after it
pub record TransitionAt (ks : List ℕ) (ps : List ℤ) (t : Transition) (place : ℕ) : Type 0 where
  pub guard : ExpressionAt ks ps t.guard place
  pub action : InstructionAt ks ps t.action (place + size_of_expression t.guard)

module _ (ks : List ℕ) (ps : List ℤ) where
  pub transition_at_lem : (ts : List Transition) (at k : ℕ) (t : Transition) → TransitionsAt ks ps ts at → get_elem? ts k ≡ some t
      → TransitionAt ks ps t (get_or (guard_places ts at) k 0)
  unfolding TransitionsAt guard_places size_of_transition
  transition_at_lem [] at k t h e = cc
  transition_at_lem (u ∷ ts) at zero t h e =
      let z : u ≡ t = cc in subst (λ t. TransitionAt ks ps t (at + 1)) z (record { guard = h.1; action = h.2 })
  transition_at_lem (u ∷ ts) at (suc k) t h e =
      transition_at_lem ts (at + size_of_transition u) k t (subst (TransitionsAt ks ps ts) (omega arith) h.3) e

pub guards_length : (ts : List Transition) (at : ℕ) → length (guard_places ts at) ≡ length ts
unfolding guard_places
guards_length [] at = refl
guards_length (t ∷ ts) at = ap suc (guards_length ts (at + size_of_transition t))

-- ---- the slices

module _ (m : List ℕ) (model : Model) (kinds : List ℕ) (parameters : List ℤ) (rows : List VariableRow) (nexts guards : List ℕ)
    (d : Decoded m model kinds parameters rows nexts guards) where
  file : FileRead m model.sizes d.system
  file = accepted_file m model.sizes d.system d.checked

  stands : SystemAt kinds parameters d.system
  stands = rw (d.kinds_decoded, d.parameters_decoded) file.system.stands

  pub decoded_nodes : length kinds ≡ model.sizes.nodes
  decoded_nodes = ap length d.kinds_decoded ∙ kinds_length m model.sizes file.sizes

  pub decoded_parameters : length parameters ≡ length kinds
  decoded_parameters = ap length d.parameters_decoded ∙ parameters_length m model.sizes.nodes _ ∙ sym decoded_nodes

  pub decoded_nexts : length nexts ≡ length kinds
  decoded_nexts = ap length d.nexts_decoded ∙ nexts_length kinds parameters d.system stands

  pub decoded_guards : length guards ≡ length d.system.transitions
  decoded_guards = ap length d.guards_decoded ∙ guards_length d.system.transitions _

  pub decoded_variables : length (variables d.system) ≡ model.sizes.states + model.sizes.flows
  decoded_variables = file.system.number

  pub decoded_rows : length rows ≡ length (variables d.system)
  decoded_rows = ap length d.variables_decoded ∙ length-map (variables d.system) variable_row

  pub decoded_assertion : InstructionAt kinds parameters d.system.assertion model.assertion
  decoded_assertion = rw d.assertion_decoded stands.assertion

  -- the transition with this number
  pub decoded_transition : (k : ℕ) (t : Transition) → get_elem? d.system.transitions k ≡ some t → TransitionAt kinds parameters t (get_or guards k 0)
  decoded_transition k t e =
      rw d.guards_decoded (transition_at_lem kinds parameters d.system.transitions (transitions_place d.system) k t stands.transitions e)

  follow : FollowsFrom kinds parameters nexts 0
  follow = rw d.nexts_decoded (nexts_follow kinds parameters d.system stands)

  -- every tree that stands among the nodes, subtrees too
  pub decoded_expression_next : (e : Expression) (at : ℕ) → ExpressionAt kinds parameters e at → get_or nexts at 0 ≡ at + size_of_expression e
  decoded_expression_next = expression_next kinds parameters nexts follow

  pub decoded_instruction_next : (i : Instruction) (at : ℕ) → InstructionAt kinds parameters i at → get_or nexts at 0 ≡ at + size_of i
  decoded_instruction_next = instruction_next kinds parameters nexts follow
