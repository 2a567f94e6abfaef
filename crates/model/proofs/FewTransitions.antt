-- At least three nodes stand for a transition, and one for the assertion.
use mathlib.Core.Path.{sym, ◌∙◌, subst}
use mathlib.Core.Bool.{Bool, true, false, cond}
use mathlib.Core.List.{List, [], ◌∷◌}
use Prim.Native.Nat.{ℕ, ◌+◌, ◌*◌, ◌≤◌, ◌<◌}
use native.Mathlib.Omega.{arith}
use lib.Dec.{ltb}
use lib.IntN.{ℤ}
use lib.ListN.{length}
use Rattle.results.specs.declared.refusal.Refusal.TheVariants.{NodesLeftOver}
use Rattle.model.specs.declared.Layout.{Layout}
use Rattle.model.specs.declared.Sizes.{Sizes}
use Rattle.model.specs.Trees.{Expression, Instruction, Transition, System, count}
use Rattle.model.specs.Trees.Expression.{numeral, truth, variable, negation, binary, if_then_else}
use Rattle.model.specs.Trees.Instructions.{none, more}
use Rattle.model.specs.Nodes.{nodes_of_system}
use Rattle.model.specs.Sizes.{header_of}
use Rattle.model.specs.Walk.Walk.{refused, found}
use Rattle.model.specs.Check.{complete, system_at, walked_in, kinds_in, parameters_in}
use Rattle.model.specs.Standing.{size_of_expression, size_of, size_of_all, size_of_transition, size_of_transitions}
use Rattle.model.specs.Theorems.{FewTransitions}
use Rattle.model.proofs.Encoding.{SizedAs}
use Rattle.model.proofs.WalkClaims.{Holds, holds_then}
use Rattle.model.proofs.NodeLists.{nodes_within}
use Rattle.model.proofs.NodeTrees.{system_size}
use Rattle.model.proofs.LittleBytes.{parameters_length}
use Rattle.model.proofs.Representable.{count_size}
use Rattle.model.proofs.SystemWalks.{SystemFound, system_found}
use Rattle.model.proofs.CheckExact.{VerdictHolds, accepted_holds, kinds_length}

-- ---- in a tree

an_expression : (e : Expression) → 1 ≤ size_of_expression e
unfolding size_of_expression
an_expression (numeral v) = omega arith
an_expression (truth v) = omega arith
an_expression (variable x) = omega arith
an_expression (negation a) = omega arith
an_expression (binary op a b) = omega arith
an_expression (if_then_else c a b) = omega arith

an_instruction : (i : Instruction) → 1 ≤ size_of i
unfolding count size_of_all
an_instruction i = omega (arith, count_size (more i none))

three_nodes : (ts : List Transition) → 3 * length ts ≤ size_of_transitions ts
unfolding size_of_transitions size_of_transition
three_nodes [] = omega arith
three_nodes (t ∷ ts) = omega (arith, an_expression t.guard, an_instruction t.action, three_nodes ts)

few_in_tree : (t : System) → 3 * length t.transitions < length (nodes_of_system t)
few_in_tree t = omega (arith, system_size t, three_nodes t.transitions, an_instruction t.assertion)

-- ---- in a file

module _ (l : Layout) (m : List ℕ) (s : Sizes) (h : SizedAs l m s) where
  abbrev ks : List ℕ
  ks = kinds_in l s.nodes m

  abbrev ps : List ℤ
  ps = parameters_in l s.nodes m

  found_few : (t : System) (next : ℕ) → SystemFound ks ps s t next → 3 * s.transitions < s.nodes
  found_few t next f =
      omega (arith, few_in_tree t, f.transitions, nodes_within ks ps (nodes_of_system t) 0 (omega arith) f.nodes, kinds_length m s h)

  completed_few : (t : System) (next : ℕ) (c : Bool) → SystemFound ks ps s t next
      → Holds (λ t next. 3 * s.transitions < s.nodes) (cond c (refused NodesLeftOver) (found t next))
  unfolding Holds
  completed_few t next true f = tt
  completed_few t next false f = found_few t next f

  walked_few : Holds (λ t next. 3 * s.transitions < s.nodes) (walked_in l m s)
  unfolding complete
  walked_few =
      holds_then (SystemFound ks ps s) (λ t next. 3 * s.transitions < s.nodes) (system_at ks ps s) _
      (system_found ks ps s (parameters_length m s.nodes (header_of l + s.nodes) ∙ sym (kinds_length m s h)))
      (λ t next f. completed_few t next (ltb next s.nodes) f)

pub few_transitions : FewTransitions
unfolding VerdictHolds
few_transitions l m s t e = subst (VerdictHolds Few) e (accepted_holds Few l m (walked_few l m))
  where
    Few : Sizes → System → Type 0
    Few s t = 3 * s.transitions < s.nodes
