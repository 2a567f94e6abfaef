-- The check's walk finds the new transition exactly if it is not too deep: all else of it is in order.
use mathlib.Core.Path.{◌≡◌, sym, ap, subst}
use mathlib.Core.List.{List, [], ◌∷◌, ◌++◌, map, flat_map}
use Prim.Native.Nat.{ℕ, zero, suc, ◌+◌, ◌≤◌, ◌<◌, max}
use native.Mathlib.Omega.{arith}
use lib.Dec.{T}
use lib.IntN.{ℤ, pos}
use lib.ListN.{length, length-append, length-map}
use Rattle.evaluation.specs.Numbers.{representable}
use Rattle.kinds.specs.Kinds.{boolean_sort}
use Rattle.kinds.specs.declared.Sort.{Sort}
use Rattle.std.specs.Prelude.{Option}
use Rattle.model.specs.Sizes.{max_nodes, max_variables, size_bound}
use Rattle.model.specs.Trees.{Expression, Instruction, Transition, System, variables, sorts_of, depth_of_expression, depth_of}
use Rattle.model.specs.Nodes.{nodes_of_expression, nodes_of, nodes_of_variable, nodes_of_transition, nodes_of_system}
use Rattle.model.specs.Walk.{Scope, transition_at}
use Rattle.model.specs.Walk.Walk.{found}
use Rattle.model.specs.Check.{max_depth, action_scope}
use Rattle.model.specs.Standing.{NodeAt, ExpressionAt, InstructionAt, size_of_expression, size_of}
use Rattle.model.specs.WellFormed.{Sorted, Scoped, All, WellFormed, sizes_of}
use Rattle.model.proofs.NodeTrees.{instruction_size}
use Rattle.model.proofs.WalkClaims.{holds_found}
use Rattle.model.proofs.Standing.{AllRepresentable}
use Rattle.model.proofs.StandingRows.{TransitionFound, transition_found}
use Rattle.model.proofs.Complete.{complete_expression, complete_instruction}
use Rattle.model.proofs.CompleteRows.{complete_transition}
use Rattle.model.proofs.LittleBytes.{representable_pos}
use Rattle.model.proofs.CheckExact.{layouts_sound}
use Rattle.model.proofs.Representable.{Representable, all_append, all_map, expression_parameters, instruction_parameters, system_parameters}
use Rattle.synchronisation.specs.Synchronisations.{extended_by}
use Rattle.synchronisation.proofs.NewNodes.{extended_nodes}

-- ---- a tree that stands among the nodes is the only one that stands there

module _ (ks : List ℕ) (ps : List ℤ) where
  same_expression : (sorts : List Sort) (wanted : Option Sort) (at : ℕ) (e e' : Expression) → ExpressionAt ks ps e at → ExpressionAt ks ps e' at
      → Sorted sorts wanted e → Sorted sorts wanted e' → e ≡ e'
  same_expression sorts wanted at e e' h h' s s' =
      let left = max (depth_of_expression e) (depth_of_expression e') in
      let p = complete_expression ks ps sorts e left wanted at h s (omega arith) in
      let q = complete_expression ks ps sorts e' left wanted at h' s' (omega arith) in
      cc

  same_instruction : (s : Scope) (at : ℕ) (i i' : Instruction) → InstructionAt ks ps i at → InstructionAt ks ps i' at → Scoped i s → Scoped i' s → i ≡ i'
  same_instruction s at i i' h h' c c' =
      let left = max (depth_of i) (depth_of i') in
      let p = complete_instruction ks ps i s left at h c (omega arith) in
      let q = complete_instruction ks ps i' s left at h' c' (omega arith) in
      cc

-- ---- the transition that stands at a place

-- guard and action keep the limit of depth
abbrev pub Shallow : Transition → Type 0
Shallow u = (depth_of_expression u.guard ≤ max_depth) × (depth_of u.action ≤ max_depth)

module _ (ks : List ℕ) (ps : List ℤ) (long : length ps ≡ length ks) (numbers : AllRepresentable ps) (events : ℕ) (s : Scope) (u : Transition) (at : ℕ)
    (node : NodeAt ks ps at 5 (pos u.event)) (guard : ExpressionAt ks ps u.guard (at + 1))
    (action : InstructionAt ks ps u.action (at + 1 + size_of_expression u.guard))
    (event : u.event < events) (sorted : Sorted s.sorts boolean_sort u.guard) (scoped : Scoped u.action s) where
  pub found_shallow : (t : Transition) (next : ℕ) → transition_at ks ps events s max_depth at ≡ found t next → Shallow u
  found_shallow t next e =
      let f = holds_found (TransitionFound ks ps events s at) (transition_found ks ps long events s at) e in
      let h = f.guarded numbers in
      let g : t.guard ≡ u.guard = same_expression ks ps s.sorts boolean_sort (at + 1) t.guard u.guard f.guard guard h.guard sorted in
      let stands : InstructionAt ks ps t.action (at + 1 + size_of_expression u.guard) =
      subst (λ g. InstructionAt ks ps t.action (at + 1 + size_of_expression g)) g f.action in
      let a : t.action ≡ u.action = same_instruction ks ps s (at + 1 + size_of_expression u.guard) t.action u.action stands action h.action scoped in
      (subst (λ g. depth_of_expression g ≤ max_depth) g h.guard_depth, subst (λ a. depth_of a ≤ max_depth) a h.action_depth)

  pub shallow_found : Shallow u
      → transition_at ks ps events s max_depth at ≡ found u (at + 1 + size_of_expression u.guard + size_of u.action)
  shallow_found d =
      complete_transition ks ps events s u at node guard action
      (record { event = event; guard = sorted; guard_depth = d.0; action = scoped; action_depth = d.1 })

-- ---- every parameter of the new model is a number of 32 bits

all_split : {A : Type 0} (P : A → Type 0) (xs ys : List A) → All P (xs ++ ys) → All P xs × All P ys
unfolding All
all_split P [] ys h = (tt, h)
all_split P (x ∷ xs) ys h = let r = all_split P xs ys h.1 in ((h.0, r.0), r.1)

all_each : (ps : List ℤ) → All (λ v. T (representable v)) ps → AllRepresentable ps
unfolding All
all_each [] h i = tt
all_each (p ∷ ps) h zero = h.0
all_each (p ∷ ps) h (suc i) = all_each ps h.1 i

module _ (t : System) (u : Transition) (w : WellFormed t) (event : u.event < size_bound) (sorted : Sorted (sorts_of (variables t)) boolean_sort u.guard)
    (scoped : Scoped u.action (action_scope (sizes_of t) (variables t))) (few : length (nodes_of_system (extended_by t u)) ≤ max_nodes) where
  sorts_few : length (sorts_of (variables t)) ≤ max_variables
  sorts_few = omega (arith, length-map (variables t) (λ v. v.sort), w.few)

  action_few : size_of u.action ≤ max_nodes
  unfolding nodes_of_transition
  action_few =
      omega (
        arith,
        few,
        ap length (extended_nodes t u),
        length-append (flat_map nodes_of_variable (variables t) ++ flat_map nodes_of_transition t.transitions) (nodes_of_transition u ++ nodes_of t.assertion),
        length-append (nodes_of_transition u) (nodes_of t.assertion),
        length-append (nodes_of_expression u.guard) (nodes_of u.action),
        instruction_size u.action,
      )

  transition_numbers : All Representable (nodes_of_transition u)
  unfolding nodes_of_transition All
  transition_numbers = (
    representable_pos u.event (omega (arith, event)),
    all_append Representable (nodes_of_expression u.guard) (nodes_of u.action)
        (expression_parameters (sorts_of (variables t)) (omega (arith, sorts_few)) u.guard boolean_sort sorted)
        (instruction_parameters (action_scope (sizes_of t) (variables t)) (omega (arith, sorts_few)) (omega (arith, w.states)) u.action scoped (omega (arith, action_few))),
  )

  pub extended_numbers : AllRepresentable (map (λ n. n.parameter) (nodes_of_system (extended_by t u)))
  unfolding nodes_of_system
  extended_numbers =
      let vs = flat_map nodes_of_variable (variables t) in
      let ts = flat_map nodes_of_transition t.transitions in
      let a = nodes_of t.assertion in
      let r = all_split Representable vs (ts ++ a) (system_parameters t layouts_sound.1 w) in
      let q = all_split Representable ts a r.1 in
      let all =
      all_append Representable (vs ++ ts) (nodes_of_transition u ++ a) (all_append Representable vs ts r.0 q.0)
      (all_append Representable (nodes_of_transition u) a transition_numbers q.1) in
      all_each _ (all_map (λ v. T (representable v)) (λ n. n.parameter) _ (subst (All Representable) (sym (extended_nodes t u)) all))
