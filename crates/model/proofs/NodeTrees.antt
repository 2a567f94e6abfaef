-- A tree stands at a place exactly if the list of its nodes stands there.
use mathlib.Core.Path.{◌≡◌, refl, sym, ap, subst}
use mathlib.Core.List.{List, [], ◌∷◌, ◌++◌, flat_map}
use Prim.Native.Nat.{ℕ, suc, ◌+◌}
use native.Mathlib.Omega.{arith}
use lib.IntN.{ℤ}
use lib.ListN.{length, length-append}
use Rattle.model.specs.Trees.{Expression, Instruction, Instructions, Transition, System, variables}
use Rattle.model.specs.Trees.Expression.{numeral, truth, variable, negation, binary, if_then_else}
use Rattle.model.specs.Trees.Instruction.{skip, assign, if_then, block}
use Rattle.model.specs.Trees.Instructions.{none, more}
use Rattle.model.specs.Nodes.{nodes_of_expression, nodes_of, nodes_of_all, nodes_of_variable, nodes_of_transition, nodes_of_system}
use Rattle.model.specs.Standing.{ExpressionAt, InstructionAt, InstructionsAt, size_of_expression, size_of, size_of_all, size_of_transition, size_of_transitions}
use Rattle.model.proofs.NodeLists.{TransitionsAt, NodesAt, nodes_append, nodes_split}

-- ---- sizes are numbers of nodes

pub expression_size : (e : Expression) → length (nodes_of_expression e) ≡ size_of_expression e
unfolding nodes_of_expression size_of_expression
expression_size (numeral v) = refl
expression_size (truth v) = refl
expression_size (variable x) = refl
expression_size (negation a) = ap suc (expression_size a)
expression_size (binary op a b) =
    omega (arith, length-append (nodes_of_expression a) (nodes_of_expression b), expression_size a, expression_size b)
expression_size (if_then_else c a b) =
    omega (arith, length-append (nodes_of_expression c) (nodes_of_expression a ++ nodes_of_expression b), length-append (nodes_of_expression a) (nodes_of_expression b), expression_size c, expression_size a, expression_size b)

mutual
  unfolding nodes_of nodes_of_all size_of size_of_all

  pub instruction_size : (i : Instruction) → length (nodes_of i) ≡ size_of i
  instruction_size skip = refl
  instruction_size (assign x e) = ap suc (expression_size e)
  instruction_size (if_then c i) = omega (arith, length-append (nodes_of_expression c) (nodes_of i), expression_size c, instruction_size i)
  instruction_size (block is) = ap suc (branches_size is)

  pub branches_size : (is : Instructions) → length (nodes_of_all is) ≡ size_of_all is
  branches_size none = refl
  branches_size (more i is) = omega (arith, length-append (nodes_of i) (nodes_of_all is), instruction_size i, branches_size is)

pub transition_size : (t : Transition) → length (nodes_of_transition t) ≡ size_of_transition t
unfolding nodes_of_transition size_of_transition
transition_size t = omega (arith, length-append (nodes_of_expression t.guard) (nodes_of t.action), expression_size t.guard, instruction_size t.action)

pub transitions_size : (ts : List Transition) → length (flat_map nodes_of_transition ts) ≡ size_of_transitions ts
unfolding flat_map size_of_transitions
transitions_size [] = refl
transitions_size (t ∷ ts) = omega (arith, length-append (nodes_of_transition t) (flat_map nodes_of_transition ts), transition_size t, transitions_size ts)

pub system_size : (t : System)
    → length (nodes_of_system t) ≡ length (flat_map nodes_of_variable (variables t)) + size_of_transitions t.transitions + size_of t.assertion
unfolding nodes_of_system
system_size t =
    let middle = flat_map nodes_of_transition t.transitions in
    let back = nodes_of t.assertion in
    omega (
      arith,
      length-append (flat_map nodes_of_variable (variables t)) (middle ++ back),
      length-append middle back,
      transitions_size t.transitions,
      instruction_size t.assertion,
    )

-- ---- from the tree to its nodes

module _ (ks : List ℕ) (ps : List ℤ) where
  pub expression_nodes : (e : Expression) (at : ℕ) → ExpressionAt ks ps e at → NodesAt ks ps (nodes_of_expression e) at
  unfolding ExpressionAt nodes_of_expression NodesAt
  expression_nodes (numeral v) at h = (h, tt)
  expression_nodes (truth v) at h = (h, tt)
  expression_nodes (variable x) at h = (h, tt)
  expression_nodes (negation a) at h = (h.0, expression_nodes a (at + 1) h.1)
  expression_nodes (binary op a b) at h = (
    h.0,
    nodes_append ks ps (nodes_of_expression a) (nodes_of_expression b) (at + 1) (expression_nodes a (at + 1) h.1)
        (subst (NodesAt ks ps (nodes_of_expression b)) (ap (λ n. at + 1 + n) (sym (expression_size a))) (expression_nodes b (at + 1 + size_of_expression a) h.2)),
  )
  expression_nodes (if_then_else c a b) at h = (
    h.0,
    nodes_append ks ps (nodes_of_expression c) (nodes_of_expression a ++ nodes_of_expression b) (at + 1) (expression_nodes c (at + 1) h.1)
        (subst (NodesAt ks ps (nodes_of_expression a ++ nodes_of_expression b)) (ap (λ n. at + 1 + n) (sym (expression_size c)))
        (nodes_append ks ps (nodes_of_expression a) (nodes_of_expression b) (at + 1 + size_of_expression c) (expression_nodes a (at + 1 + size_of_expression c) h.2)
        (subst (NodesAt ks ps (nodes_of_expression b)) (ap (λ n. at + 1 + size_of_expression c + n) (sym (expression_size a)))
        (expression_nodes b (at + 1 + size_of_expression c + size_of_expression a) h.3)))),
  )

  mutual
    unfolding InstructionAt InstructionsAt nodes_of nodes_of_all NodesAt

    pub instruction_nodes : (i : Instruction) (at : ℕ) → InstructionAt ks ps i at → NodesAt ks ps (nodes_of i) at
    instruction_nodes skip at h = (h, tt)
    instruction_nodes (assign x e) at h = (h.0, expression_nodes e (at + 1) h.1)
    instruction_nodes (if_then c i) at h = (
      h.0,
      nodes_append ks ps (nodes_of_expression c) (nodes_of i) (at + 1) (expression_nodes c (at + 1) h.1)
          (subst (NodesAt ks ps (nodes_of i)) (ap (λ n. at + 1 + n) (sym (expression_size c))) (instruction_nodes i (at + 1 + size_of_expression c) h.2)),
    )
    instruction_nodes (block is) at h = (h.0, branches_nodes is (at + 1) h.1)

    pub branches_nodes : (is : Instructions) (at : ℕ) → InstructionsAt ks ps is at → NodesAt ks ps (nodes_of_all is) at
    branches_nodes none at h = tt
    branches_nodes (more i is) at h =
        nodes_append ks ps (nodes_of i) (nodes_of_all is) at (instruction_nodes i at h.0)
        (subst (NodesAt ks ps (nodes_of_all is)) (ap (λ n. at + n) (sym (instruction_size i))) (branches_nodes is (at + size_of i) h.1))

  pub transitions_nodes : (ts : List Transition) (at : ℕ) → TransitionsAt ks ps ts at → NodesAt ks ps (flat_map nodes_of_transition ts) at
  unfolding TransitionsAt flat_map nodes_of_transition NodesAt
  transitions_nodes [] at h = tt
  transitions_nodes (t ∷ ts) at h =
      nodes_append ks ps (nodes_of_transition t) (flat_map nodes_of_transition ts) at (
        h.0,
        nodes_append ks ps (nodes_of_expression t.guard) (nodes_of t.action) (at + 1) (expression_nodes t.guard (at + 1) h.1)
            (subst (NodesAt ks ps (nodes_of t.action)) (ap (λ n. at + 1 + n) (sym (expression_size t.guard)))
            (instruction_nodes t.action (at + 1 + size_of_expression t.guard) h.2)),
      )
      (subst (NodesAt ks ps (flat_map nodes_of_transition ts))
      (omega (arith, length-append (nodes_of_expression t.guard) (nodes_of t.action), expression_size t.guard, instruction_size t.action))
      (transitions_nodes ts (at + 1 + size_of_expression t.guard + size_of t.action) h.3))

  -- ---- and back

  pub nodes_expression : (e : Expression) (at : ℕ) → NodesAt ks ps (nodes_of_expression e) at → ExpressionAt ks ps e at
  unfolding ExpressionAt nodes_of_expression NodesAt
  nodes_expression (numeral v) at h = h.0
  nodes_expression (truth v) at h = h.0
  nodes_expression (variable x) at h = h.0
  nodes_expression (negation a) at h = (h.0, nodes_expression a (at + 1) h.1)
  nodes_expression (binary op a b) at h =
      let r = nodes_split ks ps (nodes_of_expression a) (nodes_of_expression b) (at + 1) h.1 in (
        h.0,
        nodes_expression a (at + 1) r.0,
        subst (ExpressionAt ks ps b) (ap (λ n. at + 1 + n) (expression_size a)) (nodes_expression b (at + 1 + length (nodes_of_expression a)) r.1),
      )
  nodes_expression (if_then_else c a b) at h =
      let r = nodes_split ks ps (nodes_of_expression c) (nodes_of_expression a ++ nodes_of_expression b) (at + 1) h.1 in
      let second = at + 1 + length (nodes_of_expression c) in
      let q = nodes_split ks ps (nodes_of_expression a) (nodes_of_expression b) second r.1 in (
        h.0,
        nodes_expression c (at + 1) r.0,
        subst (ExpressionAt ks ps a) (ap (λ n. at + 1 + n) (expression_size c)) (nodes_expression a second q.0),
        subst (ExpressionAt ks ps b) (omega (arith, expression_size c, expression_size a)) (nodes_expression b (second + length (nodes_of_expression a)) q.1),
      )

  mutual
    unfolding InstructionAt InstructionsAt nodes_of nodes_of_all NodesAt

    pub nodes_instruction : (i : Instruction) (at : ℕ) → NodesAt ks ps (nodes_of i) at → InstructionAt ks ps i at
    nodes_instruction skip at h = h.0
    nodes_instruction (assign x e) at h = (h.0, nodes_expression e (at + 1) h.1)
    nodes_instruction (if_then c i) at h =
        let r = nodes_split ks ps (nodes_of_expression c) (nodes_of i) (at + 1) h.1 in (
          h.0,
          nodes_expression c (at + 1) r.0,
          subst (InstructionAt ks ps i) (ap (λ n. at + 1 + n) (expression_size c)) (nodes_instruction i (at + 1 + length (nodes_of_expression c)) r.1),
        )
    nodes_instruction (block is) at h = (h.0, nodes_branches is (at + 1) h.1)

    pub nodes_branches : (is : Instructions) (at : ℕ) → NodesAt ks ps (nodes_of_all is) at → InstructionsAt ks ps is at
    nodes_branches none at h = tt
    nodes_branches (more i is) at h =
        let r = nodes_split ks ps (nodes_of i) (nodes_of_all is) at h in (
          nodes_instruction i at r.0,
          subst (InstructionsAt ks ps is) (ap (λ n. at + n) (instruction_size i)) (nodes_branches is (at + length (nodes_of i)) r.1),
        )

  pub nodes_transitions : (ts : List Transition) (at : ℕ) → NodesAt ks ps (flat_map nodes_of_transition ts) at → TransitionsAt ks ps ts at
  unfolding TransitionsAt flat_map nodes_of_transition NodesAt
  nodes_transitions [] at h = tt
  nodes_transitions (t ∷ ts) at h =
      let r = nodes_split ks ps (nodes_of_transition t) (flat_map nodes_of_transition ts) at h in
      let q = nodes_split ks ps (nodes_of_expression t.guard) (nodes_of t.action) (at + 1) r.0.1 in (
        r.0.0,
        nodes_expression t.guard (at + 1) q.0,
        subst (InstructionAt ks ps t.action) (ap (λ n. at + 1 + n) (expression_size t.guard)) (nodes_instruction t.action (at + 1 + length (nodes_of_expression t.guard)) q.1),
        subst (TransitionsAt ks ps ts)
            (omega (arith, length-append (nodes_of_expression t.guard) (nodes_of t.action), expression_size t.guard, instruction_size t.action))
            (nodes_transitions ts (at + length (nodes_of_transition t)) r.1),
      )
