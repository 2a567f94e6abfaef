-- A table whose entries follow their children's leads from every tree to the place after it, and is the list of next places.
use mathlib.Core.Path.{◌≡◌, refl, sym, ap, ◌∙◌, subst}
use mathlib.Core.Bool.{Bool, true, false, cond}
use mathlib.Core.List.{List, [], ◌∷◌, ◌++◌, flat_map}
use Prim.Native.Nat.{ℕ, suc, ◌+◌, ◌≤◌, ◌<◌}
use native.Mathlib.Numerals.{add-one}
use native.Mathlib.Omega.{arith}
use lib.IntN.{ℤ, pos}
use lib.ListN.{length, get_or, take, drop, replicate, length-replicate, length-append}
use lib.Seq.{drop-cons, drop-drop, take-add, length-take-le, take_all}
use Rattle.kinds.specs.declared.Sort.TheVariants.{Boolean}
use Rattle.kinds.specs.Sameness.{is_sort}
use Rattle.evaluation.specs.declared.Operator.{Operator}
use Rattle.evaluation.specs.declared.Operator.TheVariants.{Conjunction, Disjunction, Equality, Less, LessOrEqual, Sum, Difference, Product, Quotient, Remainder, Equivalence}
use Rattle.kinds.specs.Kinds.{children_of, kind_of}
use Rattle.model.specs.Trees.{Expression, Instruction, Instructions, Variable, Transition, System, count, variables}
use Rattle.model.specs.Trees.Expression.{numeral, truth, variable, negation, binary, if_then_else}
use Rattle.model.specs.Trees.Instruction.{skip, assign, if_then, block}
use Rattle.model.specs.Trees.Instructions.{none, more}
use Rattle.model.specs.Nodes.{node, nodes_of_variable}
use Rattle.decoding.specs.NextPlaces.{children_by, following, filled}
use Rattle.model.specs.Standing.{NodeAt, ExpressionAt, InstructionAt, InstructionsAt, size_of_expression, size_of, size_of_all, size_of_transition, size_of_transitions}
use Rattle.model.proofs.NodeLists.{TransitionsAt}
use Rattle.decoding.specs.Decoding.{size_of_variable, size_of_variables, nexts_of_expression, nexts_of, nexts_of_all, nexts_of_variables, nexts_of_transitions, nexts_of_system, transitions_place, assertion_place}
use Rattle.model.proofs.NodeLists.{NodesAt, nodes_split}
use Rattle.decoding.proofs.Filling.{following_step, FollowsFrom, filled_all, filled_length}

operator_children : (op : Operator) → children_by (kind_of op) (pos 0) ≡ 2
unfolding children_by children_of kind_of
operator_children Conjunction = refl
operator_children Disjunction = refl
operator_children Equality = refl
operator_children Less = refl
operator_children LessOrEqual = refl
operator_children Sum = refl
operator_children Difference = refl
operator_children Product = refl
operator_children Quotient = refl
operator_children Remainder = refl
operator_children Equivalence = refl

variable_size : (v : Variable) → length (nodes_of_variable v) ≡ size_of_variable v
unfolding nodes_of_variable size_of_variable
variable_size v = go (is_sort v.sort Boolean)
  where
    go : (t : Bool) → length (cond t (node 1 v.first ∷ []) (node 2 v.low ∷ node 3 v.high ∷ node 4 v.first ∷ [])) ≡ cond t 1 3
    go true = refl
    go false = refl

pub variables_size : (vs : List Variable) → length (flat_map nodes_of_variable vs) ≡ size_of_variables vs
unfolding flat_map size_of_variables
variables_size [] = refl
variables_size (v ∷ vs) =
    omega (arith, length-append (nodes_of_variable v) (flat_map nodes_of_variable vs), variable_size v, variables_size vs)

-- the nodes of this system, and no others
pub record SystemAt (ks : List ℕ) (ps : List ℤ) (t : System) : Type 0 where
  pub declarations : NodesAt ks ps (flat_map nodes_of_variable (variables t)) 0
  pub transitions : TransitionsAt ks ps t.transitions (transitions_place t)
  pub assertion : InstructionAt ks ps t.assertion (assertion_place t)
  pub nodes : length ks ≡ assertion_place t + size_of t.assertion

-- ---- parts of a list

module _ {A : Type 0} (l : List A) where
  part_cons : (n at : ℕ) (d : A) → at < length l → take (suc n) (drop at l) ≡ get_or l at d ∷ take n (drop (at + 1) l)
  part_cons n at d h = rw (drop-cons l at d h, add-one)

  part_append : (n m at : ℕ) → take (n + m) (drop at l) ≡ take n (drop at l) ++ take m (drop (at + n) l)
  part_append n m at = take-add n m (drop at l) ∙ ap (λ r. take n (drop at l) ++ take m r) (drop-drop n at l)

-- ---- trees

module _ (ks : List ℕ) (ps : List ℤ) where
  expression_within : (e : Expression) (at : ℕ) → ExpressionAt ks ps e at → at < length ks
  unfolding ExpressionAt
  expression_within (numeral v) at h = h.within
  expression_within (truth v) at h = h.within
  expression_within (variable x) at h = h.within
  expression_within (negation a) at h = h.0.within
  expression_within (binary op a b) at h = h.0.within
  expression_within (if_then_else c a b) at h = h.0.within

  pub instruction_within : (i : Instruction) (at : ℕ) → InstructionAt ks ps i at → at < length ks
  unfolding InstructionAt
  instruction_within skip at h = h.within
  instruction_within (assign x e) at h = h.0.within
  instruction_within (if_then c i) at h = h.0.within
  instruction_within (block is) at h = h.0.within

  module _ (nexts : List ℕ) (f : FollowsFrom ks ps nexts 0) where
    node_next : {at k : ℕ} {p : ℤ} → NodeAt ks ps at k p → get_or nexts at 0 ≡ following nexts (length ks) (children_by k p) (at + 1)
    node_next {at} {k} {p} n =
        f.follows at (omega arith) n.within
        ∙ ap (λ k. following nexts (length ks) (children_by k (get_or ps at (pos 0))) (at + 1)) n.kind
        ∙ ap (λ p. following nexts (length ks) (children_by k p) (at + 1)) n.parameter

    -- one child further
    follow_child : (n at next : ℕ) → at < length ks → get_or nexts at 0 ≡ next → following nexts (length ks) (suc n) at ≡ following nexts (length ks) n next
    follow_child n at next h e = following_step nexts (length ks) n at h ∙ ap (following nexts (length ks) n) e

    pub expression_next : (e : Expression) (at : ℕ) → ExpressionAt ks ps e at → get_or nexts at 0 ≡ at + size_of_expression e
    unfolding ExpressionAt size_of_expression children_by children_of following
    expression_next (numeral v) at h = node_next h
    expression_next (truth v) at h = node_next h
    expression_next (variable x) at h = node_next h
    expression_next (negation a) at h =
        node_next h.0
        ∙ follow_child 0 (at + 1) _ (expression_within a (at + 1) h.1) (expression_next a (at + 1) h.1)
        ∙ omega arith
    expression_next (binary op a b) at h =
        node_next h.0
        ∙ ap (λ n. following nexts (length ks) n (at + 1)) (operator_children op)
        ∙ follow_child 1 (at + 1) _ (expression_within a (at + 1) h.1) (expression_next a (at + 1) h.1)
        ∙ follow_child 0 _ _ (expression_within b _ h.2) (expression_next b _ h.2)
        ∙ omega arith
    expression_next (if_then_else c a b) at h =
        node_next h.0
        ∙ follow_child 2 (at + 1) _ (expression_within c (at + 1) h.1) (expression_next c (at + 1) h.1)
        ∙ follow_child 1 _ _ (expression_within a _ h.2) (expression_next a _ h.2)
        ∙ follow_child 0 _ _ (expression_within b _ h.3) (expression_next b _ h.3)
        ∙ omega arith

    mutual
      unfolding InstructionAt InstructionsAt size_of size_of_all count children_by children_of following

      pub instruction_next : (i : Instruction) (at : ℕ) → InstructionAt ks ps i at → get_or nexts at 0 ≡ at + size_of i
      instruction_next skip at h = node_next h
      instruction_next (assign x e) at h =
          node_next h.0
          ∙ follow_child 0 (at + 1) _ (expression_within e (at + 1) h.1) (expression_next e (at + 1) h.1)
          ∙ omega arith
      instruction_next (if_then c i) at h =
          node_next h.0
          ∙ follow_child 1 (at + 1) _ (expression_within c (at + 1) h.1) (expression_next c (at + 1) h.1)
          ∙ follow_child 0 _ _ (instruction_within i _ h.2) (instruction_next i _ h.2)
          ∙ omega arith
      instruction_next (block is) at h = node_next h.0 ∙ branches_next is (at + 1) h.1 ∙ omega arith

      pub branches_next : (is : Instructions) (at : ℕ) → InstructionsAt ks ps is at → following nexts (length ks) (count is) at ≡ at + size_of_all is
      branches_next none at h = omega arith
      branches_next (more i is) at h =
          follow_child (count is) at _ (instruction_within i at h.0) (instruction_next i at h.0)
          ∙ branches_next is (at + size_of i) h.1
          ∙ omega arith

    -- ---- the list of next places

    module _ (long : length ks ≤ length nexts) where
      -- an entry and the entries after it
      entry_cons : (n at : ℕ) {next : ℕ} {rest : List ℕ} → at < length ks → get_or nexts at 0 ≡ next → take n (drop (at + 1) nexts) ≡ rest
          → take (suc n) (drop at nexts) ≡ next ∷ rest
      entry_cons n at {next} h e r = part_cons nexts n at 0 (omega arith) ∙ ap (λ x. x ∷ take n (drop (at + 1) nexts)) e ∙ ap (λ l. next ∷ l) r

      entries_append : (n m at : ℕ) {left right : List ℕ} → take n (drop at nexts) ≡ left → take m (drop (at + n) nexts) ≡ right
          → take (n + m) (drop at nexts) ≡ left ++ right
      entries_append n m at {left} e r = part_append nexts n m at ∙ ap (λ l. l ++ take m (drop (at + n) nexts)) e ∙ ap (λ l. left ++ l) r

      expression_list : (e : Expression) (at : ℕ) → ExpressionAt ks ps e at → take (size_of_expression e) (drop at nexts) ≡ nexts_of_expression e at
      unfolding ExpressionAt size_of_expression nexts_of_expression
      expression_list (numeral v) at h = entry_cons 0 at h.within (expression_next (numeral v) at h) refl
      expression_list (truth v) at h = entry_cons 0 at h.within (expression_next (truth v) at h) refl
      expression_list (variable x) at h = entry_cons 0 at h.within (expression_next (variable x) at h) refl
      expression_list (negation a) at h =
          entry_cons (size_of_expression a) at h.0.within (expression_next (negation a) at h) (expression_list a (at + 1) h.1)
      expression_list (binary op a b) at h =
          entry_cons (size_of_expression a + size_of_expression b) at h.0.within (expression_next (binary op a b) at h)
          (entries_append (size_of_expression a) (size_of_expression b) (at + 1) (expression_list a _ h.1) (expression_list b _ h.2))
      expression_list (if_then_else c a b) at h =
          entry_cons (size_of_expression c + (size_of_expression a + size_of_expression b)) at h.0.within (expression_next (if_then_else c a b) at h)
          (entries_append (size_of_expression c) (size_of_expression a + size_of_expression b) (at + 1) (expression_list c _ h.1)
          (entries_append (size_of_expression a) (size_of_expression b) (at + 1 + size_of_expression c) (expression_list a _ h.2) (expression_list b _ h.3)))

      mutual
        unfolding InstructionAt InstructionsAt size_of size_of_all nexts_of nexts_of_all

        instruction_list : (i : Instruction) (at : ℕ) → InstructionAt ks ps i at → take (size_of i) (drop at nexts) ≡ nexts_of i at
        instruction_list skip at h = entry_cons 0 at h.within (instruction_next skip at h) refl
        instruction_list (assign x e) at h =
            entry_cons (size_of_expression e) at h.0.within (instruction_next (assign x e) at h) (expression_list e (at + 1) h.1)
        instruction_list (if_then c i) at h =
            entry_cons (size_of_expression c + size_of i) at h.0.within (instruction_next (if_then c i) at h)
            (entries_append (size_of_expression c) (size_of i) (at + 1) (expression_list c _ h.1) (instruction_list i _ h.2))
        instruction_list (block is) at h =
            entry_cons (size_of_all is) at h.0.within (instruction_next (block is) at h) (branches_list is (at + 1) h.1)

        branches_list : (is : Instructions) (at : ℕ) → InstructionsAt ks ps is at → take (size_of_all is) (drop at nexts) ≡ nexts_of_all is at
        branches_list none at h = refl
        branches_list (more i is) at h =
            entries_append (size_of i) (size_of_all is) at (instruction_list i at h.0) (branches_list is (at + size_of i) h.1)

      variable_list : (v : Variable) (at : ℕ) → NodesAt ks ps (nodes_of_variable v) at
          → take (size_of_variable v) (drop at nexts) ≡ cond (is_sort v.sort Boolean) ((at + 1) ∷ []) ((at + 1) ∷ (at + 2) ∷ (at + 3) ∷ [])
      unfolding nodes_of_variable size_of_variable NodesAt children_by children_of following
      variable_list v at h = go (is_sort v.sort Boolean) h
        where
          go : (t : Bool) → NodesAt ks ps (cond t (node 1 v.first ∷ []) (node 2 v.low ∷ node 3 v.high ∷ node 4 v.first ∷ [])) at
              → take (cond t 1 3) (drop at nexts) ≡ cond t ((at + 1) ∷ []) ((at + 1) ∷ (at + 2) ∷ (at + 3) ∷ [])
          go true h = entry_cons 0 at h.0.within (node_next h.0) refl
          go false h =
              entry_cons 2 at h.0.within (node_next h.0)
              (entry_cons 1 (at + 1) h.1.0.within (node_next h.1.0 ∙ omega arith)
              (entry_cons 0 (at + 1 + 1) h.1.1.0.within (node_next h.1.1.0 ∙ omega arith) refl))

      variables_list : (vs : List Variable) (at : ℕ) → NodesAt ks ps (flat_map nodes_of_variable vs) at
          → take (size_of_variables vs) (drop at nexts) ≡ nexts_of_variables vs at
      unfolding flat_map size_of_variables nexts_of_variables
      variables_list [] at h = refl
      variables_list (v ∷ vs) at h =
          let r = nodes_split ks ps (nodes_of_variable v) (flat_map nodes_of_variable vs) at h in
          entries_append (size_of_variable v) (size_of_variables vs) at (variable_list v at r.0)
          (variables_list vs (at + size_of_variable v) (subst (λ n. NodesAt ks ps (flat_map nodes_of_variable vs) (at + n)) (variable_size v) r.1))

      transition_next : (t : Transition) (at : ℕ) → NodeAt ks ps at 5 (pos t.event) → ExpressionAt ks ps t.guard (at + 1)
          → InstructionAt ks ps t.action (at + 1 + size_of_expression t.guard) → get_or nexts at 0 ≡ at + size_of_transition t
      unfolding size_of_transition children_by children_of following
      transition_next t at n g a =
          node_next n
          ∙ follow_child 1 (at + 1) _ (expression_within t.guard _ g) (expression_next t.guard _ g)
          ∙ follow_child 0 _ _ (instruction_within t.action _ a) (instruction_next t.action _ a)
          ∙ omega arith

      transitions_list : (ts : List Transition) (at : ℕ) → TransitionsAt ks ps ts at
          → take (size_of_transitions ts) (drop at nexts) ≡ nexts_of_transitions ts at
      unfolding TransitionsAt size_of_transitions size_of_transition nexts_of_transitions
      transitions_list [] at h = refl
      transitions_list (t ∷ ts) at h =
          entries_append (size_of_transition t) (size_of_transitions ts) at
          (entry_cons (size_of_expression t.guard + size_of t.action) at h.0.within (transition_next t at h.0 h.1 h.2)
          (entries_append (size_of_expression t.guard) (size_of t.action) (at + 1) (expression_list t.guard _ h.1) (instruction_list t.action _ h.2)))
          (transitions_list ts (at + size_of_transition t) (subst (TransitionsAt ks ps ts) (omega arith) h.3))

      -- the whole table
      system_list : (t : System) → SystemAt ks ps t → take (length ks) nexts ≡ nexts_of_system t
      unfolding nexts_of_system
      system_list t h =
          let size : length ks ≡ transitions_place t + (size_of_transitions t.transitions + size_of t.assertion) = omega (arith, h.nodes) in
          let place : transitions_place t ≡ 0 + transitions_place t = omega arith in
          ap (λ n. take n nexts) size
          ∙ entries_append (transitions_place t) (size_of_transitions t.transitions + size_of t.assertion) 0 (variables_list (variables t) 0 h.declarations)
          (ap (λ n. take (size_of_transitions t.transitions + size_of t.assertion) (drop n nexts)) (sym place)
          ∙ entries_append (size_of_transitions t.transitions) (size_of t.assertion) (transitions_place t) (transitions_list t.transitions (transitions_place t) h.transitions)
          (instruction_list t.assertion (assertion_place t) h.assertion))

-- ---- the filled table is the list

module _ (ks : List ℕ) (ps : List ℤ) (t : System) (h : SystemAt ks ps t) where
  filled_take : (nexts : List ℕ) → length ks ≤ length nexts → take (length ks) (filled ks ps (length ks) nexts) ≡ nexts_of_system t
  filled_take nexts long =
      system_list ks ps (filled ks ps (length ks) nexts) (filled_all ks ps nexts long) (omega (arith, filled_length ks ps (length ks) nexts)) t h

  abbrev zeros : List ℕ
  zeros = replicate (length ks) 0

  zeros_long : length zeros ≡ length ks
  zeros_long = length-replicate (length ks) 0

  pub nexts_length : length (nexts_of_system t) ≡ length ks
  nexts_length =
      ap length (sym (filled_take zeros (omega (arith, zeros_long))))
      ∙ length-take-le (length ks) (filled ks ps (length ks) zeros) (omega (arith, zeros_long, filled_length ks ps (length ks) zeros))

  pub filled_nexts : (nexts : List ℕ) → length nexts ≡ length ks → filled ks ps (length ks) nexts ≡ nexts_of_system t
  filled_nexts nexts long =
      sym (take_all (length ks) (filled ks ps (length ks) nexts) (omega (arith, filled_length ks ps (length ks) nexts, long)))
      ∙ filled_take nexts (omega (arith, long))

  -- every entry of the list follows its node's children
  pub nexts_follow : FollowsFrom ks ps (nexts_of_system t) 0
  nexts_follow = subst (λ l. FollowsFrom ks ps l 0) (filled_nexts zeros zeros_long) (filled_all ks ps zeros (omega (arith, zeros_long)))
