-- What the walk finds in rows: the variables and the transitions.
use mathlib.Core.Path.{◌≡◌, refl, sym, ap, subst}
use mathlib.Core.Logic.{inl, inr}
use mathlib.Core.Bool.{Bool, true, cond, ◌&&◌, ◌||◌}
use mathlib.Core.List.{List, [], ◌∷◌, flat_map}
use Prim.Native.Nat.{ℕ, zero, suc, ◌+◌}
use native.Mathlib.Omega.{arith}
use lib.Dec.{eqb}
use lib.IntN.{ℤ, pos}
use lib.Signed.{le_z}
use lib.ListN.{length, length-append}
use Rattle.evaluation.specs.Numbers.{greatest}
use Rattle.kinds.specs.declared.Sort.TheVariants.{Boolean}
use Rattle.kinds.specs.declared.Place.TheVariants.{Variable as VariablePlace, HighEnd, FirstValue, Transition as TransitionPlace}
use Rattle.kinds.specs.Kinds.{boolean_sort}
use Rattle.model.specs.Trees.{Variable, Transition}
use Rattle.model.specs.Nodes.{nodes_of_variable}
use Rattle.model.specs.Walk.{Walk, Scope, expression_at, instruction_at, variable_at, range_at, transition_at, row_at}
use Rattle.syntax.specs.Readings.{variable_fits, stands_at, is_truth, is_target, variable_refusal, end_refusal, transition_refusal, kind_at, parameter_at}
use Rattle.model.specs.Walk.Walk.{found}
use Rattle.model.specs.Check.{max_depth}
use Rattle.model.specs.WellFormed.{Declared, GuardedBy, All}
use Rattle.model.specs.Standing.{NodeAt, ExpressionAt, InstructionAt, size_of_expression, size_of, size_of_transition, size_of_transitions}
use Rattle.model.proofs.KindCases.{both, standing_place, VariableKind, variable_kind, high_kind, first_kind, transition_kind}
use Rattle.model.proofs.KindCases.VariableKind.{is_boolean, is_number}
use Rattle.model.proofs.WalkClaims.{Holds, holds_found, holds_map, holds_then, holds_unless, Due, no_refusal}
use Rattle.model.proofs.NodeLists.{TransitionsAt, NodesAt, nodes_append}
use Rattle.model.proofs.Standing.{AllRepresentable, ExpressionFound, InstructionFound, expression_found, instruction_found, due_node, holds_T, target}

-- ---- rows of anything

-- each item was found where the one before it ended
unfoldable pub Items : {A : Type 0} → (ℕ → A → ℕ → Type 0) → List A → ℕ → ℕ → Type 0
Items P [] at next = next ≡ at
Items P (a ∷ rest) at next = (second : ℕ) × P at a second × Items P rest second next

pub record RowFound {A : Type 0} (P : ℕ → A → ℕ → Type 0) (n at : ℕ) (list : List A) (next : ℕ) : Type 0 where
  pub number : length list ≡ n
  pub items : Items P list at next

pub row_found : {A : Type 0} (P : ℕ → A → ℕ → Type 0) (item : ℕ → Walk A) → ((at : ℕ) → Holds (P at) (item at))
    → (n at : ℕ) → Holds (RowFound P n at) (row_at item n at)
unfolding Holds row_at Items
row_found P item finds zero at = record { number = refl; items = refl }
row_found P item finds (suc n) at =
    holds_then (P at) (RowFound P (suc n) at) (item at) _ (finds at)
    (λ a next g.
    holds_then (RowFound P n next) (RowFound P (suc n) at) (row_at item n next) _ (row_found P item finds n next)
    (λ rest last r. record { number = ap suc r.number; items = (next, g, r.items) }))

-- ---- variables

pub record VariableFound (ks : List ℕ) (ps : List ℤ) (at : ℕ) (v : Variable) (next : ℕ) : Type 0 where
  pub nodes : NodesAt ks ps (nodes_of_variable v) at
  pub after : next ≡ at + length (nodes_of_variable v)
  pub declared : AllRepresentable ps → Declared v

module _ (ks : List ℕ) (ps : List ℤ) (long : length ps ≡ length ks) where
  -- a node of the kind that its rule names
  due_kind : {allowed : ℕ → Bool} {fits : ℕ → ℤ → Bool} {left at : ℕ} (k : ℕ) → kind_at ks ps at ≡ k → Due ks ps allowed fits left at
      → NodeAt ks ps at k (parameter_at ks ps at)
  due_kind {at = at} k e d = subst (λ k. NodeAt ks ps at k (parameter_at ks ps at)) e (due_node ks ps long d)

  abbrev VariableClaim : ℕ → ℕ → Type 0
  VariableClaim at k =
      NodeAt ks ps at k (parameter_at ks ps at) → (eqb k 2 || is_truth (parameter_at ks ps at)) ≡ true
      → Holds (VariableFound ks ps at)
      (cond (eqb k 1)
      (found (record { sort = Boolean; low = pos 0; high = pos 1; first = parameter_at ks ps at }) (at + 1))
      (range_at ks ps (parameter_at ks ps at) (at + 1)))

  boolean_found : (at : ℕ) → VariableClaim at 1
  unfolding Holds NodesAt nodes_of_variable Declared
  boolean_found at n f = record { nodes = (n, tt); after = refl; declared = λ r. inl (refl, refl, refl, holds_T f) }

  number_found : (at : ℕ) → VariableClaim at 2
  unfolding Holds range_at NodesAt nodes_of_variable Declared end_refusal
  number_found at n f =
      holds_unless (VariableFound ks ps at) (end_refusal ks ps HighEnd (parameter_at ks ps at) greatest (at + 1)) _
      (λ e.
      holds_unless (VariableFound ks ps at) (end_refusal ks ps FirstValue (parameter_at ks ps at) (parameter_at ks ps (at + 1)) (at + 1 + 1)) _
      (λ l.
      let d = no_refusal ks ps (stands_at HighEnd) (λ k p. le_z (parameter_at ks ps at) p && le_z p greatest) 1 (at + 1) e in
      let g = no_refusal ks ps (stands_at FirstValue) (λ k p. le_z (parameter_at ks ps at) p && le_z p (parameter_at ks ps (at + 1))) 1 (at + 1 + 1) l in
      let b = both (le_z (parameter_at ks ps at) (parameter_at ks ps (at + 1 + 1))) (le_z (parameter_at ks ps (at + 1 + 1)) (parameter_at ks ps (at + 1))) g.suits in
      record {
        nodes = (
          n,
          (
            due_kind 3 (high_kind (kind_at ks ps (at + 1)) (standing_place HighEnd (kind_at ks ps (at + 1)) d.allows)) d,
            (
              due_kind 4 (first_kind (kind_at ks ps (at + 1 + 1)) (standing_place FirstValue (kind_at ks ps (at + 1 + 1)) g.allows)) g,
              tt,
            ),
          ),
        );
        after = omega arith;
        declared = λ r. inr (refl, r at, r (at + 1), holds_T b.0, holds_T b.1);
      }))

  kind_found : (at k : ℕ) → VariableKind k → VariableClaim at k
  kind_found at k (is_boolean e) = subst (VariableClaim at) (sym e) (boolean_found at)
  kind_found at k (is_number e) = subst (VariableClaim at) (sym e) (number_found at)

  pub variable_found : (at : ℕ) → Holds (VariableFound ks ps at) (variable_at ks ps at)
  unfolding Holds variable_at variable_refusal
  variable_found at =
      holds_unless (VariableFound ks ps at) (variable_refusal ks ps at) _
      (λ e.
      let d = no_refusal ks ps (stands_at VariablePlace) variable_fits 1 at e in
      kind_found at (kind_at ks ps at) (variable_kind (kind_at ks ps at) (standing_place VariablePlace (kind_at ks ps at) d.allows)) (due_node ks ps long d) d.suits)

-- what a row of variables comes to
pub record VariablesFound (ks : List ℕ) (ps : List ℤ) (n at : ℕ) (vs : List Variable) (next : ℕ) : Type 0 where
  pub number : length vs ≡ n
  pub nodes : NodesAt ks ps (flat_map nodes_of_variable vs) at
  pub after : next ≡ at + length (flat_map nodes_of_variable vs)
  pub declared : AllRepresentable ps → All Declared vs

module _ (ks : List ℕ) (ps : List ℤ) where
  variables_nodes : (vs : List Variable) (at next : ℕ) → Items (VariableFound ks ps) vs at next → VariablesFound ks ps (length vs) at vs next
  unfolding Items flat_map NodesAt All
  variables_nodes [] at next e = record { number = refl; nodes = tt; after = omega arith; declared = λ r. tt }
  variables_nodes (v ∷ vs) at next h =
      let f = h.1 in
      let g = variables_nodes vs h.0 next h.2 in
      record {
        number = refl;
        nodes = nodes_append ks ps (nodes_of_variable v) (flat_map nodes_of_variable vs) at f.nodes (subst (NodesAt ks ps (flat_map nodes_of_variable vs)) f.after g.nodes);
        after = omega (arith, length-append (nodes_of_variable v) (flat_map nodes_of_variable vs), f.after, g.after);
        declared = λ r. (f.declared r, g.declared r);
      }

  variables_row : (n at : ℕ) (vs : List Variable) (next : ℕ) → RowFound (VariableFound ks ps) n at vs next → VariablesFound ks ps n at vs next
  variables_row n at vs next r =
      subst (λ n. VariablesFound ks ps n at vs next) r.number (variables_nodes vs at next r.items)

module _ (ks : List ℕ) (ps : List ℤ) (long : length ps ≡ length ks) where
  pub variables_found : (n at : ℕ) → Holds (VariablesFound ks ps n at) (row_at (variable_at ks ps) n at)
  variables_found n at =
      holds_map (RowFound (VariableFound ks ps) n at) (VariablesFound ks ps n at) (row_at (variable_at ks ps) n at) (variables_row ks ps n at)
      (row_found (VariableFound ks ps) (variable_at ks ps) (variable_found ks ps long) n at)

  pub standing_variables : (n at : ℕ) {vs : List Variable} {next : ℕ} → row_at (variable_at ks ps) n at ≡ found vs next → VariablesFound ks ps n at vs next
  standing_variables n at e = holds_found (VariablesFound ks ps n at) (variables_found n at) e

-- ---- transitions

pub record TransitionFound (ks : List ℕ) (ps : List ℤ) (events : ℕ) (s : Scope) (at : ℕ) (t : Transition) (next : ℕ) : Type 0 where
  pub node : NodeAt ks ps at 5 (pos t.event)
  pub guard : ExpressionAt ks ps t.guard (at + 1)
  pub action : InstructionAt ks ps t.action (at + 1 + size_of_expression t.guard)
  pub after : next ≡ at + 1 + size_of_expression t.guard + size_of t.action
  pub guarded : AllRepresentable ps → GuardedBy events s t

pub transition_found : (ks : List ℕ) (ps : List ℤ) → length ps ≡ length ks → (events : ℕ) (s : Scope) (at : ℕ)
    → Holds (TransitionFound ks ps events s at) (transition_at ks ps events s max_depth at)
unfolding Holds transition_at transition_refusal
transition_found ks ps long events s at =
    holds_unless (TransitionFound ks ps events s at) (transition_refusal ks ps events at) _
    (λ e.
    holds_then (ExpressionFound ks ps s.sorts max_depth boolean_sort (at + 1)) (TransitionFound ks ps events s at) (expression_at ks ps s.sorts max_depth boolean_sort (at + 1)) _ (expression_found ks ps long s.sorts max_depth boolean_sort (at + 1))
    (λ g second f.
    holds_then (InstructionFound ks ps s max_depth second) (TransitionFound ks ps events s at) (instruction_at ks ps s max_depth second) _ (instruction_found ks ps long s max_depth second)
    (λ a next l.
    let d = no_refusal ks ps (stands_at TransitionPlace) (λ k p. is_target 0 events p) 1 at e in
    let t = target 0 events (parameter_at ks ps at) d.suits in
    record {
      node = subst (NodeAt ks ps at 5) t.number (due_kind ks ps long 5 (transition_kind (kind_at ks ps at) (standing_place TransitionPlace (kind_at ks ps at) d.allows)) d);
      guard = f.stands;
      action = subst (InstructionAt ks ps a) f.after l.stands;
      after = omega (arith, f.after, l.after);
      guarded = λ r. record { event = t.below; guard = f.sorted r; guard_depth = f.depth; action = l.scoped r; action_depth = l.depth };
    })))

pub record TransitionsFound (ks : List ℕ) (ps : List ℤ) (events : ℕ) (s : Scope) (n at : ℕ) (ts : List Transition) (next : ℕ) : Type 0 where
  pub number : length ts ≡ n
  pub stands : TransitionsAt ks ps ts at
  pub after : next ≡ at + size_of_transitions ts
  pub guarded : AllRepresentable ps → All (GuardedBy events s) ts

module _ (ks : List ℕ) (ps : List ℤ) (events : ℕ) (s : Scope) where
  transitions_stand : (ts : List Transition) (at next : ℕ) → Items (TransitionFound ks ps events s) ts at next
      → TransitionsFound ks ps events s (length ts) at ts next
  unfolding Items TransitionsAt All size_of_transitions size_of_transition
  transitions_stand [] at next e = record { number = refl; stands = tt; after = omega arith; guarded = λ r. tt }
  transitions_stand (t ∷ ts) at next h =
      let f = h.1 in
      let g = transitions_stand ts h.0 next h.2 in
      record {
        number = refl;
        stands = (f.node, f.guard, f.action, subst (TransitionsAt ks ps ts) f.after g.stands);
        after = omega (arith, f.after, g.after);
        guarded = λ r. (f.guarded r, g.guarded r);
      }

  transitions_row : (n at : ℕ) (ts : List Transition) (next : ℕ) → RowFound (TransitionFound ks ps events s) n at ts next
      → TransitionsFound ks ps events s n at ts next
  transitions_row n at ts next r =
      subst (λ n. TransitionsFound ks ps events s n at ts next) r.number (transitions_stand ts at next r.items)

module _ (ks : List ℕ) (ps : List ℤ) (long : length ps ≡ length ks) (events : ℕ) (s : Scope) (n at : ℕ) where
  pub transitions_found : Holds (TransitionsFound ks ps events s n at) (row_at (transition_at ks ps events s max_depth) n at)
  transitions_found =
      holds_map (RowFound (TransitionFound ks ps events s) n at) (TransitionsFound ks ps events s n at) (row_at (transition_at ks ps events s max_depth) n at) (transitions_row ks ps events s n at)
      (row_found (TransitionFound ks ps events s) (transition_at ks ps events s max_depth) (transition_found ks ps long events s) n at)

  pub standing_transitions : {ts : List Transition} {next : ℕ} → row_at (transition_at ks ps events s max_depth) n at ≡ found ts next
      → TransitionsFound ks ps events s n at ts next
  standing_transitions e = holds_found (TransitionsFound ks ps events s n at) transitions_found e
