-- Variables and transitions that stand among the nodes are what the walk finds there.
use mathlib.Core.Path.{◌≡◌, refl, sym, ap, ◌∙◌, subst}
use mathlib.Core.Logic.{◌⊎◌, inl, inr}
use mathlib.Core.Bool.{Bool, true, false, ◌&&◌}
use mathlib.Core.List.{List, [], ◌∷◌, ◌++◌, flat_map}
use Prim.Native.Nat.{ℕ, suc, ◌+◌}
use native.Mathlib.Nat.{le_trans}
use native.Mathlib.Omega.{arith}
use lib.Dec.{T, leb→le, le→leb}
use lib.IntN.{ℤ, pos, negsuc}
use lib.Signed.{le_z}
use lib.ListN.{length, length-append}
use Rattle.evaluation.specs.Numbers.{representable, least, greatest}
use Rattle.kinds.specs.Kinds.{place_of}
use Rattle.std.specs.Prelude.{None}
use Rattle.kinds.specs.declared.Sort.TheVariants.{Boolean, Number}
use Rattle.kinds.specs.declared.Place.TheVariants.{Variable as VariablePlace, HighEnd, FirstValue, Transition as TransitionPlace}
use Rattle.kinds.specs.Kinds.{boolean_sort}
use Rattle.model.specs.Trees.{Variable, Transition}
use Rattle.model.specs.Nodes.{nodes_of_variable}
use Rattle.model.specs.Walk.{Walk, Scope, and_then, unless_refused, variable_at, range_at, transition_at, row_at}
use Rattle.syntax.specs.Readings.{variable_fits, stands_at, is_truth, is_target, variable_refusal, end_refusal, transition_refusal}
use Rattle.model.specs.Walk.Walk.{found}
use Rattle.model.specs.Check.{max_depth}
use Rattle.model.specs.WellFormed.{Declared, GuardedBy, All}
use Rattle.model.specs.Standing.{NodeAt, ExpressionAt, InstructionAt, size_of_expression, size_of, size_of_transition, size_of_transitions}
use Rattle.model.proofs.KindCases.{both, stands}
use Rattle.model.proofs.WalkClaims.{node_refusal}
use Rattle.model.proofs.NodeLists.{TransitionsAt, NodesAt, nodes_split}
use Rattle.model.proofs.Complete.{T_true, target_fits, complete_expression, complete_instruction}

-- ---- order of whole numbers

pub le_z_trans : (a b c : ℤ) → T (le_z a b) → T (le_z b c) → T (le_z a c)
le_z_trans (pos a) (pos b) (pos c) h k = le→leb a c (le_trans (leb→le a b h) (leb→le b c k))
le_z_trans (pos a) (pos b) (negsuc c) h k = k
le_z_trans (pos a) (negsuc b) c h k = absurd h
le_z_trans (negsuc a) (pos b) (pos c) h k = tt
le_z_trans (negsuc a) (pos b) (negsuc c) h k = absurd k
le_z_trans (negsuc a) (negsuc b) (pos c) h k = tt
le_z_trans (negsuc a) (negsuc b) (negsuc c) h k = le→leb c a (le_trans (leb→le c b k) (leb→le b a h))

pub all_true : (a b : Bool) → T a → T b → (a && b) ≡ true
all_true true b h k = T_true b k
all_true false b h k = absurd h

-- ---- variables

variable_path : (v w : Variable) → v.sort ≡ w.sort → v.low ≡ w.low → v.high ≡ w.high → v.first ≡ w.first → v ≡ w
variable_path v w p q r s = λ i. record { sort = p i; low = q i; high = r i; first = s i }

module _ (ks : List ℕ) (ps : List ℤ) where
  abbrev VariableIsFound : ℕ → Variable → Type 0
  VariableIsFound at v = NodesAt ks ps (nodes_of_variable v) at → variable_at ks ps at ≡ found v (at + length (nodes_of_variable v))

  complete_boolean : (first : ℤ) (at : ℕ) → T (is_truth first) → VariableIsFound at (record { sort = Boolean; low = pos 0; high = pos 1; first = first })
  unfolding NodesAt nodes_of_variable variable_at variable_refusal unless_refused place_of
  complete_boolean first at t n =
      let z : variable_refusal ks ps at ≡ None =
      node_refusal ks ps (stands_at VariablePlace) variable_fits 1 at 1 first n.0 (omega arith) (stands VariablePlace 1 refl) (T_true (is_truth first) t) in
      rw (z, n.0.kind, n.0.parameter)

  complete_number : (low high first : ℤ) (at : ℕ) → T (representable high) → T (le_z low first) → T (le_z first high)
      → VariableIsFound at (record { sort = Number; low = low; high = high; first = first })
  unfolding NodesAt nodes_of_variable variable_at variable_refusal range_at end_refusal unless_refused place_of
  complete_number low high first at r h l n =
      let z : variable_refusal ks ps at ≡ None =
      node_refusal ks ps (stands_at VariablePlace) variable_fits 1 at 2 low n.0 (omega arith) (stands VariablePlace 2 refl) refl in
      let y : end_refusal ks ps HighEnd low greatest (at + 1) ≡ None =
      node_refusal ks ps (stands_at HighEnd) (λ k p. le_z low p && le_z p greatest) 1 (at + 1) 3 high n.1.0 (omega arith) (stands HighEnd 3 refl)
      (all_true (le_z low high) (le_z high greatest) (le_z_trans low first high h l) (representable_high high r)) in
      let x : end_refusal ks ps FirstValue low high (at + 1 + 1) ≡ None =
      node_refusal ks ps (stands_at FirstValue) (λ k p. le_z low p && le_z p high) 1 (at + 1 + 1) 4 first n.1.1.0 (omega arith) (stands FirstValue 4 refl)
      (all_true (le_z low first) (le_z first high) h l) in
      rw (z, n.0.kind, n.0.parameter, y, n.1.0.parameter, x, n.1.1.0.parameter) (ap (found (record { sort = Number; low = low; high = high; first = first })) (omega arith))
    where
      representable_high : (v : ℤ) → T (representable v) → T (le_z v greatest)
      representable_high v t = subst T (sym (both (le_z least v) (le_z v greatest) (T_true (representable v) t)).1) tt

  complete_variable : (v : Variable) (at : ℕ) → Declared v → VariableIsFound at v
  unfolding Declared
  complete_variable v at d = by d
    where
      by : ((v.sort ≡ Boolean) × (v.low ≡ pos 0) × (v.high ≡ pos 1) × T (is_truth v.first))
          ⊎ ((v.sort ≡ Number) × T (representable v.low) × T (representable v.high) × T (le_z v.low v.first) × T (le_z v.first v.high))
          → VariableIsFound at v
      by (inl h) =
          subst (VariableIsFound at) (sym (variable_path v (record { sort = Boolean; low = pos 0; high = pos 1; first = v.first }) h.0 h.1 h.2 refl))
          (complete_boolean v.first at h.3)
      by (inr h) =
          subst (VariableIsFound at) (sym (variable_path v (record { sort = Number; low = v.low; high = v.high; first = v.first }) h.0 refl refl refl))
          (complete_number v.low v.high v.first at h.2 h.3 h.4)

-- a row of n + 1 is one and a row of n
pub more_items : {A : Type 0} (item : ℕ → Walk A) (n at : ℕ) (a : A) (rest : List A) (second next : ℕ) → item at ≡ found a second → row_at item n second ≡ found rest next
    → row_at item (suc n) at ≡ found (a ∷ rest) next
unfolding and_then
more_items item n at a rest second next h l = row_step ∙ rw (h, l)
  where
    row_step : row_at item (suc n) at ≡ and_then (item at) (λ a next. and_then (row_at item n next) (λ rest last. found (a ∷ rest) last))
    row_step = unfold row_at in refl

module _ (ks : List ℕ) (ps : List ℤ) where
  pub complete_variables : (vs : List Variable) (at : ℕ) → NodesAt ks ps (flat_map nodes_of_variable vs) at → All Declared vs
      → row_at (variable_at ks ps) (length vs) at ≡ found vs (at + length (flat_map nodes_of_variable vs))
  unfolding flat_map All row_at
  complete_variables [] at n d = ap (found []) (omega arith)
  complete_variables (v ∷ vs) at n d =
      let h = nodes_split ks ps (nodes_of_variable v) (flat_map nodes_of_variable vs) at n in
      more_items (variable_at ks ps) (length vs) at v vs (at + length (nodes_of_variable v)) (at + length (nodes_of_variable v ++ flat_map nodes_of_variable vs))
      (complete_variable ks ps v at d.0 h.0)
      (complete_variables vs (at + length (nodes_of_variable v)) h.1 d.1
      ∙ ap (found vs) (omega (arith, length-append (nodes_of_variable v) (flat_map nodes_of_variable vs))))

  -- ---- transitions

  pub complete_transition : (events : ℕ) (s : Scope) (t : Transition) (at : ℕ) → NodeAt ks ps at 5 (pos t.event) → ExpressionAt ks ps t.guard (at + 1)
      → InstructionAt ks ps t.action (at + 1 + size_of_expression t.guard) → GuardedBy events s t
      → transition_at ks ps events s max_depth at ≡ found t (at + 1 + size_of_expression t.guard + size_of t.action)
  unfolding transition_at transition_refusal unless_refused and_then place_of
  complete_transition events s t at n g a h =
      let z : transition_refusal ks ps events at ≡ None =
      node_refusal ks ps (stands_at TransitionPlace) (λ k p. is_target 0 events p) 1 at 5 (pos t.event) n (omega arith) (stands TransitionPlace 5 refl) (target_fits 0 events t.event (omega arith) h.event) in
      rw (
        z,
        complete_expression ks ps s.sorts t.guard 32 boolean_sort (at + 1) g h.guard h.guard_depth,
        complete_instruction ks ps t.action s 32 (at + 1 + size_of_expression t.guard) a h.action h.action_depth,
        n.parameter,
      )

  pub complete_transitions : (events : ℕ) (s : Scope) (ts : List Transition) (at : ℕ) → TransitionsAt ks ps ts at → All (GuardedBy events s) ts
      → row_at (transition_at ks ps events s max_depth) (length ts) at ≡ found ts (at + size_of_transitions ts)
  unfolding TransitionsAt All row_at size_of_transitions size_of_transition
  complete_transitions events s [] at n h = ap (found []) (omega arith)
  complete_transitions events s (t ∷ ts) at n h =
      let second = at + 1 + size_of_expression t.guard + size_of t.action in
      more_items (transition_at ks ps events s max_depth) (length ts) at t ts second (at + (suc (size_of_expression t.guard + size_of t.action) + size_of_transitions ts))
      (complete_transition events s t at n.0 n.1 n.2 h.0)
      (complete_transitions events s ts second n.3 h.1 ∙ ap (found ts) (omega arith))
