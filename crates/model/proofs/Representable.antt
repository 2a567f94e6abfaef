-- Every parameter of a well-formed tree is a 32-bit number.
use mathlib.Core.Path.{◌≡◌, refl}
use mathlib.Core.Logic.{◌⊎◌, inl, inr}
use mathlib.Core.Bool.{Bool, true, false, false≢true, ◌||◌}
use mathlib.Core.List.{List, [], ◌∷◌, ◌++◌, map, flat_map}
use Prim.Native.Nat.{ℕ, ◌≤◌, ◌<◌}
use native.Mathlib.Omega.{arith}
use borrow.Author.Tests.{eqb-true}
use lib.Dec.{T, eqb}
use lib.IntN.{ℤ, pos, negsuc}
use lib.Signed.{le_z}
use lib.ListN.{length, length-append, length-map}
use Rattle.evaluation.specs.Numbers.{eq_z, representable, least, greatest}
use Rattle.std.specs.Prelude.{Option}
use Rattle.kinds.specs.declared.Sort.{Sort}
use Rattle.kinds.specs.declared.Sort.TheVariants.{Boolean, Number}
use Rattle.kinds.specs.Kinds.{boolean_sort}
use Rattle.model.specs.Trees.{Expression, Instruction, Instructions, Variable, Transition, System, variables, sorts_of, count}
use Rattle.model.specs.Trees.Expression.{numeral, truth, variable, negation, binary, if_then_else}
use Rattle.model.specs.Trees.Instruction.{skip, assign, if_then, block}
use Rattle.model.specs.Trees.Instructions.{none, more}
use Rattle.model.specs.Nodes.{Node, nodes_of_expression, nodes_of, nodes_of_all, nodes_of_variable, nodes_of_transition, nodes_of_system}
use Rattle.model.specs.Walk.{Scope}
use Rattle.syntax.specs.Readings.{is_truth}
use Rattle.model.specs.Check.{action_scope, assertion_scope}
use Rattle.model.specs.WellFormed.{Sorted, Scoped, AllScoped, Declared, GuardedBy, All, WellFormedIn, sizes_of}
use Rattle.model.specs.declared.Layout.{Layout}
use Rattle.model.specs.Sizes.{size_bound_of}
use Rattle.model.specs.Theorems.{Sound}
use Rattle.model.specs.Standing.{size_of, size_of_all, size_of_transition, size_of_transitions}
use Rattle.model.proofs.KindCases.{both}
use Rattle.model.proofs.Standing.{holds_T}
use Rattle.model.proofs.Complete.{T_true}
use Rattle.model.proofs.CompleteRows.{le_z_trans, all_true}
use Rattle.model.proofs.NodeTrees.{system_size}
use Rattle.model.proofs.LittleBytes.{bytes_bound, representable_pos}

-- ---- lists

pub all_append : {A : Type 0} (P : A → Type 0) (xs ys : List A) → All P xs → All P ys → All P (xs ++ ys)
unfolding All
all_append P [] ys h k = k
all_append P (x ∷ xs) ys h k = (h.0, all_append P xs ys h.1 k)

pub all_map : {A B : Type 0} (P : B → Type 0) (f : A → B) (xs : List A) → All (λ a. P (f a)) xs → All P (map f xs)
unfolding All
all_map P f [] h = tt
all_map P f (x ∷ xs) h = (h.0, all_map P f xs h.1)

-- ---- nodes

abbrev pub Representable : Node → Type 0
Representable n = T (representable n.parameter)

truth_representable : (v : ℤ) → T (is_truth v) → T (representable v)
unfolding eq_z
truth_representable (pos n) t = representable_pos n (by (eqb n 0) (eqb n 1) refl refl (T_true (eqb n 0 || eqb n 1) t))
  where
    by : (a b : Bool) → eqb n 0 ≡ a → eqb n 1 ≡ b → (a || b) ≡ true → n < 2147483648
    by true b p q e = omega (arith, eqb-true n 0 p)
    by false true p q e = omega (arith, eqb-true n 1 q)
    by false false p q e = absurd (false≢true e)
truth_representable (negsuc n) t = absurd t

between_representable : (low v high : ℤ) → T (representable low) → T (representable high) → T (le_z low v) → T (le_z v high) → T (representable v)
between_representable low v high l h p q =
    let a = (both (le_z least low) (le_z low greatest) (T_true (representable low) l)).0 in
    let b = (both (le_z least high) (le_z high greatest) (T_true (representable high) h)).1 in
    holds_T (all_true (le_z least v) (le_z v greatest) (le_z_trans least low v (holds_T a) p) (le_z_trans v high greatest q (holds_T b)))

pub expression_parameters : (sorts : List Sort) → length sorts ≤ 131072 → (e : Expression) (wanted : Option Sort) → Sorted sorts wanted e → All Representable (nodes_of_expression e)
unfolding Sorted nodes_of_expression All
expression_parameters sorts few (numeral v) wanted h = (h.1, tt)
expression_parameters sorts few (truth v) wanted h = (truth_representable v h.1, tt)
expression_parameters sorts few (variable x) wanted h = (representable_pos x (omega (arith, h.0)), tt)
expression_parameters sorts few (negation a) wanted h = (tt, expression_parameters sorts few a boolean_sort h.1)
expression_parameters sorts few (binary op a b) wanted h =
    (tt, all_append Representable (nodes_of_expression a) (nodes_of_expression b) (expression_parameters sorts few a _ h.1) (expression_parameters sorts few b _ h.2))
expression_parameters sorts few (if_then_else c a b) wanted h = (
  tt,
  all_append Representable (nodes_of_expression c) (nodes_of_expression a ++ nodes_of_expression b) (expression_parameters sorts few c boolean_sort h.0)
      (all_append Representable (nodes_of_expression a) (nodes_of_expression b) (expression_parameters sorts few a wanted h.1) (expression_parameters sorts few b wanted h.2)),
)

instruction_nonempty : (i : Instruction) → 0 < size_of i
unfolding size_of
instruction_nonempty skip = omega arith
instruction_nonempty (assign x e) = omega arith
instruction_nonempty (if_then c i) = omega arith
instruction_nonempty (block is) = omega arith

pub count_size : (is : Instructions) → count is ≤ size_of_all is
unfolding count size_of_all
count_size none = omega arith
count_size (more i is) = omega (arith, instruction_nonempty i, count_size is)

module _ (s : Scope) (few : length s.sorts ≤ 131072) (narrow : s.past ≤ 131072) where
  mutual
    unfolding Scoped AllScoped nodes_of nodes_of_all size_of size_of_all All

    pub instruction_parameters : (i : Instruction) → Scoped i s → size_of i ≤ 65536 → All Representable (nodes_of i)
    instruction_parameters skip h z = (tt, tt)
    instruction_parameters (assign x e) h z = (representable_pos x (omega (arith, h.1)), expression_parameters s.sorts few e _ h.2)
    instruction_parameters (if_then c i) h z =
        (tt, all_append Representable (nodes_of_expression c) (nodes_of i) (expression_parameters s.sorts few c boolean_sort h.0) (instruction_parameters i h.1 (omega arith)))
    instruction_parameters (block is) h z = (representable_pos (count is) (omega (arith, count_size is)), branches_parameters is h (omega arith))

    branches_parameters : (is : Instructions) → AllScoped is s → size_of_all is ≤ 65536 → All Representable (nodes_of_all is)
    branches_parameters none h z = tt
    branches_parameters (more i is) h z =
        all_append Representable (nodes_of i) (nodes_of_all is) (instruction_parameters i h.0 (omega arith)) (branches_parameters is h.1 (omega arith))

  transitions_parameters : (events : ℕ) → events < 65536 → (ts : List Transition) → All (GuardedBy events s) ts → size_of_transitions ts ≤ 65536
      → All Representable (flat_map nodes_of_transition ts)
  unfolding All flat_map nodes_of_transition size_of_transitions size_of_transition
  transitions_parameters events l [] h z = tt
  transitions_parameters events l (t ∷ ts) h z =
      all_append Representable (nodes_of_transition t) (flat_map nodes_of_transition ts) (
        representable_pos t.event (omega (arith, h.0.event)),
        all_append Representable (nodes_of_expression t.guard) (nodes_of t.action) (expression_parameters s.sorts few t.guard boolean_sort h.0.guard)
            (instruction_parameters t.action h.0.action (omega arith)),
      )
      (transitions_parameters events l ts h.1 (omega arith))

variable_parameters : (v : Variable) → Declared v → All Representable (nodes_of_variable v)
unfolding Declared All nodes_of_variable
variable_parameters v d = by d
  where
    by : ((v.sort ≡ Boolean) × (v.low ≡ pos 0) × (v.high ≡ pos 1) × T (is_truth v.first))
        ⊎ ((v.sort ≡ Number) × T (representable v.low) × T (representable v.high) × T (le_z v.low v.first) × T (le_z v.first v.high))
        → All Representable (nodes_of_variable v)
    by (inl h) = rw h.0 (truth_representable v.first h.3, tt)
    by (inr h) = rw h.0 (h.1, (h.2, (between_representable v.low v.first v.high h.1 h.2 h.3 h.4, tt)))

variables_parameters : (vs : List Variable) → All Declared vs → All Representable (flat_map nodes_of_variable vs)
unfolding All flat_map
variables_parameters [] h = tt
variables_parameters (v ∷ vs) h = all_append Representable (nodes_of_variable v) (flat_map nodes_of_variable vs) (variable_parameters v h.0) (variables_parameters vs h.1)

pub system_parameters : (t : System) {l : Layout} → Sound l → WellFormedIn l t → All Representable (nodes_of_system t)
unfolding nodes_of_system
system_parameters t {l} sound w =
    let small : size_bound_of l ≤ 65536 = bytes_bound l.width sound.widths.1 in
    let vs = variables t in
    let front = flat_map nodes_of_variable vs in
    let middle = flat_map nodes_of_transition t.transitions in
    let few : length (sorts_of vs) ≤ 131072 = omega (arith, length-map vs (λ v. v.sort), length-append t.states t.flows, small, w.states, w.flows) in
    all_append Representable front (middle ++ nodes_of t.assertion) (variables_parameters vs w.declared)
    (all_append Representable middle (nodes_of t.assertion)
    (transitions_parameters (action_scope (sizes_of t) vs) few (omega (arith, small, w.states)) t.events (omega (arith, small, w.events)) t.transitions w.guarded
    (omega (arith, w.nodes, sound.nodes, system_size t)))
    (instruction_parameters (assertion_scope (sizes_of t) vs) few (omega (arith, small, w.states, w.flows)) t.assertion w.assertion
    (omega (arith, w.nodes, sound.nodes, system_size t))))
