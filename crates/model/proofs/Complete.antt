-- A tree with the right sorts and depth that stands among the nodes is what the walk finds there.
use mathlib.Core.Path.{◌≡◌, refl, ap, ◌∙◌}
use mathlib.Core.Bool.{Bool, true, false, cond, ◌&&◌, ◌||◌}
use mathlib.Core.List.{List}
use Prim.Native.Nat.{ℕ, zero, suc, ◌+◌, ◌≤◌, ◌<◌}
use native.Mathlib.Omega.{arith}
use borrow.Author.Tests.{lt-ltb, le-leb}
use lib.Dec.{T, eqb}
use lib.IntN.{ℤ, pos, nat_abs}
use lib.ListN.{length}
use Rattle.evaluation.specs.Numbers.{eq_z}
use Rattle.kinds.specs.Kinds.{row_of, place_of, children_of, result_of, operand_sort, kind_of, operator_of}
use Rattle.std.specs.Prelude.{slice_get, Option, Some, None}
use Rattle.kinds.specs.declared.Sort.{Sort}
use Rattle.kinds.specs.declared.Place.TheVariants.{Instruction as InstructionPlace, Expression as ExpressionPlace}
use Rattle.kinds.proofs.Equality.{wanted_itself}
use Rattle.kinds.specs.Kinds.{boolean_sort}
use Rattle.kinds.specs.Sameness.{same_sort}
use Rattle.model.specs.Trees.{Expression, Instruction, Instructions, count, depth_of_expression, depth_of, depth_of_all}
use Rattle.model.specs.Trees.Expression.{numeral, truth, variable, negation, binary, if_then_else}
use Rattle.model.specs.Trees.Instruction.{skip, assign, if_then, block}
use Rattle.model.specs.Trees.Instructions.{none, more}
use Rattle.model.specs.Walk.{Walk, Scope, and_then, unless_refused, leaf, operands_at, expression_at, branches_at, parts_at, instruction_at}
use Rattle.syntax.specs.Readings.{stands_at, is_truth, is_of_sort, is_target, expression_refusal, expression_allowed, expression_fits, instruction_refusal, instruction_fits, kind_at, parameter_at}
use Rattle.model.specs.Walk.Walk.{found}
use Rattle.model.specs.WellFormed.{Sorted, Scoped, AllScoped}
use Rattle.model.specs.Standing.{NodeAt, ExpressionAt, InstructionAt, InstructionsAt, size_of_expression, size_of, size_of_all}
use Rattle.model.proofs.KindCases.{stands, operator_row}
use Rattle.model.proofs.WalkClaims.{node_refusal}

-- ---- the rules for 6 and 7

pub T_true : (b : Bool) → T b → b ≡ true
T_true true t = refl
T_true false t = absurd t

last_true : (a b c d : Bool) → a ≡ true → d ≡ true → (a && (b || c || d)) ≡ true
last_true a true true d p q = rw p
last_true a true false d p q = rw p
last_true a false true d p q = rw p
last_true a false false d p q = rw (p, q)

-- a kind of the wanted sort is allowed
pub sort_allowed : (wanted : Option Sort) (k : ℕ) → place_of k ≡ ExpressionPlace → wanted ≡ result_of k → expression_allowed wanted k ≡ true
unfolding expression_allowed row_of
sort_allowed wanted k p e =
    last_true (stands_at ExpressionPlace k) (eqb k 34) (eqb k 46) (same_sort (result_of k) wanted) (stands ExpressionPlace k p)
    (rw e (wanted_itself (result_of k)))

-- a variable and an if-then-else are, whatever the wanted sort
variable_allowed : (wanted : Option Sort) → expression_allowed wanted 34 ≡ true
unfolding expression_allowed place_of
variable_allowed wanted = rw (stands ExpressionPlace 34 refl)

choice_allowed : (wanted : Option Sort) → expression_allowed wanted 46 ≡ true
unfolding expression_allowed place_of
choice_allowed wanted = rw (stands ExpressionPlace 46 refl)

pub zero_fits : (sorts : List Sort) (wanted : Option Sort) (k : ℕ) → eqb k 32 ≡ false → eqb k 33 ≡ false → eqb k 34 ≡ false → expression_fits sorts wanted k (pos 0) ≡ true
unfolding expression_fits eq_z
zero_fits sorts wanted k a b c = rw (a, b, c)

sort_fits : (sorts : List Sort) (wanted : Option Sort) (x : ℕ) → x < length sorts → slice_get sorts x ≡ wanted → is_of_sort sorts wanted (pos x) ≡ true
sort_fits sorts wanted x h e = rw (lt-ltb x (length sorts) h, e) (wanted_itself wanted)

pub target_fits : (from past x : ℕ) → from ≤ x → x < past → is_target from past (pos x) ≡ true
target_fits from past x h l = rw (le-leb from x h, lt-ltb x past l)

-- ---- expressions

module _ (ks : List ℕ) (ps : List ℤ) (sorts : List Sort) where
  -- one node, and what follows it
  expression_step : (left : ℕ) (wanted : Option Sort) (at k : ℕ) (p : ℤ) (e : Expression) (next : ℕ) → NodeAt ks ps at k p
      → expression_allowed wanted k ≡ true → expression_fits sorts wanted k p ≡ true
      → operands_at ks ps (λ w next. expression_at ks ps sorts left w next) wanted k p (at + 1) (children_of k) ≡ found e next
      → expression_at ks ps sorts (suc left) wanted at ≡ found e next
  unfolding expression_at expression_refusal unless_refused
  expression_step left wanted at k p e next n a f h =
      let z : expression_refusal ks ps sorts (suc left) wanted at ≡ None =
      node_refusal ks ps (expression_allowed wanted) (expression_fits sorts wanted) (suc left) at k p n (omega arith) a f in
      ap (λ r. unless_refused r (operands_at ks ps (λ w next. expression_at ks ps sorts left w next) wanted (kind_at ks ps at) (parameter_at ks ps at) (at + 1) (children_of (kind_at ks ps at)))) z
      ∙ rw (n.kind, n.parameter) h

  module _ (child : Option Sort → ℕ → Walk Expression) (wanted : Option Sort) (k : ℕ) (p : ℤ) (at : ℕ) where
    one_operand : (a : Expression) (next : ℕ) → child (Some (operand_sort k)) at ≡ found a next
        → operands_at ks ps child wanted k p at 1 ≡ found (negation a) next
    unfolding operands_at and_then
    one_operand a next h = rw h

    two_operands : (a b : Expression) (second next : ℕ) → child (Some (operand_sort k)) at ≡ found a second → child (Some (operand_sort k)) second ≡ found b next
        → operands_at ks ps child wanted k p at 2 ≡ found (binary (operator_of k) a b) next
    unfolding operands_at and_then
    two_operands a b second next h l = rw (h, l)

    three_operands : (c a b : Expression) (second third next : ℕ) → child boolean_sort at ≡ found c second → child wanted second ≡ found a third → child wanted third ≡ found b next
        → operands_at ks ps child wanted k p at 3 ≡ found (if_then_else c a b) next
    unfolding operands_at and_then
    three_operands c a b second third next h l m = rw (h, l, m)

  pub complete_expression : (e : Expression) (left : ℕ) (wanted : Option Sort) (at : ℕ) → ExpressionAt ks ps e at → Sorted sorts wanted e → depth_of_expression e ≤ left
      → expression_at ks ps sorts left wanted at ≡ found e (at + size_of_expression e)
  unfolding ExpressionAt Sorted depth_of_expression size_of_expression operands_at leaf children_of place_of result_of operand_sort expression_allowed expression_fits
  complete_expression (numeral v) zero wanted at n s d = absurd (omega arith)
  complete_expression (numeral v) (suc left) wanted at n s d =
      expression_step left wanted at 32 v (numeral v) (at + 1) n (sort_allowed wanted 32 refl s.0) refl refl
  complete_expression (truth v) zero wanted at n s d = absurd (omega arith)
  complete_expression (truth v) (suc left) wanted at n s d =
      expression_step left wanted at 33 v (truth v) (at + 1) n (sort_allowed wanted 33 refl s.0) (T_true (is_truth v) s.1) refl
  complete_expression (variable x) zero wanted at n s d = absurd (omega arith)
  complete_expression (variable x) (suc left) wanted at n s d =
      expression_step left wanted at 34 (pos x) (variable x) (at + 1) n (variable_allowed wanted) (sort_fits sorts wanted x s.0 s.1) refl
  complete_expression (negation a) zero wanted at n s d = absurd (omega arith)
  complete_expression (negation a) (suc left) wanted at n s d =
      expression_step left wanted at 35 (pos 0) (negation a) (at + suc (size_of_expression a)) n.0 (sort_allowed wanted 35 refl s.0) (zero_fits sorts wanted 35 refl refl refl)
      (one_operand (λ w next. expression_at ks ps sorts left w next) wanted 35 (pos 0) (at + 1) a (at + suc (size_of_expression a))
      (complete_expression a left boolean_sort (at + 1) n.1 s.1 (omega arith) ∙ ap (found a) (omega arith)))
  complete_expression (binary op a b) zero wanted at n s d = absurd (omega arith)
  complete_expression (binary op a b) (suc left) wanted at n s d =
      let row = operator_row op in
      let w = Some (operand_sort (kind_of op)) in
      let next = at + suc (size_of_expression a + size_of_expression b) in
      expression_step left wanted at (kind_of op) (pos 0) (binary op a b) next n.0 (sort_allowed wanted (kind_of op) row.place s.0)
      (zero_fits sorts wanted (kind_of op) row.no_numeral row.no_truth row.no_variable)
      (rw row.children
      (two_operands (λ w next. expression_at ks ps sorts left w next) wanted (kind_of op) (pos 0) (at + 1) a b (at + 1 + size_of_expression a) next
      (complete_expression a left w (at + 1) n.1 s.1 (omega arith))
      (complete_expression b left w (at + 1 + size_of_expression a) n.2 s.2 (omega arith) ∙ ap (found b) (omega arith))
      ∙ ap (λ o. found (binary o a b) next) row.operator))
  complete_expression (if_then_else c a b) zero wanted at n s d = absurd (omega arith)
  complete_expression (if_then_else c a b) (suc left) wanted at n s d =
      let second = at + 1 + size_of_expression c in
      let third = at + 1 + size_of_expression c + size_of_expression a in
      let next = at + suc (size_of_expression c + (size_of_expression a + size_of_expression b)) in
      expression_step left wanted at 46 (pos 0) (if_then_else c a b) next n.0 (choice_allowed wanted) (zero_fits sorts wanted 46 refl refl refl)
      (three_operands (λ w next. expression_at ks ps sorts left w next) wanted 46 (pos 0) (at + 1) c a b second third next
      (complete_expression c left boolean_sort (at + 1) n.1 s.0 (omega arith))
      (complete_expression a left wanted second n.2 s.1 (omega arith))
      (complete_expression b left wanted third n.3 s.2 (omega arith) ∙ ap (found b) (omega arith)))

-- ---- instructions

module _ (ks : List ℕ) (ps : List ℤ) where
  instruction_step : (s : Scope) (left at k : ℕ) (p : ℤ) (i : Instruction) (next : ℕ) → NodeAt ks ps at k p
      → place_of k ≡ InstructionPlace → instruction_fits s.from s.past k p ≡ true
      → cond (eqb k 19)
      (and_then (branches_at ks ps (λ next. instruction_at ks ps s left next) (nat_abs p) (at + 1)) (λ is next. found (block is) next))
      (parts_at ks ps (λ w next. expression_at ks ps s.sorts left w next) (λ next. instruction_at ks ps s left next)
      (slice_get s.sorts (nat_abs p)) p (at + 1) (children_of k))
      ≡ found i next
      → instruction_at ks ps s (suc left) at ≡ found i next
  unfolding instruction_at instruction_refusal unless_refused
  instruction_step s left at k p i next n a f h =
      let z : instruction_refusal ks ps s.from s.past (suc left) at ≡ None =
      node_refusal ks ps (stands_at InstructionPlace) (instruction_fits s.from s.past) (suc left) at k p n (omega arith) (stands InstructionPlace k a) f in
      ap (λ r. unless_refused r
      (cond (eqb (kind_at ks ps at) 19)
      (and_then (branches_at ks ps (λ next. instruction_at ks ps s left next) (nat_abs (parameter_at ks ps at)) (at + 1)) (λ is next. found (block is) next))
      (parts_at ks ps (λ w next. expression_at ks ps s.sorts left w next) (λ next. instruction_at ks ps s left next)
      (slice_get s.sorts (nat_abs (parameter_at ks ps at))) (parameter_at ks ps at) (at + 1) (children_of (kind_at ks ps at))))) z
      ∙ rw (n.kind, n.parameter) h

  module _ (expression : Option Sort → ℕ → Walk Expression) (child : ℕ → Walk Instruction) where
    one_part : (sort : Option Sort) (x at : ℕ) (e : Expression) (next : ℕ) → expression sort at ≡ found e next
        → parts_at ks ps expression child sort (pos x) at 1 ≡ found (assign x e) next
    unfolding parts_at and_then
    one_part sort x at e next h = rw h

    two_parts : (sort : Option Sort) (p : ℤ) (at : ℕ) (c : Expression) (i : Instruction) (second next : ℕ) → expression boolean_sort at ≡ found c second → child second ≡ found i next
        → parts_at ks ps expression child sort p at 2 ≡ found (if_then c i) next
    unfolding parts_at and_then
    two_parts sort p at c i second next h l = rw (h, l)

    more_branches : (n at : ℕ) (i : Instruction) (is : Instructions) (second next : ℕ) → child at ≡ found i second → branches_at ks ps child n second ≡ found is next
        → branches_at ks ps child (suc n) at ≡ found (more i is) next
    unfolding and_then
    more_branches n at i is second next h l = branches_step ∙ rw (h, l)
      where
        branches_step : branches_at ks ps child (suc n) at ≡ and_then (child at) (λ i next. and_then (branches_at ks ps child n next) (λ is last. found (more i is) last))
        branches_step = unfold branches_at in refl

  mutual
    unfolding InstructionAt InstructionsAt Scoped AllScoped depth_of depth_of_all size_of size_of_all count branches_at parts_at and_then children_of place_of instruction_fits eq_z

    pub complete_instruction : (i : Instruction) (s : Scope) (left at : ℕ) → InstructionAt ks ps i at → Scoped i s → depth_of i ≤ left
        → instruction_at ks ps s left at ≡ found i (at + size_of i)
    complete_instruction skip s zero at n c d = absurd (omega arith)
    complete_instruction skip s (suc left) at n c d = instruction_step s left at 16 (pos 0) skip (at + 1) n refl refl refl
    complete_instruction (assign x e) s zero at n c d = absurd (omega arith)
    complete_instruction (assign x e) s (suc left) at n c d =
        let next = at + suc (size_of_expression e) in
        instruction_step s left at 17 (pos x) (assign x e) next n.0 refl (target_fits s.from s.past x c.0 c.1)
        (one_part (λ w next. expression_at ks ps s.sorts left w next) (λ next. instruction_at ks ps s left next) (slice_get s.sorts x) x (at + 1) e next
        (complete_expression ks ps s.sorts e left (slice_get s.sorts x) (at + 1) n.1 c.2 (omega arith) ∙ ap (found e) (omega arith)))
    complete_instruction (if_then t i) s zero at n c d = absurd (omega arith)
    complete_instruction (if_then t i) s (suc left) at n c d =
        let second = at + 1 + size_of_expression t in
        let next = at + suc (size_of_expression t + size_of i) in
        instruction_step s left at 18 (pos 0) (if_then t i) next n.0 refl refl
        (two_parts (λ w next. expression_at ks ps s.sorts left w next) (λ next. instruction_at ks ps s left next) (slice_get s.sorts 0) (pos 0) (at + 1) t i second next
        (complete_expression ks ps s.sorts t left boolean_sort (at + 1) n.1 c.0 (omega arith))
        (complete_instruction i s left second n.2 c.1 (omega arith) ∙ ap (found i) (omega arith)))
    complete_instruction (block is) s zero at n c d = absurd (omega arith)
    complete_instruction (block is) s (suc left) at n c d =
        let next = at + suc (size_of_all is) in
        instruction_step s left at 19 (pos (count is)) (block is) next n.0 refl refl
        (ap (λ w. and_then w (λ is next. found (block is) next)) (complete_branches is s left (at + 1) n.1 c (omega arith)) ∙ ap (found (block is)) (omega arith))

    pub complete_branches : (is : Instructions) (s : Scope) (left at : ℕ) → InstructionsAt ks ps is at → AllScoped is s → depth_of_all is ≤ left
        → branches_at ks ps (λ next. instruction_at ks ps s left next) (count is) at ≡ found is (at + size_of_all is)
    complete_branches none s left at n c d = ap (found none) (omega arith)
    complete_branches (more i is) s left at n c d =
        more_branches (λ w next. expression_at ks ps s.sorts left w next) (λ next. instruction_at ks ps s left next) (count is) at i is (at + size_of i) (at + (size_of i + size_of_all is))
        (complete_instruction i s left at n.0 c.0 (omega arith))
        (complete_branches is s left (at + size_of i) n.1 c.1 (omega arith) ∙ ap (found is) (omega arith))
