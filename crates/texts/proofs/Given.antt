-- The nodes written for a text pass the check of an expression handed outside a model, as this expression and for its own sort alone.
use mathlib.Core.Path.{◌≡◌, refl, sym, ◌∙◌}
use mathlib.Core.Bool.{true, false, true≢false}
use mathlib.Core.Logic.{◌↔◌}
use mathlib.Core.List.{List, map}
use Prim.Native.Nat.{ℕ, zero, suc, ◌+◌, ◌≤◌}
use native.Mathlib.Omega.{arith}
use borrow.Author.Tests.{eq-eqb, le-ltb}
use lib.Dec.{eqb}
use lib.IntN.{ℤ, pos}
use lib.ListN.{length, length-map}
use Rattle.std.proofs.Common.{Option, Some, None}
use Rattle.results.specs.declared.refusal.Refusal.{Refusal}
use Rattle.results.specs.declared.refusal.Refusal.TheVariants.{TooDeep}
use Rattle.kinds.specs.declared.Sort.{Sort}
use Rattle.kinds.specs.Kinds.{boolean_sort, children_of, result_of, kind_of}
use Rattle.syntax.specs.Readings.{is_of_sort, expression_allowed, expression_fits, expression_refusal}
use Rattle.model.specs.Trees.{Expression, depth_of_expression}
use Rattle.model.specs.Trees.Expression.{numeral, truth, variable, negation, binary, if_then_else}
use Rattle.model.specs.Walk.{Walk, and_then, unless_refused, operands_at, expression_at}
use Rattle.model.specs.Walk.Walk.{refused, found}
use Rattle.model.specs.WellFormed.{Sorted}
use Rattle.model.specs.Nodes.{nodes_of_expression}
use Rattle.model.specs.Check.{max_depth, complete, expression_given}
use Rattle.model.specs.Standing.{NodeAt, ExpressionAt, size_of_expression}
use Rattle.model.proofs.WalkClaims.{no_refusal}
use Rattle.model.proofs.KindCases.{operator_row}
use Rattle.model.proofs.NodeLists.{own_nodes}
use Rattle.model.proofs.NodeTrees.{expression_size, nodes_expression}
use Rattle.model.proofs.Complete.{complete_expression}
use Rattle.model.proofs.Standing.{allowed_sort, of_sort}

-- ---- a walk that found something

record Passed {A : Type 0} (n : Option Refusal) (w : Walk A) (a : A) (next : ℕ) : Type 0 where
  none : n ≡ None
  is : w ≡ found a next

-- no refusal stood before it
passed : {A : Type 0} (n : Option Refusal) (w : Walk A) {a : A} {next : ℕ} → unless_refused n w ≡ found a next → Passed n w a next
unfolding unless_refused
passed None w e = record { none = refl; is = e }
passed (Some r) w e = let z : true ≡ false = cc in absurd (true≢false z)

-- the first of two walks
record First {A : Type 0} (w : Walk A) : Type 0 where
  what : A
  place : ℕ
  is : w ≡ found what place

-- it found something too
first_found : {A B : Type 0} (w : Walk A) (k : A → ℕ → Walk B) {b : B} {next : ℕ} → and_then w k ≡ found b next → First w
unfolding and_then
first_found (refused n) k e = let z : true ≡ false = cc in absurd (true≢false z)
first_found (found a n) k e = record { what = a; place = n; is = refl }

-- 7 at a variable
variable_fits : (vs : List Sort) (wanted : Option Sort) (x : ℕ) → expression_fits vs wanted 34 (pos x) ≡ true → is_of_sort vs wanted (pos x) ≡ true
unfolding expression_fits
variable_fits vs wanted x e = e

module _ (ks : List ℕ) (ps : List ℤ) (vs : List Sort) where
  -- what a walk that found something tells of the node where it began
  record Began (left : ℕ) (wanted : Option Sort) (at k : ℕ) (p : ℤ) (f : Expression) (next : ℕ) : Type 0 where
    allows : expression_allowed wanted k ≡ true
    suits : expression_fits vs wanted k p ≡ true
    children : operands_at ks ps (λ w n. expression_at ks ps vs left w n) wanted k p (at + 1) (children_of k) ≡ found f next

  began : (left : ℕ) (wanted : Option Sort) (at k : ℕ) (p : ℤ) {f : Expression} {next : ℕ} → NodeAt ks ps at k p → expression_at ks ps vs (suc left) wanted at ≡ found f next
      → Began left wanted at k p f next
  unfolding expression_at expression_refusal
  began left wanted at k p {f} {next} n h =
      let q = passed (expression_refusal ks ps vs (suc left) wanted at) _ h in
      let d = no_refusal ks ps (expression_allowed wanted) (expression_fits vs wanted) (suc left) at q.none in
      record {
        allows = rw n.kind at d.allows;
        suits = rw (n.kind, n.parameter) at d.suits;
        children = rw (n.kind, n.parameter) at q.is;
      }

  -- a node with a sort of its own
  own_sort : (left : ℕ) (wanted s : Option Sort) (at k : ℕ) (p : ℤ) {f : Expression} {next : ℕ} → NodeAt ks ps at k p → expression_at ks ps vs (suc left) wanted at ≡ found f next
      → eqb k 34 ≡ false → eqb k 46 ≡ false → s ≡ result_of k → s ≡ wanted
  own_sort left wanted s at k p n h a b e = e ∙ sym (allowed_sort wanted k a b (began left wanted at k p n h).allows)

  -- with no depth left nothing is found
  no_depth : (wanted : Option Sort) (at : ℕ) {f : Expression} {next : ℕ} → expression_at ks ps vs zero wanted at ≡ found f next → ⊥
  unfolding expression_at
  no_depth wanted at h = let q = passed (expression_refusal ks ps vs zero wanted at) (refused TooDeep) h in let e = q.is in cc

  -- the first branch of a conditional, after its condition
  branch_found : (child : Option Sort → ℕ → Walk Expression) (wanted : Option Sort) (at second : ℕ) (c : Expression) {f : Expression} {next : ℕ} → child boolean_sort at ≡ found c second
      → operands_at ks ps child wanted 46 (pos 0) at (children_of 46) ≡ found f next → First (child wanted second)
  unfolding children_of operands_at and_then
  branch_found child wanted at second c e h = first_found (child wanted second) _ (rw e at h)

  -- nodes of an expression of one sort are found for no other
  one_sort : (left : ℕ) (wanted s : Option Sort) (at : ℕ) (e : Expression) {f : Expression} {next : ℕ} → ExpressionAt ks ps e at → Sorted vs s e → depth_of_expression e ≤ left
      → expression_at ks ps vs left wanted at ≡ found f next → s ≡ wanted
  unfolding ExpressionAt Sorted depth_of_expression result_of
  one_sort zero wanted s at e n t d h = absurd (no_depth wanted at h)
  one_sort (suc left) wanted s at (numeral v) n t d h = own_sort left wanted s at 32 v n h refl refl t.0
  one_sort (suc left) wanted s at (truth v) n t d h = own_sort left wanted s at 33 v n h refl refl t.0
  one_sort (suc left) wanted s at (variable x) n t d h =
      sym t.1 ∙ (of_sort vs wanted (pos x) (variable_fits vs wanted x (began left wanted at 34 (pos x) n h).suits)).sort
  one_sort (suc left) wanted s at (negation a) n t d h = own_sort left wanted s at 35 (pos 0) n.0 h refl refl t.0
  one_sort (suc left) wanted s at (binary op a b) n t d h =
      let row = operator_row op in own_sort left wanted s at (kind_of op) (pos 0) n.0 h row.no_variable row.no_conditional t.0
  one_sort (suc left) wanted s at (if_then_else c a b) n t d h =
      let second = at + 1 + size_of_expression c in
      let r = complete_expression ks ps vs c left boolean_sort (at + 1) n.1 t.0 (omega arith) in
      let u = branch_found (λ w n. expression_at ks ps vs left w n) wanted (at + 1) second c r (began left wanted at 46 (pos 0) n.0 h).children in
      one_sort left wanted s second a {f = u.what} {next = u.place} n.2 t.1 (omega arith) u.is

-- ---- the nodes of an expression by themselves

module _ (vs : List Sort) (e : Expression) (s : Option Sort) (sorted : Sorted vs s e) (deep : depth_of_expression e ≤ max_depth) where
  abbrev ks : List ℕ
  ks = map (λ n. n.kind) (nodes_of_expression e)

  -- the parameters
  abbrev ps : List ℤ
  ps = map (λ n. n.parameter) (nodes_of_expression e)

  -- 3 is not met
  same_lengths : eqb (length ks) (length ps) ≡ true
  same_lengths = eq-eqb (length ks) (length ps) (length-map (nodes_of_expression e) (λ n. n.kind) ∙ sym (length-map (nodes_of_expression e) (λ n. n.parameter)))

  stands : ExpressionAt ks ps e 0
  stands = nodes_expression ks ps e 0 (own_nodes (nodes_of_expression e))

  -- they are found as this expression, for its sort
  own_found : expression_given ks ps vs s ≡ found e (length (nodes_of_expression e))
  unfolding expression_given complete and_then
  own_found =
      let size : 0 + size_of_expression e ≡ length (nodes_of_expression e) = omega (arith, expression_size e) in
      let all : length ks ≡ length (nodes_of_expression e) = length-map (nodes_of_expression e) (λ n. n.kind) in
      rw
      (same_lengths, complete_expression ks ps vs e max_depth s 0 stands sorted deep, size, all, le-ltb (length (nodes_of_expression e)) (length (nodes_of_expression e)) (omega arith))

  -- and for no other
  own_sort_alone : (wanted : Option Sort) {f : Expression} {next : ℕ} → expression_given ks ps vs wanted ≡ found f next → s ≡ wanted
  unfolding expression_given complete
  own_sort_alone wanted h =
      let u = first_found (expression_at ks ps vs max_depth wanted 0) _ (rw same_lengths at h) in
      one_sort ks ps vs max_depth wanted s 0 e stands sorted deep u.is

  -- found as nothing else
  pub given_exact : (wanted : Option Sort) (f : Expression) (next : ℕ)
      → (expression_given ks ps vs wanted ≡ found f next) ↔ ((s ≡ wanted) × (f ≡ e) × (next ≡ length (nodes_of_expression e)))
  given_exact wanted f next = (
    λ h. let q = own_sort_alone wanted h in let r = own_found in let g : expression_given ks ps vs s ≡ found f next = rw q h in (q, cc, cc),
    λ h. rw (← h.0, h.1, h.2) own_found,
  )
