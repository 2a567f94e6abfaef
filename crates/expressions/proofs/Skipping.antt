-- The loop of `past`: the expressions that are still due, and what the invariant says of them.
use mathlib.Core.Path.{◌≡◌, refl, sym, ap, subst, ◌∙◌}
use mathlib.Core.List.{List, [], ◌∷◌, ◌++◌}
use Prim.Native.Nat.{ℕ, suc, ◌+◌, ◌-◌, ◌≤◌, ◌<◌}
use native.Mathlib.Omega.{arith}
use lib.IntN.{ℤ}
use lib.ListN.{length, get_or, length-append}
use Rattle.evaluation.specs.declared.Operator.{Operator}
use Rattle.evaluation.specs.declared.Operator.TheVariants.{Conjunction, Disjunction, Equality, Less, LessOrEqual, Sum, Difference, Product, Quotient, Remainder, Equivalence}
use Rattle.kinds.specs.declared.Row.{Row}
use Rattle.kinds.specs.Kinds.{kind_of, children_of, row_of}
use Rattle.model.specs.Trees.{Expression}
use Rattle.model.specs.Trees.Expression.{numeral, truth, variable, negation, binary, if_then_else}
use Rattle.model.specs.Standing.{ExpressionAt, size_of_expression}
use Rattle.expressions.specs.Cells.{KindsStand}
use Rattle.expressions.proofs.Evaluating.{expression_within}

-- the children of an expression's node
unfoldable children_in : Expression → List Expression
children_in (numeral v) = []
children_in (truth v) = []
children_in (variable x) = []
children_in (negation a) = a ∷ []
children_in (binary op a b) = a ∷ b ∷ []
children_in (if_then_else c a b) = c ∷ a ∷ b ∷ []

unfoldable pub size_of_expressions : List Expression → ℕ
size_of_expressions [] = 0
size_of_expressions (e ∷ es) = size_of_expression e + size_of_expressions es

size_of_children : (e : Expression) (rest : List Expression)
    → suc (size_of_expressions (children_in e ++ rest)) ≡ size_of_expression e + size_of_expressions rest
unfolding children_in size_of_expressions size_of_expression
size_of_children (numeral v) rest = omega arith
size_of_children (truth v) rest = omega arith
size_of_children (variable x) rest = omega arith
size_of_children (negation a) rest = omega arith
size_of_children (binary op a b) rest = omega arith
size_of_children (if_then_else c a b) rest = omega arith

size_positive : (e : Expression) → 0 < size_of_expression e
unfolding size_of_expression
size_positive (numeral v) = omega arith
size_positive (truth v) = omega arith
size_positive (variable x) = omega arith
size_positive (negation a) = omega arith
size_positive (binary op a b) = omega arith
size_positive (if_then_else c a b) = omega arith

two_operands : (op : Operator) → children_of (kind_of op) ≡ 2
unfolding kind_of children_of
two_operands Conjunction = refl
two_operands Disjunction = refl
two_operands Equality = refl
two_operands Less = refl
two_operands LessOrEqual = refl
two_operands Sum = refl
two_operands Difference = refl
two_operands Product = refl
two_operands Quotient = refl
two_operands Remainder = refl
two_operands Equivalence = refl

-- the children of the row that was read
pub counted : (kind : ℕ) {r : Row} → r ≡ row_of kind → r.children ≡ children_of kind
unfolding row_of
counted kind e = ap (λ r. r.children) e

module _ (ks : List ℕ) (ps : List ℤ) where
  -- the expressions stand one after the other from the place on
  unfoldable pub ExpressionsAt : List Expression → ℕ → Type 0
  ExpressionsAt [] at = Unit {0}
  ExpressionsAt (e ∷ es) at = ExpressionAt ks ps e at × ExpressionsAt es (at + size_of_expression e)

  all_moved : (es : List Expression) {m n : ℕ} → m ≡ n → ExpressionsAt es m → ExpressionsAt es n
  all_moved es p h = subst (λ n. ExpressionsAt es n) p h

  -- no more expressions than nodes
  count_within : (es : List Expression) (at : ℕ) → ExpressionsAt es at → length es ≤ length ks - at
  unfolding ExpressionsAt
  count_within [] at h = omega arith
  count_within (e ∷ es) at h =
      omega (arith, expression_within ks ps e at h.0, size_positive e, count_within es (at + size_of_expression e) h.1)

  children_counted : (e : Expression) (at : ℕ) → ExpressionAt ks ps e at → children_of (get_or ks at 0) ≡ length (children_in e)
  unfolding ExpressionAt children_in children_of
  children_counted (numeral v) at h = rw h.kind
  children_counted (truth v) at h = rw h.kind
  children_counted (variable x) at h = rw h.kind
  children_counted (negation a) at h = rw h.0.kind
  children_counted (binary op a b) at h = rw h.0.kind (two_operands op)
  children_counted (if_then_else c a b) at h = rw h.0.kind

  children_stand : (e : Expression) (rest : List Expression) (at : ℕ) → ExpressionAt ks ps e at → ExpressionsAt rest (at + size_of_expression e)
      → ExpressionsAt (children_in e ++ rest) (at + 1)
  unfolding ExpressionAt ExpressionsAt children_in size_of_expression
  children_stand (numeral v) rest at h r = r
  children_stand (truth v) rest at h r = r
  children_stand (variable x) rest at h r = r
  children_stand (negation a) rest at h r = (h.1, all_moved rest (omega arith) r)
  children_stand (binary op a b) rest at h r = (h.1, (h.2, all_moved rest (omega arith) r))
  children_stand (if_then_else c a b) rest at h r = (h.1, (h.2, (h.3, all_moved rest (omega arith) r)))

  -- ---- the invariant

  -- of the expression at place `at`, so much is left
  pub record Left (e : Expression) (at here due : ℕ) : Type 0 where
    pub rest : List Expression
    pub stands : ExpressionsAt rest here
    pub counted : length rest ≡ due
    pub ends : here + size_of_expressions rest ≡ at + size_of_expression e

  module _ (e : Expression) (at : ℕ) where
    all_left : ExpressionAt ks ps e at → Left e at at 1
    unfolding ExpressionsAt size_of_expressions
    all_left h = record { rest = e ∷ []; stands = (h, tt); counted = refl; ends = omega arith }

    module _ {here due : ℕ} (left : Left e at here due) where
      due_within : due ≤ length ks - here
      due_within = omega (arith, count_within left.rest here left.stands, left.counted)

      pub none_left : due ≤ 0 → here ≡ at + size_of_expression e
      unfolding size_of_expressions
      none_left d = by left.rest left.counted left.ends
        where
          by : (es : List Expression) → length es ≡ due → here + size_of_expressions es ≡ at + size_of_expression e → here ≡ at + size_of_expression e
          by [] c p = omega arith
          by (f ∷ es) c p = absurd (omega arith)

      step_left : 0 < due → Left e at (here + 1) (due - 1 + children_of (get_or ks here 0))
      unfolding ExpressionsAt size_of_expressions
      step_left d = by left.rest left.counted left.stands left.ends
        where
          by : (es : List Expression) → length es ≡ due → ExpressionsAt es here → here + size_of_expressions es ≡ at + size_of_expression e
              → Left e at (here + 1) (due - 1 + children_of (get_or ks here 0))
          by [] c s p = absurd (omega arith)
          by (f ∷ es) c s p =
              record {
                rest = children_in f ++ es;
                stands = children_stand f es here s.0 s.1;
                counted = length-append (children_in f) es ∙ omega (arith, children_counted f here s.0);
                ends = omega (arith, size_of_children f es);
              }

-- at place `at` so much is left, whatever the parameters, and no more than there are nodes
pub record Going (ks : List ℕ) (at here due : ℕ) : Type 0 where
  pub left : (ps : List ℤ) (e : Expression) → ExpressionAt ks ps e at → Left ks ps e at here due
  pub inside : due ≤ length ks - here

module _ (ks : List ℕ) (at : ℕ) (k : KindsStand ks at) where
  pub going_begins : Going ks at at 1
  going_begins =
      record {
        left = λ ps e h. all_left ks ps e at h;
        inside = due_within ks k.parameters k.standing.expression at (all_left ks k.parameters k.standing.expression at k.standing.stands);
      }

  pub going_goes : {here due : ℕ} → Going ks at here due → 0 < due → {n : ℕ} → n ≡ children_of (get_or ks here 0) → Going ks at (here + 1) (due - 1 + n)
  going_goes {here} {due} g d {n} e =
      let next = λ (ps : List ℤ) (t : Expression) (h : ExpressionAt ks ps t at).
      subst (λ m. Left ks ps t at (here + 1) (due - 1 + m)) (sym e) (step_left ks ps t at (g.left ps t h) d) in
      record { left = next; inside = due_within ks k.parameters k.standing.expression at (next k.parameters k.standing.expression k.standing.stands) }
