-- The expression of a phrase has the sort of the phrase.
use mathlib.Core.Path.{◌≡◌, refl, sym, subst}
use mathlib.Core.Bool.{Bool, true, false, cond, ◌&&◌}
use mathlib.Core.List.{List}
use Prim.Native.Nat.{zero, suc}
use native.Mathlib.Omega.{arith}
use lib.Dec.{T, ltb→lt, le→leb}
use lib.ListN.{length}
use Rattle.evaluation.specs.declared.Operator.{Operator}
use Rattle.evaluation.specs.declared.Operator.TheVariants as operator
use Rattle.evaluation.specs.declared.Operator.TheVariants.{Conjunction, Disjunction, LessOrEqual, Sum, Difference, Product, Quotient, Remainder}
use Rattle.evaluation.specs.Numbers.{eq_z}
use Rattle.std.proofs.Common.{Option, Some, None, is_some}
use Rattle.kinds.specs.declared.Sort.{Sort}
use Rattle.kinds.specs.declared.Sort.TheVariants.{Boolean, Number}
use Rattle.kinds.specs.Kinds.{boolean_sort, number_sort, kind_of, result_of, operand_sort}
use Rattle.kinds.specs.Sameness.{same_sort}
use Rattle.kinds.proofs.Equality.{one_wanted}
use Rattle.model.specs.Trees.{Expression}
use Rattle.model.specs.Trees.Expression.{negation, binary, if_then_else}
use Rattle.model.specs.WellFormed.{Sorted}
use Rattle.grammar.specs.declared.Token.{Token}
use Rattle.grammar.specs.declared.Token.TheVariants.{Div, Not, And, Or, Plus, Minus, Times, Equal, Unequal, Less, Greater, GreaterOrEqual}
use Rattle.grammar.specs.Phrases.{Phrase}
use Rattle.grammar.specs.Phrases.Phrase.{numeral, truth, variable, enclosed, prefixed, operation, call, conditional}
use Rattle.grammar.proofs.Tests.{and_left, and_right}
use Rattle.composition.specs.Typing.{provided, operation_sort, prefix_sort, sort_in, variables_below, prefixed_by, equal, operated_by, call_operator, expression_of}
use Rattle.texts.proofs.Small.{Small}

-- ---- sorts that are provided

-- a sort is there only where the test passes
record Provided (t : Bool) (s : Option Sort) : Type 0 where
  passed : t ≡ true
  is : provided t s ≡ s

-- from a sort that is one
is_provided : (t : Bool) (s : Option Sort) → T (is_some (provided t s)) → Provided t s
is_provided true s h = record { passed = refl; is = refl }
is_provided false s h = absurd h

-- two tests
record Both (t u : Bool) : Type 0 where
  first : t ≡ true
  second : u ≡ true

both : (t u : Bool) → (t && u) ≡ true → Both t u
both true true h = record { first = refl; second = refl }
both true false h = absurd (mathlib.Core.Bool.false≢true h)
both false u h = absurd (mathlib.Core.Bool.false≢true h)

module _ (vs : List Sort) where
  -- this expression has this sort, if the sort is one
  abbrev Fits : Option Sort → Expression → Type 0
  Fits s x = T (is_some s) → Sorted vs s x

  -- at a sort that is known
  at_sort : (x : Expression) {s : Option Sort} (k : Sort) → s ≡ Some k → Fits s x → Sorted vs (Some k) x
  at_sort x {s} k e f = subst (λ (o : Option Sort). Sorted vs o x) e (f (rw e tt))

  -- an operator over two operands of sort k, in either order
  module _ (op : Operator) (k r : Sort) (a b : Option Sort) (x y : Expression) (e : result_of (kind_of op) ≡ Some r) (o : operand_sort (kind_of op) ≡ k)
      (f : Fits a x) (g : Fits b y) where
    operands_sorted : Fits (provided (same_sort a (Some k) && same_sort b (Some k)) (Some r)) (binary op x y)
    unfolding Sorted
    operands_sorted s =
        let q = is_provided (same_sort a (Some k) && same_sort b (Some k)) (Some r) s in
        let w = both (same_sort a (Some k)) (same_sort b (Some k)) q.passed in
        rw q.is (sym e, rw o (at_sort x k (one_wanted a (Some k) w.first) f), rw o (at_sort y k (one_wanted b (Some k) w.second) g))

    swapped : Fits (provided (same_sort a (Some k) && same_sort b (Some k)) (Some r)) (binary op y x)
    unfolding Sorted
    swapped s =
        let q = is_provided (same_sort a (Some k) && same_sort b (Some k)) (Some r) s in
        let w = both (same_sort a (Some k)) (same_sort b (Some k)) q.passed in
        rw q.is (sym e, rw o (at_sort y k (one_wanted b (Some k) w.second) g), rw o (at_sort x k (one_wanted a (Some k) w.first) f))

  -- equal numbers, or equal Booleans
  equals : (a b : Option Sort) (x y : Expression) → Fits a x → Fits b y → Fits (provided (is_some a && same_sort a b) boolean_sort) (equal a x y)
  unfolding Sorted kind_of result_of operand_sort equal
  equals None b x y f g s = absurd s
  equals (Some Boolean) b x y f g s =
      let q = is_provided (same_sort (Some Boolean) b) boolean_sort s in
      rw q.is (refl, f tt, at_sort y Boolean (sym (one_wanted (Some Boolean) b q.passed)) g)
  equals (Some Number) b x y f g s =
      let q = is_provided (same_sort (Some Number) b) boolean_sort s in
      rw q.is (refl, f tt, at_sort y Number (sym (one_wanted (Some Number) b q.passed)) g)

  unequals : (a b : Option Sort) (x y : Expression) → Fits a x → Fits b y → Fits (provided (is_some a && same_sort a b) boolean_sort) (negation (equal a x y))
  unfolding Sorted
  unequals a b x y f g s =
      let q = is_provided (is_some a && same_sort a b) boolean_sort s in
      (q.is, subst (λ (o : Option Sort). Sorted vs o (equal a x y)) q.is (equals a b x y f g s))

  operated : (c : Token) (a b : Option Sort) (x y : Expression) → Fits a x → Fits b y → Fits (operation_sort c a b) (operated_by c a x y)
  unfolding operation_sort operated_by kind_of result_of operand_sort
  operated Plus a b x y f g = operands_sorted Sum Number Number a b x y refl refl f g
  operated Minus a b x y f g = operands_sorted Difference Number Number a b x y refl refl f g
  operated Times a b x y f g = operands_sorted Product Number Number a b x y refl refl f g
  operated And a b x y f g = operands_sorted Conjunction Boolean Boolean a b x y refl refl f g
  operated Or a b x y f g = operands_sorted Disjunction Boolean Boolean a b x y refl refl f g
  operated Equal a b x y f g = equals a b x y f g
  operated Unequal a b x y f g = unequals a b x y f g
  operated Greater a b x y f g = swapped operator.Less Number Boolean a b x y refl refl f g
  operated GreaterOrEqual a b x y f g = swapped LessOrEqual Number Boolean a b x y refl refl f g
  operated Less a b x y f g = operands_sorted operator.Less Number Boolean a b x y refl refl f g
  operated _ a b x y f g = operands_sorted LessOrEqual Number Boolean a b x y refl refl f g

  signed : (c : Token) (s : Option Sort) (x : Expression) → Fits s x → Fits (prefix_sort c s) (prefixed_by c x)
  unfolding prefix_sort prefixed_by Sorted kind_of result_of operand_sort
  signed Not s x f h =
      let q = is_provided (same_sort s boolean_sort) boolean_sort h in rw q.is (refl, at_sort x Boolean (one_wanted s boolean_sort q.passed) f)
  signed Minus s x f h =
      let q = is_provided (same_sort s number_sort) number_sort h in rw q.is (refl, (refl, tt), at_sort x Number (one_wanted s number_sort q.passed) f)
  signed _ s x f h = let q = is_provided (same_sort s number_sort) number_sort h in rw q.is (at_sort x Number (one_wanted s number_sort q.passed) f)

  called : (c : Token) (a b : Option Sort) (x y : Expression) → Fits a x → Fits b y
      → Fits (provided (same_sort a number_sort && same_sort b number_sort) number_sort) (binary (call_operator c) x y)
  unfolding call_operator kind_of result_of operand_sort
  called Div a b x y f g = operands_sorted Quotient Number Number a b x y refl refl f g
  called _ a b x y f g = operands_sorted Remainder Number Number a b x y refl refl f g

  chosen : (s a b : Option Sort) (z x y : Expression) → Fits s z → Fits a x → Fits b y
      → Fits (provided (same_sort s boolean_sort && same_sort a b) a) (if_then_else z x y)
  unfolding Sorted
  chosen s a b z x y e f g h =
      let q = is_provided (same_sort s boolean_sort && same_sort a b) a h in
      let w = both (same_sort s boolean_sort) (same_sort a b) q.passed in
      let n : T (is_some a) = rw q.is at h in
      let same : b ≡ a = sym (one_wanted a b w.second) in
      rw q.is
      (at_sort z Boolean (one_wanted s boolean_sort w.first) e, f n, subst (λ (o : Option Sort). Sorted vs o y) same (g (rw same n)))

  -- ---- phrases, over variables of these sorts

  -- by structure
  pub phrase_sorted : (p : Phrase) → Small p → T (variables_below (length vs) p) → Fits (sort_in vs p) (expression_of vs p)
  unfolding Small sort_in variables_below expression_of Sorted eq_z
  phrase_sorted (numeral n) m v = λ h. (refl, le→leb n 2147483647 m)
  phrase_sorted (truth zero) m v = λ h. (refl, tt)
  phrase_sorted (truth (suc zero)) m v = λ h. (refl, tt)
  phrase_sorted (truth (suc (suc n))) m v = absurd (omega arith)
  phrase_sorted (variable x) m v = λ h. (ltb→lt x (length vs) v, refl)
  phrase_sorted (enclosed p) m v = phrase_sorted p m v
  phrase_sorted (prefixed c p) m v = signed c (sort_in vs p) (expression_of vs p) (phrase_sorted p m v)
  phrase_sorted (operation c p q) m v =
      let n = variables_below (length vs) in
      operated c (sort_in vs p) (sort_in vs q) (expression_of vs p) (expression_of vs q) (phrase_sorted p m.0 (and_left (n p) (n q) v))
      (phrase_sorted q m.1 (and_right (n p) (n q) v))
  phrase_sorted (call c p q) m v =
      let n = variables_below (length vs) in
      called c (sort_in vs p) (sort_in vs q) (expression_of vs p) (expression_of vs q) (phrase_sorted p m.0 (and_left (n p) (n q) v))
      (phrase_sorted q m.1 (and_right (n p) (n q) v))
  phrase_sorted (conditional p q r) m v =
      let n = variables_below (length vs) in
      let w = and_right (n p) (n q && n r) v in
      chosen (sort_in vs p) (sort_in vs q) (sort_in vs r) (expression_of vs p) (expression_of vs q) (expression_of vs r)
      (phrase_sorted p m.0 (and_left (n p) (n q && n r) v)) (phrase_sorted q m.1 (and_left (n q) (n r) w)) (phrase_sorted r m.2 (and_right (n q) (n r) w))
