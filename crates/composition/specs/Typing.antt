-- The sort of a phrase, and the expression that it is. 02: "a minus sign becomes 0 minus its operand, a plus sign gives no node but wants a
-- number"; "Greater forms swap operands, != is not of equal".
use Rattle.std.specs.Prelude.{Bool, true, cond, ◌&&◌, List, ℕ, ltb, pos, slice_get, Option, Some, is_some}
use Rattle.evaluation.specs.declared.Operator.{Operator}
use Rattle.evaluation.specs.declared.Operator.TheVariants as operator
use Rattle.evaluation.specs.declared.Operator.TheVariants.{Conjunction, Disjunction, Equality, LessOrEqual, Sum, Difference, Product, Quotient, Remainder, Equivalence}
use Rattle.kinds.specs.declared.Sort.{Sort}
use Rattle.kinds.specs.declared.Sort.TheVariants.{Number}
use Rattle.kinds.specs.Kinds.{boolean_sort, number_sort, no_sort}
use Rattle.kinds.specs.Sameness.{same_sort}
use Rattle.model.specs.Trees.{Expression}
use Rattle.model.specs.Trees.Expression.{numeral as number, truth as boolean, variable as cell, negation, binary, if_then_else}
use Rattle.grammar.specs.declared.Token.{Token}
use Rattle.grammar.specs.declared.Token.TheVariants.{Div, Not, And, Or, Plus, Minus, Times, Equal, Unequal, Less, Greater, GreaterOrEqual}
use Rattle.grammar.specs.Phrases.{Phrase}
use Rattle.grammar.specs.Phrases.Phrase.{numeral, truth, variable, enclosed, prefixed, operation, call, conditional}

-- this sort where the sorts of the operands fit, else none
abbrev pub provided : Bool → Option Sort → Option Sort
provided fits sort = cond fits sort no_sort

-- of an operator between operands of these sorts; none is number 33, "types that don't fit"
unfoldable pub operation_sort : Token → Option Sort → Option Sort → Option Sort
operation_sort Plus a b = provided (same_sort a number_sort && same_sort b number_sort) number_sort
operation_sort Minus a b = provided (same_sort a number_sort && same_sort b number_sort) number_sort
operation_sort Times a b = provided (same_sort a number_sort && same_sort b number_sort) number_sort
operation_sort And a b = provided (same_sort a boolean_sort && same_sort b boolean_sort) boolean_sort
operation_sort Or a b = provided (same_sort a boolean_sort && same_sort b boolean_sort) boolean_sort
operation_sort Equal a b = provided (is_some a && same_sort a b) boolean_sort
operation_sort Unequal a b = provided (is_some a && same_sort a b) boolean_sort
operation_sort _ a b = provided (same_sort a number_sort && same_sort b number_sort) boolean_sort

-- of not and the signs, before an operand of this sort
unfoldable pub prefix_sort : Token → Option Sort → Option Sort
prefix_sort Not a = provided (same_sort a boolean_sort) boolean_sort
prefix_sort _ a = provided (same_sort a number_sort) number_sort

-- over variables of these sorts
unfoldable pub sort_in : List Sort → Phrase → Option Sort
sort_in vs (numeral n) = number_sort
sort_in vs (truth b) = boolean_sort
sort_in vs (variable x) = slice_get vs x
sort_in vs (enclosed p) = sort_in vs p
sort_in vs (prefixed c p) = prefix_sort c (sort_in vs p)
sort_in vs (operation c p q) = operation_sort c (sort_in vs p) (sort_in vs q)
sort_in vs (call c p q) = provided (same_sort (sort_in vs p) number_sort && same_sort (sort_in vs q) number_sort) number_sort
sort_in vs (conditional p q r) = provided (same_sort (sort_in vs p) boolean_sort && same_sort (sort_in vs q) (sort_in vs r)) (sort_in vs q)

-- 12 "variable S+F or above", anywhere
unfoldable pub variables_below : ℕ → Phrase → Bool
variables_below n (numeral v) = true
variables_below n (truth b) = true
variables_below n (variable x) = ltb x n
variables_below n (enclosed p) = variables_below n p
variables_below n (prefixed c p) = variables_below n p
variables_below n (operation c p q) = variables_below n p && variables_below n q
variables_below n (call c p q) = variables_below n p && variables_below n q
variables_below n (conditional p q r) = variables_below n p && (variables_below n q && variables_below n r)

unfoldable pub prefixed_by : Token → Expression → Expression
prefixed_by Not a = negation a
prefixed_by Minus a = binary Difference (number (pos 0)) a
prefixed_by _ a = a

-- equal numbers (38) or equal Booleans (47), by the sort of the left operand
unfoldable pub equal : Option Sort → Expression → Expression → Expression
equal (Some Number) a b = binary Equality a b
equal _ a b = binary Equivalence a b

unfoldable pub operated_by : Token → Option Sort → Expression → Expression → Expression
operated_by Plus sort a b = binary Sum a b
operated_by Minus sort a b = binary Difference a b
operated_by Times sort a b = binary Product a b
operated_by And sort a b = binary Conjunction a b
operated_by Or sort a b = binary Disjunction a b
operated_by Equal sort a b = equal sort a b
operated_by Unequal sort a b = negation (equal sort a b)
operated_by Greater sort a b = binary operator.Less b a
operated_by GreaterOrEqual sort a b = binary LessOrEqual b a
operated_by Less sort a b = binary operator.Less a b
operated_by _ sort a b = binary LessOrEqual a b

-- of div and mod
unfoldable pub call_operator : Token → Operator
call_operator Div = Quotient
call_operator _ = Remainder

unfoldable pub expression_of : List Sort → Phrase → Expression
expression_of vs (numeral n) = number (pos n)
expression_of vs (truth b) = boolean (pos b)
expression_of vs (variable x) = cell x
expression_of vs (enclosed p) = expression_of vs p
expression_of vs (prefixed c p) = prefixed_by c (expression_of vs p)
expression_of vs (operation c p q) = operated_by c (sort_in vs p) (expression_of vs p) (expression_of vs q)
expression_of vs (call c p q) = binary (call_operator c) (expression_of vs p) (expression_of vs q)
expression_of vs (conditional p q r) = if_then_else (expression_of vs p) (expression_of vs q) (expression_of vs r)
