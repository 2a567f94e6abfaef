-- How the code composes the nodes of an operation of those of its operands.
use Rattle.std.specs.Prelude.{Bool, true, false, cond, List, [], ◌∷◌, ◌++◌, pos, Option, Some}
use Rattle.kinds.specs.declared.kind.Kind.{Kind}
use Rattle.kinds.specs.declared.kind.Kind.TheVariants as kind
use Rattle.kinds.specs.declared.Sort.{Sort}
use Rattle.kinds.specs.declared.Sort.TheVariants.{Number}
use Rattle.grammar.specs.declared.Token.{Token}
use Rattle.grammar.specs.declared.Token.TheVariants.{And, Or, Plus, Minus, Times, Equal, Unequal, Less, Greater, GreaterOrEqual}
use Rattle.composition.specs.declared.Node.{Node}

-- a node without a parameter
abbrev pub plain : Kind → Node
plain kind = record { kind = kind; parameter = pos 0 }

-- of equal numbers (38), or of equal Booleans (47)
abbrev pub equality_kind : Option Sort → Kind
equality_kind (Some Number) = kind.Equality
equality_kind _ = kind.Equivalence

-- the kind of the node with two operands, by the sort of the left one
unfoldable pub operator_kind : Token → Option Sort → Kind
operator_kind Plus sort = kind.Sum
operator_kind Minus sort = kind.Difference
operator_kind Times sort = kind.Product
operator_kind And sort = kind.Conjunction
operator_kind Or sort = kind.Disjunction
operator_kind Equal sort = equality_kind sort
operator_kind Unequal sort = equality_kind sort
operator_kind Greater sort = kind.Less
operator_kind Less sort = kind.Less
operator_kind _ sort = kind.LessOrEqual

-- the nodes before those of the operands: `!=` is not of equal
unfoldable pub operator_cells : Token → Option Sort → List Node
operator_cells Unequal sort = plain kind.Negation ∷ plain (operator_kind Unequal sort) ∷ []
operator_cells c sort = plain (operator_kind c sort) ∷ []

abbrev pub is_greater : Token → Bool
is_greater Greater = true
is_greater GreaterOrEqual = true
is_greater _ = false

-- the operands' nodes, exchanged by the greater forms
unfoldable pub arranged : Token → List Node → List Node → List Node
arranged c left right = cond (is_greater c) (right ++ left) (left ++ right)
