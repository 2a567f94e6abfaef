-- The operators: their nodes and their depths.
use mathlib.Core.Path.{◌≡◌, refl, ap}
use Rattle.std.proofs.Common.{Option, Some, None}
use mathlib.Core.List.{[], ◌∷◌, ◌++◌, map, map-append}
use Prim.Native.Nat.{◌+◌, ◌≤◌, max}
use native.Mathlib.Nat.{max_comm}
use native.Mathlib.Omega.{arith}
use lib.ListN.{length}
use Rattle.kinds.specs.declared.kind.Kind.{Kind}
use Rattle.kinds.specs.declared.kind.Kind.TheVariants as kind
use Rattle.kinds.specs.declared.Sort.{Sort}
use Rattle.kinds.specs.declared.Sort.TheVariants.{Boolean, Number}
use Rattle.kinds.specs.Kinds.{kind_of}
use Rattle.model.specs.Trees.{Expression, depth_of_expression}
use Rattle.model.specs.Nodes.{nodes_of_expression}
use Rattle.grammar.specs.declared.Token.{Token}
use Rattle.grammar.specs.declared.Token.TheVariants.{And, Or, Plus, Minus, Times, Equal, Unequal, Less, Greater, GreaterOrEqual}
use Rattle.composition.specs.Typing.{equal, operated_by}
use Rattle.composition.specs.Parts.{held, kind_at}
use Rattle.composition.specs.Arranging.{equality_kind, operator_kind, operator_cells, arranged, plain}

-- ---- cells

pub few_cells : (c : Token) (sort : Option Sort) → length (operator_cells c sort) ≤ 2
unfolding operator_cells
few_cells Unequal sort = omega arith
few_cells _ sort = omega arith

pub one_cell : (c : Token) (sort : Option Sort) → (c ≡ Unequal → ⊥) → plain (operator_kind c sort) ∷ [] ≡ operator_cells c sort
unfolding operator_cells
one_cell Unequal sort h = absurd (h refl)
one_cell _ sort h = refl

pub two_cells : (c : Token) (sort : Option Sort) → c ≡ Unequal → length (operator_cells c sort) ≡ 2
unfolding operator_cells
two_cells c sort e = rw e

-- two operands after the node of their operator
operands : (a b : Expression) (k : Kind)
    → plain k ∷ map held (nodes_of_expression a ++ nodes_of_expression b) ≡ plain k ∷ (map held (nodes_of_expression a) ++ map held (nodes_of_expression b))
operands a b k = ap (λ l. plain k ∷ l) (map-append held (nodes_of_expression a) (nodes_of_expression b))

module _ (sort : Option Sort) (a b : Expression) where
  equality : (o : Option Sort) → map held (nodes_of_expression (equal o a b))
      ≡ plain (equality_kind o) ∷ (map held (nodes_of_expression a) ++ map held (nodes_of_expression b))
  unfolding equal nodes_of_expression held kind_of kind_at
  equality (Some Number) = operands a b kind.Equality
  equality (Some Boolean) = operands a b kind.Equivalence
  equality None = operands a b kind.Equivalence

  -- the nodes of an operation are those of its operator, and of its operands as they are arranged
  pub operator_nodes : (c : Token) → map held (nodes_of_expression (operated_by c sort a b))
      ≡ operator_cells c sort ++ arranged c (map held (nodes_of_expression a)) (map held (nodes_of_expression b))
  unfolding operated_by nodes_of_expression operator_cells operator_kind arranged held kind_of kind_at
  operator_nodes Plus = operands a b kind.Sum
  operator_nodes Minus = operands a b kind.Difference
  operator_nodes Times = operands a b kind.Product
  operator_nodes And = operands a b kind.Conjunction
  operator_nodes Or = operands a b kind.Disjunction
  operator_nodes Equal = equality sort
  operator_nodes Unequal = ap (λ l. plain kind.Negation ∷ l) (equality sort)
  operator_nodes Greater = operands b a kind.Less
  operator_nodes GreaterOrEqual = operands b a kind.LessOrEqual
  operator_nodes Less = operands a b kind.Less
  operator_nodes _ = operands a b kind.LessOrEqual

  equal_depth : (o : Option Sort) → max (depth_of_expression a) (depth_of_expression b) + 1 ≡ depth_of_expression (equal o a b)
  unfolding equal depth_of_expression
  equal_depth (Some Number) = omega arith
  equal_depth (Some Boolean) = omega arith
  equal_depth None = omega arith

  -- every node of the operator is one level
  pub operator_depth : (c : Token) → max (depth_of_expression a) (depth_of_expression b) + length (operator_cells c sort) ≡ depth_of_expression (operated_by c sort a b)
  unfolding operated_by depth_of_expression operator_cells
  operator_depth Equal = equal_depth sort
  operator_depth Unequal = omega (arith, equal_depth sort)
  operator_depth Greater = omega (arith, max_comm (depth_of_expression a) (depth_of_expression b))
  operator_depth GreaterOrEqual = omega (arith, max_comm (depth_of_expression a) (depth_of_expression b))
  operator_depth _ = omega arith
