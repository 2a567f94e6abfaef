-- The nodes of a tree in prefix order, and the bytes of a model file.
use mathlib.Core.List.{List, [], ◌∷◌, ◌++◌, flat_map}
use Rattle.std.specs.Prelude.{cond, ℕ, zero, suc, ◌-◌, ◌/◌, ◌%◌, ℤ, pos, negsuc}
use Rattle.kinds.specs.Kinds.{kind_of}
use Rattle.kinds.specs.Sameness.{is_sort}
use Rattle.kinds.specs.declared.Sort.TheVariants.{Boolean}
use Rattle.model.specs.Trees.{Expression, Instruction, Instructions, Variable, Transition, System, count, variables}
use Rattle.model.specs.Trees.Expression.{numeral, truth, variable, negation, binary, if_then_else}
use Rattle.model.specs.Trees.Instruction.{skip, assign, if_then, block}
use Rattle.model.specs.Trees.Instructions.{none, more}

-- a kind and its parameter
pub record Node : Type 0 where
  pub kind : ℕ
  pub parameter : ℤ

abbrev pub node : ℕ → ℤ → Node
node k p = record { kind = k; parameter = p }

unfoldable pub nodes_of_expression : Expression → List Node
nodes_of_expression (numeral v) = node 32 v ∷ []
nodes_of_expression (truth v) = node 33 v ∷ []
nodes_of_expression (variable x) = node 34 (pos x) ∷ []
nodes_of_expression (negation a) = node 35 (pos 0) ∷ nodes_of_expression a
nodes_of_expression (binary op a b) = node (kind_of op) (pos 0) ∷ nodes_of_expression a ++ nodes_of_expression b
nodes_of_expression (if_then_else c a b) = node 46 (pos 0) ∷ nodes_of_expression c ++ (nodes_of_expression a ++ nodes_of_expression b)

unfoldable mutual
  pub nodes_of : Instruction → List Node
  nodes_of skip = node 16 (pos 0) ∷ []
  nodes_of (assign x e) = node 17 (pos x) ∷ nodes_of_expression e
  nodes_of (if_then c i) = node 18 (pos 0) ∷ nodes_of_expression c ++ nodes_of i
  nodes_of (block is) = node 19 (pos (count is)) ∷ nodes_of_all is

  pub nodes_of_all : Instructions → List Node
  nodes_of_all none = []
  nodes_of_all (more i is) = nodes_of i ++ nodes_of_all is

-- 01: "kind 1, Boolean, P its first value, 0 or 1; or three nodes: 2 (P low end), 3 (P high end [..]), 4 (P first value [..])"
unfoldable pub nodes_of_variable : Variable → List Node
nodes_of_variable v =
    cond (is_sort v.sort Boolean) (node 1 v.first ∷ [])
    (node 2 v.low ∷ node 3 v.high ∷ node 4 v.first ∷ [])

unfoldable pub nodes_of_transition : Transition → List Node
nodes_of_transition t = node 5 (pos t.event) ∷ nodes_of_expression t.guard ++ nodes_of t.action

-- 01: "Nodes stand in prefix order: S+F variables (states first, numbered from 0), T transitions, one instruction that is
-- the assertion."
unfoldable pub nodes_of_system : System → List Node
nodes_of_system t =
    flat_map nodes_of_variable (variables t) ++ (flat_map nodes_of_transition t.transitions ++ nodes_of t.assertion)

-- a number in a given count of bytes, low byte first
unfoldable pub little_bytes : ℕ → ℕ → List ℕ
little_bytes zero n = []
little_bytes (suc width) n = n % 256 ∷ little_bytes width (n / 256)

-- 01: "four bytes, low byte first, signed two's complement"
unfoldable pub twos_complement : ℤ → ℕ
twos_complement (pos n) = n
twos_complement (negsuc n) = 4294967296 - suc n

-- 01: "N parameters of four bytes"
abbrev pub parameter_width : ℕ
parameter_width = 4

abbrev pub parameter_bytes : ℤ → List ℕ
parameter_bytes v = little_bytes parameter_width (twos_complement v)
