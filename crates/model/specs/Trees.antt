-- Models as trees. A variable is its number, states first. No bound is asked here: WellFormed.antt has those.
use Rattle.std.specs.Prelude.{List, ◌++◌, map, ℕ, suc, max, ℤ}
use Rattle.evaluation.specs.declared.Operator.{Operator}
use Rattle.kinds.specs.declared.Sort.{Sort}

-- 01: "Expression"
pub data Expression : Type 0 where
  numeral : ℤ → Expression
  truth : ℤ → Expression
  variable : ℕ → Expression
  negation : Expression → Expression
  binary : Operator → Expression → Expression → Expression
  if_then_else : Expression → Expression → Expression → Expression

-- 01: "Instruction"
mutual
  pub data Instruction : Type 0 where
    skip : Instruction
    assign : ℕ → Expression → Instruction
    if_then : Expression → Instruction → Instruction
    block : Instructions → Instruction

  pub data Instructions : Type 0 where
    none : Instructions
    more : Instruction → Instructions → Instructions

-- 01: "Variable". Its sort, its ends and its first value; a Boolean's ends are 0 and 1.
pub record Variable : Type 0 where
  pub sort : Sort
  pub low : ℤ
  pub high : ℤ
  pub first : ℤ

-- 01: "Transition"
pub record Transition : Type 0 where
  pub event : ℕ
  pub guard : Expression
  pub action : Instruction

-- a guarded transition system: what a model file describes
pub record System : Type 0 where
  pub states : List Variable
  pub flows : List Variable
  pub events : ℕ
  pub transitions : List Transition
  pub assertion : Instruction

abbrev pub variables : System → List Variable
variables t = t.states ++ t.flows

abbrev pub sorts_of : List Variable → List Sort
sorts_of = map (λ v. v.sort)

unfoldable pub count : Instructions → ℕ
count none = 0
count (more i is) = suc (count is)

-- 01: "Guards, actions and the assertion have depth 1, a child one more than its parent." The depth of the deepest node.
unfoldable pub depth_of_expression : Expression → ℕ
depth_of_expression (numeral v) = 1
depth_of_expression (truth v) = 1
depth_of_expression (variable x) = 1
depth_of_expression (negation a) = suc (depth_of_expression a)
depth_of_expression (binary op a b) = suc (max (depth_of_expression a) (depth_of_expression b))
depth_of_expression (if_then_else c a b) = suc (max (depth_of_expression c) (max (depth_of_expression a) (depth_of_expression b)))

unfoldable mutual
  pub depth_of : Instruction → ℕ
  depth_of skip = 1
  depth_of (assign x e) = suc (depth_of_expression e)
  depth_of (if_then c i) = suc (max (depth_of_expression c) (depth_of i))
  depth_of (block is) = suc (depth_of_all is)

  pub depth_of_all : Instructions → ℕ
  depth_of_all none = 0
  depth_of_all (more i is) = max (depth_of i) (depth_of_all is)
