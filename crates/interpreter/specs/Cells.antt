-- How the code goes about it: what its functions ask of the nodes and the cells lent to them. No definition here is 01's own.
use Rattle.std.specs.Prelude.{◌≡◌, List, ℕ, ◌+◌, ◌<◌, ℤ, length, get_or}
use Rattle.model.specs.Trees.{Expression, Instruction, Instructions}
use Rattle.model.specs.Trees.Instruction.{skip, assign, if_then, block}
use Rattle.model.specs.Trees.Instructions.{none as no_branch, more}
use Rattle.model.specs.Standing.{ExpressionAt, InstructionAt, size_of_expression, size_of}

module _ (ks : List ℕ) (ps : List ℤ) where
  -- the entry of `nexts` at the place of a tree is the place after that tree
  pub record NextPlaces (nexts : List ℕ) : Type 0 where
    pub long : length nexts ≡ length ks
    pub expression : (e : Expression) (at : ℕ) → ExpressionAt ks ps e at → get_or nexts at 0 ≡ at + size_of_expression e
    pub instruction : (i : Instruction) (at : ℕ) → InstructionAt ks ps i at → get_or nexts at 0 ≡ at + size_of i

unfoldable mutual
  -- every assigned variable is below n
  pub TargetsBelow : Instruction → ℕ → Type 0
  TargetsBelow skip n = Unit {0}
  TargetsBelow (assign x e) n = x < n
  TargetsBelow (if_then c i) n = TargetsBelow i n
  TargetsBelow (block is) n = AllTargetsBelow is n

  pub AllTargetsBelow : Instructions → ℕ → Type 0
  AllTargetsBelow no_branch n = Unit {0}
  AllTargetsBelow (more i is) n = TargetsBelow i n × AllTargetsBelow is n

module _ (ks : List ℕ) (ps : List ℤ) where
  -- some instruction stands at the place, and its targets are variables and have cells
  pub record InstructionStands (nexts : List ℕ) (variables given : ℕ) (at : ℕ) : Type 0 where
    pub instruction : Instruction
    pub stands : InstructionAt ks ps instruction at
    pub target_variables : TargetsBelow instruction variables
    pub target_given : TargetsBelow instruction given
    pub places : NextPlaces ks ps nexts

  -- an assignment stands at the place, and its target is a variable and has a cell
  pub record AssignmentStands (variables given : ℕ) (at : ℕ) : Type 0 where
    pub target : ℕ
    pub expression : Expression
    pub stands : InstructionAt ks ps (assign target expression) at
    pub target_variable : target < variables
    pub target_given : target < given

  -- an if-then stands at the place
  pub record TestStands (nexts : List ℕ) (at : ℕ) : Type 0 where
    pub condition : Expression
    pub body : Instruction
    pub stands : InstructionAt ks ps (if_then condition body) at
    pub places : NextPlaces ks ps nexts
