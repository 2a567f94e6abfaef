-- Where trees stand among nodes.
use Rattle.std.specs.Prelude.{◌≡◌, List, [], ◌∷◌, ℕ, suc, ◌+◌, ◌<◌, ℤ, pos, length, get_or}
use Rattle.kinds.specs.Kinds.{kind_of}
use Rattle.model.specs.Trees.{Expression, Instruction, Instructions, Transition, count}
use Rattle.model.specs.Trees.Expression.{numeral, truth, variable, negation, binary, if_then_else}
use Rattle.model.specs.Trees.Instruction.{skip, assign, if_then, block}
use Rattle.model.specs.Trees.Instructions.{none, more}

-- the number of nodes
unfoldable pub size_of_expression : Expression → ℕ
size_of_expression (numeral v) = 1
size_of_expression (truth v) = 1
size_of_expression (variable x) = 1
size_of_expression (negation a) = suc (size_of_expression a)
size_of_expression (binary op a b) = suc (size_of_expression a + size_of_expression b)
size_of_expression (if_then_else c a b) = suc (size_of_expression c + (size_of_expression a + size_of_expression b))

unfoldable mutual
  pub size_of : Instruction → ℕ
  size_of skip = 1
  size_of (assign x e) = suc (size_of_expression e)
  size_of (if_then c i) = suc (size_of_expression c + size_of i)
  size_of (block is) = suc (size_of_all is)

  pub size_of_all : Instructions → ℕ
  size_of_all none = 0
  size_of_all (more i is) = size_of i + size_of_all is

unfoldable pub size_of_transition : Transition → ℕ
size_of_transition t = suc (size_of_expression t.guard + size_of t.action)

unfoldable pub size_of_transitions : List Transition → ℕ
size_of_transitions [] = 0
size_of_transitions (t ∷ ts) = size_of_transition t + size_of_transitions ts

module _ (ks : List ℕ) (ps : List ℤ) where
  -- this node stands at this place
  pub record NodeAt (at k : ℕ) (p : ℤ) : Type 0 where
    pub within : at < length ks
    pub within_parameters : at < length ps
    pub kind : get_or ks at 0 ≡ k
    pub parameter : get_or ps at (pos 0) ≡ p

  -- the nodes of this expression stand from this place on
  unfoldable pub ExpressionAt : Expression → ℕ → Type 0
  ExpressionAt (numeral v) at = NodeAt at 32 v
  ExpressionAt (truth v) at = NodeAt at 33 v
  ExpressionAt (variable x) at = NodeAt at 34 (pos x)
  ExpressionAt (negation a) at = NodeAt at 35 (pos 0) × ExpressionAt a (at + 1)
  ExpressionAt (binary op a b) at =
      NodeAt at (kind_of op) (pos 0) × ExpressionAt a (at + 1) × ExpressionAt b (at + 1 + size_of_expression a)
  ExpressionAt (if_then_else c a b) at =
      NodeAt at 46 (pos 0) × ExpressionAt c (at + 1) × ExpressionAt a (at + 1 + size_of_expression c)
      × ExpressionAt b (at + 1 + size_of_expression c + size_of_expression a)

  unfoldable mutual
    -- the nodes of this instruction stand from this place on
    pub InstructionAt : Instruction → ℕ → Type 0
    InstructionAt skip at = NodeAt at 16 (pos 0)
    InstructionAt (assign x e) at = NodeAt at 17 (pos x) × ExpressionAt e (at + 1)
    InstructionAt (if_then c i) at =
        NodeAt at 18 (pos 0) × ExpressionAt c (at + 1) × InstructionAt i (at + 1 + size_of_expression c)
    InstructionAt (block is) at = NodeAt at 19 (pos (count is)) × InstructionsAt is (at + 1)

    pub InstructionsAt : Instructions → ℕ → Type 0
    InstructionsAt none at = Unit {0}
    InstructionsAt (more i is) at = InstructionAt i at × InstructionsAt is (at + size_of i)
