-- The marks that a reading leaves: at the place of an instruction the round in which it was last found waiting, or 0.
use Rattle.std.specs.Prelude.{true, cond, List, [], ◌∷◌, ℕ, zero, suc, ◌+◌, set}
use Rattle.evaluation.specs.declared.Evaluation.{Evaluation}
use Rattle.evaluation.specs.declared.Evaluation.TheVariants.{Unknown, Failed, Value}
use Rattle.evaluation.specs.Numbers.{eq_z, boolean}
use Rattle.model.specs.Trees.{Instruction, Instructions}
use Rattle.model.specs.Trees.Instruction.{skip, assign, if_then, block}
use Rattle.model.specs.Trees.Instructions.{none as no_branch, more}
use Rattle.model.specs.Standing.{size_of_expression, size_of}
use Rattle.expressions.specs.Expressions.{Valuation, evaluate}

unfoldable pub stamp_of : Evaluation → ℕ → ℕ
stamp_of Unknown r = r
stamp_of (Failed m) r = 0
stamp_of (Value v) r = 0

unfoldable pub marked_under : Evaluation → List ℕ → List ℕ → List ℕ
marked_under Unknown w body = w
marked_under (Failed m) w body = w
marked_under (Value v) w body = cond (eq_z v (boolean true)) body w

-- the marks after a reading in round r
unfoldable mutual
  pub marked : Instruction → Valuation → ℕ → ℕ → List ℕ → List ℕ
  marked skip σ at r w = w
  marked (assign x e) σ at r w = set w at (stamp_of (evaluate e σ) r)
  marked (if_then c i) σ at r w =
      marked_under (evaluate c σ) (set w at (stamp_of (evaluate c σ) r))
      (marked i σ (at + 1 + size_of_expression c) r (set w at (stamp_of (evaluate c σ) r)))
  marked (block is) σ at r w = marked_in is σ (at + 1) r w

  pub marked_in : Instructions → Valuation → ℕ → ℕ → List ℕ → List ℕ
  marked_in no_branch σ at r w = w
  marked_in (more i is) σ at r w = marked_in is σ (at + size_of i) r (marked i σ at r w)

-- the mark that one node leaves
unfoldable pub mark_at_once : Instruction → Valuation → ℕ → ℕ → List ℕ → List ℕ
mark_at_once skip σ at r w = w
mark_at_once (assign x e) σ at r w = set w at (stamp_of (evaluate e σ) r)
mark_at_once (if_then c i) σ at r w = set w at (stamp_of (evaluate c σ) r)
mark_at_once (block is) σ at r w = w

-- ---- how many are marked

unfoldable pub is_marked : ℕ → ℕ
is_marked zero = 0
is_marked (suc r) = 1

unfoldable pub mark_count : List ℕ → ℕ
mark_count [] = 0
mark_count (r ∷ w) = is_marked r + mark_count w
