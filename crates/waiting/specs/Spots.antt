-- Where what waits stands: an instruction found waiting, with its place among the nodes.
use Rattle.std.specs.Prelude.{true, cond, List, [], ◌∷◌, ◌++◌, ℕ, ◌+◌}
use Rattle.evaluation.specs.declared.Evaluation.{Evaluation}
use Rattle.evaluation.specs.declared.Evaluation.TheVariants.{Unknown, Failed, Value}
use Rattle.evaluation.specs.Numbers.{eq_z, boolean}
use Rattle.model.specs.Trees.{Instruction, Instructions}
use Rattle.model.specs.Trees.Instruction.{skip, assign, if_then, block}
use Rattle.model.specs.Trees.Instructions.{none as no_branch, more}
use Rattle.model.specs.Standing.{size_of_expression, size_of}
use Rattle.expressions.specs.Expressions.{Valuation, evaluate}

pub record Spot : Type 0 where
  pub place : ℕ
  pub instruction : Instruction

abbrev pub spot : ℕ → Instruction → Spot
spot at i = record { place = at; instruction = i }

unfoldable pub spots_by : Evaluation → Spot → List Spot
spots_by Unknown s = s ∷ []
spots_by (Failed m) s = []
spots_by (Value v) s = []

unfoldable pub spots_under : Evaluation → Spot → List Spot → List Spot
spots_under Unknown s ss = s ∷ []
spots_under (Failed m) s ss = []
spots_under (Value v) s ss = cond (eq_z v (boolean true)) ss []

-- what waits in an instruction that stands at this place
unfoldable mutual
  pub spots : Instruction → Valuation → ℕ → List Spot
  spots skip σ at = []
  spots (assign x e) σ at = spots_by (evaluate e σ) (spot at (assign x e))
  spots (if_then c i) σ at = spots_under (evaluate c σ) (spot at (if_then c i)) (spots i σ (at + 1 + size_of_expression c))
  spots (block is) σ at = spots_in is σ (at + 1)

  pub spots_in : Instructions → Valuation → ℕ → List Spot
  spots_in no_branch σ at = []
  spots_in (more i is) σ at = spots i σ at ++ spots_in is σ (at + size_of i)

unfoldable pub spots_of_each : List Spot → Valuation → List Spot
spots_of_each [] σ = []
spots_of_each (s ∷ ss) σ = spots s.instruction σ s.place ++ spots_of_each ss σ

unfoldable pub instructions_of : List Spot → List Instruction
instructions_of [] = []
instructions_of (s ∷ ss) = s.instruction ∷ instructions_of ss
