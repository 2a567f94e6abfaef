-- What an instruction waits for: the reached instructions in it whose own expression is unknown.
use Rattle.std.specs.Prelude.{◌≡◌, Bool, true, false, cond, ◌||◌, List, [], ◌∷◌, ◌++◌, ℕ, eqb}
use Rattle.evaluation.specs.declared.Evaluation.{Evaluation}
use Rattle.evaluation.specs.declared.Evaluation.TheVariants.{Unknown, Failed, Value}
use Rattle.evaluation.specs.Numbers.{eq_z, boolean}
use Rattle.model.specs.Trees.{Expression, Instruction, Instructions}
use Rattle.model.specs.Trees.Expression.{numeral, truth, variable, negation, binary, if_then_else}
use Rattle.model.specs.Trees.Instruction.{skip, assign, if_then, block}
use Rattle.model.specs.Trees.Instructions.{none as no_branch, more}
use Rattle.expressions.specs.Expressions.{Valuation, evaluate}
use Rattle.interpreter.specs.Instructions.{Effect, effects}

-- by the nodes, read or not
unfoldable pub mentions : Expression → ℕ → Bool
mentions (numeral v) x = false
mentions (truth v) x = false
mentions (variable y) x = eqb x y
mentions (negation a) x = mentions a x
mentions (binary op a b) x = mentions a x || mentions b x
mentions (if_then_else c a b) x = mentions c x || (mentions a x || mentions b x)

-- the valuations agree on what the expression mentions
abbrev pub AgreeOn : Expression → Valuation → Valuation → Type 0
AgreeOn e σ τ = (x : ℕ) → mentions e x ≡ true → σ x ≡ τ x

-- an assignment waits while its expression is unknown
unfoldable pub waits_by : Evaluation → Instruction → List Instruction
waits_by Unknown i = i ∷ []
waits_by (Failed m) i = []
waits_by (Value v) i = []

-- an if-then waits while its condition is unknown, and what waits under a true one waits
unfoldable pub waits_under : Evaluation → Instruction → List Instruction → List Instruction
waits_under Unknown i is = i ∷ []
waits_under (Failed m) i is = []
waits_under (Value v) i is = cond (eq_z v (boolean true)) is []

unfoldable mutual
  pub waiting : Instruction → Valuation → List Instruction
  waiting skip σ = []
  waiting (assign x e) σ = waits_by (evaluate e σ) (assign x e)
  waiting (if_then c i) σ = waits_under (evaluate c σ) (if_then c i) (waiting i σ)
  waiting (block is) σ = waiting_in is σ

  pub waiting_in : Instructions → Valuation → List Instruction
  waiting_in no_branch σ = []
  waiting_in (more i is) σ = waiting i σ ++ waiting_in is σ

-- the effects of several instructions, and what waits in them
unfoldable pub effects_of_each : List Instruction → Valuation → List Effect
effects_of_each [] σ = []
effects_of_each (i ∷ is) σ = effects i σ ++ effects_of_each is σ

unfoldable pub waiting_of_each : List Instruction → Valuation → List Instruction
waiting_of_each [] σ = []
waiting_of_each (i ∷ is) σ = waiting i σ ++ waiting_of_each is σ

-- the instruction's own expression, the one that it waits by, is unknown
unfoldable pub Waits : Instruction → Valuation → Type 0
Waits skip σ = ⊥
Waits (assign x e) σ = evaluate e σ ≡ Unknown
Waits (if_then c i) σ = evaluate c σ ≡ Unknown
Waits (block is) σ = ⊥

-- the valuations agree on what its own expression mentions
unfoldable pub Untouched : Instruction → Valuation → Valuation → Type 0
Untouched skip σ τ = Unit {0}
Untouched (assign x e) σ τ = AgreeOn e σ τ
Untouched (if_then c i) σ τ = AgreeOn c σ τ
Untouched (block is) σ τ = Unit {0}
