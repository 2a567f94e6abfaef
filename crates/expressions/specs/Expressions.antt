-- 01, "Meaning of an expression": "Each variable is known or unknown. An expression is unknown, failed, or a value, and is
-- read by descending into its children."
use Rattle.std.specs.Prelude.{List, ℕ, ℤ}
use Rattle.std.proofs.Math.Option.{Option, some, none}
use Rattle.std.proofs.Math.ListN.{get_elem?}
use Rattle.evaluation.specs.declared.Evaluation.{Evaluation}
use Rattle.evaluation.specs.declared.Evaluation.TheVariants.{Unknown, Value}
use Rattle.evaluation.specs.Meaning.{operated, negated, chosen}
use Rattle.model.specs.Trees.{Expression}
use Rattle.model.specs.Trees.Expression.{numeral, truth, variable, negation, binary, if_then_else}

-- what is known of each variable
abbrev pub Valuation : Type 0
Valuation = ℕ → Option ℤ

unfoldable pub evaluation_of : Option ℤ → Evaluation
evaluation_of none = Unknown
evaluation_of (some v) = Value v

unfoldable pub evaluate : Expression → Valuation → Evaluation
evaluate (numeral v) σ = Value v
evaluate (truth v) σ = Value v
evaluate (variable x) σ = evaluation_of (σ x)
evaluate (negation a) σ = negated (evaluate a σ)
evaluate (binary op a b) σ = operated op (evaluate a σ) (evaluate b σ)
evaluate (if_then_else c a b) σ = chosen (evaluate c σ) (evaluate a σ) (evaluate b σ)

-- the variables in the list are known, and no others
abbrev pub known_from : List ℤ → Valuation
known_from values x = get_elem? values x

-- nothing is known
abbrev pub nothing_known : Valuation
nothing_known x = none
