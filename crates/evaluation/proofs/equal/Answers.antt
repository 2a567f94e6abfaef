-- The test on bits is equality of numbers.
use mathlib.Core.Path.{ap, ◌∙◌}
use mir.Syntax.{w32}
use Rattle.evaluation.specs.declared.Evaluation.TheVariants.{Value}
use Rattle.evaluation.specs.Numbers.{boolean}
use Rattle.evaluation.proofs.Signed.{same_bits}
use Rattle.evaluation.proofs.equal.Goals as goal

pub returns : goal.returns
returns c = c.truth.ensures ∙ ap (λ t. Value (boolean t)) (same_bits w32 c.ranges.x c.ranges.y)
