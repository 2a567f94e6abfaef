-- Not is equality with false.
use mathlib.Core.Path.{sym, ap, ◌∙◌}
use mathlib.Core.Bool.{false}
use native.Mathlib.Omega.{arith}
use Rattle.evaluation.specs.declared.Evaluation.TheVariants.{Value}
use Rattle.evaluation.specs.Numbers.{eq_z, boolean}
use Rattle.evaluation.specs.Meaning.{negated}
use Rattle.evaluation.proofs.Signed.{read_one}
use Rattle.operators.proofs.Operators.{handed_on}
use Rattle.operators.proofs.negate.Goals as goal

pub returns-in_default : goal.returns-in_default
returns-in_default c = handed_on c.args.a c.in_default.not-Value

pub returns-in-Value : goal.returns-in-Value
unfolding negated
returns-in-Value c = c.equal.ensures
    ∙ read_one (λ v. Value (boolean (eq_z v (boolean false)))) (record { sfits = omega arith })
    ∙ ap negated (sym c.in-Value.is)
