-- Each operator is calculated by the function of its name.
use Rattle.std.proofs.Common.{⊎_elim}
use mathlib.Core.Path.{◌≡◌, sym, ap, ◌∙◌}
use lib.IntN.{ℤ}
use mir.Syntax.{w32}
use mir.Val.{SFits}
use Rattle.evaluation.specs.declared.Evaluation.{Evaluation}
use Rattle.evaluation.specs.declared.Operator.{Operator}
use Rattle.evaluation.specs.Meaning.{calculated}
use Rattle.evaluation.proofs.Signed.{stored, read_both}
use Rattle.operators.proofs.calculate.Goals as goal

answers : {op o : Operator} {x y : ℤ} {r : Evaluation} → op ≡ o → SFits w32 x → SFits w32 y
    → r ≡ calculated o (stored x) (stored y) → r ≡ calculated op x y
answers {o} {x} {y} e f g h = h ∙ read_both (calculated o) f g ∙ ap (λ o. calculated o x y) (sym e)

pub returns-in-Conjunction : goal.returns-in-Conjunction
unfolding calculated
returns-in-Conjunction c =
    ap (λ o. calculated o c.args.x c.args.y) (sym c.in-Conjunction.is)

pub returns-in-Disjunction : goal.returns-in-Disjunction
unfolding calculated
returns-in-Disjunction c =
    ap (λ o. calculated o c.args.x c.args.y) (sym c.in-Disjunction.is)

pub returns-in-Equality : goal.returns-in-Equality
unfolding calculated
returns-in-Equality c =
    ⊎_elim
    (λ e. answers e c.ranges.x c.ranges.y c.equal.ensures)
    (λ e. answers e c.ranges.x c.ranges.y c.equal.ensures) c.in-Equality.is

pub returns-in-Less : goal.returns-in-Less
unfolding calculated
returns-in-Less c =
    answers c.in-Less.is c.ranges.x c.ranges.y
    c.less.ensures

pub returns-in-LessOrEqual : goal.returns-in-LessOrEqual
unfolding calculated
returns-in-LessOrEqual c =
    answers c.in-LessOrEqual.is c.ranges.x c.ranges.y
    c.less_or_equal.ensures

pub returns-in-Sum : goal.returns-in-Sum
unfolding calculated
returns-in-Sum c =
    answers c.in-Sum.is c.ranges.x c.ranges.y
    c.sum.ensures

pub returns-in-Difference : goal.returns-in-Difference
unfolding calculated
returns-in-Difference c =
    answers c.in-Difference.is c.ranges.x c.ranges.y
    c.difference.ensures

pub returns-in-Product : goal.returns-in-Product
unfolding calculated
returns-in-Product c =
    answers c.in-Product.is c.ranges.x c.ranges.y
    c.product.ensures

pub returns-in-Quotient : goal.returns-in-Quotient
unfolding calculated
returns-in-Quotient c =
    answers c.in-Quotient.is c.ranges.x c.ranges.y
    c.quotient.ensures

pub returns-in-Remainder : goal.returns-in-Remainder
unfolding calculated
returns-in-Remainder c =
    answers c.in-Remainder.is c.ranges.x c.ranges.y
    c.remainder.ensures
