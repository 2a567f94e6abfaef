-- An active assignment gives its variable a value.
use mathlib.Core.Path.{refl, ◌∙◌}
use Rattle.variables.specs.Rows.{lows_in, highs_in}
use Rattle.variables.proofs.Columns.{within_columns}
use Rattle.interpreter.proofs.Giving.{keeps}
use Rattle.interpreter.proofs.Gathered.give.Goals as goal

pub returns-in_default : goal.returns-in_default
returns-in_default c =
    let rows = c.args.variables.now in
    keeps (lows_in rows) (highs_in rows) c.args.given.now c.args.variable c.ranges.value c.args.self.now (c.is_within.ensures ∙ within_columns rows c.args.variable _) _ refl c.in_default.not-None c.ne.ensures
