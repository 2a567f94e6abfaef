-- The left value decides, or the right one, or the operator is calculated.
use Rattle.std.proofs.Common.{arith, ◌∙◌, ⊎_elim}
use Rattle.evaluation.specs.Meaning.{calculated}
use Rattle.evaluation.proofs.Signed.{read_both}
use Rattle.operators.proofs.Operators.{decides_at, leaves_at, decided, left_decides, right_decides, neither_decides}
use Rattle.operators.proofs.at_values.Goals.{in_default-via-in-Some+else-y-d, in_default-via-in_default}
use Rattle.operators.proofs.at_values.Goals as goal

pub returns-in-Some : goal.returns-in-Some
returns-in-Some c =
    decided c.args.op (record { sfits = omega arith }) c.in-Some.ensures.0
    ∙ ⊎_elim
    (λ e. left_decides c.args.op c.args.x c.args.y (decides_at c.args.op (record { sfits = omega arith }) c.ranges.x c.in-Some.ensures e))
    (λ e. right_decides c.args.op c.args.x c.args.y (decides_at c.args.op (record { sfits = omega arith }) c.ranges.y c.in-Some.ensures e.1))
    c.if-y-d.either

pub returns-in_default : goal.returns-in_default
returns-in_default c =
    c.calculate.ensures ∙ read_both (calculated c.args.op) c.ranges.x c.ranges.y
    ∙ elim c.in_default.branch [
      | in_default-via-in-Some+else-y-d w ↦
          neither_decides c.args.op c.args.x c.args.y
          (leaves_at c.args.op (record { sfits = omega arith }) c.ranges.x w.in-Some.ensures w.if-y-d.false.0)
          (leaves_at c.args.op (record { sfits = omega arith }) c.ranges.y w.in-Some.ensures w.if-y-d.false.1)
      | in_default-via-in_default w ↦ neither_decides c.args.op c.args.x c.args.y (w.in_default.ensures c.args.x) (w.in_default.ensures c.args.y)
    ]
