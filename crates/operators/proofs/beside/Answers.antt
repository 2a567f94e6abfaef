-- The value decides, or the other operand is the answer.
use Rattle.std.proofs.Common.{arith}
use Rattle.operators.proofs.Operators.{decides_at, leaves_at, decided}
use Rattle.operators.proofs.beside.Goals as goal

pub returns-in-Some : goal.returns-in-Some
returns-in-Some c =
    rw (decides_at c.args.op (record { sfits = omega arith }) c.ranges.v c.in-Some.ensures c.if-v-d.true)
    (decided c.args.op (record { sfits = omega arith }) c.in-Some.ensures.0)

pub returns-in_default : goal.returns-in_default
returns-in_default c = rw (leaves_at c.args.op (record { sfits = omega arith }) c.ranges.v c.in-Some.ensures c.if-v-d.false)
