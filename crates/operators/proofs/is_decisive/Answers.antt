-- A value decides exactly if it is the one that decides.
use mathlib.Core.Path.{sym}
use Rattle.std.proofs.Common.{arith}
use Rattle.operators.proofs.Operators.{decides_at, leaves_at}
use Rattle.operators.proofs.is_decisive.Goals as goal

pub returns-in-Some : goal.returns-in-Some
returns-in-Some c = sym (decides_at c.args.op (record { sfits = omega arith }) c.ranges.v c.in-Some.ensures c.if-v-d.true)

pub returns-in_default : goal.returns-in_default
returns-in_default c = sym (leaves_at c.args.op (record { sfits = omega arith }) c.ranges.v c.in-Some.ensures c.if-v-d.false)
