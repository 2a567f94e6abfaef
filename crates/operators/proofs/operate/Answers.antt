-- Each form of the two operands.
use Rattle.std.proofs.Common.{arith, refl}
use Rattle.operators.proofs.Operators.{unknown_other, failed_unknown, failed_failed, unknown_value, failed_value, value_unknown, value_failed, value_value}
use Rattle.operators.proofs.operate.Goals as goal

pub returns-in-Value-Value : goal.returns-in-Value-Value
returns-in-Value-Value c =
    value_value c.args.op (omega arith) (omega arith) c.in-Value-Value.is-0 c.in-Value-Value.is-1 c.at_values.ensures

pub returns-in-Value-Failed : goal.returns-in-Value-Failed
returns-in-Value-Failed c =
    value_failed c.args.op (omega arith) _ c.in-Value-Failed.is-0 c.in-Value-Failed.is-1 c.beside.ensures

pub returns-in-Failed-Value : goal.returns-in-Failed-Value
returns-in-Failed-Value c =
    failed_value c.args.op (omega arith) _ c.in-Failed-Value.is-0 c.in-Failed-Value.is-1 c.beside-in-Failed-Value.ensures

pub returns-in-Value-Unknown : goal.returns-in-Value-Unknown
returns-in-Value-Unknown c =
    value_unknown c.args.op (omega arith) c.in-Value-Unknown.is-0 c.in-Value-Unknown.is-1 c.beside-in-Value-Unknown.ensures

pub returns-in-Unknown-Value : goal.returns-in-Unknown-Value
returns-in-Unknown-Value c =
    unknown_value c.args.op (omega arith) c.in-Unknown-Value.is-0 c.in-Unknown-Value.is-1 c.beside-in-Unknown-Value.ensures

pub returns-in-Failed-Failed : goal.returns-in-Failed-Failed
returns-in-Failed-Failed c =
    failed_failed c.args.op c.in-Failed-Failed.is-0 c.in-Failed-Failed.is-1 (c.winning_manner.ensures c.args.op)

pub returns-in_default : goal.returns-in_default
returns-in_default c = failed_unknown c.args.op c.in_default.is-0 c.in_default.is-1

pub returns-in_default-2 : goal.returns-in_default-2
returns-in_default-2 c = unknown_other c.args.op c.args.b c.in_default.is-0 c.in_default.not-Value-1 refl
