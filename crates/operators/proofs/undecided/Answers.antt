-- Each form of the two branches.
use Rattle.std.proofs.Common.{arith}
use Rattle.evaluation.specs.Meaning.{agree, is_unknown}
use Rattle.operators.proofs.Operators.{values_agree, values_differ, failed_undecided}
use Rattle.operators.proofs.undecided.Goals as goal

pub returns-in-Value-Value : goal.returns-in-Value-Value
returns-in-Value-Value c =
    values_agree c.args.otherwise (omega arith) (omega arith) c.in-Value-Value.is-0 c.in-Value-Value.is-1 c.if-x-y.true

pub returns-in-Unknown-default : goal.returns-in-Unknown-default
unfolding agree is_unknown
returns-in-Unknown-default c = rw c.in-Unknown-default.is-0

pub returns-in-Unknown-default-2 : goal.returns-in-Unknown-default-2
unfolding agree is_unknown
returns-in-Unknown-default-2 c = rw (c.in-Unknown-default.is-0, c.in-Unknown-default.is-1)

pub returns-in-Unknown-default-3 : goal.returns-in-Unknown-default-3
unfolding agree is_unknown
returns-in-Unknown-default-3 c = rw (c.in-Unknown-default.is-0, c.in-Unknown-default.is-1)

pub returns-in_default : goal.returns-in_default
returns-in_default c =
    values_differ c.args.otherwise (omega arith) (omega arith) c.in-Value-Value.is-0 c.in-Value-Value.is-1 c.if-x-y.false

pub returns-in_default-2 : goal.returns-in_default-2
unfolding agree is_unknown
returns-in_default-2 c = rw (c.in_default.is-0, c.in_default.is-1)

pub returns-in_default-3 : goal.returns-in_default-3
returns-in_default-3 c = failed_undecided c.args.otherwise c.args.b c.in_default.is-0 c.in_default.not-Unknown-1
