-- Each form of the condition.
use Rattle.operators.proofs.Operators.{unknown_chosen, failed_chosen, first_chosen, second_chosen}
use Rattle.operators.proofs.choose.Goals as goal

pub returns-then-is_true : goal.returns-then-is_true
returns-then-is_true c = first_chosen c.args.a c.args.b c.in-Value.is c.is_true.ensures c.if-is_true.true

pub returns-in-Unknown : goal.returns-in-Unknown
returns-in-Unknown c =
    unknown_chosen c.args.a c.args.b c.in-Unknown.is c.undecided.ensures

pub returns-in-Failed : goal.returns-in-Failed
returns-in-Failed c =
    failed_chosen c.args.a c.args.b c.in-Failed.is c.undecided-in-Failed.ensures

pub returns-else-is_true : goal.returns-else-is_true
returns-else-is_true c = second_chosen c.args.a c.args.b c.in-Value.is c.is_true.ensures c.if-is_true.false
