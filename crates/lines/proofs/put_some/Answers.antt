-- A number has its digits.
use Rattle.std.proofs.Common.{arith}
use Rattle.lines.proofs.Lines.{some_put}
use Rattle.lines.proofs.put_some.Goals as goal

pub returns-in-Some-clause-put : goal.returns-in-Some-clause-put
returns-in-Some-clause-put c =
    some_put _ (omega arith) c.in-Some.is c.put_number.ensures.put
