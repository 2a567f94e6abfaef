-- What the function promises of what it is lent is the promise of the call.
use mathlib.Core.Path.{subst}
use Rattle.run.specs.Promises.{MarksPromise}
use Rattle.run.proofs.Reached.{calls_reached}
use Rattle.run.proofs.Store.copy_marks.Goals as goal

pub returns-clause-performed : goal.returns-clause-performed
returns-clause-performed c =
    let m = c.args.model.now in
    let lent = c.args.self.now in
    calls_reached.marks m lent.values.now lent.marks.now lent.history.now lent.n.now lent.buffer.now c.marks.result _
    (subst (λ r. MarksPromise m r lent.buffer.now c.marks.result c.marks.new.buffer) c.new.ensures c.marks.ensures)
