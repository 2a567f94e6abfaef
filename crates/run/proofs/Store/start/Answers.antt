-- What the function promises of what it is lent is the promise of the call.
use Rattle.run.proofs.Reached.{calls_reached}
use Rattle.run.proofs.Store.start.Goals as goal

pub returns-clause-performed : goal.returns-clause-performed
returns-clause-performed c =
    let lent = c.args.self.now in
    calls_reached.start c.args.model.now _ _ lent.history.now _ lent.buffer.now c.start.result _ _ _ c.start.ensures
