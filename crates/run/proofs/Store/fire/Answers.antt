-- What the function promises of what it is lent is the promise of the call.
use Rattle.run.proofs.Reached.{calls_reached}
use Rattle.run.proofs.Store.fire.Goals as goal

pub returns-clause-performed : goal.returns-clause-performed
returns-clause-performed c =
    let lent = c.args.self.now in
    calls_reached.fire c.args.model.now _ _ _ _ _ lent.buffer.now c.fire.result _ _ _ _ c.fire.ensures
