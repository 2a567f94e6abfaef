-- What the function promises of what it is lent is the promise of the call.
use Rattle.run.proofs.Reached.{calls_reached}
use Rattle.run.proofs.Store.undo.Goals as goal

pub returns-clause-performed : goal.returns-clause-performed
returns-clause-performed c =
    let lent = c.args.self.now in
    calls_reached.undo c.args.model.now _ _ _ _ lent.buffer.now c.undo.result _ _ _ c.undo.ensures
