-- `gts_fire` meets its contract.
use Rattle.capi.proofs.Coding.{fire_coded}
use Rattle.capi.proofs.gts_fire.Goals as goal

pub returns : goal.returns
returns c =
    let start = c.args in
    let called = c.fire in
    fire_coded start.model.now start.rounds.now c.hand.result c.hand.new.cell called.result
    c.hand.ensures.code c.hand.ensures.value start.values.now start.marks.now start.history.now start.n.now start.transition
    called.new.values called.new.marks called.new.history called.new.n called.ensures
