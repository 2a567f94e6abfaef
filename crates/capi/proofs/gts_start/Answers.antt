-- `gts_start` meets its contract.
use Rattle.capi.proofs.Coding.{start_coded}
use Rattle.capi.proofs.gts_start.Goals as goal

pub returns : goal.returns
returns c =
    let start = c.args in
    let called = c.start in
    start_coded start.model.now start.rounds.now c.hand.result c.hand.new.cell called.result
    c.hand.ensures.code c.hand.ensures.value start.values.now start.marks.now start.n.now called.new.values called.new.marks called.new.n called.ensures
