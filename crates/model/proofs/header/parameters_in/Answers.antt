use native.Mathlib.Omega.{arith}
use Rattle.model.proofs.Bytes.{stored_none, stored}
use Rattle.model.proofs.header.parameters_in.Goals as goal

pub loop-i-init : goal.loop-i-init
loop-i-init c = stored_none c.args.model.now c.args.from _

pub loop-i-preserved : goal.loop-i-preserved
loop-i-preserved c =
    let l = c.loop-i in
    stored c.args.model.now c.args.from l.i _ l.invariant (omega (arith, c.loop-i-test.true, l.auto.i-end)) c.parameter_in.type_inv c.parameter_in.ensures
