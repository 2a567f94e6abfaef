-- The states change where no fault was found.
use Rattle.std.proofs.lemmas.Result.{err_from_is_err_and}
use Rattle.interpreter.specs.Gathering.{fault_in}
use Rattle.propagation.proofs.Acting.{changed_faulty, changed_clear}
use Rattle.propagation.proofs.change.Goals as goal

pub returns-in_err-fault_in : goal.returns-in_err-fault_in
returns-in_err-fault_in c =
    let p = err_from_is_err_and c.from_residual.result c.from_residual.ensures.1 in
    rw (p.1, p.2) (changed_faulty (fault_in c.args.found) c.args.states.now c.args.given.now c.fault_in.result c.fault_in.ensures _ c.in_err-fault_in.was)

pub returns : goal.returns
returns c =
    changed_clear (fault_in c.args.found) c.args.states.now c.args.given.now c.fault_in.result c.fault_in.ensures _ c.replace.ensures c.in_ok-fault_in.was
