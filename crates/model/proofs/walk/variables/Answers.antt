use native.Mathlib.Omega.{arith}
use Rattle.std.proofs.lemmas.Result.{err_from_is_err_and}
use Rattle.model.proofs.Declarations.{stored_none, stored_refused, stored_next, stored_whole}
use Rattle.model.proofs.walk.variables.Goals as goal

pub loop-sort-init : goal.loop-sort-init
loop-sort-init c = rw c.empty-here.ensures (stored_none _ _ _ _ _ (omega arith))

pub returns-in_err-declaration : goal.returns-in_err-declaration
returns-in_err-declaration c =
    let e = err_from_is_err_and c.from_residual.result c.from_residual.ensures.1 in
    rw (e.1, e.2) (stored_refused _ _ _ _ _ c.loop-sort.invariant (omega (arith, c.loop-sort-test.true, c.loop-sort.auto.sorts)) c.variable.ensures _ c.in_err-declaration.was)

pub loop-sort-preserved : goal.loop-sort-preserved
loop-sort-preserved c =
    stored_next _ _ _ _ _ c.loop-sort.invariant (omega (arith, c.loop-sort-test.true, c.loop-sort.auto.sorts)) c.variable.ensures _ (omega (arith, c.loop-sort-test.true, c.loop-sort.auto.sorts)) c.in_ok-declaration.was (omega (arith, c.loop-sort-test.true, c.loop-sort.auto.sorts))

pub returns : goal.returns
returns c =
    stored_whole _ _ _ _ _ c.loop-sort.invariant (omega (arith, c.loop-sort-test.false, c.loop-sort.auto.sorts)) (omega (arith, c.loop-sort-test.false, c.loop-sort.auto.sorts))
