-- Where the walk finds no refusal and the slice has room, the model is written.
use mathlib.Core.Path.{◌≡◌, ap}
use Rattle.std.proofs.Common.{rules, tests}
use Rattle.std.proofs.lemmas.Result.{err_from_is_err_and, MatchResult-at_err}
use Rattle.results.specs.declared.refusal.Refusal.TheVariants.{LimitPassed}
use Rattle.std.specs.Result.{is_err}
use Rattle.engine.proofs.Firings.{err_of, ok_of}
use Rattle.synchronisation.proofs.Extending.{walk_refused, model_written}
use Rattle.synchronisation.proofs.write.Goals as goal

pub returns-in_err-map_err : goal.returns-in_err-map_err
returns-in_err-map_err c = λ e.
    let p = err_from_is_err_and c.from_residual.result c.from_residual.ensures.1 in
    let walk = c.check_transition.result in
    let was = err_of walk c.map_err.result c.map_err.ensures.variant c.in_err-map_err.was in
    let m = err_from_is_err_and c.map_err.result (MatchResult-at_err _ _ was.0 was.1 c.map_err.ensures.cases) in
    let by = m.2 in
    let mapped : m.0 ≡ LimitPassed = search (rules, tests) in
    let told : p.0 ≡ LimitPassed = cc (p.2, c.in_err-map_err.was, m.1, mapped) in
    rw (p.1, told) (walk_refused e c.args.out.now c.check_transition.ensures (ap is_err was.1))

pub returns : goal.returns
returns c = λ e.
    model_written e c.args.out.now c.check_transition.ensures
    (ap is_err (ok_of c.check_transition.result c.map_err.result c.map_err.ensures.variant _ c.map_err.ensures.cases c.in_ok-map_err.was)) c.if-out-length.false c.write_file.ensures
