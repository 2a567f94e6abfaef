-- Guard and action: the old states are stored, then changed.
use native.Mathlib.Omega.{arith}
use mathlib.Core.Path.{sym, ap, ◌∙◌}
use mathlib.Core.List.{◌++◌}
use lib.ListN.{drop}
use lib.Seq.{length-take-le}
use Rattle.std.proofs.lemmas.Result.{err_from_is_err_and}
use Rattle.engine.proofs.Accepted.{loaded_in}
use Rattle.engine.proofs.Guards.{few_variables}
use Rattle.engine.proofs.Changing.{over_by_room, over_by_guard, within, guard_within_lem, few_states, action_stands, over_by_action, changed}
use Rattle.rounds.proofs.Propagating.{no_fault}
use Rattle.engine.proofs.transitions.change_states.Goals as goal

pub variables-variable_count-requires : goal.variables-variable_count-requires
variables-variable_count-requires c = omega (arith, few_variables (loaded_in c.args.decoded.now))

pub returns-then-values-variable_count-clause-changed : goal.returns-then-values-variable_count-clause-changed
returns-then-values-variable_count-clause-changed c =
    λ d. over_by_room d c.args.transition c.args.values.now c.args.work.now.states.now c.requires.1 (omega (arith, c.variables-variable_count.ensures, c.if-values-variable_count.true))

pub returns-in_err-admit-clause-changed : goal.returns-in_err-admit-clause-changed
returns-in_err-admit-clause-changed c =
    let p = err_from_is_err_and c.from_residual.result c.from_residual.ensures.1 in
    rw (p.1, p.2) (λ d. over_by_guard d c.args.transition c.args.values.now c.args.work.now.states.now c.requires.1 (omega (arith, c.variables-variable_count.ensures, c.if-values-variable_count.false)) c.args.work.now.cells.now c.requires.0 c.guard-evaluation.result (c.guard-evaluation.ensures d) c.admit.result c.admit.ensures _ c.in_err-admit.was)

pub slice_bounds-copy-end : goal.slice_bounds-copy-end
slice_bounds-copy-end c = sym (length-take-le _ c.args.values.now (omega (arith, c.variables-variable_count.ensures, c.if-values-variable_count.false)))

pub slice_bounds-copy-end-2 : goal.slice_bounds-copy-end-2
slice_bounds-copy-end-2 c = few_states (loaded_in c.args.decoded.now) c.args.transition c.args.values.now c.args.work.now.states.now c.requires.1

pub slice_bounds-copy-end-3 : goal.slice_bounds-copy-end-3
slice_bounds-copy-end-3 c =
    sym (length-take-le _ c.args.work.now.states.now (few_states (loaded_in c.args.decoded.now) c.args.transition c.args.values.now c.args.work.now.states.now c.requires.1))

pub copy-requires : goal.copy-requires
copy-requires c =
    length-take-le _ c.args.work.now.states.now (few_states (loaded_in c.args.decoded.now) c.args.transition c.args.values.now c.args.work.now.states.now c.requires.1)
    ∙ sym (length-take-le _ c.args.values.now (omega (arith, c.variables-variable_count.ensures, c.if-values-variable_count.false)))

pub action_at-action-requires : goal.action_at-action-requires
action_at-action-requires c = (
  within (loaded_in c.args.decoded.now) c.args.transition c.args.values.now c.args.work.now.states.now c.requires.1 (omega (arith, c.variables-variable_count.ensures, c.if-values-variable_count.false)) c.args.work.now.cells.now c.requires.0 c.guard-evaluation.result (c.guard-evaluation.ensures (loaded_in c.args.decoded.now)) c.admit.result c.admit.ensures c.in_ok-admit.was,
  guard_within_lem (loaded_in c.args.decoded.now) c.args.transition c.args.values.now c.args.work.now.states.now c.requires.1 (omega (arith, c.variables-variable_count.ensures, c.if-values-variable_count.false)) c.args.work.now.cells.now c.requires.0 c.guard-evaluation.result (c.guard-evaluation.ensures (loaded_in c.args.decoded.now)) c.admit.result c.admit.ensures c.in_ok-admit.was,
)

pub act-requires : goal.act-requires
act-requires c =
    (action_stands (loaded_in c.args.decoded.now) c.args.transition c.args.values.now c.args.work.now.states.now c.requires.1 (omega (arith, c.variables-variable_count.ensures, c.if-values-variable_count.false)) c.args.work.now.cells.now c.requires.0 c.guard-evaluation.result (c.guard-evaluation.ensures (loaded_in c.args.decoded.now)) c.admit.result c.admit.ensures c.in_ok-admit.was _ (ap (λ l. l ++ drop c.args.decoded.now.tables.model.sizes.states c.args.work.now.states.now) c.copy.ensures) _ c.action_at-action.ensures, c.requires.2)

pub returns-clause-changed : goal.returns-clause-changed
returns-clause-changed c =
    let a = c.act in
    λ d. changed d c.args.transition c.args.values.now c.args.work.now.states.now c.requires.1 (omega (arith, c.variables-variable_count.ensures, c.if-values-variable_count.false)) c.args.work.now.cells.now c.requires.0 c.guard-evaluation.result (c.guard-evaluation.ensures d) c.admit.result c.admit.ensures c.in_ok-admit.was _ (ap (λ l. l ++ drop c.args.decoded.now.tables.model.sizes.states c.args.work.now.states.now) c.copy.ensures) _ c.action_at-action.ensures a.new.states a.auto.states a.result (a.ensures.acted (action_stands d c.args.transition c.args.values.now c.args.work.now.states.now c.requires.1 (omega (arith, c.variables-variable_count.ensures, c.if-values-variable_count.false)) c.args.work.now.cells.now c.requires.0 c.guard-evaluation.result (c.guard-evaluation.ensures d) c.admit.result c.admit.ensures c.in_ok-admit.was _ (ap (λ l. l ++ drop c.args.decoded.now.tables.model.sizes.states c.args.work.now.states.now) c.copy.ensures) _ c.action_at-action.ensures)) (no_fault c.act.result c.in_default.not-Err)

pub returns-in-Err-clause-changed : goal.returns-in-Err-clause-changed
returns-in-Err-clause-changed c =
    let a = c.act in
    λ d. over_by_action d c.args.transition c.args.values.now c.args.work.now.states.now c.requires.1 (omega (arith, c.variables-variable_count.ensures, c.if-values-variable_count.false)) c.args.work.now.cells.now c.requires.0 c.guard-evaluation.result (c.guard-evaluation.ensures d) c.admit.result c.admit.ensures c.in_ok-admit.was _ (ap (λ l. l ++ drop c.args.decoded.now.tables.model.sizes.states c.args.work.now.states.now) c.copy.ensures) _ c.action_at-action.ensures a.new.states a.auto.states a.result (a.ensures.acted (action_stands d c.args.transition c.args.values.now c.args.work.now.states.now c.requires.1 (omega (arith, c.variables-variable_count.ensures, c.if-values-variable_count.false)) c.args.work.now.cells.now c.requires.0 c.guard-evaluation.result (c.guard-evaluation.ensures d) c.admit.result c.admit.ensures c.in_ok-admit.was _ (ap (λ l. l ++ drop c.args.decoded.now.tables.model.sizes.states c.args.work.now.states.now) c.copy.ensures) _ c.action_at-action.ensures)) _ c.in-Err.is _ (c.fill.ensures.after (λ _ e. e))
