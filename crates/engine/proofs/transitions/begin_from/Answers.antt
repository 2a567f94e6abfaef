-- A start from given states: the assertion, and what it settles on is stored.
use native.Mathlib.Omega.{arith}
use mathlib.Core.Path.{◌≡◌}
use Rattle.semantics.specs.declared.NotFired.TheVariants.{AssertionFault}
use Rattle.std.proofs.lemmas.Result.{err_from_is_err_and, MatchResult-at_err}
use Rattle.engine.proofs.Accepted.{loaded_in}
use Rattle.engine.proofs.Guards.{few_variables}
use Rattle.engine.proofs.Firings.{begin_short, begin_other, flows_stand, begin_refused, begin_settled, err_of, ok_of}
use Prim.Native.Nat.{◌+◌, ◌≤◌}
use lib.ListN.{length}
use Rattle.engine.proofs.transitions.begin_from.Goals as goal

pub variables-variable_count-requires : goal.variables-variable_count-requires
variables-variable_count-requires c = omega (arith, few_variables (loaded_in c.args.loaded.now.decoded))

pub returns-then-values-variable_count-clause-begun : goal.returns-then-values-variable_count-clause-begun
returns-then-values-variable_count-clause-begun c =
    λ d. begin_short d _ c.args.values.now (omega (arith, c.variables-variable_count.ensures, c.if-values-variable_count.true))

pub returns-then-states-state_count-clause-begun : goal.returns-then-states-state_count-clause-begun
returns-then-states-state_count-clause-begun c =
    λ d. begin_other d c.args.states.now c.args.values.now (omega (arith, c.variables-variable_count.ensures, c.if-values-variable_count.false)) (λ e. omega (arith, e, c.if-states-state_count.true))

pub propagate-requires : goal.propagate-requires
propagate-requires c =
    (flows_stand (loaded_in c.args.loaded.now.decoded) c.args.states.now c.args.values.now (omega (arith, c.variables-variable_count.ensures, c.if-values-variable_count.false)) (omega (arith, c.if-states-state_count.false)) _ c.variables-variable_count.ensures, c.requires)

pub returns-in_err-count-clause-begun : goal.returns-in_err-count-clause-begun
returns-in_err-count-clause-begun c =
    let p = c.propagate in
    let states = c.args.states.now in
    let values = c.args.values.now in
    let room : c.args.loaded.now.decoded.tables.model.sizes.states + c.args.loaded.now.decoded.tables.model.sizes.flows ≤ length values = omega (arith, c.variables-variable_count.ensures, c.if-values-variable_count.false) in
    let long : length states ≡ c.args.loaded.now.decoded.tables.model.sizes.states = omega (arith, c.if-states-state_count.false) in
    let e = err_from_is_err_and c.from_residual.result c.from_residual.ensures.1 in
    let was = err_of p.result c.map_err.result c.map_err.ensures.variant c.in_err-count.was in
    let m = err_from_is_err_and c.map_err.result (MatchResult-at_err _ _ was.0 was.1 c.map_err.ensures.cases) in
    let told : e.0 ≡ AssertionFault was.0 = cc (e.2, c.in_err-count.was, m.1, m.2) in
    λ d. rw (e.1, told) (begin_refused d states values room long _ c.variables-variable_count.ensures p.result p.new.flows (p.ensures.settled (flows_stand d states values room long _ c.variables-variable_count.ensures)) was.0 was.1)

pub returns-clause-begun : goal.returns-clause-begun
returns-clause-begun c =
    let p = c.propagate in
    let states = c.args.states.now in
    let values = c.args.values.now in
    let room : c.args.loaded.now.decoded.tables.model.sizes.states + c.args.loaded.now.decoded.tables.model.sizes.flows ≤ length values = omega (arith, c.variables-variable_count.ensures, c.if-values-variable_count.false) in
    let long : length states ≡ c.args.loaded.now.decoded.tables.model.sizes.states = omega (arith, c.if-states-state_count.false) in
    let was = ok_of p.result c.map_err.result c.map_err.ensures.variant _ c.map_err.ensures.cases c.in_ok-count.was in
    λ d. begin_settled d states values room long _ c.variables-variable_count.ensures p.result p.new.flows (p.ensures.settled (flows_stand d states values room long _ c.variables-variable_count.ensures)) _ was _ c.copy.ensures
