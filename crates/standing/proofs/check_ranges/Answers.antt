use native.Mathlib.Omega.{arith}
use Rattle.std.proofs.Common.{rules, tests}
use Rattle.std.proofs.lemmas.Bool.{not_from_true, not_from_false}
use Rattle.std.proofs.lemmas.Option.{MatchOption-at_none, MatchOption-at_some}
use Rattle.standing.proofs.Holding.{begins, all_within, all_looked, outside_there, looked_there, goes_on}
use Rattle.standing.proofs.check_ranges.Goals as goal

pub loop-variable-init : goal.loop-variable-init
loop-variable-init c = record { counted = omega arith; left = begins c.args.variables.now c.args.values.now }

pub returns-then-not-is_some_and-clause-outside : goal.returns-then-not-is_some_and-clause-outside
returns-then-not-is_some_and-clause-outside c =
    let loop = c.loop-variable in
    outside_there c.args.variables.now c.args.values.now loop.variable loop.invariant.left (omega arith) c.get.result c.get.ensures.lookup c.is_some_and.result
    (λ e. MatchOption-at_none _ _ e c.is_some_and.ensures)
    (λ value e. let k = MatchOption-at_some _ _ value e c.is_some_and.ensures in search (rules, tests))
    (not_from_false _ c.if-not-is_some_and.true)

pub returns-then-not-is_some_and-clause-looked : goal.returns-then-not-is_some_and-clause-looked
returns-then-not-is_some_and-clause-looked c =
    let loop = c.loop-variable in
    omega (
      arith,
      looked_there c.args.variables.now c.args.values.now loop.variable loop.invariant.left (omega arith) c.get.result c.get.ensures.lookup c.is_some_and.result
          (λ e. MatchOption-at_none _ _ e c.is_some_and.ensures)
          (λ value e. let k = MatchOption-at_some _ _ value e c.is_some_and.ensures in search (rules, tests))
          (not_from_false _ c.if-not-is_some_and.true),
    )

pub loop-variable-preserved : goal.loop-variable-preserved
loop-variable-preserved c =
    let loop = c.loop-variable in
    record {
      counted = omega arith;
      left =
          goes_on c.args.variables.now c.args.values.now loop.variable loop.invariant.left (omega arith) c.get.result c.get.ensures.lookup c.is_some_and.result
          (λ e. MatchOption-at_none _ _ e c.is_some_and.ensures)
          (λ value e. let k = MatchOption-at_some _ _ value e c.is_some_and.ensures in search (rules, tests))
          (not_from_true _ c.if-not-is_some_and.false);
    }

pub returns-clause-outside : goal.returns-clause-outside
returns-clause-outside c =
    let loop = c.loop-variable in
    all_within c.args.variables.now c.args.values.now loop.variable loop.invariant.left (omega arith) c.loop-variable-test.false

pub returns-clause-looked : goal.returns-clause-looked
returns-clause-looked c =
    let loop = c.loop-variable in
    omega (arith, all_looked c.args.variables.now c.args.values.now loop.variable loop.invariant.left (omega arith) c.loop-variable-test.false)
