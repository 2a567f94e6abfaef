-- A start from the first of the states worked in.
use native.Mathlib.Omega.{arith}
use mathlib.Core.Path.{◌∙◌}
use Rattle.engine.proofs.Firings.{begin_few, begun_first}
use Rattle.engine.proofs.transitions.begin.Goals as goal

pub returns-in_default-clause-begun : goal.returns-in_default-clause-begun
returns-in_default-clause-begun c =
    λ d. begin_few d c.args.work.now.states.now c.args.values.now (omega (arith, c.in_default.ensures.lookup.0))

pub returns-clause-begun : goal.returns-clause-begun
returns-clause-begun c =
    λ d. c.begin_from.ensures.begun d ∙ begun_first d c.in-Some.states.now c.args.values.now c.args.work.now.states.now c.in-Some.ensures.lookup.0.2
