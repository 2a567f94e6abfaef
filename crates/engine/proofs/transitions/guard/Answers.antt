-- The guard of a loaded model.
use mathlib.Core.Path.{◌≡◌, ◌∙◌}
use native.Mathlib.Omega.{arith}
use lib.ListN.{get_or}
use Rattle.expressions.specs.Cells.{valuation_of}
use Rattle.engine.proofs.Accepted.{loaded_in}
use Rattle.engine.proofs.Guards.{guard_missing, guard_stands, guard_evaluated}
use Rattle.engine.proofs.transitions.guard.Goals as goal

pub returns-in_default : goal.returns-in_default
returns-in_default c =
    λ d. guard_missing d c.args.transition (omega (arith, c.in_default.ensures.lookup)) (valuation_of c.args.cells.now)

pub evaluate-requires : goal.evaluate-requires
evaluate-requires c =
    let found = c.in-Some.ensures.lookup.3 in
    let place : c.from-at.result ≡ get_or c.args.decoded.now.tables.guards.now c.args.transition 0 = c.from-at.ensures ∙ found.1 0 in
    rw place (guard_stands (loaded_in c.args.decoded.now) c.args.transition found.0)

pub returns : goal.returns
returns c =
    let found = c.in-Some.ensures.lookup.3 in
    let place : c.from-at.result ≡ get_or c.args.decoded.now.tables.guards.now c.args.transition 0 = c.from-at.ensures ∙ found.1 0 in
    λ d. guard_evaluated d c.args.transition found.0 (valuation_of c.args.cells.now) c.evaluate.result (rw place at c.evaluate.ensures)
