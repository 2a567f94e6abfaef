-- `scan` meets its contract.
use mathlib.Core.Path.{sym, ◌∙◌}
use native.Mathlib.Omega.{arith}
use Rattle.reading.proofs.Cells.{same_then}
use Rattle.rounds.proofs.Following.{none_old}
use Rattle.rounds.proofs.Visiting.{still_then, scan_goes}
use Rattle.rounds.proofs.Lent.{goes_on}
use Rattle.rounds.proofs.scan.Goals as goal

pub returns-then-gathering-eq0-clause-done : goal.returns-then-gathering-eq0-clause-done
returns-then-gathering-eq0-clause-done c =
    λ p a b. none_old c.args.gathering.now.waits.now c.args.reading.now.round (sym c.requires.1.6 ∙ c.if-gathering-eq0.true) p

pub visit-requires : goal.visit-requires
visit-requires c =
    let v = c.loop-at.invariant in
    (goes_on c.args.reading.now c.args.gathering.now c.loop-at.gathering c.requires v.0 v.1, omega (arith, c.loop-at-test.true))

pub loop-at-preserved : goal.loop-at-preserved
loop-at-preserved c =
    let v = c.loop-at.invariant in
    let e = c.visit.ensures in
    (same_then v.0 e.same, still_then v.1 e.still, scan_goes c.args.reading.now.tables.now.model.assertion c.args.reading.now.round c.loop-at.gathering.waits.now c.visit.new.gathering.waits.now c.loop-at.at v.2 e.still.done e.done)
