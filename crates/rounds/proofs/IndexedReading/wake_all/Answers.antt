-- `wake_all` meets its contract.
use mathlib.Core.Path.{subst, ◌∙◌}
use native.Mathlib.Omega.{arith}
use Rattle.reading.proofs.Cells.{same_then}
use Rattle.rounds.specs.Lent.{PassedIn}
use Rattle.rounds.proofs.Visiting.{still_then, kept_entry, entry, all_goes}
use Rattle.rounds.proofs.Lent.{goes_on}
use Rattle.rounds.proofs.IndexedReading.wake_all.Goals as goal

pub wake-requires : goal.wake-requires
wake-requires c =
    let l = c.loop-k in
    let g = c.args.gathering.now in
    let v = l.invariant in
    let e = kept_entry g.queue.now l.gathering.queue.now g.queued l.gathering.queued v.1.more c.requires.1.0 v.1.queue_kept l.k c.loop-k-test.true in
    (goes_on c.args.self.now.reading g l.gathering c.requires.0 v.0 v.1, omega (arith, c.from-variable.ensures, c.requires.1.1 l.k c.loop-k-test.true, e))

pub loop-k-preserved : goal.loop-k-preserved
loop-k-preserved c =
    let l = c.loop-k in
    let g = c.args.gathering.now in
    let r = c.args.self.now.reading in
    let t = r.tables.now in
    let v = l.invariant in
    let w = c.wake in
    let e = kept_entry g.queue.now l.gathering.queue.now g.queued l.gathering.queued v.1.more c.requires.1.0 v.1.queue_kept l.k c.loop-k-test.true in
    (same_then v.0 w.ensures.same, still_then v.1 w.ensures.still, all_goes t.kinds.now t.parameters.now t.model.assertion r.round g.queue.now l.gathering.waits.now w.new.gathering.waits.now c.args.done l.k c.from-variable.result (c.from-variable.ensures ∙ e) v.2 w.ensures.still.done w.ensures.passed)

pub returns-clause-passed : goal.returns-clause-passed
returns-clause-passed c =
    let l = c.loop-k in
    let g = c.args.gathering.now in
    λ x m. let e = entry g.queue.now c.args.done g.queued x m in
    subst (λ y. PassedIn c.args.self.now.reading l.gathering y) e.holds
    (l.invariant.2 e.index e.start (omega (arith, e.end, c.loop-k-test.false)))
