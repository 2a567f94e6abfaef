-- `wake` meets its contract.
use mathlib.Core.Path.{sym, ◌∙◌}
use Prim.Native.Nat.{◌<◌}
use native.Mathlib.Omega.{arith}
use lib.ListN.{length}
use Rattle.reading.proofs.Cells.{same_then}
use Rattle.rounds.proofs.Following.{none_old, following_within, following_goes}
use Rattle.rounds.proofs.Visiting.{still_then}
use Rattle.rounds.proofs.Lent.{goes_on}
use Rattle.rounds.proofs.IndexedReading.wake.Goals as goal

pub returns-then-gathering-eq0-clause-passed : goal.returns-then-gathering-eq0-clause-passed
returns-then-gathering-eq0-clause-passed c =
    let l = c.loop-mention in
    λ p o a m w. none_old l.gathering.waits.now c.args.self.now.reading.round (sym l.invariant.1.counted ∙ c.if-gathering-eq0.true) o

pub visit-requires : goal.visit-requires
visit-requires c =
    let v = c.loop-mention.invariant in
    let s = c.args.self.now in (
      goes_on s.reading c.args.gathering.now c.loop-mention.gathering c.requires.0 v.0 v.1,
      omega (arith, c.from-owner.ensures, following_within v.2 s.held.owned c.loop-mention-test.true),
    )

pub loop-mention-smaller : goal.loop-mention-smaller
loop-mention-smaller c =
    let l = c.loop-mention in
    let s = c.args.self.now in
    let x : c.args.variable < length s.index.now.heads.now = omega (arith, c.requires.1, s.held.head_length) in
    omega (arith, c.loop-mention-test.true, c.from-mention-in-loop-mention.ensures, (s.held.linked.later c.args.variable l.mention x l.invariant.2.start (l.invariant.2.found c.loop-mention-test.true)).after)

pub loop-mention-preserved : goal.loop-mention-preserved
loop-mention-preserved c =
    let l = c.loop-mention in
    let s = c.args.self.now in
    let e = c.visit.ensures in
    let h = c.loop-mention-test.true in
    let x : c.args.variable < length s.index.now.heads.now = omega (arith, c.requires.1, s.held.head_length) in
    let n = s.held.linked.later c.args.variable l.mention x l.invariant.2.start (l.invariant.2.found h) in
    (same_then l.invariant.0 e.same, still_then l.invariant.1 e.still, rw (c.from-mention-in-loop-mention.ensures) (following_goes l.invariant.2 s.held.owned h e.still.done (rw (c.from-owner.ensures) at e.done) n))
