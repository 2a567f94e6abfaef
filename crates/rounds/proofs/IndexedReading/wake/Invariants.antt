-- `wake` meets its contract.
use Prim.Native.Nat.{◌-◌}
use Rattle.reading.specs.Readings.{SameCells}
use Rattle.rounds.specs.Lent.{StillWakingIn}
use Rattle.rounds.proofs.Following.{Following}
use Rattle.rounds.proofs.IndexedReading.wake.Given as goal

abbrev pub invariant-loop-mention : goal.invariant-loop-mention
invariant-loop-mention l =
    let r = l.self.reading in
    let t = r.tables.now in
    SameCells l.initial.gathering l.gathering × StillWakingIn r l.initial.gathering l.gathering
    × Following t.kinds.now t.parameters.now t.model.assertion l.variable r.round l.gathering.waits.now l.mention

abbrev pub decreases-loop-mention : goal.decreases-loop-mention
decreases-loop-mention l = l.nodes - l.mention
