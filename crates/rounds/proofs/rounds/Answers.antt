-- The rounds, one after the other.
use mathlib.Core.Path.{◌≡◌, refl, sym, ◌∙◌}
use mathlib.Core.Logic.{inr}
use mathlib.Core.Bool.{true}
use mathlib.Core.Option.{none}
use native.Mathlib.Omega.{arith}
use Rattle.interpreter.specs.Gathering.{fault_in}
use Rattle.reading.proofs.Cells.{same_then}
use Rattle.rounds.specs.Cells.{ending}
use Rattle.rounds.proofs.Propagating.{finding_clear, finding_faulty, no_fault}
use Rattle.rounds.proofs.Turning.{turn_falls, turn_stops, turn_rests}
use Rattle.rounds.proofs.rounds.Goals as goal

pub loop-fault-smaller : goal.loop-fault-smaller
loop-fault-smaller c =
    let r = c.read_round in
    let g = r.new.gathering in
    let t = r.ensures.turn c.args.cells.now c.loop-fault.invariant.3 in
    let clear : fault_in g.found ≡ none = finding_clear (fault_in g.found) (sym c.fault_in.ensures ∙ no_fault c.fault_in.result c.in_default.not-Err) in
    let fresh : g.found.fresh ≡ true = c.if-not-gathering.false in
    turn_falls c.requires.0 t clear fresh r.ensures.applied

pub loop-fault-preserved : goal.loop-fault-preserved
loop-fault-preserved c =
    let l = c.loop-fault in
    let v = l.invariant in
    let r = c.read_round in
    let g = r.new.gathering in
    let s = r.ensures.same in
    let t = r.ensures.turn c.args.cells.now v.3 in
    let clear : fault_in g.found ≡ none = finding_clear (fault_in g.found) (sym c.fault_in.ensures ∙ no_fault c.fault_in.result c.in_default.not-Err) in
    let fresh : g.found.fresh ≡ true = c.if-not-gathering.false in (
      same_then v.0 s,
      r.auto.cells ∙ v.1,
      (s.waits_length ∙ v.2.0, v.2.1, omega (arith, v.2.2, s.given_length), r.auto.cells ∙ v.2.3 ∙ sym s.given_length, t.room, omega (arith, v.2.5, s.queue_length), t.counted),
      inr (record { last = l.round; next = refl; turn = t; clear = clear; fresh = fresh }),
    )

pub returns-in-Err-clause-reached : goal.returns-in-Err-clause-reached
returns-in-Err-clause-reached c =
    let r = c.read_round in
    let g = r.new.gathering in
    let t = r.ensures.turn c.args.cells.now c.loop-fault.invariant.3 in
    λ a. turn_stops t a c.in-Err.fault (finding_faulty (fault_in g.found) c.in-Err.fault (sym c.fault_in.ensures ∙ c.in-Err.is))

pub returns-then-not-gathering-clause-reached : goal.returns-then-not-gathering-clause-reached
returns-then-not-gathering-clause-reached c =
    let r = c.read_round in
    let g = r.new.gathering in
    let t = r.ensures.turn c.args.cells.now c.loop-fault.invariant.3 in
    let clear : fault_in g.found ≡ none = finding_clear (fault_in g.found) (sym c.fault_in.ensures ∙ no_fault c.fault_in.result c.in_default.not-Err) in
    λ a. rw (c.from.ensures) (turn_rests t a clear c.if-not-gathering.true)

pub returns-in-Err-clause-found : goal.returns-in-Err-clause-found
unfolding ending
returns-in-Err-clause-found c = (sym c.fault_in.ensures ∙ c.in-Err.is, tt)

pub returns-then-not-gathering-clause-found : goal.returns-then-not-gathering-clause-found
unfolding ending
returns-then-not-gathering-clause-found c = (sym c.fault_in.ensures ∙ no_fault c.fault_in.result c.in_default.not-Err, c.if-not-gathering.true)

pub returns-in-Err-clause-counted : goal.returns-in-Err-clause-counted
returns-in-Err-clause-counted c =
    let t = c.read_round.ensures.turn c.args.cells.now c.loop-fault.invariant.3 in (t.entries, t.counted)

pub returns-then-not-gathering-clause-counted : goal.returns-then-not-gathering-clause-counted
returns-then-not-gathering-clause-counted c =
    let t = c.read_round.ensures.turn c.args.cells.now c.loop-fault.invariant.3 in (t.entries, t.counted)
