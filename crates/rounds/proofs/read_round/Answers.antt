-- The first round is the reading of the assertion; a later one goes on from the round before.
use mathlib.Core.Path.{ap}
use lib.ListN.{length}
use Rattle.interpreter.proofs.Nothing.{nothing_by_default}
use Rattle.rounds.proofs.Propagating.{may_gather}
use Rattle.rounds.proofs.Turning.{when_later, first_goes, later_goes, later_wakes}
use Rattle.rounds.proofs.read_round.Goals as goal

pub gather-requires : goal.gather-requires
gather-requires c =
    (may_gather c.requires.0.stands c.args.gathering.now.given.now c.requires.1.2, c.requires.1.0, c.requires.1.1, (c.requires.1.4, c.requires.1.6))

pub returns-then-round-eq1-clause-turn : goal.returns-then-round-eq1-clause-turn
returns-then-round-eq1-clause-turn c =
    let e = c.gather.ensures in
    let g = c.gather.new.gathering in
    λ start ready. first_goes c.requires.0.stands ready (nothing_by_default c.default-gathering.result c.default-gathering.ensures) c.requires.1.2 {given' = g.given.now} {queue' = g.queue.now} {waits' = g.waits.now} c.if-round-eq1.true e.read e.same.given_length e.whole.0 e.whole.1

pub wake_all-requires : goal.wake_all-requires
wake_all-requires c =
    let t = (when_later c.requires.0.stands c.requires.0.ready c.if-round-eq1.false).turn in
    let y = c.apply in
    let f = c.requires.1 in
    ((later_wakes c.requires.0.stands c.requires.0.ready c.if-round-eq1.false y.ensures (nothing_by_default c.default-gathering.result c.default-gathering.ensures) f.0, (f.0, f.1, f.2, ap length y.ensures, f.4, f.5, f.6)), t.entries, t.ordered)

pub returns-clause-turn : goal.returns-clause-turn
returns-clause-turn c =
    let y = c.apply in
    let w = c.wake_all in
    let g = w.new.gathering in
    λ start ready. later_goes c.requires.0.stands ready (nothing_by_default c.default-gathering.result c.default-gathering.ensures) c.requires.1.2 {given' = g.given.now} {queue' = g.queue.now} {waits' = g.waits.now} c.if-round-eq1.false y.ensures c.requires.1.0 w.ensures.still w.ensures.passed w.ensures.same.given_length
