-- An action over the values of all variables.
use mathlib.Core.Path.{◌∙◌}
use native.Mathlib.Omega.{arith}
use Rattle.propagation.proofs.Blanks.{room_for_all, length_given, length_queue, length_waits, nothing_waits}
use Rattle.propagation.proofs.Acting.{may_act, few_rows, acted_by_lem}
use Rattle.propagation.proofs.act.Goals as goal

pub gather-requires : goal.gather-requires
gather-requires c =
    let g = c.args.gathering.now in
    let long = length_given c.requires.1 in
    rw (c.begin.ensures) (
      may_act c.requires.0 g.given.now long,
      length_waits c.requires.1,
      omega (arith, few_rows c.requires.0),
      (room_for_all g.given.now g.queue.now (omega (arith, long, length_queue c.requires.1)), nothing_waits c.requires.1),
    )

pub returns-clause-acted : goal.returns-clause-acted
returns-clause-acted c =
    let g = c.args.gathering.now in
    let n = c.gather.new.gathering in
    let long = rw (c.begin.ensures) at c.gather.ensures.same.given_length in
    let read = rw (c.begin.ensures) at c.gather.ensures.read in
    λ a. c.change-changed.ensures ∙ acted_by_lem a g.given.now c.requires.1.nothing_given g.queue.now g.waits.now n.found n.given.now n.queued n.queue.now n.waits.now read (long ∙ length_given c.requires.1)
