-- The assertion over the states: what it answers and writes is what `settle` gives.
use mathlib.Core.Path.{sym, ap, ◌∙◌}
use native.Mathlib.Omega.{arith}
use Rattle.std.proofs.lemmas.Result.{err_from_is_err_and}
use Rattle.results.specs.Results.{over}
use Rattle.rounds.proofs.Propagating.{rows_within}
use Rattle.propagation.proofs.Blanks.{room_for_all, length_cells, length_given, length_queue, length_waits, nothing_waits}
use Rattle.propagation.proofs.Settling.{counted_within, refused_in_rounds, rested_in_rounds}
use Rattle.propagation.specs.Cells.{cells_of, CountWithin}
use Rattle.propagation.proofs.settle_flows.Goals as goal

pub rounds-requires : goal.rounds-requires
rounds-requires c =
    let o = c.overwrite in
    let o2 = c.overwrite-2 in
    let g = c.args.gathering.now in
    let b = c.requires.1.gathering in
    let few = rows_within c.requires.0.assertion in
    let given = o2.auto.cells ∙ length_given b in
    let queue = length_queue b in (
      c.requires.0.assertion,
      (
        length_waits b,
        omega (arith, few),
        omega (arith, given),
        o.auto.cells ∙ length_cells c.requires.1 ∙ sym given,
        room_for_all o2.new.cells g.queue.now (omega (arith, given, queue)),
        omega (arith, few, queue),
        nothing_waits b,
      ),
      b.nothing_marked,
      o2.ensures ∙ ap (over (cells_of c.args.states.now)) (b.nothing_given ∙ sym c.requires.1.nothing_known) ∙ sym o.ensures,
    )

pub returns-in_err-count-clause-settled : goal.returns-in_err-count-clause-settled
returns-in_err-count-clause-settled c =
    let o = c.overwrite in
    let r = c.rounds in
    let e = err_from_is_err_and c.from_residual.result c.from_residual.ensures.1 in
    λ p. rw (e.1, e.2)
    (refused_in_rounds c.args.states.now c.args.flows.now p o.new.cells r.new.cells (o.ensures ∙ ap (over (cells_of c.args.states.now)) c.requires.1.nothing_known) r.result (r.ensures.reached p.assertion).0 _ c.in_err-count.was)

pub returns-in_err-count-clause-bounded : goal.returns-in_err-count-clause-bounded
unfolding CountWithin
returns-in_err-count-clause-bounded c =
    let e = err_from_is_err_and c.from_residual.result c.from_residual.ensures.1 in
    rw (e.1) tt

pub returns-clause-settled : goal.returns-clause-settled
returns-clause-settled c =
    let o = c.overwrite in
    let r = c.rounds in
    let f = c.finish in
    λ p. rested_in_rounds c.args.states.now c.args.flows.now p o.new.cells r.new.cells (o.ensures ∙ ap (over (cells_of c.args.states.now)) c.requires.1.nothing_known) r.result (r.ensures.reached p.assertion).0 c.in_ok-count.count c.in_ok-count.was f.result f.new.flows (f.ensures.settled p)

pub returns-clause-bounded : goal.returns-clause-bounded
returns-clause-bounded c =
    let o = c.overwrite in
    let r = c.rounds in
    let f = c.finish in
    counted_within c.args.states.now c.args.flows.now c.requires.0 f.result f.new.flows
    (λ p. rested_in_rounds c.args.states.now c.args.flows.now p o.new.cells r.new.cells (o.ensures ∙ ap (over (cells_of c.args.states.now)) c.requires.1.nothing_known) r.result (r.ensures.reached p.assertion).0 c.in_ok-count.count c.in_ok-count.was f.result f.new.flows (f.ensures.settled p))
