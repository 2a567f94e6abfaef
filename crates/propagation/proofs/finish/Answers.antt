-- The first values, one more reading of what still waits, and the flows.
use Prim.Native.Nat.{◌≤◌}
use native.Mathlib.Omega.{arith}
use lib.ListN.{length}
use Rattle.std.proofs.lemmas.Result.{err_from_is_err_and}
use Rattle.variables.specs.Rows.{firsts_in}
use Rattle.variables.proofs.Columns.{column_length}
use Rattle.interpreter.proofs.Nothing.{nothing_by_default}
use Rattle.rounds.proofs.Propagating.{rows_within}
use Rattle.propagation.proofs.Blanks.{room_for_all}
use Rattle.propagation.proofs.Finishing.{scan_begins, finish_finds}
use Rattle.propagation.proofs.Settling.{refused_at_end, settled_at_end}
use Rattle.propagation.proofs.finish.Goals as goal

pub scan-requires : goal.scan-requires
scan-requires c =
    let t = c.args.tables.now in
    let g = c.args.gathering.now in
    let d = c.default-gathering in
    let f = c.fill.ensures in
    let fits : length (firsts_in t.variables.now) ≤ length c.args.cells.now = omega (arith, column_length (λ row. row.first) t.variables.now, c.requires.1.0) in
    let few = rows_within c.requires.0.assertion in
    let long = c.copy.auto.cells in (
      scan_begins t.kinds.now t.parameters.now t.nexts.now t.variables.now t.model.assertion c.args.cells.now c.fill.new.cells c.args.count g.pending g.waits.now f fits c.requires.1.3 d.result (nothing_by_default d.result d.ensures) c.copy.new.cells c.copy.ensures g.queue.now c.requires.0.assertion (c.requires.2 c.requires.0.assertion),
      (
        c.requires.1.3,
        omega (arith, few),
        omega (arith, c.requires.1.1, long),
        omega (arith, c.fill.auto.cells, c.requires.1.0, c.requires.1.1, long),
        room_for_all c.copy.new.cells g.queue.now (omega (arith, c.requires.1.1, c.requires.1.2, long)),
        omega (arith, few, c.requires.1.2),
        (c.requires.2 c.requires.0.assertion).counted,
      ),
    )

pub returns-in_err-fault_in-clause-settled : goal.returns-in_err-fault_in-clause-settled
returns-in_err-fault_in-clause-settled c =
    let t = c.args.tables.now in
    let g = c.args.gathering.now in
    let d = c.default-gathering in
    let f = c.fill.ensures in
    let fits : length (firsts_in t.variables.now) ≤ length c.args.cells.now = omega (arith, column_length (λ row. row.first) t.variables.now, c.requires.1.0) in
    let n = c.scan.new.gathering in
    let e = err_from_is_err_and c.from_residual.result c.from_residual.ensures.1 in
    λ p. rw (e.1, e.2)
    (refused_at_end c.args.states c.args.flows.now p c.args.cells.now c.args.count c.requires.1.0 c.fill.new.cells f c.fault_in.result
    (finish_finds t.kinds.now t.parameters.now t.nexts.now t.variables.now t.model.assertion c.args.cells.now c.fill.new.cells c.args.count g.pending g.waits.now f fits c.requires.1.3 d.result (nothing_by_default d.result d.ensures) c.copy.new.cells c.copy.ensures g.queue.now p.assertion (c.requires.2 p.assertion) (omega (arith, c.requires.1.0, c.fill.auto.cells)) n.found n.given.now n.queued n.queue.now n.waits.now n.pending c.scan.ensures.still c.scan.ensures.done c.fault_in.ensures) _ c.in_err-fault_in.was)

pub returns-clause-settled : goal.returns-clause-settled
returns-clause-settled c =
    let t = c.args.tables.now in
    let g = c.args.gathering.now in
    let d = c.default-gathering in
    let f = c.fill.ensures in
    let fits : length (firsts_in t.variables.now) ≤ length c.args.cells.now = omega (arith, column_length (λ row. row.first) t.variables.now, c.requires.1.0) in
    let n = c.scan.new.gathering in
    λ p. settled_at_end c.args.states c.args.flows.now p c.args.cells.now c.args.count c.requires.1.0 c.fill.new.cells f c.fault_in.result
    (finish_finds t.kinds.now t.parameters.now t.nexts.now t.variables.now t.model.assertion c.args.cells.now c.fill.new.cells c.args.count g.pending g.waits.now f fits c.requires.1.3 d.result (nothing_by_default d.result d.ensures) c.copy.new.cells c.copy.ensures g.queue.now p.assertion (c.requires.2 p.assertion) (omega (arith, c.requires.1.0, c.fill.auto.cells)) n.found n.given.now n.queued n.queue.now n.waits.now n.pending c.scan.ensures.still c.scan.ensures.done c.fault_in.ensures) _ c.replace.ensures c.in_ok-fault_in.was
