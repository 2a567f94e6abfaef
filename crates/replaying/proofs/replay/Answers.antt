-- `replay` meets its contract.
use Rattle.std.proofs.Common.{◌-◌, length, take, Ok, Err, refl, sym, ap, ◌∙◌, arith}
use Rattle.std.proofs.Math.Seq.{length-take-le}
use Rattle.std.proofs.lemmas.Result.{err_from_is_err_and}
use Rattle.results.specs.Results.{answered}
use Rattle.engine.proofs.Counts.{meaning}
use Rattle.semantics.specs.Firing.{Firing}
use Rattle.replaying.specs.Moves.{fired_all}
use Rattle.replaying.proofs.Entries.{recorded, start_moves, fire_moves, undo_moves}
use Rattle.replaying.proofs.Refiring.{firing_stops}
use Rattle.replaying.proofs.replay.Goals as goal

pub returns-in-Start-clause-moved : goal.returns-in-Start-clause-moved
returns-in-Start-clause-moved c =
    let r = c.args.run.now in
    λ d. c.start.ensures.begun d ∙ start_moves (meaning d) c.args.step r.history.now r.count c.args.values.now c.in-Start.is

pub returns-in-Fire-clause-moved : goal.returns-in-Fire-clause-moved
returns-in-Fire-clause-moved c =
    let r = c.args.run.now in
    λ d. c.fire.ensures.fired d ∙ fire_moves (meaning d) c.args.step r.history.now r.count c.args.values.now _ c.in-Fire.is

pub slice_bounds-entries-end : goal.slice_bounds-entries-end
slice_bounds-entries-end c =
    let r = c.args.run.now in
    let within = recorded c.args.step (length r.history.now) r.count c.in-Undo.is c.requires.1 in
    sym (length-take-le c.saturating_sub.result r.history.now (omega (arith, within, c.saturating_sub.ensures)))

pub returns-in_err-rounds-in-Undo-clause-moved : goal.returns-in_err-rounds-in-Undo-clause-moved
returns-in_err-rounds-in-Undo-clause-moved c =
    let r = c.args.run.now in
    let b = c.start-in-Undo in
    let p = err_from_is_err_and c.from_residual.result c.from_residual.ensures.1 in
    rw (p.1, p.2) (λ d.
    sym (firing_stops (meaning d) (take (r.count - 1) r.history.now) (Err c.in_err-rounds-in-Undo.field-0.0) b.new.values refl)
    ∙ ap (fired_all (meaning d) (take (r.count - 1) r.history.now)) (ap (λ (r : Firing). answered r b.new.values) (sym c.in_err-rounds-in-Undo.was) ∙ b.ensures.begun d)
    ∙ undo_moves (meaning d) c.args.step r.history.now r.count c.args.values.now c.in-Undo.is)

pub returns-in_ok-rounds-in-Undo-clause-moved : goal.returns-in_ok-rounds-in-Undo-clause-moved
returns-in_ok-rounds-in-Undo-clause-moved c =
    let r = c.args.run.now in
    let b = c.start-in-Undo in
    let f = c.refire in
    λ d.
    f.ensures.fired d
    ∙ ap (λ k. fired_all (meaning d) (take k r.history.now) (answered (Ok c.in_ok-rounds-in-Undo.rounds) b.new.values)) c.saturating_sub.ensures
    ∙ ap (fired_all (meaning d) (take (r.count - 1) r.history.now)) (ap (λ (r : Firing). answered r b.new.values) (sym c.in_ok-rounds-in-Undo.was) ∙ b.ensures.begun d)
    ∙ undo_moves (meaning d) c.args.step r.history.now r.count c.args.values.now c.in-Undo.is
