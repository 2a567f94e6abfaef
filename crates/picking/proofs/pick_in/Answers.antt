-- `pick_in` meets its contract: the decoding, and pick on what was decoded.
use mathlib.Core.Path.{sym, ap, ◌∙◌}
use native.Mathlib.Omega.{arith}
use Rattle.std.specs.Prelude.{◌+◌, ℤ, Option, None}
use lib.ListN.{replicate, length-replicate}
use lib.Seq.{length-take-le}
use Rattle.decoding.proofs.InUse.{decoded_used, rows_lent}
use Rattle.standing.specs.Runs.{run_in, answered}
use Rattle.steps.proofs.Parts.{loaded_lent, on_loaded}
use Rattle.inspection.specs.Queries as queries
use Rattle.picking.proofs.Picking.{alone}
use Rattle.picking.proofs.pick_in.Goals as goal

pub invariant_of-decoded : goal.invariant_of-decoded
invariant_of-decoded g c =
    let ready = c.decode-ready in
    let used = decoded_used _ c.type_inv.model _ _ _ _ c.requires.accepted ready.ensures.sizes ready.ensures.decoded in
    record { accepted = ∣ loaded_lent _ _ ready.result used _ c.tables-tables.ensures ∣₁ }

pub pick_loaded-requires : goal.pick_loaded-requires
pick_loaded-requires g c =
    let ready = c.decode-ready in
    let used = decoded_used _ c.type_inv.model _ _ _ _ c.requires.accepted ready.ensures.sizes ready.ensures.decoded in
    let room = c.requires.room.0 in
    length-take-le c.variables.result (replicate g.row.VARIABLES None) (omega (arith, length-replicate {A = Option ℤ} g.row.VARIABLES None, room.for_variables, c.variables.ensures)) ∙ c.variables.ensures
    ∙ ap (λ s. s.states + s.flows) (sym ready.ensures.sizes) ∙ sym (rows_lent _ _ ready.result used _ c.tables-tables.ensures)

pub returns : goal.returns
returns g c =
    let ready = c.decode-ready in
    let used = decoded_used _ c.type_inv.model _ _ _ _ c.requires.accepted ready.ensures.sizes ready.ensures.decoded in
    let start = c.args in
    c.pick_loaded.ensures (loaded_lent _ _ ready.result used _ c.tables-tables.ensures)
    ∙ ap (λ d. d.answer) (sym (on_loaded start.model.now _ ready.result used _ c.tables-tables.ensures
    (λ m. answered (queries.pick m (run_in start.run.now)) start.run.now.count) start.run.now.count))
    ∙ alone _ (λ m. queries.pick m (run_in start.run.now)) start.run.now.count
