-- `advance_in` meets its contract: the decoding, and the move on it.
use mathlib.Core.Path.{sym, ap, ◌∙◌}
use Rattle.decoding.proofs.InUse.{decoded_used}
use Rattle.standing.specs.Runs.{moving_run}
use Rattle.steps.specs.Calls.{step_on}
use Rattle.steps.specs.Lent.{cells_left}
use Rattle.steps.proofs.Parts.{loaded_lent, on_loaded}
use Rattle.loading.proofs.advance_in.Goals as goal

pub invariant_of-decoded : goal.invariant_of-decoded
invariant_of-decoded g c =
    let ready = c.decode-ready in
    let used = decoded_used _ c.type_inv.model _ _ _ _ c.requires.accepted ready.ensures.sizes ready.ensures.decoded in
    record { accepted = ∣ loaded_lent _ _ ready.result used _ c.tables-tables.ensures ∣₁ }

pub returns-clause-moved : goal.returns-clause-moved
returns-clause-moved g c =
    let ready = c.decode-ready in
    let used = decoded_used _ c.type_inv.model _ _ _ _ c.requires.accepted ready.ensures.sizes ready.ensures.decoded in
    let r = moving_run c.args.run.now in
    c.advance_decoded.ensures.moved (loaded_lent _ _ ready.result used _ c.tables-tables.ensures)
    ∙ ap cells_left (sym (on_loaded _ _ ready.result used _ c.tables-tables.ensures (λ m. step_on m c.args.step r) r))
