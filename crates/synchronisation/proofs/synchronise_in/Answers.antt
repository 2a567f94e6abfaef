-- `synchronise_in` meets its contract: what is joined in the model that was decoded.
use mathlib.Core.Path.{sym, ap, ◌∙◌}
use Rattle.std.specs.Prelude.{◌+◌}
use Rattle.decoding.proofs.InUse.{decoded_used}
use Rattle.synchronisation.proofs.Calling.{model_accepted, sorts_asked, system_lent, cells_cut}
use Rattle.synchronisation.proofs.synchronise_in.Goals as goal

pub sorts_in-requires : goal.sorts_in-requires
sorts_in-requires g c =
    let ready = c.decode-ready in
    let used = decoded_used _ c.type_inv.model _ _ _ _ c.requires.accepted ready.ensures.sizes ready.ensures.decoded in
    let many = cells_cut g.row.VARIABLES c.args.sizes c.variables.ensures c.requires.room.0.for_variables ∙ ap (λ s. s.states + s.flows) (sym ready.ensures.sizes) in
    sorts_asked _ _ ready.result used _ c.tables-tables.ensures many

pub join-requires : goal.join-requires
join-requires g c =
    let ready = c.decode-ready in
    let used = decoded_used _ c.type_inv.model _ _ _ _ c.requires.accepted ready.ensures.sizes ready.ensures.decoded in
    let many = cells_cut g.row.VARIABLES c.args.sizes c.variables.ensures c.requires.room.0.for_variables ∙ ap (λ s. s.states + s.flows) (sym ready.ensures.sizes) in
    system_lent _ _ ready.result used _ c.tables-tables.ensures many _ c.sorts_in.ensures

pub returns : goal.returns
returns g c =
    let ready = c.decode-ready in
    let used = decoded_used _ c.type_inv.model _ _ _ _ c.requires.accepted ready.ensures.sizes ready.ensures.decoded in
    let many = cells_cut g.row.VARIABLES c.args.sizes c.variables.ensures c.requires.room.0.for_variables ∙ ap (λ s. s.states + s.flows) (sym ready.ensures.sizes) in
    let given = c.args in
    let members = given.members.now in
    model_accepted given.model.now _ ready.result used members.mandatory.now members.optional.now given.out.now
    (c.join.ensures (system_lent _ _ ready.result used _ c.tables-tables.ensures many _ c.sorts_in.ensures))
