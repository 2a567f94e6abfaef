-- The sizes, the nodes, then the rest.
use mathlib.Core.Path.{sym, ◌∙◌}
use borrow.Author.Tests.{not-true, not-false}
use lib.ListN.{length}
use Rattle.decoding.proofs.InUse.{part_within}
use Rattle.synchronisation.specs.Synchronisations.{together}
use Rattle.synchronisation.proofs.Lists.{may_fit_lem}
use Rattle.synchronisation.proofs.Extending.{not_fitting}
use Rattle.synchronisation.proofs.Joining.{sizes_full, nodes_many, kinds_counted, parameters_counted, extension}
use Rattle.std.proofs.lemmas.Bool.{not_from_true, not_from_false}
use Rattle.synchronisation.proofs.extend.Goals as goal

pub returns-then-not-may_fit : goal.returns-then-not-may_fit
returns-then-not-may_fit c = λ j held.
    let t = j.loaded.decoded.system in
    not_fitting t (together t.events j.members.mandatory j.members.optional) c.args.out.now
    (sizes_full j (sym c.may_fit.ensures ∙ not-true _ (not_from_false _ c.if-not-may_fit.true)))

pub put_system-requires : goal.put_system-requires
put_system-requires c =
    let ms = c.args.members.now in
    let few = may_fit_lem c.args.tables.now.model.sizes (length ms.mandatory.now) (length ms.optional.now)
    (sym c.may_fit.ensures ∙ not-false _ (not_from_true _ c.if-not-may_fit.false)) in
    (few.mandatory, few.optional, c.requires.0)

pub returns-then-count-gt-MAX_NODES : goal.returns-then-count-gt-MAX_NODES
returns-then-count-gt-MAX_NODES c = λ j held.
    let t = j.loaded.decoded.system in
    not_fitting t (together t.events j.members.mandatory j.members.optional) c.args.out.now
    (nodes_many j (c.put_system.ensures j) c.if-count-gt-MAX_NODES.true)

pub slice_bounds-tree-end : goal.slice_bounds-tree-end
slice_bounds-tree-end c = part_within _ _ (kinds_counted c.requires.0 (c.put_system.ensures c.requires.0) c.if-count-gt-MAX_NODES.false)

pub slice_bounds-tree-end-2 : goal.slice_bounds-tree-end-2
slice_bounds-tree-end-2 c = kinds_counted c.requires.0 (c.put_system.ensures c.requires.0) c.if-count-gt-MAX_NODES.false

pub slice_bounds-tree-end-3 : goal.slice_bounds-tree-end-3
slice_bounds-tree-end-3 c = part_within _ _ (parameters_counted c.requires.0 (c.put_system.ensures c.requires.0) c.if-count-gt-MAX_NODES.false)

pub slice_bounds-tree-end-4 : goal.slice_bounds-tree-end-4
slice_bounds-tree-end-4 c = parameters_counted c.requires.0 (c.put_system.ensures c.requires.0) c.if-count-gt-MAX_NODES.false

pub write-requires : goal.write-requires
write-requires c =
    extension c.requires.0 (c.put_system.ensures c.requires.0) c.if-count-gt-MAX_NODES.false
    (sym c.may_fit.ensures ∙ not-false _ (not_from_true _ c.if-not-may_fit.false)) c.requires.1

pub returns : goal.returns
returns c = λ j held.
    c.write.ensures
    (extension j (c.put_system.ensures j) c.if-count-gt-MAX_NODES.false
    (sym c.may_fit.ensures ∙ not-false _ (not_from_true _ c.if-not-may_fit.false)) held)
