-- The text over the sorts that were decoded.
use mathlib.Core.Path.{sym}
use native.Mathlib.Omega.{arith}
use Rattle.decoding.proofs.InUse.{part_within}
use Rattle.texts.specs.Texts.{slices}
use Rattle.texts.proofs.Models.{sorts_found, model_accepted}
use Rattle.texts.proofs.write_nodes.Goals as goal

pub variables-requires : goal.variables-requires
variables-requires c = omega (arith, (sorts_found _ c.sorts_of.ensures c.in_ok-sizes.was).few)

pub slice_bounds-sorts-end : goal.slice_bounds-sorts-end
slice_bounds-sorts-end c =
    rw c.variables.ensures (part_within _ c.sorts_of.new.sorts (sorts_found _ c.sorts_of.ensures c.in_ok-sizes.was).part)

pub slice_bounds-write_over-end : goal.slice_bounds-write_over-end
slice_bounds-write_over-end c = rw c.variables.ensures (sorts_found _ c.sorts_of.ensures c.in_ok-sizes.was).part

pub returns : goal.returns
returns c =
    let used = sorts_found _ c.sorts_of.ensures c.in_ok-sizes.was in
    let same = c.write_over.ensures.same in
    rw (c.kinds-1.given.1.1 (sym same.kinds), c.parameters-1.given.1.1 (sym same.parameters))
    (model_accepted c.args.model.now c.args.text.now c.sorts_of.new.sorts (slices c.args.kinds.now c.args.parameters.now) c.in_ok-sizes.sizes _ used
    (rw c.variables.ensures at c.write_over.ensures.typed))
