-- `check_expression` meets its contract: the model's refusal, or the expression's over the sorts that were decoded.
use native.Mathlib.Omega.{arith}
use Rattle.model.specs.declared.Sizes.{Sizes}
use Rattle.std.specs.Prelude.{Some}
use Rattle.decoding.proofs.InUse.{part_within}
use Rattle.decoding.proofs.VariablesInUse.{SortsInUse, sorts_in_use}
use Rattle.decoding.proofs.Handed.{refused_given, ready_given}
use Rattle.decoding.proofs.check_expression.Goals as goal

pub variables-requires : goal.variables-requires
variables-requires c =
    let sizes : Sizes = c.in-Ok.found in
    let used : SortsInUse c.args.model.now sizes
    c.sorts_of.new.sorts =
    sorts_in_use c.args.model.now _ c.sorts_of.new.sorts sizes
    c.sorts_of.result c.sorts_of.ensures c.in-Ok.is in
    omega (arith, used.few)

pub slice_bounds-sorts-end : goal.slice_bounds-sorts-end
slice_bounds-sorts-end c =
    let sizes : Sizes = c.in-Ok.found in
    let used : SortsInUse c.args.model.now sizes
    c.sorts_of.new.sorts =
    sorts_in_use c.args.model.now _ c.sorts_of.new.sorts sizes
    c.sorts_of.result c.sorts_of.ensures c.in-Ok.is in
    rw c.variables.ensures (part_within _ c.sorts_of.new.sorts used.part)

pub slice_bounds-check_over_sorts-end : goal.slice_bounds-check_over_sorts-end
slice_bounds-check_over_sorts-end c =
    let sizes : Sizes = c.in-Ok.found in
    let used : SortsInUse c.args.model.now sizes
    c.sorts_of.new.sorts =
    sorts_in_use c.args.model.now _ c.sorts_of.new.sorts sizes
    c.sorts_of.result c.sorts_of.ensures c.in-Ok.is in
    rw c.variables.ensures used.part

pub returns-in-Err : goal.returns-in-Err
returns-in-Err c =
    let given = c.args in
    refused_given given.model.now given.tree.now.kinds.now given.tree.now.parameters.now (Some given.wanted)
    c.sorts_of.new.sorts _ c.sorts_of.result _ c.sorts_of.ensures c.in-Err.is

pub returns-in-Ok : goal.returns-in-Ok
returns-in-Ok c =
    let sizes : Sizes = c.in-Ok.found in
    let used : SortsInUse c.args.model.now sizes
    c.sorts_of.new.sorts =
    let read = c in
    let known = read in
    sorts_in_use known.args.model.now _ read.sorts_of.new.sorts sizes
    read.sorts_of.result read.sorts_of.ensures c.in-Ok.is in
    let read = c in
    let given = read.args in
    ready_given given.model.now given.tree.now.kinds.now given.tree.now.parameters.now (Some given.wanted)
    read.sorts_of.new.sorts sizes c.check_over_sorts.result used (rw c.variables.ensures at c.check_over_sorts.ensures)
