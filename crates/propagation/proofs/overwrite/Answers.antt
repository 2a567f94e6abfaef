-- Values over cells.
use Rattle.std.proofs.Common.{slice_index_or, rules}
use mathlib.Core.Path.{ap, sym, ◌∙◌}
use native.Mathlib.Omega.{arith}
use lib.IntN.{pos}
use Rattle.std.specs.Prelude.{Some, None}
use mir.Syntax.{w32}
use mir.Val.{SFits}
use mir.ValLaws.{to_z-of_z}
use Rattle.propagation.specs.Cells.{cells_of}
use Rattle.propagation.proofs.Overwriting.{over_set, over_done, cell_of, cell_count}
use Rattle.propagation.proofs.overwrite.Goals as goal

pub loop-i-preserved : goal.loop-i-preserved
loop-i-preserved c =
    let values = c.args.values.now in
    let i = c.loop-i.i in
    let fits : SFits w32 (slice_index_or values i (pos 0)) = search rules in
    over_set (cells_of values) c.args.cells.now c.loop-i.cells i (omega (arith, cell_count values, c.requires)) c.loop-i.invariant (omega (arith, cell_count values, c.loop-i-test.true)) None _
    (ap Some (to_z-of_z w32 (slice_index_or values i (pos 0)) fits) ∙ sym (cell_of values i c.loop-i-test.true))

pub returns : goal.returns
returns c =
    let values = c.args.values.now in
    over_done (cells_of values) c.args.cells.now c.loop-i.cells c.loop-i.i (omega (arith, cell_count values, c.requires)) c.loop-i.invariant (omega (arith, cell_count values, c.loop-i-test.false)) (omega (arith, cell_count values, c.loop-i.auto.i-end))
