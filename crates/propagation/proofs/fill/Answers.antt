-- First values into cells that hold none.
use Rattle.std.proofs.Common.{slice_index_or, rules}
use mathlib.Core.Path.{sym, ap, ◌∙◌}
use native.Mathlib.Omega.{arith}
use lib.ListN.{get_or-map}
use mir.Syntax.{w32}
use mir.Val.{SFits}
use mir.ValLaws.{to_z-of_z}
use Rattle.std.specs.Prelude.{None, unwrap_or}
use Rattle.variables.specs.Rows.{firsts_in}
use Rattle.variables.proofs.Columns.{blank, column_length}
use Rattle.propagation.specs.Cells.{cells_of, held_or}
use Rattle.propagation.proofs.Overwriting.{over_done, filled_set, cell_count, length_held_or}
use Rattle.propagation.proofs.fill.Goals as goal

pub loop-i-preserved : goal.loop-i-preserved
loop-i-preserved c =
    let rows = c.args.variables.now in
    let turn = c.loop-i in
    let long = column_length (λ row. row.first) rows in
    let fits : SFits w32 (slice_index_or rows turn.i blank).first = search rules in
    filled_set (firsts_in rows) c.args.cells.now turn.cells turn.i (omega (arith, long, c.requires)) turn.invariant (omega (arith, long, c.loop-i-test.true)) _
    (c.get_or_insert.ensures.value ∙ ap (unwrap_or (slice_index_or turn.cells turn.i None)) (to_z-of_z w32 _ fits ∙ sym (get_or-map (λ row. row.first) rows turn.i blank)))

pub returns : goal.returns
returns c =
    let firsts = firsts_in c.args.variables.now in
    let new = held_or c.args.cells.now firsts in
    let long = column_length (λ row. row.first) c.args.variables.now in
    let count = cell_count new in
    let held = length_held_or c.args.cells.now firsts in
    over_done (cells_of new) c.args.cells.now c.loop-i.cells c.loop-i.i (omega (arith, count, held, long, c.requires)) c.loop-i.invariant (omega (arith, count, held, long, c.loop-i-test.false)) (omega (arith, count, held, long, c.loop-i.auto.i-end))
