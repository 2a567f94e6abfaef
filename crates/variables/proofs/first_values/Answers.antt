-- The first value of one row more is stored.
use Rattle.std.proofs.Common.{slice_index_or, rules}
use mathlib.Core.Path.{sym}
use native.Mathlib.Omega.{arith}
use lib.ListN.{get_or-map}
use mir.Syntax.{w32}
use mir.Val.{SFits}
use Rattle.variables.specs.Rows.{firsts_in}
use Rattle.variables.proofs.Columns.{blank, column_length}
use Rattle.variables.proofs.Storing.{store_one}
use Rattle.variables.proofs.first_values.Goals as goal

pub loop-x-preserved : goal.loop-x-preserved
loop-x-preserved c =
    let rows = c.args.variables.now in
    let turn = c.loop-x in
    let long = column_length (λ row. row.first) rows in
    let fits : SFits w32 (slice_index_or rows turn.x blank).first = search rules in
    store_one (firsts_in rows) c.args.values.now (omega (arith, long, c.requires)) turn.values turn.x (omega (arith, long, c.loop-x-test.true)) turn.invariant
    (slice_index_or rows turn.x blank).first fits.sfits (sym (get_or-map (λ row. row.first) rows turn.x blank))
