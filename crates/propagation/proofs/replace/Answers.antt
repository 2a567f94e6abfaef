-- Numbers that cells hold into values.
use mathlib.Core.Path.{ap, ◌∙◌}
use native.Mathlib.Omega.{arith}
use lib.IntN.{pos}
use mir.Syntax.{w32}
use mir.Val.{SFits}
use mir.ValLaws.{to_z-of_z}
use Rattle.std.specs.Prelude.{None, unwrap_or}
use Rattle.std.proofs.Common.{slice_index_or, rules}
use Rattle.propagation.proofs.Overwriting.{held_done, held_set}
use Rattle.propagation.proofs.replace.Goals as goal

pub loop-i-preserved : goal.loop-i-preserved
loop-i-preserved c =
    let turn = c.loop-i in
    let fits : SFits w32 (slice_index_or turn.values turn.i (pos 0)) = search rules in
    let result : SFits w32 c.unwrap_or.result = search rules in
    held_set c.args.cells.now c.args.values.now turn.values turn.i turn.invariant c.loop-i-test.true _
    (to_z-of_z w32 c.unwrap_or.result result ∙ c.unwrap_or.ensures ∙ ap (unwrap_or (slice_index_or c.args.cells.now turn.i None)) (to_z-of_z w32 _ fits))

pub returns : goal.returns
returns c = held_done c.args.cells.now c.args.values.now c.loop-i.values c.loop-i.i c.loop-i.invariant (omega (arith, c.loop-i-test.false))
