-- `write_over` meets its contract: the tests of 02 in their order, then the nodes written out.
use Rattle.std.proofs.Common.{rules, arith}
use Rattle.texts.specs.Texts.{slices}
use Rattle.texts.proofs.Limits.{Within}
use Rattle.texts.proofs.Writing.{text_written}
use Rattle.texts.proofs.write_over.Goals as goal

pub returns-clause-typed : goal.returns-clause-typed
returns-clause-typed c =
    let a = c.args in
    let lent = slices a.cells.now.kinds.now a.cells.now.parameters.now in
    let within : Within a.text.now lent =
    record { short = c.if-text-gt-MAX_TEXT.false; kinds = c.if-cells-lt-MIN_NODES.false; parameters = c.if-cells-lt-MIN_NODES-2.false } in
    rw c.len.ensures.value
    (text_written a.sorts.now a.text.now lent within c.parse.new.nodes c.in_ok-part.part (rw c.in_ok-part.ensures.ok_part at c.parse.ensures) c.if-not-part.false
    (search rules)
    c.requires (omega (arith, c.from.ensures, c.if-from-gt-MAX_DEPTH.false)) (rw c.deref.ensures.0 at c.write.ensures.kinds) (rw c.deref.ensures.0 at c.write.ensures.parameters))
