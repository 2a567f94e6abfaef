-- The word, the number, the fields and the line feed, one after the other.
use Rattle.std.proofs.Common.{◌≤◌, [], length, map, sym, ap, ◌∙◌, arith}
use Rattle.tapes.specs.Tapes.{put_all}
use Rattle.lines.specs.Lines.{room}
use Rattle.lines.proofs.Lines.{has_room, text_put, line_written}
use Rattle.lines.proofs.write_line.Goals as goal

pub returns : goal.returns
returns g c =
    let a = c.args in
    let fields = map g.T.Field.text a.fields.now in
    let begun = c.new-tape.ensures in
    let word = c.put.ensures in
    let first = c.put_some.ensures in
    let others = c.put_fields.ensures in
    let feed = c.put_one.ensures in
    let enough : room g.T.Field.WIDTH (length a.fields.now) ≤ length a.out.now = has_room a.out.now [] _ c.is_short.ensures c.if-is_short.false in
    rw (c.out-1.given.1.1 (sym (feed.same_cells ∙ others.same_cells ∙ first.same_cells ∙ word.same_cells ∙ begun.same_cells)))
    (line_written a.word.now a.number fields a.out.now enough
    (text_put a.word.now a.number fields a.out.now (word.put ∙ ap (put_all a.word.now) begun.begun) first.put others.put feed.put)
    (omega (arith, c.requires, others.upper_bound)))
