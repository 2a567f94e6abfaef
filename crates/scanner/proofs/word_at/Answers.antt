-- The spaces are passed over; a word is left there, or none.
use mathlib.Core.Path.{sym, ◌∙◌}
use native.Mathlib.Omega.{arith}
use borrow.Author.Tests.{eqb-true, eqb-false}
use Rattle.std.proofs.lemmas.List.Sums.{prefix_len-le-length}
use Rattle.scanner.specs.Scanning.{is_space}
use Rattle.scanner.proofs.FirstWords.{slice_from, word, none_left, no_space_left, word_found}
use Rattle.scanner.proofs.word_at.Goals as goal

pub slice_bounds-word-count : goal.slice_bounds-word-count
slice_bounds-word-count c = omega (arith, c.leading_spaces-start.ensures, prefix_len-le-length is_space (slice_from c.args.text.now c.from.result))

pub slice_bounds-word-start : goal.slice_bounds-word-start
slice_bounds-word-start c = omega (arith, c.leading_spaces-start.ensures, prefix_len-le-length is_space (slice_from c.args.text.now c.from.result))

pub returns-then-is_empty : goal.returns-then-is_empty
returns-then-is_empty c =
    none_left c.args.text.now c.args.at c.from.ensures c.leading_spaces-start.ensures (eqb-true _ 0 (sym c.is_empty.ensures ∙ c.if-is_empty.true))

pub word_length-length-requires : goal.word_length-length-requires
word_length-length-requires c =
    let w = word c.args.text.now c.args.at c.from.ensures c.leading_spaces-start.ensures in
    let some = eqb-false _ 0 (sym c.is_empty.ensures ∙ c.if-is_empty.false) in
    (omega (arith, some), no_space_left c.args.text.now c.args.at c.from.ensures c.leading_spaces-start.ensures (omega (arith, some)))

pub returns : goal.returns
returns c =
    word_found c.args.text.now c.args.at c.from.ensures c.leading_spaces-start.ensures c.requires.0 c.word_length-length.ensures c.meaning.ensures
