-- No more bytes are put than there are places for.
use Rattle.std.proofs.Common.{rules, ◌≡◌, length}
use Rattle.dialogue.specs.Sizes.{kept_bytes}
use Rattle.dialogue.proofs.Kept.{kept_after}
use Rattle.dialogue.proofs.Line.keep.Goals as goal

pub returns-clause-kept : goal.returns-clause-kept
returns-clause-kept c =
    let line = c.args.self.now in
    let cells : length line.bytes ≡ kept_bytes = search rules in
    kept_after kept_bytes line.length c.min-at.result _ line.bytes c.args.bytes.now cells c.min-at.ensures c.first-more.ensures c.copy_from_slice.ensures.after
