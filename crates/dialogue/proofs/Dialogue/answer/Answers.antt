-- There is room for the line.
use mathlib.Core.Path.{◌≡◌, ap, ◌∙◌}
use lib.ListN.{length}
use Rattle.model.specs.Sizes.{max_variables, max_transitions}
use Rattle.replies.specs.Replies.{reply}
use Rattle.dialogue.specs.Sizes.{line_bytes}
use Rattle.dialogue.specs.Cells.{store_of, used, into}
use Rattle.dialogue.proofs.FirstCells.{told, printed_fits}
use borrow.Author.Rules.{rules}
use Rattle.dialogue.proofs.Dialogue.answer.Goals as goal

pub returns-clause-buffer_after : goal.returns-clause-buffer_after
returns-clause-buffer_after c =
    let s = c.args.self.now in
    let o : length c.args.self.now.out ≡ line_bytes = search rules in
    let v : length c.args.self.now.values ≡ max_variables = search rules in
    let t : length c.args.self.now.buffer ≡ max_transitions = search rules in
    told s.out s.dimensions (store_of s) o v t (reply c.first.result.now c.args.command (used s)) c.unwrap_or-self.ensures c.respond_first-written.ensures.buffer_after
    ∙ ap (λ m. into s.out (reply m c.args.command (used s))) c.first.ensures

pub returns-clause-length_le_line_bytes : goal.returns-clause-length_le_line_bytes
returns-clause-length_le_line_bytes c =
    let s = c.args.self.now in
    let o : length c.args.self.now.out ≡ line_bytes = search rules in
    let v : length c.args.self.now.values ≡ max_variables = search rules in
    let t : length c.args.self.now.buffer ≡ max_transitions = search rules in
    let r = c.respond_first-written in
    printed_fits s.out (reply c.first.result.now c.args.command (used s)) (r.auto.out ∙ o)
    (told s.out s.dimensions (store_of s) o v t (reply c.first.result.now c.args.command (used s)) c.unwrap_or-self.ensures r.ensures.buffer_after)
