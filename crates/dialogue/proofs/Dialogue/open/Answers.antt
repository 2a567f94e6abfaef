-- There is room for the line.
use mathlib.Core.Path.{◌≡◌, ap, ◌∙◌}
use lib.ListN.{length}
use Rattle.model.specs.Sizes.{max_variables, max_transitions}
use Rattle.replies.specs.Replies.{opening}
use Rattle.dialogue.specs.Sizes.{line_bytes}
use Rattle.dialogue.specs.Cells.{store_of, in_use, into}
use Rattle.dialogue.proofs.FirstCells.{told, printed_fits}
use borrow.Author.Rules.{rules}
use Rattle.dialogue.proofs.Dialogue.open.Goals as goal

pub returns-clause-buffer_after : goal.returns-clause-buffer_after
returns-clause-buffer_after c =
    let s = c.args.self.now in
    let d = c.dimensions_of-self.result in
    let o : length c.args.self.now.out ≡ line_bytes = search rules in
    let v : length c.args.self.now.values ≡ max_variables = search rules in
    let t : length c.args.self.now.buffer ≡ max_transitions = search rules in
    told s.out d (store_of s) o v t (opening c.first-model.result.now (in_use d (store_of s))) c.unwrap_or-self.ensures c.open_first-opening.ensures.buffer_after
    ∙ ap (λ m. into s.out (opening m (in_use d (store_of s)))) c.first-model.ensures

pub returns-clause-length_le_line_bytes : goal.returns-clause-length_le_line_bytes
returns-clause-length_le_line_bytes c =
    let s = c.args.self.now in
    let d = c.dimensions_of-self.result in
    let o : length c.args.self.now.out ≡ line_bytes = search rules in
    let v : length c.args.self.now.values ≡ max_variables = search rules in
    let t : length c.args.self.now.buffer ≡ max_transitions = search rules in
    let r = c.open_first-opening in
    printed_fits s.out (opening c.first-model.result.now (in_use d (store_of s))) (r.auto.out ∙ o)
    (told s.out d (store_of s) o v t (opening c.first-model.result.now (in_use d (store_of s))) c.unwrap_or-self.ensures r.ensures.buffer_after)
