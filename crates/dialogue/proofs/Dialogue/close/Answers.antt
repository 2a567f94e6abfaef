-- A line that was begun is answered.
use mathlib.Core.Path.{ap, ◌∙◌}
use Rattle.dialogue.specs.Cells.{kept_of, model_of, used, into}
use Rattle.dialogue.proofs.Scanning.{nothing_begun, begun_closed}
use borrow.Author.Rules.{rules}
use Rattle.dialogue.proofs.Dialogue.close.Goals as goal

pub returns-then-is_empty-clause-buffer_after : goal.returns-then-is_empty-clause-buffer_after
returns-then-is_empty-clause-buffer_after c =
    let s = c.args.self.now in
    ap (into s.out) (nothing_begun (model_of s) (kept_of s.line) (used s) (rw (← c.kept.ensures) (search rules)))

pub returns-clause-buffer_after : goal.returns-clause-buffer_after
returns-clause-buffer_after c =
    let s = c.args.self.now in
    c.answer.ensures.buffer_after
    ∙ ap (into s.out) (begun_closed (model_of s) (kept_of s.line) (used s) (rw (← c.kept.ensures) (search rules)) c.command.ensures)
