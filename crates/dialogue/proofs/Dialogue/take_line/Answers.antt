-- A line feed ends a line, which is answered; without one the line is kept.
use Rattle.std.proofs.Common.{◌≡◌, ◌+◌, drop, refl, sym, ap, arith}
use Rattle.dialogue.specs.Sizes.{kept_bytes}
use Rattle.dialogue.specs.Cells.{kept_of, model_of, used, into}
use lib.Seq.{take_all}
use Rattle.dialogue.proofs.Scanning.{rest_of, feed_at, no_feed, line_answered, line_kept, ended_into}
use Rattle.dialogue.proofs.Dialogue.take_line.Goals as goal

pub returns-in_default-clause-next_value : goal.returns-in_default-clause-next_value
returns-in_default-clause-next_value c =
    let rest = c.unwrap_or-rest.result.now in
    let left : rest ≡ drop c.args.from c.args.part.now = rest_of c.args.part.now c.args.from c.get.result _ c.get.ensures.lookup c.unwrap_or-rest.ensures refl in
    rw (← left) (ap (λ n. c.args.from + n) (sym (no_feed rest c.line_feed.ensures c.in_default.is).next))

pub returns-in_default-clause-buffer_after : goal.returns-in_default-clause-buffer_after
returns-in_default-clause-buffer_after c =
    let s = c.args.self.now in
    let rest = c.unwrap_or-rest.result.now in
    let left : rest ≡ drop c.args.from c.args.part.now = rest_of c.args.part.now c.args.from c.get.result _ c.get.ensures.lookup c.unwrap_or-rest.ensures refl in
    rw (← left)
    (ap (into s.out)
    (line_kept (model_of s) rest (kept_of s.line) (used s) (take_all kept_bytes (kept_of s.line) c.keep.ensures.fitted) (no_feed rest c.line_feed.ensures c.in_default.is) c.keep.ensures.kept))

pub returns-clause-next_value : goal.returns-clause-next_value
returns-clause-next_value c =
    let rest = c.unwrap_or-rest.result.now in
    let left : rest ≡ drop c.args.from c.args.part.now = rest_of c.args.part.now c.args.from c.get.result _ c.get.ensures.lookup c.unwrap_or-rest.ensures refl in
    rw (← left) (omega (arith, (feed_at rest c.line_feed.ensures c.in-Some.is).next))

pub returns-clause-buffer_after : goal.returns-clause-buffer_after
returns-clause-buffer_after c =
    let s = c.args.self.now in
    let rest = c.unwrap_or-rest.result.now in
    let left : rest ≡ drop c.args.from c.args.part.now = rest_of c.args.part.now c.args.from c.get.result _ c.get.ensures.lookup c.unwrap_or-rest.ensures refl in
    rw (← left)
    (ended_into (model_of s) (used s) s.out (kept_of c.keep-2.new.self) c.empty-self.ensures c.answer.ensures.buffer_after c.command.ensures
    (line_answered (model_of s) rest (kept_of s.line) (used s) (take_all kept_bytes (kept_of s.line) c.keep-2.ensures.fitted) (feed_at rest c.line_feed.ensures c.in-Some.is) c.keep-2.ensures.kept))
