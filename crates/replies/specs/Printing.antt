-- What the functions answer and leave in every cell lent. A slice that is too short for the longest line of the run is
-- answered so, and nothing is done; else the text stands at the beginning of the slice and the cells from there on stay.
use Rattle.std.specs.Prelude.{◌≡◌, Option, Some, None, Result, Ok, Err, Bool, cond, ◌||◌, List, ℕ, ltb, length}
use Rattle.results.specs.declared.refusal.Refusal.{Refusal}
use Rattle.results.specs.Refusals.{number_of}
use Rattle.results.specs.Results.{Answered, answered, over}
use Rattle.standing.specs.Runs.{Store}
use Rattle.lines.specs.Lines.{room, value_width, mark_width, Output, written_into, refusal_text}
use Rattle.replies.specs.Replies.{Reply}

-- a slice of this length is too short for some line of a run with so many values, and so many marks to print
abbrev pub lacks_room : ℕ → ℕ → ℕ → Bool
lacks_room size values marks = ltb size (room value_width values) || ltb size (room mark_width marks)

abbrev pub is_short : List ℕ → Store → Bool
is_short out s = lacks_room (length out) (length s.run.values) (length s.buffer)

-- a text at the beginning of a slice
abbrev pub text_into : List ℕ → List ℕ → Output
text_into text out = written_into (Some (length text)) (over text out)

-- the line that was written, or the line of a refusal, which is to be written yet
abbrev pub line_of : Result (Option ℕ) Refusal → List ℕ → Output
line_of (Ok w) out = written_into w out
line_of (Err r) out = text_into (refusal_text (number_of r)) out

-- with its line, and what is left of the slice and of all that was lent, this is the reply
abbrev pub Replied : Result (Option ℕ) Refusal → List ℕ → List ℕ → Store → Reply → Type 0
Replied line out out' s' r = answered (line_of line out') s' ≡ answered (text_into r.answer out) r.left

unfoldable pub reply_into : List ℕ → Store → Reply → Answered Output Store
reply_into out s r = cond (is_short out s) (answered (written_into None out) s) (answered (text_into r.answer out) r.left)
