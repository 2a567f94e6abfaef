-- The input, byte by byte: a byte, a part of the input, and its end. The first bytes of a line are kept, which tell its command.
use Rattle.std.specs.Prelude.{Bool, true, false, cond, List, [], ◌∷◌, ◌++◌, ℕ, suc, eqb, take}
use Rattle.results.specs.Results.{Answered, answered}
use Rattle.standing.specs.Runs.{Store}
use Rattle.commands.specs.Commands.{command_of}
use Rattle.lines.specs.Lines.{feed_byte}
use Rattle.replies.specs.Replies.{Reply, reply}
use Rattle.dialogue.specs.Sizes.{kept_bytes}

-- the bytes kept of a line that was begun, and all that is lent beside the model
pub record Progress : Type 0 where
  pub kept : List ℕ
  pub store : Store

abbrev pub progress : List ℕ → Store → Progress
progress kept store = record { kept = kept; store = store }

-- what is printed, with the progress as it is left
abbrev pub Turn : Type 0
Turn = Answered (List ℕ) Progress

-- a line was ended and answered
abbrev pub ended : Reply → Turn
ended r = answered r.answer (progress [] r.left)

-- a line feed ends a line; any other byte is kept, if there is a place for it, and prints nothing
unfoldable pub turn : List ℕ → ℕ → Progress → Turn
turn m byte s =
    cond (eqb byte feed_byte) (ended (reply m (command_of s.kept) s.store))
    (answered [] (progress (take kept_bytes (s.kept ++ (byte ∷ []))) s.store))

-- what two turns print, one after the other
abbrev pub after : Turn → Turn → Turn
after first second = answered (first.answer ++ second.answer) second.left

-- a part of the input
unfoldable pub turns : List ℕ → List ℕ → Progress → Turn
turns m [] s = answered [] s
turns m (byte ∷ part) s = after (turn m byte s) (turns m part (turn m byte s).left)

-- parts of the input
unfoldable pub parts : List ℕ → List (List ℕ) → Progress → Turn
parts m [] s = answered [] s
parts m (p ∷ ps) s = after (turns m p s) (parts m ps (turns m p s).left)

-- the end of the input: a line that was begun counts
unfoldable pub closing_by : List ℕ → List ℕ → Store → Reply
closing_by m [] s = answered [] s
closing_by m (byte ∷ kept) s = reply m (command_of (byte ∷ kept)) s

abbrev pub closing : List ℕ → Progress → Reply
closing m s = closing_by m s.kept s.store

-- ---- the first line of a part

unfoldable pub before_line_feed : List ℕ → List ℕ
before_line_feed [] = []
before_line_feed (byte ∷ part) = cond (eqb byte feed_byte) [] (byte ∷ before_line_feed part)

unfoldable pub has_line_feed : List ℕ → Bool
has_line_feed [] = false
has_line_feed (byte ∷ part) = cond (eqb byte feed_byte) true (has_line_feed part)

-- how many bytes there are to the first line feed, which is included; all, if there is none
unfoldable pub to_line_feed : List ℕ → ℕ
to_line_feed [] = 0
to_line_feed (byte ∷ part) = suc (cond (eqb byte feed_byte) 0 (to_line_feed part))

-- these bytes
abbrev pub first_line : List ℕ → List ℕ
first_line part = take (to_line_feed part) part
