-- 01: "Program `gtsrun` reads file `model.gts`, then lines of standard input [..]. It prints a line for the start, then one per command [..].
-- It stops after a refused start. The last line counts also without its line feed." All that is printed, line by line.
use Rattle.std.specs.Prelude.{cond, List, [], ◌∷◌, ◌++◌, ℕ, ◌+◌, eqb, pos, replicate}
use Rattle.results.specs.Refusals.{number_of}
use Rattle.model.specs.Check.{Verdict, verdict}
use Rattle.model.specs.Check.Verdict.{refusal, accepted}
use Rattle.standing.specs.Runs.{Store, run, store}
use Rattle.commands.specs.Commands.{most_digits, command_within}
use Rattle.lines.specs.Lines.{refusal_text, feed_byte}
use Rattle.replies.specs.Replies.{reply_by, opening_by, is_started_by}
use Rattle.dialogue.specs.Sizes.{places}

-- ---- the input

-- the lines of an input, after the beginning of one
unfoldable pub lines_after : List ℕ → List ℕ → List (List ℕ)
lines_after [] [] = []
lines_after [] (b ∷ begun) = (b ∷ begun) ∷ []
lines_after (byte ∷ input) begun = cond (eqb byte feed_byte) (begun ∷ lines_after input []) (lines_after input (begun ++ (byte ∷ [])))

-- "The last line counts also without its line feed": what follows the last line feed is a line if it is not empty
abbrev pub lines_of : List ℕ → List (List ℕ)
lines_of input = lines_after input []

-- by the check's verdict on the file, and the most digits that `f` takes
unfoldable pub replies_by : ℕ → Verdict → List (List ℕ) → Store → List ℕ
replies_by most v [] s = []
replies_by most v (l ∷ ls) s =
    (reply_by v (command_within most l) s).answer ++ replies_by most v ls (reply_by v (command_within most l) s).left

abbrev pub replies : List ℕ → List (List ℕ) → Store → List ℕ
replies m = replies_by most_digits (verdict m)

-- ---- the program

-- a run of so many values and marks; "Its record has 200 places."
abbrev pub fresh : ℕ → ℕ → Store
fresh values marks = store (run (replicate values (pos 0)) (replicate marks 0) (replicate places 0) 0) (replicate marks 0)

abbrev pub started_text : ℕ → Verdict → List ℕ → Store → List ℕ
started_text most v input s =
    (opening_by v s).answer ++ cond (is_started_by v s) (replies_by most v (lines_of input) (opening_by v s).left) []

unfoldable pub transcript_by : ℕ → Verdict → List ℕ → List ℕ
transcript_by most (refusal r) input = refusal_text (number_of r)
transcript_by most (accepted z t) input = started_text most (accepted z t) input (fresh (z.states + z.flows) z.transitions)

-- all that the program prints, by the file's bytes and the input's
abbrev pub transcript : List ℕ → List ℕ → List ℕ
transcript m = transcript_by most_digits (verdict m)
