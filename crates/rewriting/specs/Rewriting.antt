-- 02, A7: "A program `gtswide` rewrites an old file from standard input to standard output; one that the old check refuses gives `no` and
-- that number instead." Kinds and parameters stay as they are; the header is written anew.
use Rattle.std.specs.Prelude.{Bool, cond, ◌&&◌, ◌||◌, List, ◌++◌, ℕ, suc, ◌+◌, ltb, eqb, length, take, drop, Result, Ok, Err}
use Rattle.results.specs.declared.refusal.Refusal.{Refusal}
use Rattle.results.specs.declared.refusal.Refusal.TheVariants.{ShortSlice}
use Rattle.results.specs.Refusals.{number_of}
use Rattle.results.specs.Results.{Answered, answered, over}
use Rattle.model.specs.declared.Sizes.{Sizes}
use Rattle.model.specs.Sizes.{byte_layout, file_layout, header_of, header_bytes, longest}
use Rattle.model.specs.Check.{Verdict, byte_verdict}
use Rattle.model.specs.Check.Verdict.{refusal, accepted}
use Rattle.ascii.specs.Ascii.{same, are_digits}
use Rattle.commands.specs.Commands.{fire_prefix}
use Rattle.lines.specs.Lines.{Output, refusal_text, room, mark_width, line_into}

-- the bytes of an old file with these sizes, in the layout that every call reads
abbrev pub rewritten : Sizes → List ℕ → List ℕ
rewritten z m = header_bytes file_layout z ++ drop (header_of byte_layout) m

-- by the old check's verdict: its refusal; 10 for a slice that is too short; or the new file at the beginning of the slice, the cells from
-- there on staying
unfoldable pub rewritten_by : List ℕ → Verdict → List ℕ → Answered (Result ℕ Refusal) (List ℕ)
rewritten_by m (refusal r) out = answered (Err r) out
rewritten_by m (accepted z t) out =
    cond (ltb (length out) (length (rewritten z m))) (answered (Err ShortSlice) out)
    (answered (Ok (length (rewritten z m))) (over (rewritten z m) out))

-- what gtswide prints of an old file
unfoldable pub wide_text_by : List ℕ → Verdict → List ℕ
wide_text_by m (refusal r) = refusal_text (number_of r)
wide_text_by m (accepted z t) = rewritten z m

abbrev pub wide_text : List ℕ → List ℕ
wide_text m = wide_text_by m (byte_verdict m)

-- the same at the beginning of a slice, the cells from there on staying; nothing, if the slice is too short
unfoldable pub wide_into : List ℕ → Verdict → List ℕ → Output
wide_into m (refusal r) out = line_into (room mark_width 0) (refusal_text (number_of r)) out
wide_into m (accepted z t) out = line_into (length (rewritten z m)) (rewritten z m) out

-- the bytes that gtswide keeps of its input: one more than an accepted old file can have
abbrev pub input_bytes : ℕ
input_bytes = suc (longest byte_layout)

-- room for all that gtswide prints: the longest old file, whose new header has four bytes more
abbrev pub text_bytes : ℕ
text_bytes = longest byte_layout + 4

-- 02: "but for `f` with 4 or 5 digits"
abbrev pub is_long_fire : List ℕ → Bool
is_long_fire l = same (take 2 l) fire_prefix && (are_digits (drop 2 l) && (eqb (length (drop 2 l)) 4 || eqb (length (drop 2 l)) 5))
