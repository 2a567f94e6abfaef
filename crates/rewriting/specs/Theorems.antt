-- The statements on rewritten files. Proved in proofs/.
use Rattle.std.specs.Prelude.{◌≡◌, false, Some, List, ℕ, ◌≤◌, length, take}
use Rattle.results.specs.Results.{over}
use Rattle.model.specs.declared.Sizes.{Sizes}
use Rattle.model.specs.Trees.{System}
use Rattle.model.specs.Check.{verdict, byte_verdict}
use Rattle.model.specs.Check.Verdict.{accepted}
use Rattle.model.specs.WellFormed.{All}
use Rattle.model.specs.Theorems.{Bytes}
use Rattle.standing.specs.Runs.{Store, Done}
use Rattle.run.specs.declared.Call.{Call}
use Rattle.run.specs.Lists.{calls_by, calls_of, Performed}
use Rattle.commands.specs.Commands.{old_most_digits}
use Rattle.lines.specs.Lines.{written_into}
use Rattle.dialogue.specs.Transcript.{lines_of, transcript, transcript_by}
use Rattle.rewriting.specs.Rewriting.{rewritten, wide_text, wide_into, input_bytes, text_bytes, is_long_fire}

-- an accepted old file is accepted when it is rewritten, with the same five sizes and the same tree
abbrev pub RewrittenAccepted : Type 0
RewrittenAccepted = (m : List ℕ) → Bytes m → (z : Sizes) (t : System) → byte_verdict m ≡ accepted z t → verdict (rewritten z m) ≡ accepted z t

-- 02, A7: "A rewritten model runs as the old one did": each answer and every cell along every list of calls, on every store, are what the
-- definitions of the calls give of the old file, and so are all results that the promises allow
abbrev pub RewrittenRuns : Type 0
RewrittenRuns =
    (m : List ℕ) → Bytes m → (z : Sizes) (t : System) → byte_verdict m ≡ accepted z t → (cs : List Call) (s : Store)
    → (calls_of (rewritten z m) cs s ≡ calls_by (byte_verdict m) cs s)
    × ((rs : List (Done Store)) → Performed (rewritten z m) cs s rs → rs ≡ calls_by (byte_verdict m) cs s)

-- and the program prints the same, "but for `f` with 4 or 5 digits", where 01's `f` took at most 3
abbrev pub RewrittenPrints : Type 0
RewrittenPrints =
    (m input : List ℕ) → Bytes m → (z : Sizes) (t : System) → byte_verdict m ≡ accepted z t
    → All (λ l. is_long_fire l ≡ false) (lines_of input)
    → transcript (rewritten z m) input ≡ transcript_by old_most_digits (byte_verdict m) input

-- the first 20,007 bytes of an old file tell what gtswide prints
abbrev pub RewriteOfKept : Type 0
RewriteOfKept = (m : List ℕ) → wide_text (take input_bytes m) ≡ wide_text m

-- 20,010 bytes are room for it: it is printed whole
abbrev pub WideTextWhole : Type 0
WideTextWhole =
    (m out : List ℕ) → text_bytes ≤ length out
    → wide_into m (byte_verdict m) out ≡ written_into (Some (length (wide_text m))) (over (wide_text m) out)
