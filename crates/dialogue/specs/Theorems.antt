-- The statements on what is printed. Proved in proofs/.
use Rattle.std.specs.Prelude.{◌≡◌, ℕ, ◌<◌, length, take}
use mathlib.Core.List.{List, [], ◌++◌, flatten}
use Rattle.model.specs.declared.Sizes.{Sizes}
use Rattle.model.specs.Trees.{System}
use Rattle.model.specs.Check.{verdict}
use Rattle.model.specs.Check.Verdict.{accepted}
use Rattle.model.specs.Theorems.{Bytes, ShuffledFile}
use Rattle.standing.specs.Runs.{Store}
use Rattle.dialogue.specs.Sizes.{longest_file, file_bytes}
use Rattle.dialogue.specs.Transcript.{transcript, replies, lines_of}
use Rattle.dialogue.specs.Turns.{Progress, progress, turns, parts, closing}
use Rattle.dialogue.specs.Program.{pieces, program_text}

-- no accepted file is longer than 10 + 5 * 12,000 bytes, so the first 60,011 bytes tell a file's check
abbrev pub LongFileRefused : Type 0
LongFileRefused = (m : List ℕ) → longest_file < length m → (s : Sizes) (t : System) → verdict m ≡ accepted s t → ⊥

abbrev pub VerdictOfFirst : Type 0
VerdictOfFirst = (m : List ℕ) → verdict m ≡ verdict (take file_bytes m)

-- taken byte by byte to its end, the first bytes of each line kept, an input is answered as its lines are
abbrev pub AnsweredByLines : Type 0
AnsweredByLines =
    (m input : List ℕ) (s : Store)
    → (turns m input (progress [] s)).answer ++ (closing m (turns m input (progress [] s)).left).answer ≡ replies m (lines_of input) s

-- how the input is cut into parts does not matter
abbrev pub PartsAsWhole : Type 0
PartsAsWhole = (m : List ℕ) (ps : List (List ℕ)) (s : Progress) → parts m ps s ≡ turns m (flatten ps) s

-- no byte of a part is lost or taken twice
abbrev pub PiecesOfPart : Type 0
PiecesOfPart = (part : List ℕ) → flatten (pieces part) ≡ part

-- what a program keeps is enough: 60,011 bytes of the file and eight of each line. By the promises of the functions it prints 01's transcript
-- of the whole file and the whole input, however this is cut into parts and whatever the array for the lines holds: that every line fits it
-- is in the promises of the functions
abbrev pub TranscriptOfKept : Type 0
TranscriptOfKept = (m : List ℕ) (ps : List (List ℕ)) (out : List ℕ) → Bytes m → program_text (take file_bytes m) ps out ≡ transcript m (flatten ps)

-- 01, demand 3, for what the user sees: a shuffled model prints the same
abbrev pub TranscriptIndependent : Type 0
TranscriptIndependent = (m m' input : List ℕ) → Bytes m → ShuffledFile m m' → transcript m' input ≡ transcript m input
