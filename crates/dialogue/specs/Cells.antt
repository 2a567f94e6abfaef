-- What the functions find and leave in the arrays of a dialogue. A run takes the first cells of the values, of the marks and of the buffer that
-- they are copied into, and the model the first bytes of the file; what is printed stands at the beginning of the array for the lines.
use Rattle.std.specs.Prelude.{◌≡◌, List, ℕ, ◌+◌, ℤ, length, take, drop}
use Rattle.results.specs.Results.{Answered, answered, over}
use Rattle.model.specs.Check.{Verdict}
use Rattle.model.specs.Check.Verdict.{refusal, accepted}
use Rattle.standing.specs.Runs.{Store, run, store}
use Rattle.dialogue.specs.declared.Dimensions.{Dimensions}
use Rattle.dialogue.specs.declared.Line.{Line}
use Rattle.dialogue.specs.declared.Dialogue.{Dialogue}

-- the bytes kept of a line
abbrev pub kept_of : Line → List ℕ
kept_of l = take l.length l.bytes

abbrev pub dimensions : ℕ → ℕ → ℕ → Dimensions
dimensions bytes variables transitions = record { bytes = bytes; variables = variables; transitions = transitions }

-- of a file with so many bytes, by its check; a refused model has no run
unfoldable pub dimensions_of : ℕ → Verdict → Dimensions
dimensions_of bytes (refusal n) = dimensions bytes 0 0
dimensions_of bytes (accepted z t) = dimensions bytes (z.states + z.flows) z.transitions

-- the run that the arrays hold
abbrev pub in_use : Dimensions → Store → Store
in_use d s =
    store (run (take d.variables s.run.values) (take d.transitions s.run.marks) s.run.history s.run.count)
    (take d.transitions s.buffer)

-- the cells past it, of the values, the marks and the buffer
abbrev pub past_use : Dimensions → Store → List ℤ × (List ℕ × List ℕ)
past_use d s = (drop d.variables s.run.values, (drop d.transitions s.run.marks, drop d.transitions s.buffer))

-- a text at the beginning of a slice, told by its length; the cells from there on stay
abbrev pub placed : List ℕ → List ℕ → Answered ℕ (List ℕ)
placed text out = answered (length text) (over text out)

abbrev pub into : {A : Type 0} → List ℕ → Answered (List ℕ) A → Answered (Answered ℕ (List ℕ)) A
into out r = answered (placed r.answer out) r.left

-- ---- all that a program keeps

-- the arrays that the run is lent, and the run in their first cells
abbrev pub store_of : Dialogue → Store
store_of s = store (run s.values s.marks s.history s.n) s.buffer

-- the line to be printed, told by its length, in the array for the lines
abbrev pub line_of : Dialogue → Answered ℕ (List ℕ)
line_of s = answered s.written s.out

-- the cells that the run of its model takes
abbrev pub used : Dialogue → Store
used s = in_use s.dimensions (store_of s)

-- the model, in the first bytes of the file
abbrev pub model_of : Dialogue → List ℕ
model_of s = take s.dimensions.bytes s.file

-- the file, what is in use, and the cells past it stay
pub record KeepsRest (old new : Dialogue) : Type 0 where
  pub file : new.file ≡ old.file
  pub dimensions : new.dimensions ≡ old.dimensions
  pub past : past_use old.dimensions (store_of new) ≡ past_use old.dimensions (store_of old)
