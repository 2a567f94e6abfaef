-- One reading of an instruction in a round: the effects gathered, the flows queued that become known, the marks of what waits.
use Rattle.std.specs.Prelude.{Option, ◌≡◌, List, [], ◌∷◌, ◌++◌, ℕ, ◌+◌, ◌-◌, ◌≤◌, ℤ, length, take, set}
use Rattle.evaluation.specs.declared.Evaluation.{Evaluation}
use Rattle.evaluation.specs.declared.Evaluation.TheVariants.{Unknown, Failed, Value}
use Rattle.model.specs.Trees.{Instruction, count}
use Rattle.model.specs.Standing.{InstructionAt, size_of, size_of_all}
use Rattle.variables.specs.Rows.{lows_in, highs_in}
use Rattle.expressions.specs.Expressions.{Valuation}
use Rattle.expressions.specs.Cells.{valuation_of}
use Rattle.interpreter.specs.declared.Gathered.{Gathered}
use Rattle.interpreter.specs.Cells.{InstructionStands}
use Rattle.interpreter.specs.Instructions.{effects}
use Rattle.interpreter.specs.Instructions.Effect.{gives}
use Rattle.interpreter.specs.Gathering.{Gathering as Folded, gathering, failing, gather, gather_all, at_once, due_after}
use Rattle.waiting.specs.News.{news_of, Room}
use Rattle.waiting.specs.Marks.{marked, mark_at_once, mark_count, stamp_of}
use Rattle.reading.specs.declared.Gathering.{Gathering}
use Rattle.reading.specs.declared.Reading.{Reading}

-- the flags, once an expression came to this
unfoldable pub found_by : Evaluation → Gathered → Gathered
found_by Unknown found = found
found_by (Failed m) found = failing m found
found_by (Value v) found = found

-- what a reading changes: the flags and the values given, the flows queued so far, and the marks
pub record Held : Type 0 where
  pub gathered : Folded
  pub news : List ℕ
  pub waits : List ℕ

abbrev pub held : Gathered → List (Option ℤ) → ℕ → List ℕ → List ℕ → Held
held found given queued queue waits = record { gathered = gathering found given; news = take queued queue; waits = waits }

-- the same of a gathering that is lent
abbrev pub held_in : Gathering → Held
held_in g = held g.found g.given.now g.queued g.queue.now g.waits.now

-- the queue has room for every cell that is open, and the marks are counted
abbrev pub Whole : Gathering → Type 0
Whole g = Room g.given.now g.queued g.queue.now × (g.pending ≡ mark_count g.waits.now)

-- the cells lent are the same ones still, and as many
pub record SameCells (before after : Gathering) : Type 0 where
  pub given : after.given.ghost_name ≡ before.given.ghost_name
  pub queue : after.queue.ghost_name ≡ before.queue.ghost_name
  pub waits : after.waits.ghost_name ≡ before.waits.ghost_name
  pub given_length : length after.given.now ≡ length before.given.now
  pub queue_length : length after.queue.now ≡ length before.queue.now
  pub waits_length : length after.waits.now ≡ length before.waits.now

-- a mark set at the place
abbrev pub marking : ℕ → ℕ → Held → Held
marking at stamp h = record { gathered = h.gathered; news = h.news; waits = set h.waits at stamp }

-- the own expression of the instruction at the place came to this in round r
abbrev pub noted : Evaluation → ℕ → ℕ → Held → Held
noted v at r h = record { gathered = gathering (found_by v h.gathered.found) h.gathered.given; news = h.news; waits = set h.waits at (stamp_of v r) }

-- a value given to a variable
abbrev pub giving : List ℤ → List ℤ → ℕ → ℤ → Held → Held
giving lows highs x v h =
    record { gathered = gather lows highs (gives x v) h.gathered; news = h.news ++ news_of (gives x v ∷ []) h.gathered.given; waits = h.waits }

-- the reading of an instruction that stands at the place, in round r
unfoldable pub read_by : List ℤ → List ℤ → Valuation → ℕ → ℕ → Instruction → Held → Held
read_by lows highs σ at r i h =
    record {
      gathered = gather_all lows highs (effects i σ) h.gathered;
      news = h.news ++ news_of (effects i σ) h.gathered.given;
      waits = marked i σ at r h.waits;
    }

-- one node done: what is held, the place of what is due next, and how many instructions came due
pub record Walked : Type 0 where
  pub held : Held
  pub next : ℕ
  pub due : ℕ

abbrev pub walked : Held → ℕ → ℕ → Walked
walked h next due = record { held = h; next = next; due = due }

-- a body that is not active is skipped: what is due next ends where the instruction ends
unfoldable pub walked_by : List ℤ → List ℤ → Valuation → ℕ → ℕ → Instruction → Held → Walked
walked_by lows highs σ at r i h =
    walked
    (record {
      gathered = gather_all lows highs (at_once i σ) h.gathered;
      news = h.news ++ news_of (at_once i σ) h.gathered.given;
      waits = mark_at_once i σ at r h.waits;
    })
    (at + size_of i - size_of_all (due_after i σ))
    (count (due_after i σ))

-- of the tables and cells of a reading, in its round
module _ (r : Reading) where
  -- the instruction stands at the place
  abbrev pub InstructionIn : Instruction → ℕ → Type 0
  InstructionIn i at = InstructionAt r.tables.now.kinds.now r.tables.now.parameters.now i at

  -- an instruction stands at the place, over variables that have a cell there and a number of 16 bits, and each node has a mark
  abbrev pub ReadableIn : Gathering → ℕ → Type 0
  ReadableIn g at =
      InstructionStands r.tables.now.kinds.now r.tables.now.parameters.now r.tables.now.nexts.now (length r.tables.now.variables.now) (length g.given.now) at
      × (length g.waits.now ≡ length r.tables.now.kinds.now) × (length r.tables.now.variables.now ≤ 65536) × Whole g

  -- the reading of an instruction that stands at the place
  abbrev pub read_in : ℕ → Instruction → Held → Held
  read_in at i h = read_by (lows_in r.tables.now.variables.now) (highs_in r.tables.now.variables.now) (valuation_of r.cells.now) at r.round i h

  -- one node of it done
  abbrev pub walked_in : ℕ → Instruction → Held → Walked
  walked_in at i h = walked_by (lows_in r.tables.now.variables.now) (highs_in r.tables.now.variables.now) (valuation_of r.cells.now) at r.round i h
