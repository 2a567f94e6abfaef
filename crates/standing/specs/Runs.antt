-- 01, "The calls on a run": "A run is a values slice [..], a record slice of transition numbers (bytes), and a count n of recorded
-- steps." 02, A7: "record entries two bytes wide". The record slice is called the history here. A4: "The run shall hold its marks".
use Rattle.std.specs.Prelude.{List, ℕ, ℤ, Option}
use Rattle.model.specs.declared.Sizes.{Sizes}
use Rattle.standing.specs.declared.Run.{Run as Lent}
use Rattle.standing.specs.declared.MovingRun.{MovingRun}
use Rattle.results.specs.Results.{Answered}
pub use Rattle.results.specs.Results.{answered}

pub record Run : Type 0 where
  pub values : List ℤ
  pub marks : List ℕ
  pub history : List ℕ
  pub count : ℕ

-- all that is lent beside the model: the run, and the slice that the marks call copies into
pub record Store : Type 0 where
  pub run : Run
  pub buffer : List ℕ

abbrev pub run : List ℤ → List ℕ → List ℕ → ℕ → Run
run values marks history count = record { values = values; marks = marks; history = history; count = count }

-- the run that is lent as slices and a count
abbrev pub run_in : Lent → Run
run_in r = run r.values.now r.marks.now r.history.now r.count

-- the run that a move is lent
abbrev pub moving_run : MovingRun → Run
moving_run r = run r.values.now r.marks.now r.history.now r.count

abbrev pub store : Run → List ℕ → Store
store r buffer = record { run = r; buffer = buffer }

abbrev pub with_values : List ℤ → Run → Run
with_values values r = run values r.marks r.history r.count

abbrev pub with_marks : List ℕ → Run → Run
with_marks marks r = run r.values marks r.history r.count

abbrev pub with_history : List ℕ → Run → Run
with_history history r = run r.values r.marks history r.count

abbrev pub with_count : ℕ → Run → Run
with_count count r = run r.values r.marks r.history count

abbrev pub with_run : Run → Store → Store
with_run r s = store r s.buffer

abbrev pub with_buffer : List ℕ → Store → Store
with_buffer buffer s = store s.run buffer

-- 01's answers: the number of a refusal, the round count, that it was done, a value, the five sizes, the transition picked or none.
-- A3's: the first variable outside its ends or none, and how many values were looked at
pub data Answer : Type 0 where
  refused : ℕ → Answer
  rounds : ℕ → Answer
  done : Answer
  number : ℤ → Answer
  sizes : Sizes → Answer
  picked : Option ℕ → Answer
  outside : Option ℕ → ℕ → Answer

-- an answer with what is left of a thing that was lent
abbrev pub Done : Type 0 → Type 0
Done A = Answered Answer A
