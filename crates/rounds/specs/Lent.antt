-- What is asked and promised of the tables that are lent, of the index of the assertion, and of what the readings gather in.
use Rattle.std.specs.Prelude.{List, ℕ, ℤ, length, Option}
use Rattle.tables.specs.declared.Tables.{Tables}
use Rattle.tables.specs.declared.Index.{Index}
use Rattle.waiting.specs.Index.{Indexed}
use Rattle.waiting.specs.Waking.{Passed}
use Rattle.reading.specs.declared.Gathering.{Gathering}
use Rattle.reading.specs.declared.Reading.{Reading}
use Rattle.rounds.specs.Cells.{AssertionStands}
use Rattle.rounds.specs.Rounds.{Fitting, SomeWaking, StillWaking, Resting, Turn, Ready, SomeReady}

module _ (t : Tables) where
  -- the assertion stands in these tables
  abbrev pub AssertionHeld : Type 0
  AssertionHeld = AssertionStands t.kinds.now t.parameters.now t.nexts.now t.variables.now t.model.assertion

  -- the index is that of the assertion
  abbrev pub IndexHeld : Index → Type 0
  IndexHeld i = Indexed t.kinds.now t.parameters.now t.model.assertion (length t.variables.now) i.heads.now i.mentions.now i.owners.now

  -- the cells that are worked in fit the tables, and what waits is marked and counted
  abbrev pub FittingIn : List (Option ℤ) → Gathering → Type 0
  FittingIn cells g =
      Fitting t.kinds.now t.parameters.now t.nexts.now t.variables.now t.model.assertion cells g.given.now g.queued g.queue.now g.waits.now g.pending

  -- after so many rounds nothing wakes any more
  abbrev pub RestingIn : AssertionHeld → List (Option ℤ) → Gathering → ℕ → Type 0
  RestingIn a cells g count =
      Resting t.kinds.now t.parameters.now t.nexts.now t.variables.now t.model.assertion a cells g.waits.now count g.pending

  -- a turn of the rounds has begun
  abbrev pub TurnIn : List (Option ℤ) → List (Option ℤ) → Gathering → ℕ → ℕ → Type 0
  TurnIn cells₀ cells g r done =
      Turn t.kinds.now t.parameters.now t.nexts.now t.variables.now t.model.assertion cells₀ cells g.given.now g.queue.now g.waits.now g.found g.queued g.pending r done

  -- a turn has been read, and the next can begin
  abbrev pub ReadyIn : List (Option ℤ) → List (Option ℤ) → Gathering → ℕ → ℕ → Type 0
  ReadyIn cells₀ cells g r done =
      Ready t.kinds.now t.parameters.now t.nexts.now t.variables.now t.model.assertion cells₀ cells g.given.now g.queue.now g.waits.now g.found g.queued g.pending r done

  -- the same, from some cells at the beginning
  abbrev pub SomeReadyIn : List (Option ℤ) → Gathering → ℕ → ℕ → Type 0
  SomeReadyIn cells g r done =
      SomeReady t.kinds.now t.parameters.now t.nexts.now t.variables.now t.model.assertion cells g.given.now g.queue.now g.waits.now g.found g.queued g.pending r done

-- of a reading, over its tables and cells, in its round
module _ (r : Reading) where
  -- some waking of what waits has come so far
  abbrev pub SomeWakingIn : Gathering → Type 0
  SomeWakingIn g =
      SomeWaking r.tables.now.kinds.now r.tables.now.parameters.now r.tables.now.nexts.now r.tables.now.variables.now r.tables.now.model.assertion r.cells.now r.round
      g.found g.given.now g.queued g.queue.now g.waits.now

  -- and the cells that are worked in fit: what waits can be read
  abbrev pub UnderWay : Gathering → Type 0
  UnderWay g = SomeWakingIn g × FittingIn r.tables.now r.cells.now g

  -- from the one gathering to the other the waking has gone on
  abbrev pub StillWakingIn : Gathering → Gathering → Type 0
  StillWakingIn g g' =
      StillWaking r.tables.now.kinds.now r.tables.now.parameters.now r.tables.now.nexts.now r.tables.now.variables.now r.tables.now.model.assertion r.cells.now r.round
      g.found g.given.now g.queued g.queue.now g.waits.now g'.found g'.given.now g'.queued g'.queue.now g'.waits.now g'.pending

  -- what owns a mention of the variable is read
  abbrev pub PassedIn : Gathering → ℕ → Type 0
  PassedIn g x = Passed r.tables.now.kinds.now r.tables.now.parameters.now r.tables.now.model.assertion r.round g.waits.now x
