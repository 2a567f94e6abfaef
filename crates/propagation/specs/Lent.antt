-- What is asked and promised of the tables that are lent, and of what the readings gather in.
use Rattle.std.specs.Prelude.{◌≡◌, List, ℕ, ℤ, length, Option}
use Rattle.tables.specs.declared.Tables.{Tables}
use Rattle.scratch.specs.Blank.{BlankGathering, BlankCells}
use Rattle.interpreter.specs.Gathering.{nothing_found}
use Rattle.reading.specs.declared.Gathering.{Gathering}
use Rattle.propagation.specs.Cells.{Fits, PropagationStands, ActionStands}

-- nothing found, queued or marked
abbrev pub Emptied : Gathering → Type 0
Emptied g = (g.found ≡ nothing_found) × (g.queued ≡ 0) × (g.pending ≡ 0)

module _ (t : Tables) where
  -- the cells and those of a gathering are as many as these tables have variables and nodes
  abbrev pub FitsIn : List (Option ℤ) → Gathering → Type 0
  FitsIn cells g = Fits (length t.variables.now) (length t.kinds.now) cells g.given.now g.queue.now g.waits.now

  -- nothing was given, queued or marked
  abbrev pub BlankIn : Gathering → Type 0
  BlankIn g = BlankGathering (length t.variables.now) (length t.kinds.now) g.given.now g.queue.now g.waits.now

  -- and no cell holds a number
  abbrev pub BlankCellsIn : List (Option ℤ) → Gathering → Type 0
  BlankCellsIn cells g = BlankCells (length t.variables.now) (length t.kinds.now) cells g.given.now g.queue.now g.waits.now

  -- the assertion stands in these tables, over so many states and flows
  abbrev pub PropagationHeld : ℕ → ℕ → Type 0
  PropagationHeld states flows = PropagationStands t.kinds.now t.parameters.now t.nexts.now t.variables.now t.model.assertion states flows

  -- an action stands at this place, over the values that these cells hold, with these old states
  abbrev pub ActionHeld : List (Option ℤ) → List ℤ → ℕ → Type 0
  ActionHeld cells old at = ActionStands t.kinds.now t.parameters.now t.nexts.now t.variables.now cells old at
