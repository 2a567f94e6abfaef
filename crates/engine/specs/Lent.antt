-- The same of what is lent: the tables, the index of the assertion, and what a firing works in.
use Rattle.std.specs.Prelude.{◌≡◌, length}
use Rattle.tables.specs.declared.Tables.{Tables}
use Rattle.scratch.specs.Blank.{BlankFiring}
use Rattle.semantics.specs.Meanings.{Meaning}
use Rattle.reading.specs.Readings.{SameCells}
use Rattle.engine.specs.declared.Work.{Work}
use Rattle.engine.specs.Cells.{Loaded, OnLoaded}

-- what a firing works in is the same cells still, and as many
pub record SameWork (before after : Work) : Type 0 where
  pub states : after.states.ghost_name ≡ before.states.ghost_name
  pub cells : after.cells.ghost_name ≡ before.cells.ghost_name
  pub states_length : length after.states.now ≡ length before.states.now
  pub cells_length : length after.cells.now ≡ length before.cells.now
  pub gathering : after.gathering.ghost_name ≡ before.gathering.ghost_name
  pub gathered : SameCells before.gathering.now after.gathering.now

module _ (t : Tables) where
  -- the tables are the decoding of an accepted file
  abbrev pub LoadedIn : Type 0
  LoadedIn = Loaded t.model t.kinds.now t.parameters.now t.variables.now t.nexts.now t.guards.now

  -- this is true of the meaning of the model whose decoding is lent
  abbrev pub OnLoadedIn : (Meaning → Type 0) → Type 0
  OnLoadedIn = OnLoaded t.model t.kinds.now t.parameters.now t.variables.now t.nexts.now t.guards.now

  -- the cells that a firing works in are blank
  abbrev pub BlankFiringIn : Work → Type 0
  BlankFiringIn w =
      BlankFiring (length t.variables.now) (length t.kinds.now) w.states.now w.cells.now w.gathering.now.given.now w.gathering.now.queue.now
      w.gathering.now.waits.now
