-- The store as it is lent.
use Rattle.std.specs.Prelude.{◌≡◌, length}
use Rattle.run.specs.declared.Store.{Store as Lent}
use Rattle.standing.specs.Runs.{Store, run, store}

-- the store that is lent as slices and a count
abbrev pub store_in : Lent → Store
store_in s = store (run s.values.now s.marks.now s.history.now s.n.now) s.buffer.now

-- the cells lent are the same ones still, and as many
pub record SameCells (before after : Lent) : Type 0 where
  pub values : after.values.ghost_name ≡ before.values.ghost_name
  pub marks : after.marks.ghost_name ≡ before.marks.ghost_name
  pub history : after.history.ghost_name ≡ before.history.ghost_name
  pub n : after.n.ghost_name ≡ before.n.ghost_name
  pub buffer : after.buffer.ghost_name ≡ before.buffer.ghost_name
  pub values_length : length after.values.now ≡ length before.values.now
  pub marks_length : length after.marks.now ≡ length before.marks.now
  pub history_length : length after.history.now ≡ length before.history.now
  pub buffer_length : length after.buffer.now ≡ length before.buffer.now
