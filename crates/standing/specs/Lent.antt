-- The run as a move leaves it.
use Rattle.std.specs.Prelude.{◌≡◌, length}
use Rattle.standing.specs.declared.MovingRun.{MovingRun}

-- the cells lent are the same ones still, and as many; the history and the count stay
pub record SameRun (before after : MovingRun) : Type 0 where
  pub values : after.values.ghost_name ≡ before.values.ghost_name
  pub marks : after.marks.ghost_name ≡ before.marks.ghost_name
  pub values_length : length after.values.now ≡ length before.values.now
  pub marks_length : length after.marks.now ≡ length before.marks.now
  pub history : after.history ≡ before.history
  pub count : after.count ≡ before.count
