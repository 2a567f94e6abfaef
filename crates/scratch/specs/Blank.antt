-- Blank cells, by which a promise says that they are left as they were lent.
use Rattle.std.specs.Prelude.{◌≡◌, List, ℕ, ℤ, pos, replicate, Option, None}

-- the cell of a variable that is unknown
abbrev pub unknown_cell : Option ℤ
unknown_cell = None

-- what a gathering works in, for so many variables and nodes: values given, a queue of variables, a mark for each node
pub record BlankGathering (variables nodes : ℕ) (given : List (Option ℤ)) (queue waits : List ℕ) : Type 0 where
  pub nothing_given : given ≡ replicate variables unknown_cell
  pub nothing_queued : queue ≡ replicate variables 0
  pub nothing_marked : waits ≡ replicate nodes 0

-- the same, with the cells that are gathered over
pub record BlankCells (variables nodes : ℕ) (cells given : List (Option ℤ)) (queue waits : List ℕ) : Type 0 where
  pub nothing_known : cells ≡ replicate variables unknown_cell
  pub gathering : BlankGathering variables nodes given queue waits

-- the same, with the values of states
pub record BlankFiring (variables nodes : ℕ) (states : List ℤ) (cells given : List (Option ℤ)) (queue waits : List ℕ) : Type 0 where
  pub zeros : states ≡ replicate variables (pos 0)
  pub valuation : BlankCells variables nodes cells given queue waits
