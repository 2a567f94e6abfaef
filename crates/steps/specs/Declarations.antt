-- What the tests of a call on a run ask of a model: how many transitions it has, and its variables.
use Rattle.std.specs.Prelude.{◌≡◌}
use Rattle.variables.specs.Rows.{variable_rows}
use Rattle.semantics.specs.Meanings.{Meaning}
use Rattle.standing.specs.declared.Declared.{Declared}

-- so many transitions and these rows of variables are a model's
pub record Declares (m : Meaning) (d : Declared) : Type 0 where
  pub counted : d.transitions ≡ m.transitions
  pub declared : d.variables.now ≡ variable_rows m.declarations
