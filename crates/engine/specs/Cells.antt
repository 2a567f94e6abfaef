-- What the functions on a decoded model are lent, what they may ask of it, and how a firing goes on from one of them to the next.
use Rattle.std.specs.Prelude.{◌≡◌, true, cond, List, ℕ, ◌≤◌, ℤ, pos, length, take, replicate, Err, Result, Ok, Option}
use Rattle.evaluation.specs.declared.Evaluation.{Evaluation}
use Rattle.evaluation.specs.declared.Evaluation.TheVariants.{Unknown, Failed, Value}
use Rattle.evaluation.specs.Numbers.{eq_z, boolean}
use Rattle.model.specs.declared.Model.{Model}
use Rattle.model.specs.Theorems.{Bytes}
use Rattle.decoding.specs.Decoding.{Decoded}
use Rattle.propagation.specs.Cells.{cells_of}
use Rattle.results.specs.Results.{answered}
use Rattle.semantics.specs.declared.NotFired.{NotFired}
use Rattle.semantics.specs.declared.NotFired.TheVariants.{Disabled, GuardFailed}
use Rattle.semantics.specs.Meanings.{Meaning, meaning_of}
use Rattle.semantics.specs.Firing.{left_by_settling, fired}
use Rattle.variables.specs.declared.VariableRow.{VariableRow}

-- the values of so many variables, the first of those lent, are held as cells
pub record AllHeld (count : ℕ) (values : List ℤ) (cells : List (Option ℤ)) : Type 0 where
  pub room : count ≤ length values
  pub held : cells ≡ cells_of (take count values)

-- by the guard: why nothing is fired where it is not true
unfoldable pub admission : Evaluation → Result (Unit {0}) NotFired
admission Unknown = Err Disabled
admission (Failed m) = Err (GuardFailed m)
admission (Value v) = cond (eq_z v (boolean true)) (Ok tt) (Err Disabled)

-- by guard and action: what the firing leaves where it is over, with no states made, and where it goes on what the assertion
-- over the states made leaves
unfoldable pub LeftByChanging : Meaning → ℕ → List ℤ → List ℤ → Result (Unit {0}) NotFired → Type 0
LeftByChanging m t old states (Err r) = (answered (Err r) old ≡ fired m t old) × (states ≡ replicate (length m.declarations) (pos 0))
LeftByChanging m t old states (Ok tt) =
    (length m.declarations ≤ length old) × (left_by_settling old (m.propagate (take m.states states)) ≡ fired m t old)

-- the slices are the decoding of an accepted file: what the functions exported here ask
pub record Loaded (model : Model) (kinds : List ℕ) (parameters : List ℤ) (rows : List VariableRow) (nexts guards : List ℕ) : Type 0 where
  pub file : List ℕ
  pub bytes : Bytes file
  pub decoded : Decoded file model kinds parameters rows nexts guards

-- this is true of the meaning of the model whose decoding is lent
abbrev pub OnLoaded : Model → List ℕ → List ℤ → List VariableRow → List ℕ → List ℕ → (Meaning → Type 0) → Type 0
OnLoaded model kinds parameters rows nexts guards P =
    (d : Loaded model kinds parameters rows nexts guards) → P (meaning_of d.decoded.system)
