-- How the code holds what the rounds come to, and what it may ask of the nodes lent to it.
use Rattle.std.specs.Prelude.{◌≡◌, List, ℕ, ℤ, Result, Ok, Err, Option as Optional}
use Rattle.std.proofs.Math.Option.{Option, some, none}
use Rattle.model.specs.Trees.{System, variables}
use Rattle.model.specs.Standing.{InstructionAt}
use Rattle.model.specs.WellFormed.{WellFormed}
use Rattle.variables.specs.declared.VariableRow.{VariableRow}
use Rattle.variables.specs.Rows.{variable_rows}
use Rattle.interpreter.specs.declared.Fault.{Fault}
use Rattle.expressions.specs.Cells.{valuation_of}
use Rattle.interpreter.specs.Cells.{NextPlaces}
use Rattle.semantics.specs.Propagation.{Reached}
use Rattle.semantics.specs.Propagation.Reached.{stopped, reached}

unfoldable pub finding_of : Option Fault → Result (Unit {0}) Fault
finding_of none = Ok tt
finding_of (some f) = Err f

-- how the rounds ended, whatever their number: with the fault that the last of them found, or with none
unfoldable pub ending : Result ℕ Fault → Result (Unit {0}) Fault
ending (Err f) = Err f
ending (Ok count) = Ok tt

-- what the rounds came to, with the cells as they are left
unfoldable pub reached_in : Result ℕ Fault → List (Optional ℤ) → Reached
reached_in (Err f) cells = stopped f
reached_in (Ok count) cells = reached count (valuation_of cells)

-- the assertion of a well-formed system stands at the place, and the rows are those of its variables
pub record AssertionStands (ks : List ℕ) (ps : List ℤ) (nexts : List ℕ) (rows : List VariableRow) (at : ℕ) : Type 0 where
  pub system : System
  pub well_formed : WellFormed system
  pub stands : InstructionAt ks ps system.assertion at
  pub places : NextPlaces ks ps nexts
  pub rows_held : rows ≡ variable_rows (variables system)
