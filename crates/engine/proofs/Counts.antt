-- How many variables and transitions a loaded model has.
use mathlib.Core.Path.{◌≡◌}
use mathlib.Core.List.{List}
use Prim.Native.Nat.{ℕ}
use lib.IntN.{ℤ}
use lib.ListN.{length}
use Rattle.model.specs.declared.Model.{Model}
use Rattle.model.specs.Trees.{variables}
use Rattle.variables.proofs.Columns.{row_count}
use Rattle.semantics.specs.Meanings.{Meaning, meaning_of}
use Rattle.engine.specs.Cells.{Loaded}
use Rattle.engine.proofs.Loading.{loaded_guards}
use Rattle.variables.specs.declared.VariableRow.{VariableRow}

module _ {model : Model} {kinds : List ℕ} {parameters : List ℤ} {rows : List VariableRow} {nexts guards : List ℕ}
    (d : Loaded model kinds parameters rows nexts guards) where
  abbrev pub meaning : Meaning
  meaning = meaning_of d.decoded.system

  pub rows_count : length rows ≡ length meaning.declarations
  unfolding meaning_of
  rows_count = row_count (variables d.decoded.system) d.decoded.variables_decoded

  pub guards_count : length guards ≡ meaning.transitions
  unfolding meaning_of
  guards_count = loaded_guards d
