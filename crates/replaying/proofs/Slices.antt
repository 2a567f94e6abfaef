-- What the slices of a decoded model tell of its meaning: its initial values, and that it writes each cell.
use mathlib.Core.Path.{◌≡◌, refl, sym, ap, ◌∙◌}
use mathlib.Core.List.{List, [], ◌∷◌, map}
use Prim.Native.Nat.{ℕ, zero, suc, ◌≤◌}
use native.Mathlib.Omega.{arith}
use lib.IntN.{ℤ}
use lib.ListN.{length, take, length-append}
use lib.Seq.{take_at, length-take-le}
use Rattle.model.specs.declared.Model.{Model}
use Rattle.model.specs.Trees.{variables}
use Rattle.results.specs.Results.{over}
use Rattle.variables.specs.declared.VariableRow.{VariableRow}
use Rattle.variables.specs.Rows.{variable_row, firsts_in}
use Rattle.variables.proofs.Columns.{firsts_of, column_length}
use Rattle.engine.specs.Cells.{Loaded}
use Rattle.engine.proofs.Loading.{loaded_states}
use Rattle.engine.proofs.Counts.{meaning, rows_count}
use Rattle.semantics.specs.Meanings.{meaning_of}
use Rattle.replaying.specs.Replays.{initial}
use Rattle.replaying.proofs.Written.{Complete}
use Rattle.replaying.proofs.Ends.{settle_complete}

take_map : {A B : Type 0} (f : A → B) (n : ℕ) (l : List A) → take n (map f l) ≡ map f (take n l)
take_map f zero l = refl
take_map f (suc n) [] = refl
take_map f (suc n) (a ∷ l) = ap (λ k. f a ∷ k) (take_map f n l)

module _ {model : Model} {kinds : List ℕ} {parameters : List ℤ} {rows : List VariableRow} {nexts guards : List ℕ}
    (d : Loaded model kinds parameters rows nexts guards) where
  pub meaning_complete : Complete (meaning d)
  unfolding meaning_of
  meaning_complete = settle_complete d.decoded.system

  pub states_within : model.sizes.states ≤ length rows
  unfolding meaning_of
  states_within = omega (arith, rows_count d, loaded_states d, length-append d.decoded.system.states d.decoded.system.flows)

  -- the first values of the rows of the states
  first_states : firsts_in (take model.sizes.states rows) ≡ initial (meaning d)
  unfolding meaning_of
  first_states =
      rw (d.decoded.variables_decoded, loaded_states d, take_map variable_row (length d.decoded.system.states) (variables d.decoded.system))
      (firsts_of (take (length d.decoded.system.states) (variables d.decoded.system)))

  -- an array that begins with them
  module _ (cells old : List ℤ) (e : cells ≡ over (firsts_in (take model.sizes.states rows)) old) where
    first_count : length (firsts_in (take model.sizes.states rows)) ≡ model.sizes.states
    first_count = column_length (λ row. row.first) (take model.sizes.states rows) ∙ length-take-le model.sizes.states rows states_within

    first_part : take model.sizes.states cells ≡ firsts_in (take model.sizes.states rows)
    first_part = ap (take model.sizes.states) e ∙ take_at (firsts_in (take model.sizes.states rows)) _ model.sizes.states first_count

    pub initial_part : take (meaning d).states cells ≡ initial (meaning d)
    unfolding meaning_of
    initial_part = ap (λ s. take s cells) (sym (loaded_states d)) ∙ first_part ∙ first_states
