-- The tables that are lent out of the arrays after a file was decoded are what the functions of the engine ask.
use mathlib.Core.Path.{◌≡◌}
use mathlib.Core.List.{List}
use Prim.Native.Nat.{ℕ}
use Rattle.model.specs.declared.Model.{Model}
use Rattle.model.specs.Check.{verdict}
use Rattle.tables.specs.declared.Tables.{Tables}
use Rattle.decoding.specs.Decoding.{Arrays, LentOf}
use Rattle.decoding.proofs.InUse.{InUse, decoded_lent}
use Rattle.semantics.specs.Meanings.{Meaning, meaning_of}
use Rattle.engine.specs.Lent.{LoadedIn}
use Rattle.standing.specs.Runs.{Done}
use Rattle.steps.specs.Answers.{on_file}

module _ (m : List ℕ) (a : Arrays) (d : Model) (u : InUse m a d) (t : Tables) (l : LentOf m a d t) where
  abbrev pub loaded_lent : LoadedIn t
  loaded_lent = record { file = m; bytes = u.bytes; decoded = decoded_lent m a d u t l }

  -- what is done on the file is done on the meaning of its model
  pub on_loaded : {A : Type 0} (f : Meaning → Done A) (lent : A) → on_file (verdict m) f lent ≡ f (meaning_of loaded_lent.decoded.system)
  unfolding on_file
  on_loaded f lent = rw u.decoding.checked
