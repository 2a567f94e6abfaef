-- What is declared: how many variables there are, and whether a run holds; a loaded model declares its own.
use mathlib.Core.Path.{◌≡◌, ap, ◌∙◌}
use mathlib.Core.Bool.{◌&&◌}
use mathlib.Core.List.{map}
use lib.ListN.{length, length-map}
use Rattle.std.specs.Prelude.{is_none}
use Rattle.tables.specs.declared.Tables.{Tables}
use Rattle.variables.specs.Rows.{variable_row}
use Rattle.semantics.specs.Meanings.{Meaning, meaning_of}
use Rattle.engine.specs.Lent.{LoadedIn}
use Rattle.engine.proofs.Counts.{meaning, guards_count}
use Rattle.standing.specs.declared.Declared.{Declared}
use Rattle.standing.specs.Runs.{Run}
use Rattle.standing.specs.Holding.{ends_of, history_holds, marks_within, holds, holds_over, holds_declared, declared_by}
use Rattle.standing.proofs.Holding.{outside_rows}
use Rattle.steps.specs.Declarations.{Declares}

module _ {m : Meaning} {d : Declared} (s : Declares m d) where
  pub rows_declared : length d.variables.now ≡ length m.declarations
  rows_declared = ap length s.declared ∙ length-map m.declarations variable_row

  -- the test over what is declared is the test over the model
  pub holds_same : (r : Run) → holds_declared d r ≡ holds m r
  holds_same r =
      ap (λ rows. holds_over d.transitions (map ends_of rows) r) s.declared
      ∙ ap (λ o. history_holds d.transitions r.count r.history && (marks_within d.transitions r.marks && is_none o)) (outside_rows m.declarations r.values 0)
      ∙ ap (λ t. holds_over t m.declarations r) s.counted

pub loaded_declares : (t : Tables) (l : LoadedIn t) {d : Declared} → d ≡ declared_by t → Declares (meaning l) d
unfolding meaning_of
loaded_declares t l e =
    record {
      counted = ap (λ (d : Declared). d.transitions) e ∙ guards_count l;
      declared = ap (λ (d : Declared). d.variables.now) e ∙ l.decoded.variables_decoded;
    }
