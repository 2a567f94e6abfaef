-- The declarations of an accepted file are those of its model; a call on a file from one over these.
use mathlib.Core.Path.{◌≡◌, ap, ◌∙◌}
use mathlib.Core.List.{List}
use Prim.Native.Nat.{ℕ, ◌+◌}
use mir.Syntax.{w8}
use mir.Val.{Fits}
use lib.ListN.{length, get_or, take}
use Rattle.model.specs.declared.Sizes.{Sizes}
use Rattle.model.specs.Check.{Verdict, verdict}
use Rattle.model.proofs.CheckExact.{check_exact}
use Rattle.decoding.proofs.VariablesInUse.{RowsInUse}
use Rattle.semantics.specs.Meanings.{Meaning, meaning_of}
use Rattle.standing.specs.declared.Declared.{Declared}
use Rattle.standing.specs.Runs.{Answer, Done}
use Rattle.steps.specs.Answers.{on_file, on_file_answer}
use Rattle.steps.proofs.Declarations.{rows_declared}
use Rattle.inspection.specs.Asked.{DeclaredIn}
use Rattle.variables.specs.declared.VariableRow.{VariableRow}

pub declared_in : (m : List ℕ) (s : Sizes) (left : List VariableRow) → RowsInUse m s left → ((i : ℕ) → Fits w8 (get_or m i 0))
    → (d : Declared) → d.transitions ≡ s.transitions → d.variables.now ≡ take (s.states + s.flows) left → DeclaredIn (verdict m) d
unfolding meaning_of
declared_in m s left u bytes d transitions rows =
    record {
      sizes = s;
      system = u.system;
      checked = u.checked;
      declares =
          record {
            counted = transitions ∙ ap (λ (s : Sizes). s.transitions) ((check_exact m (λ i h. (bytes i).fits) s u.system).0 u.checked).1;
            declared = rows ∙ u.decoded;
          };
    }

-- ---- on a file that is accepted

module _ {v : Verdict} {declared : Declared} (d : DeclaredIn v declared) where
  abbrev pub model : Meaning
  model = meaning_of d.system

  pub transitions_count : declared.transitions ≡ model.transitions
  transitions_count = d.declares.counted

  pub rows_count : length declared.variables.now ≡ length model.declarations
  rows_count = rows_declared d.declares

  pub on_model : {A : Type 0} (f : Meaning → Done A) (a : A) → f (meaning_of d.system) ≡ on_file v f a
  unfolding on_file
  on_model f a = rw d.checked

  pub on_model_answer : (f : Meaning → Answer) → f (meaning_of d.system) ≡ on_file_answer v f
  unfolding on_file_answer
  on_model_answer f = rw d.checked
