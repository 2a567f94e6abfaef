-- The first cells that `sorts_of` and `rows_in` leave: something of each of an accepted model's variables.
use mathlib.Core.Path.{◌≡◌, refl, sym, ap, ◌∙◌}
use mathlib.Core.List.{List, ◌++◌}
use Prim.Native.Nat.{ℕ, ◌+◌, ◌≤◌}
use lib.IntN.{ℤ}
use lib.ListN.{length, take, drop, length-map}
use Rattle.std.specs.Prelude.{Result, Ok, Err}
use Rattle.results.specs.declared.refusal.Refusal.{Refusal}
use Rattle.kinds.specs.declared.Sort.{Sort}
use Rattle.results.specs.Results.{answered, over}
use Rattle.model.specs.declared.Sizes.{Sizes}
use Rattle.model.specs.Trees.{Variable, System, variables, sorts_of}
use Rattle.model.specs.Sizes.{file_layout, max_variables}
use Rattle.model.specs.Check.{Verdict, verdict, answer_of, kinds_in, parameters_in}
use Rattle.model.specs.Check.Verdict.{refusal, accepted}
use Rattle.variables.specs.declared.VariableRow.{VariableRow}
use Rattle.variables.specs.Rows.{variable_row, variable_rows}
use Rattle.decoding.specs.Decoding.{VariablesRead, sorts_after}
use Rattle.decoding.proofs.Accepted.{accepted_file}
use Rattle.decoding.proofs.InUse.{take_over}
use Rattle.model.proofs.Verdicts.{answer_refused, answer_accepted}
use Rattle.decoding.proofs.Preparing.{variables_read}
use Rattle.decoding.proofs.StoredVariables.{cells_over}

-- the first cells are of an accepted model's variables
pub record VariablesInUse {A : Type 0} (f : List Variable → List A) (m : List ℕ) (s : Sizes) (left : List A) : Type 0 where
  pub system : System
  pub checked : verdict m ≡ accepted s system
  pub decoded : take (s.states + s.flows) left ≡ f (variables system)
  pub few : s.states + s.flows ≤ max_variables
  pub part : s.states + s.flows ≡ length (take (s.states + s.flows) left)

module _ {A : Type 0} (f : List Variable → List A) (one_each : (vs : List Variable) → length (f vs) ≡ length vs) where
  variables_in_use : (m : List ℕ) (old left : List A) (s : Sizes) (t : System) → verdict m ≡ accepted s t → left ≡ over (f (variables t)) old → VariablesInUse f m s left
  variables_in_use m old left s t v e =
      let file = accepted_file m s t v in
      let many : length (f (variables t)) ≡ s.states + s.flows = one_each (variables t) ∙ file.system.number in
      let front : take (s.states + s.flows) left ≡ f (variables t) =
      ap (take (s.states + s.flows)) e ∙ take_over (f (variables t)) old (s.states + s.flows) many in
      record { system = t; checked = v; decoded = front; few = file.sizes.variables; part = sym (ap length front ∙ many) }

-- ---- sorts

abbrev pub SortsInUse : List ℕ → Sizes → List Sort → Type 0
SortsInUse = VariablesInUse sorts_of

-- a model that was refused
pub sorts_kept : (m : List ℕ) (old : List Sort) (n : Refusal) → answer_of (verdict m) ≡ Err n → answered (Err n) old ≡ sorts_after (verdict m) old
unfolding sorts_after
sorts_kept m old n e = ap (λ v. sorts_after v old) (sym (answer_refused n (verdict m) e))

-- by the kinds alone
pub sorts_read : (m : List ℕ) (old : List Sort) (s : Sizes) (ks : List ℕ) (new : List Sort) (count many : ℕ) → answer_of (verdict m) ≡ Ok s
    → ks ≡ kinds_in file_layout s.nodes m → count ≡ s.states + s.flows → many ≡ count
    → ((ps : List ℤ) (r : VariablesRead ks ps many) → new ≡ sorts_of r.variables)
    → answered (Ok s) (new ++ drop count old) ≡ sorts_after (verdict m) old
unfolding sorts_after
sorts_read m old s ks new count many e k n l f =
    let a = answer_accepted s (verdict m) e in
    let left : new ++ drop count old ≡ over (sorts_of (variables a.0)) old =
    cells_over old (f _ (variables_read m s ks (parameters_in file_layout s.nodes m) k refl (l ∙ n) a.0 a.1))
    (length-map (variables a.0) (λ v. v.sort) ∙ (accepted_file m s a.0 a.1).system.number ∙ sym n) in
    ap (answered (Ok s)) left ∙ ap (λ v. sorts_after v old) (sym a.1)

pub sorts_refused : (old left : List Sort) (r : Result Sizes Refusal) (n : Refusal) (v : Verdict) → answered r left ≡ sorts_after v old → r ≡ Err n → v ≡ refusal n
unfolding sorts_after
sorts_refused old left r n (refusal k) e h =
    let a : Err k ≡ Err n = sym (ap (λ p. p.answer) e) ∙ h in
    let z : k ≡ n = cc in ap refusal z
sorts_refused old left r n (accepted s t) e h =
    let a : Ok s ≡ Err n = sym (ap (λ p. p.answer) e) ∙ h in
    cc

module _ (m : List ℕ) (old left : List Sort) (s : Sizes) where
  sorts_by : (r : Result Sizes Refusal) (v : Verdict) → verdict m ≡ v → answered r left ≡ sorts_after v old → r ≡ Ok s → SortsInUse m s left
  unfolding sorts_after
  sorts_by r (refusal n) h e q =
      let a : Err n ≡ Ok s = sym (ap (λ p. p.answer) e) ∙ q in
      cc
  sorts_by r (accepted p t) h e q =
      let a : Ok p ≡ Ok s = sym (ap (λ p. p.answer) e) ∙ q in
      let z : p ≡ s = cc in
      variables_in_use sorts_of (λ vs. length-map vs (λ v. v.sort)) m old left s t (h ∙ ap (λ s. accepted s t) z) (ap (λ p. p.left) e)

  pub sorts_in_use : (r : Result Sizes Refusal) → answered r left ≡ sorts_after (verdict m) old → r ≡ Ok s → SortsInUse m s left
  sorts_in_use r e q = sorts_by r (verdict m) refl e q

-- ---- rows

abbrev pub RowsInUse : List ℕ → Sizes → List VariableRow → Type 0
RowsInUse = VariablesInUse variable_rows

pub rows_in_use : (m : List ℕ) (old left : List VariableRow) (s : Sizes) → answer_of (verdict m) ≡ Ok s
    → ((t : System) → verdict m ≡ accepted s t → left ≡ over (variable_rows (variables t)) old) → RowsInUse m s left
rows_in_use m old left s e f =
    let a = answer_accepted s (verdict m) e in
    variables_in_use variable_rows (λ vs. length-map vs variable_row) m old left s a.0 a.1 (f a.0 a.1)
