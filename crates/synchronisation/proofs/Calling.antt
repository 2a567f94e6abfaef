-- 35, 11, then the new model; what an accepted model is decoded to.
use mathlib.Core.Path.{◌≡◌, refl, sym, ap, ◌∙◌}
use mathlib.Core.Bool.{true, false, true≢false, ◌&&◌}
use mathlib.Core.List.{List}
use mathlib.Core.Option.{Option, some, none}
use Prim.Native.Nat.{ℕ, ◌+◌, ◌≤◌}
use lib.IntN.{ℤ}
use native.Mathlib.Omega.{arith}
use lib.ListN.{length, take, replicate, length-replicate}
use lib.Seq.{length-take-le}
use Rattle.results.specs.Results.{Answered, answered}
use Rattle.kinds.specs.declared.Sort.{Sort}
use Rattle.kinds.specs.declared.Sort.TheVariants.{Boolean}
use Rattle.model.specs.declared.Model.{Model}
use Rattle.model.specs.declared.Sizes.{Sizes}
use Rattle.model.specs.Trees.{Transition, System, sorts_of}
use Rattle.model.specs.Sizes.{file_layout}
use Rattle.model.specs.Check.{verdict, parameters_in}
use Rattle.standing.specs.Holding.{all_below}
use Rattle.std.proofs.Common.{Result, Err}
use Rattle.results.specs.declared.refusal.Refusal.{Refusal}
use Rattle.tables.specs.declared.Tables.{Tables}
use Rattle.decoding.specs.Decoding.{Arrays, LentOf, VariablesRead}
use Rattle.decoding.proofs.Preparing.{variables_read}
use Rattle.decoding.proofs.InUse.{InUse}
use Rattle.steps.proofs.Parts.{loaded_lent}
use Rattle.results.specs.declared.refusal.Refusal.TheVariants.{NoSuchTransition}
use Rattle.synchronisation.specs.Synchronisations.{members_of, together, is_empty, extended_into, joined_into, synchronised_in, synchronised_by}
use Rattle.synchronisation.specs.Members.{SystemIn, MembersFound}
use Rattle.synchronisation.proofs.Listed.{is_there, members_there}

-- ---- what is there, and what is not

none_of : {A : Type 0} (o : Option A) → is_there o ≡ false → o ≡ none
unfolding is_there
none_of none e = refl
none_of (some a) e = absurd (true≢false e)

some_of : {A : Type 0} (o : Option A) → is_there o ≡ true → (a : A) × (o ≡ some a)
unfolding is_there
some_of none e = absurd (true≢false (sym e))
some_of (some a) e = (a, refl)

-- ---- the refusals of the lists, or the new model

module _ (t : System) (ms os old : List ℕ) where
  module _ (given : (is_empty ms && is_empty os) ≡ false) where
    past_empty : synchronised_in t ms os old ≡ joined_into t (members_of t.transitions ms) (members_of t.transitions os) old
    past_empty = rw given

    pub mandatory_missing : all_below (length t.transitions) ms ≡ false → answered (Err NoSuchTransition) old ≡ synchronised_in t ms os old
    unfolding joined_into
    mandatory_missing e =
        let gone = none_of (members_of t.transitions ms) (members_there t.transitions ms ∙ e) in
        sym (past_empty ∙ ap (λ (o : Option (List Transition)). joined_into t o (members_of t.transitions os) old) gone)

    module _ (here : all_below (length t.transitions) ms ≡ true) where
      mandatory_there : (ts : List Transition) × (members_of t.transitions ms ≡ some ts)
      mandatory_there = some_of (members_of t.transitions ms) (members_there t.transitions ms ∙ here)

      pub optional_missing : all_below (length t.transitions) os ≡ false → answered (Err NoSuchTransition) old ≡ synchronised_in t ms os old
      unfolding joined_into
      optional_missing e =
          let gone = none_of (members_of t.transitions os) (members_there t.transitions os ∙ e) in
          sym (past_empty ∙ ap (λ (o : Option (List Transition)). joined_into t o (members_of t.transitions os) old) mandatory_there.1
          ∙ ap (λ (o : Option (List Transition)). joined_into t (some mandatory_there.0) o old) gone)

      pub members_found : all_below (length t.transitions) os ≡ true → MembersFound t ms os
      members_found e =
          let there = some_of (members_of t.transitions os) (members_there t.transitions os ∙ e) in
          record {
            given = given;
            mandatory = mandatory_there.0;
            optional = there.0;
            mandatory_found = mandatory_there.1;
            optional_found = there.1;
          }

  pub members_joined : (f : MembersFound t ms os) {x : Answered (Result ℕ Refusal) (List ℕ)}
      → x ≡ extended_into t (together t.events f.mandatory f.optional) old → x ≡ synchronised_in t ms os old
  unfolding joined_into
  members_joined f e =
      e
      ∙ sym (past_empty f.given ∙ ap (λ (o : Option (List Transition)). joined_into t o (members_of t.transitions os) old) f.mandatory_found
      ∙ ap (λ (o : Option (List Transition)). joined_into t (some f.mandatory) o old) f.optional_found)

-- ---- the model's check

module _ (m : List ℕ) (a : Arrays) (d : Model) (u : InUse m a d) where
  pub model_accepted : (ms os old : List ℕ) {y : Answered (Result ℕ Refusal) (List ℕ)} → y ≡ synchronised_in u.decoding.system ms os old
      → y ≡ synchronised_by (verdict m) ms os old
  unfolding synchronised_by
  model_accepted ms os old h = h ∙ ap (λ v. synchronised_by v ms os old) (sym u.decoding.checked)

  -- the sorts of an accepted model's variables, read off its kinds
  module _ (t : Tables) (l : LentOf m a d t) {count : ℕ} (e : count ≡ d.sizes.states + d.sizes.flows) where
    abbrev declared : VariablesRead t.kinds.now (parameters_in file_layout d.sizes.nodes m) count
    declared = variables_read m d.sizes t.kinds.now _ l.kinds refl e u.decoding.system u.decoding.checked

    pub sorts_asked : (ps : List ℤ) × VariablesRead t.kinds.now ps count
    sorts_asked = (parameters_in file_layout d.sizes.nodes m, declared)

    abbrev pub system_lent : (sorts : List Sort) → ((ps : List ℤ) (r : VariablesRead t.kinds.now ps count) → sorts ≡ sorts_of r.variables) → SystemIn t sorts
    system_lent sorts read = record { rows = t.variables.now; loaded = loaded_lent m a d u t l; sorts_held = read _ declared }

-- of so many cells, which are enough, one for each variable
pub cells_cut : (cells : ℕ) (s : Sizes) {k : ℕ} → k ≡ s.states + s.flows → s.states + s.flows ≤ cells
    → length (take k (replicate cells Boolean)) ≡ s.states + s.flows
cells_cut cells s {k} e h = length-take-le k (replicate cells Boolean) (omega (arith, length-replicate cells Boolean, e, h)) ∙ e
