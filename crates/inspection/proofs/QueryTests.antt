-- Marks, value and the check of the values, by the tests that the code makes.
use mathlib.Core.Path.{◌≡◌, sym, ap, ◌∙◌}
use mathlib.Core.Bool.{true, false}
use mathlib.Core.List.{List, ◌++◌, map}
use Prim.Native.Nat.{ℕ, ◌≤◌, ◌<◌}
use native.Mathlib.Omega.{arith}
use borrow.Author.Tests.{lt-ltb, le-ltb, clash}
use lib.IntN.{ℤ, pos}
use lib.ListN.{length, get_or, take, drop}
use lib.Seq.{length-take-le}
use Rattle.std.proofs.lemmas.List.{get_or-take}
use Rattle.std.specs.Prelude.{Option, Some, None, Result, Ok}
use Rattle.std.specs.Option.{ok_or}
use Rattle.std.specs.Borrow.{Bor}
use Rattle.std.specs.Slice.{IsItemAt}
use Rattle.results.specs.declared.refusal.Refusal.{Refusal}
use Rattle.results.specs.declared.refusal.Refusal.TheVariants.{NoSuchVariable, InvalidRun}
use Rattle.results.specs.Refusals.{number_of}
use Rattle.model.specs.Check.{Verdict}
use Rattle.semantics.specs.Meanings.{Meaning}
use Rattle.standing.specs.declared.Declared.{Declared}
use Rattle.standing.specs.declared.RangeCheck.{RangeCheck}
use Rattle.standing.specs.Runs.{Run, answered}
use Rattle.standing.specs.Runs.Answer.{refused, done, number, outside}
use Rattle.standing.specs.Holding.{IsEnough, holds, ends_of, holds_declared, first_outside, looked_at}
use Rattle.standing.proofs.Holding.{outside_rows}
use Rattle.steps.specs.Answers.{on_file, on_file_answer}
use Rattle.steps.proofs.Declarations.{holds_same}
use Rattle.inspection.specs.Asked.{DeclaredIn}
use Rattle.inspection.specs.Queries.{marks, value, range_check}
use Rattle.inspection.proofs.Asked.{model, transitions_count, rows_count, on_model, on_model_answer}
use Rattle.variables.specs.declared.VariableRow.{VariableRow}

-- the value of a variable is asked of the first n values, where there may be none
module _ (n : ℕ) (values : List ℤ) (enough : n ≤ length values) (x : ℕ) where
  pub there : (o : Option (Bor ℤ)) → IsItemAt (take n values) x o → (r : Result (Bor ℤ) Refusal) → r ≡ ok_or o NoSuchVariable
      → (v : Bor ℤ) → r ≡ Ok v → (x < n) × (v.now ≡ get_or values x (pos 0))
  there None got r f v q = absurd (clash cc)
  there (Some w) got r f v q =
      let same : w ≡ v = cc in
      let known : x < n = omega (arith, got.3.0, length-take-le n values enough) in
      (known, ap (λ (b : Bor ℤ). b.now) (sym same) ∙ got.4 (omega arith) (pos 0) ∙ get_or-take n values x (pos 0) known)

module _ (m : Meaning) (r : Run) where
  module _ (enough : length m.declarations ≤ length r.values) where
    module _ (room : m.transitions ≤ length r.marks) where
      module _ (x : ℕ) (known : x < length m.declarations) where
        pub value_stale : holds m r ≡ false → refused 20 ≡ value m x r
        unfolding value
        value_stale h = rw (le-ltb (length r.values) (length m.declarations) enough, le-ltb (length r.marks) m.transitions room, lt-ltb x (length m.declarations) known, h)

        pub value_done : holds m r ≡ true → (v : ℤ) → v ≡ get_or r.values x (pos 0) → number v ≡ value m x r
        unfolding value
        value_done h v e = rw (le-ltb (length r.values) (length m.declarations) enough, le-ltb (length r.marks) m.transitions room, lt-ltb x (length m.declarations) known, h, e)

      module _ (buffer : List ℕ) where
        module _ (space : m.transitions ≤ length buffer) where
          pub marks_stale : holds m r ≡ false → answered (refused 20) buffer ≡ marks m r buffer
          unfolding marks
          marks_stale h = rw (le-ltb (length r.values) (length m.declarations) enough, le-ltb (length r.marks) m.transitions room, le-ltb (length buffer) m.transitions space, h)

          pub marks_done : holds m r ≡ true → (new : List ℕ) → new ≡ take m.transitions r.marks ++ drop m.transitions buffer
              → answered done new ≡ marks m r buffer
          unfolding marks
          marks_done h new e = rw (le-ltb (length r.values) (length m.declarations) enough, le-ltb (length r.marks) m.transitions room, le-ltb (length buffer) m.transitions space, h, e)

-- ---- on a file, over its declarations

module _ {v : Verdict} {declared : Declared} (d : DeclaredIn v declared) where
  abbrev rows : List VariableRow
  rows = declared.variables.now

  module _ (r : Run) where
    module _ (enough : IsEnough declared r) where
      values_there : length (model d).declarations ≤ length r.values
      values_there = omega (arith, rows_count d, enough.0)

      marks_there : (model d).transitions ≤ length r.marks
      marks_there = omega (arith, transitions_count d, enough.1)

      module _ (buffer : List ℕ) (space : declared.transitions ≤ length buffer) where
        space_there : (model d).transitions ≤ length buffer
        space_there = omega (arith, transitions_count d, space)

        pub marks_of_no_run : {n : ℕ} → n ≡ number_of InvalidRun → holds_declared declared r ≡ false → answered (refused n) buffer ≡ on_file v (λ m. marks m r buffer) buffer
        unfolding number_of
        marks_of_no_run k t =
            rw k (marks_stale (model d) r values_there marks_there buffer space_there (sym (holds_same d.declares r) ∙ t) ∙ on_model d (λ m. marks m r buffer) buffer)

        pub marks_copied : holds_declared declared r ≡ true → (new : List ℕ) → new ≡ take declared.transitions r.marks ++ drop declared.transitions buffer
            → answered done new ≡ on_file v (λ m. marks m r buffer) buffer
        marks_copied t new e =
            marks_done (model d) r values_there marks_there buffer space_there (sym (holds_same d.declares r) ∙ t) new (e ∙ ap (λ n. take n r.marks ++ drop n buffer) (transitions_count d))
            ∙ on_model d (λ m. marks m r buffer) buffer

      module _ (x : ℕ) (known : x < length rows) where
        known_there : x < length (model d).declarations
        known_there = omega (arith, rows_count d, known)

        pub value_of_no_run : {n : ℕ} → n ≡ number_of InvalidRun → holds_declared declared r ≡ false → refused n ≡ on_file_answer v (λ m. value m x r)
        unfolding number_of
        value_of_no_run k t =
            rw k (value_stale (model d) r values_there marks_there x known_there (sym (holds_same d.declares r) ∙ t) ∙ on_model_answer d (λ m. value m x r))

        pub value_held : holds_declared declared r ≡ true → (held : ℤ) → held ≡ get_or r.values x (pos 0) → number held ≡ on_file_answer v (λ m. value m x r)
        value_held t held e =
            value_done (model d) r values_there marks_there x known_there (sym (holds_same d.declares r) ∙ t) held e ∙ on_model_answer d (λ m. value m x r)

  module _ (values : List ℤ) where
    pub range_checked : length rows ≤ length values → (c : RangeCheck) → c.outside ≡ first_outside (map ends_of rows) values 0
        → c.looked ≡ looked_at (length rows) (first_outside (map ends_of rows) values 0)
        → outside c.outside c.looked ≡ on_file_answer v (λ m. range_check m values)
    unfolding range_check
    range_checked h c o l =
        let same : first_outside (map ends_of rows) values 0 ≡ first_outside (model d).declarations values 0 =
        ap (λ l. first_outside (map ends_of l) values 0) d.declares.declared ∙ outside_rows (model d).declarations values 0 in
        rw (← on_model_answer d (λ m. range_check m values), le-ltb (length values) (length (model d).declarations) (omega (arith, rows_count d, h)), o, l, same, rows_count d)
