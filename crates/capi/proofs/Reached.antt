-- What each function promises is its call: theorem CallsReached.
use mathlib.Core.Path.{◌≡◌, refl, ap, ◌∙◌}
use mathlib.Core.List.{List}
use Prim.Native.Nat.{ℕ}
use Rattle.results.specs.Results.{Answered, answered}
use Rattle.model.specs.Check.{verdict, answer_of}
use Rattle.standing.specs.Runs.{Run, Store, Done, run, store}
use Rattle.steps.specs.Answers.{on_file, on_file_answer}
use Rattle.steps.specs.Calls as calls
use Rattle.inspection.specs.Queries as queries
use Rattle.run.proofs.Reached as runs
use Rattle.capi.specs.Codes.{coded_by, coded_rounds, coded_number, coded_sizes, coded_pick, coded_outside}
use Rattle.capi.specs.Theorems.{CallsReached}

answer_of_lem : {d e : Done Store} → d ≡ e → d.answer ≡ e.answer
answer_of_lem p = ap (λ (d : Done Store). d.answer) p

left_of : {d e : Done Store} → d ≡ e → d.left ≡ e.left
left_of p = ap (λ (d : Done Store). d.left) p

-- the run, or the run and a result, placed into the store
abbrev in_store : List ℕ → Answered ℕ Run → Answered ℕ Store
in_store buffer x = answered x.answer (store x.left buffer)

abbrev in_store_beside : List ℕ → Answered ℕ (Run × ℕ) → Answered ℕ (Store × ℕ)
in_store_beside buffer x = answered x.answer (store x.left.0 buffer, x.left.1)

-- the buffer placed into the store
abbrev buffer_in_store : Run → Answered ℕ (List ℕ) → Answered ℕ Store
buffer_in_store r x = answered x.answer (store r x.left)

pub calls_reached : CallsReached
calls_reached = record {
  check = λ m sizes code sizes' s e.
      let p = runs.check_reached s (verdict m) (answer_of (verdict m)) refl in
      (e ∙ ap (coded_sizes sizes) (answer_of_lem p), left_of p);
  start = λ m values marks history n buffer rounds code values' marks' n' rounds' e.
      let d = on_file (verdict m) (λ m. calls.start m (run values marks history n)) (run values marks history n) in
      ap (in_store_beside buffer) (e.0 history)
      ∙ ap (coded_rounds rounds) (runs.start_reached m (store (run values marks history n) buffer) d.answer d.left refl);
  fire = λ m values marks history n t buffer rounds code values' marks' history' n' rounds' e.
      let d = on_file (verdict m) (λ m. calls.fire m t (run values marks history n)) (run values marks history n) in
      ap (in_store_beside buffer) e.0
      ∙ ap (coded_rounds rounds) (runs.fire_reached m (store (run values marks history n) buffer) d.answer d.left t refl);
  undo = λ m values marks history n buffer code values' marks' n' e.
      let d = on_file (verdict m) (λ m. calls.undo m (run values marks history n)) (run values marks history n) in
      ap (in_store buffer) e ∙ ap coded_by (runs.undo_reached m (store (run values marks history n) buffer) d.answer d.left refl);
  marks = λ m values marks history n buffer code buffer' e.
      let d = on_file (verdict m) (λ m. queries.marks m (run values marks history n) buffer) buffer in
      ap (buffer_in_store (run values marks history n)) e
      ∙ ap coded_by (runs.marks_reached (store (run values marks history n) buffer) (verdict m) d.answer d.left refl);
  value = λ m values marks history n x buffer old code new e.
      let p = runs.value_reached (store (run values marks history n) buffer) x (verdict m) (on_file_answer (verdict m) (λ m. queries.value m x (run values marks history n))) refl in
      (e ∙ ap (coded_number old) (answer_of_lem p), left_of p);
  pick = λ m values marks history n buffer transition found code transition' found' e.
      let p = runs.pick_reached (store (run values marks history n) buffer) (verdict m) (on_file_answer (verdict m) (λ m. queries.pick m (run values marks history n))) refl in
      (e ∙ ap (coded_pick (transition, found)) (answer_of_lem p), left_of p);
  first_outside = λ m values marks history n buffer variable found looked code variable' found' looked' e.
      let p = runs.range_reached (store (run values marks history n) buffer) (verdict m) (on_file_answer (verdict m) (λ m. queries.range_check m values)) refl in
      (e ∙ ap (coded_outside ((variable, found), looked)) (answer_of_lem p), left_of p);
}
