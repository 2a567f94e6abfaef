-- What each function promises gives the promise of its call: theorem CallsReached. Every list has results: theorem PerformancesExist.
use mathlib.Core.Path.{◌≡◌, refl, ap, ◌∙◌}
use mathlib.Core.List.{List, [], ◌∷◌}
use Prim.Native.Nat.{ℕ}
use Rattle.model.specs.declared.Sizes.{Sizes}
use Rattle.std.proofs.Common.{Result}
use Rattle.results.specs.declared.refusal.Refusal.{Refusal}
use Rattle.model.specs.Check.{Verdict, verdict, answer_of}
use Rattle.model.specs.Check.Verdict.{refusal, accepted}
use Rattle.semantics.specs.Meanings.{Meaning, meaning_of}
use Rattle.run.specs.declared.Call.{Call}
use Rattle.run.specs.declared.Call.TheVariants.{Check, Start, Fire, Undo, Marks, Value, Pick, FirstOutside}
use Rattle.standing.specs.Runs.{Run, Store, Answer, Done, run, store, answered}
use Rattle.standing.specs.Runs.Answer.{rounds, done, number, picked}
use Rattle.steps.specs.Answers.{seen_as, on_file, on_file_answer}
use Rattle.steps.specs.Calls as calls
use Rattle.inspection.specs.Asked.{told_outside}
use Rattle.inspection.specs.Queries as queries
use Rattle.run.specs.Lists.{on_run, on_buffer, call_on, call_by, call, calls_by}
use Rattle.run.specs.Lists.Performed.{nothing, next}
use Rattle.run.specs.Promises.{seen_check}
use Rattle.run.specs.Theorems.{CallsReached, PerformancesExist}

module _ (s : Store) where
  pub check_reached : (v : Verdict) (r : Result Sizes Refusal) → r ≡ answer_of v → answered (seen_check r) s ≡ call_by v Check s
  unfolding answer_of call_by call_on
  check_reached (refusal n) r e = ap (λ r. answered (seen_check r) s) e
  check_reached (accepted z t) r e = ap (λ r. answered (seen_check r) s) e

  -- a call that is lent the run
  pub run_reached : (c : Call) (f : Meaning → Done Run) → ((z : Sizes) (m : Meaning) → on_run s (f m) ≡ call_on z m c s)
      → (v : Verdict) (a : Answer) (left : Run) → answered a left ≡ on_file v f s.run → answered a (store left s.buffer) ≡ call_by v c s
  unfolding on_file call_by
  run_reached c f same v a left e = ap (on_run s) e ∙ go v
    where
      go : (v : Verdict) → on_run s (on_file v f s.run) ≡ call_by v c s
      go (refusal n) = refl
      go (accepted z t) = same z (meaning_of t)

  pub marks_reached : (v : Verdict) (a : Answer) (left : List ℕ) → answered a left ≡ on_file v (λ m. queries.marks m s.run s.buffer) s.buffer
      → answered a (store s.run left) ≡ call_by v Marks s
  unfolding on_file call_by call_on
  marks_reached v a left e = ap (on_buffer s) e ∙ go v
    where
      go : (v : Verdict) → on_buffer s (on_file v (λ m. queries.marks m s.run s.buffer) s.buffer) ≡ call_by v Marks s
      go (refusal n) = refl
      go (accepted z t) = refl

  -- a call that is lent nothing that it could change
  answer_reached : (c : Call) (f : Meaning → Answer) → ((z : Sizes) (m : Meaning) → answered (f m) s ≡ call_on z m c s)
      → (v : Verdict) (a : Answer) → a ≡ on_file_answer v f → answered a s ≡ call_by v c s
  unfolding on_file_answer call_by
  answer_reached c f same v a e = ap (λ a. answered a s) e ∙ go v
    where
      go : (v : Verdict) → answered (on_file_answer v f) s ≡ call_by v c s
      go (refusal n) = refl
      go (accepted z t) = same z (meaning_of t)

  pub value_reached : (x : ℕ) (v : Verdict) (a : Answer) → a ≡ on_file_answer v (λ m. queries.value m x s.run) → answered a s ≡ call_by v (Value x) s
  unfolding call_on
  value_reached x = answer_reached (Value x) (λ m. queries.value m x s.run) (λ z m. refl)

  pub pick_reached : (v : Verdict) (a : Answer) → a ≡ on_file_answer v (λ m. queries.pick m s.run) → answered a s ≡ call_by v Pick s
  unfolding call_on
  pick_reached = answer_reached Pick (λ m. queries.pick m s.run) (λ z m. refl)

  pub range_reached : (v : Verdict) (a : Answer) → a ≡ on_file_answer v (λ m. queries.range_check m s.run.values) → answered a s ≡ call_by v FirstOutside s
  unfolding call_on
  range_reached = answer_reached FirstOutside (λ m. queries.range_check m s.run.values) (λ z m. refl)

-- ---- the calls that are lent the run, on a file

module _ (m : List ℕ) (s : Store) (a : Answer) (left : Run) where
  pub start_reached : answered a left ≡ on_file (verdict m) (λ m. calls.start m s.run) s.run
      → answered a (store left s.buffer) ≡ call m Start s
  unfolding call_on
  start_reached = run_reached s Start (λ m. calls.start m s.run) (λ z m. refl) (verdict m) a left

  pub fire_reached : (t : ℕ) → answered a left ≡ on_file (verdict m) (λ m. calls.fire m t s.run) s.run
      → answered a (store left s.buffer) ≡ call m (Fire t) s
  unfolding call_on
  fire_reached t = run_reached s (Fire t) (λ m. calls.fire m t s.run) (λ z m. refl) (verdict m) a left

  pub undo_reached : answered a left ≡ on_file (verdict m) (λ m. calls.undo m s.run) s.run
      → answered a (store left s.buffer) ≡ call m Undo s
  unfolding call_on
  undo_reached = run_reached s Undo (λ m. calls.undo m s.run) (λ z m. refl) (verdict m) a left

-- ---- the theorems

pub calls_reached : CallsReached
calls_reached = record {
  check = λ m s r e. check_reached s (verdict m) r e;
  start = λ m values marks history n buffer r values' marks' n' e.
      start_reached m (store (run values marks history n) buffer) (seen_as rounds r) (run values' marks' history n') (e.0 history);
  fire = λ m values marks history n t buffer r values' marks' history' n' e.
      fire_reached m (store (run values marks history n) buffer) (seen_as rounds r) (run values' marks' history' n') t e.0;
  undo = λ m values marks history n buffer r values' marks' n' e.
      undo_reached m (store (run values marks history n) buffer) (seen_as (λ _. done) r) (run values' marks' history n') e;
  marks = λ m values marks history n buffer r buffer' e. marks_reached (store (run values marks history n) buffer) (verdict m) (seen_as (λ _. done) r) buffer' e;
  value = λ m values marks history n x buffer r e. value_reached (store (run values marks history n) buffer) x (verdict m) (seen_as number r) e;
  pick = λ m values marks history n buffer r e. pick_reached (store (run values marks history n) buffer) (verdict m) (seen_as picked r) e;
  first_outside = λ m values marks history n buffer r e. range_reached (store (run values marks history n) buffer) (verdict m) (seen_as told_outside r) e;
}

pub performances_exist : PerformancesExist
unfolding calls_by
performances_exist m [] s = nothing
performances_exist m (c ∷ cs) s = next refl (performances_exist m cs (call m c s).left)
