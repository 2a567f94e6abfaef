-- What each function promises of its answer and of all that it is lent: its `ensures`, word for word. 01: "Each promise is an equation
-- with these definitions, for all arguments, and covers every cell lent". Names with ' stand for what is left.
use Rattle.std.specs.Prelude.{◌≡◌, List, ℕ, ℤ, Option, Result}
use Rattle.results.specs.declared.refusal.Refusal.{Refusal}
use Rattle.model.specs.declared.Sizes.{Sizes}
use Rattle.model.specs.Check.{verdict, answer_of}
use Rattle.run.specs.declared.Call.{Call}
use Rattle.run.specs.declared.Answer as declared
use Rattle.standing.specs.declared.RangeCheck.{RangeCheck}
use Rattle.standing.specs.Runs.{Answer, Run, Store, run, answered}
use Rattle.standing.specs.Runs.Answer.{rounds, done, number, sizes, picked}
use Rattle.steps.specs.Answers.{seen_as, on_file, on_file_answer}
use Rattle.steps.specs.Calls as calls
use Rattle.inspection.specs.Asked.{told_outside}
use Rattle.inspection.specs.Queries as queries
use Rattle.run.specs.Lists.{CountBounded, Promise}

-- the check's answers, by 01's numbers and values
abbrev pub seen_check : Result Sizes Refusal → Answer
seen_check = seen_as sizes

-- what a call of a list answers that is not refused, by 01's values
unfoldable pub told : declared.Answer → Answer
told (declared.TheVariants.Rounds n) = rounds n
told declared.TheVariants.Done = done
told (declared.TheVariants.Number v) = number v
told (declared.TheVariants.Sizes z) = sizes z
told (declared.TheVariants.Picked f) = picked f
told (declared.TheVariants.Outside c) = told_outside c

abbrev pub CheckPromise : List ℕ → Result Sizes Refusal → Type 0
CheckPromise m r = r ≡ answer_of (verdict m)

-- the history is not lent to start
abbrev pub StartPromise : List ℕ → List ℤ → List ℕ → ℕ → Result ℕ Refusal → List ℤ → List ℕ → ℕ → Type 0
StartPromise m values marks n r values' marks' n' =
    ((history : List ℕ)
    → answered (seen_as rounds r) (run values' marks' history n')
    ≡ on_file (verdict m) (λ m. calls.start m (run values marks history n)) (run values marks history n))
    × CountBounded (verdict m) (seen_as rounds r)

abbrev pub FirePromise : List ℕ → List ℤ → List ℕ → List ℕ → ℕ → ℕ → Result ℕ Refusal → List ℤ → List ℕ → List ℕ → ℕ → Type 0
FirePromise m values marks history n t r values' marks' history' n' =
    (answered (seen_as rounds r) (run values' marks' history' n')
    ≡ on_file (verdict m) (λ m. calls.fire m t (run values marks history n)) (run values marks history n))
    × CountBounded (verdict m) (seen_as rounds r)

abbrev pub UndoPromise : List ℕ → List ℤ → List ℕ → List ℕ → ℕ → Result (Unit {0}) Refusal → List ℤ → List ℕ → ℕ → Type 0
UndoPromise m values marks history n r values' marks' n' =
    answered (seen_as (λ _. done) r) (run values' marks' history n')
    ≡ on_file (verdict m) (λ m. calls.undo m (run values marks history n)) (run values marks history n)

abbrev pub MarksPromise : List ℕ → Run → List ℕ → Result (Unit {0}) Refusal → List ℕ → Type 0
MarksPromise m lent buffer r buffer' =
    answered (seen_as (λ _. done) r) buffer' ≡ on_file (verdict m) (λ m. queries.marks m lent buffer) buffer

abbrev pub ValuePromise : List ℕ → Run → ℕ → Result ℤ Refusal → Type 0
ValuePromise m lent x r = seen_as number r ≡ on_file_answer (verdict m) (λ m. queries.value m x lent)

abbrev pub PickPromise : List ℕ → Run → Result (Option ℕ) Refusal → Type 0
PickPromise m lent r = seen_as picked r ≡ on_file_answer (verdict m) (λ m. queries.pick m lent)

-- neither the marks nor the history nor n is lent
abbrev pub FirstOutsidePromise : List ℕ → List ℤ → Result RangeCheck Refusal → Type 0
FirstOutsidePromise m values r = seen_as told_outside r ≡ on_file_answer (verdict m) (λ m. queries.range_check m values)

-- one call, given by value, over all that is lent
abbrev pub PerformPromise : List ℕ → Call → Store → Result declared.Answer Refusal → Store → Type 0
PerformPromise m c s r s' = Promise m c s (answered (seen_as told r) s') × CountBounded (verdict m) (seen_as told r)
