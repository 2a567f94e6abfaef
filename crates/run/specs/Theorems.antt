-- The theorems on lists of calls. Proved in proofs/.
use Rattle.std.specs.Prelude.{◌≡◌, List, [], ◌∷◌, ℕ, ℤ, Option, Result}
use Rattle.results.specs.declared.refusal.Refusal.{Refusal}
use Rattle.model.specs.declared.Sizes.{Sizes}
use Rattle.model.specs.Check.{Verdict, verdict}
use Rattle.model.specs.Check.Verdict.{refusal, accepted}
use Rattle.model.specs.Theorems.{Bytes, Accepted, ShuffledFile}
use Rattle.semantics.specs.Meanings.{Meaning, meaning_of}
use Rattle.run.specs.declared.Call.{Call}
use Rattle.run.specs.declared.Call.TheVariants.{Check, Start, Fire, Undo, Marks, Value, Pick, FirstOutside}
use Rattle.standing.specs.Runs.{Run, Store, Answer, Done, run, store, answered}
use Rattle.standing.specs.Runs.Answer.{refused, rounds, done, number, sizes, picked}
use Rattle.standing.specs.declared.RangeCheck.{RangeCheck}
use Rattle.replaying.specs.declared.Move.{Move}
use Rattle.steps.specs.Calls.{step_on}
use Rattle.marking.specs.Marks.{HoldsMarks}
use Rattle.run.specs.Lists.{calls_of, Promise, Performed, last_left}
use Rattle.steps.specs.Answers.{seen_as, told_by}
use Rattle.inspection.specs.Asked.{told_outside}
use Rattle.run.specs.Promises.{seen_check, told, CheckPromise, StartPromise, FirePromise, UndoPromise, MarksPromise, ValuePromise, PickPromise, FirstOutsidePromise}

-- The functions carry out a list: what each promises of its answer and of what it is lent is the promise of its call, the rest of the
-- store being as it was. 01: "Every call takes what it uses of this as the calls before, refused or not, left it".
pub record CallsReached : Type 0 where
  pub check : (m : List ℕ) (s : Store) (r : Result Sizes Refusal) → CheckPromise m r → Promise m Check s (answered (seen_check r) s)
  pub start : (m : List ℕ) (values : List ℤ) (marks history : List ℕ) (n : ℕ) (buffer : List ℕ) (r : Result ℕ Refusal)
      (values' : List ℤ) (marks' : List ℕ) (n' : ℕ) → StartPromise m values marks n r values' marks' n'
      → Promise m Start (store (run values marks history n) buffer) (answered (seen_as rounds r) (store (run values' marks' history n') buffer))
  pub fire : (m : List ℕ) (values : List ℤ) (marks history : List ℕ) (n t : ℕ) (buffer : List ℕ) (r : Result ℕ Refusal)
      (values' : List ℤ) (marks' history' : List ℕ) (n' : ℕ) → FirePromise m values marks history n t r values' marks' history' n'
      → Promise m (Fire t) (store (run values marks history n) buffer) (answered (seen_as rounds r) (store (run values' marks' history' n') buffer))
  pub undo : (m : List ℕ) (values : List ℤ) (marks history : List ℕ) (n : ℕ) (buffer : List ℕ) (r : Result (Unit {0}) Refusal)
      (values' : List ℤ) (marks' : List ℕ) (n' : ℕ) → UndoPromise m values marks history n r values' marks' n'
      → Promise m Undo (store (run values marks history n) buffer) (answered (seen_as (λ _. done) r) (store (run values' marks' history n') buffer))
  pub marks : (m : List ℕ) (values : List ℤ) (marks history : List ℕ) (n : ℕ) (buffer : List ℕ) (r : Result (Unit {0}) Refusal) (buffer' : List ℕ)
      → MarksPromise m (run values marks history n) buffer r buffer'
      → Promise m Marks (store (run values marks history n) buffer) (answered (seen_as (λ _. done) r) (store (run values marks history n) buffer'))
  pub value : (m : List ℕ) (values : List ℤ) (marks history : List ℕ) (n x : ℕ) (buffer : List ℕ) (r : Result ℤ Refusal)
      → ValuePromise m (run values marks history n) x r
      → Promise m (Value x) (store (run values marks history n) buffer) (answered (seen_as number r) (store (run values marks history n) buffer))
  pub pick : (m : List ℕ) (values : List ℤ) (marks history : List ℕ) (n : ℕ) (buffer : List ℕ) (r : Result (Option ℕ) Refusal)
      → PickPromise m (run values marks history n) r
      → Promise m Pick (store (run values marks history n) buffer) (answered (seen_as picked r) (store (run values marks history n) buffer))
  pub first_outside : (m : List ℕ) (values : List ℤ) (marks history : List ℕ) (n : ℕ) (buffer : List ℕ) (r : Result RangeCheck Refusal)
      → FirstOutsidePromise m values r
      → Promise m FirstOutside (store (run values marks history n) buffer) (answered (seen_as told_outside r) (store (run values marks history n) buffer))

-- every list has results that the promises allow
abbrev pub PerformancesExist : Type 0
PerformancesExist = (m : List ℕ) (cs : List Call) (s : Store) → Performed m cs s (calls_of m cs s)

-- 01, demand 3: "Each answer, and after each call n and every cell, are equal for both and are what these definitions give along the
-- list. That is one claim about the whole list, not one for each call." A1: "Pick then joins the calls whose whole answer no
-- reordering changes": it is a Call, as is first outside (A3). A4: "What reordering can't change now includes the held marks": the store
-- holds them.
abbrev pub OrderIndependent : Type 0
OrderIndependent =
    (m m' : List ℕ) → Bytes m → Accepted m → ShuffledFile m m' → (cs : List Call) (s : Store) (rs rs' : List (Done Store))
    → Performed m cs s rs → Performed m' cs s rs' → (rs ≡ calls_of m cs s) × (rs' ≡ calls_of m cs s)

-- no answer of the list is the refusal with this number
unfoldable pub NoneIs : ℕ → List (Done Store) → Type 0
NoneIs n [] = Unit {0}
NoneIs n (d ∷ ds) = (d.answer ≡ refused n → ⊥) × NoneIs n ds

-- 01: "after an accepted start and any list of these calls with the same model and run it doesn't occur"
abbrev pub NeverAfterStart : ℕ → Type 0
NeverAfterStart n =
    (m : List ℕ) → Bytes m → (s : Store) (d : Done Store) (count : ℕ) → Promise m Start s d → d.answer ≡ rounds count
    → (cs : List Call) (rs : List (Done Store)) → Performed m cs d.left rs
    → NoneIs n rs

abbrev pub ReplayHolds : Type 0
ReplayHolds = NeverAfterStart 31

abbrev pub NoStaleRun : Type 0
NoStaleRun = NeverAfterStart 20

-- the run holds the marks of its guards, if the file is accepted
unfoldable pub HoldsMarksOn : Verdict → Run → Type 0
HoldsMarksOn (refusal n) r = Unit {0}
HoldsMarksOn (accepted z t) r = HoldsMarks (meaning_of t) r

-- 01: "A refusal answers its number alone; values, record, n and marks keep their content." A4: "a refused call keeps the old"
abbrev pub RefusedLeaves : Type 0
RefusedLeaves =
    (m : List ℕ) (c : Call) (s : Store) (d : Done Store) (k : ℕ) → Promise m c s d → d.answer ≡ refused k → d.left ≡ s

-- A4: "start, fire and take back leave them equal to the guards over the new values", whatever marks were held before
abbrev pub MarksSet : Type 0
MarksSet =
    (m : Meaning) (step : Move) (r : Run) → ((k : ℕ) → (step_on m step r).answer ≡ refused k → ⊥) → HoldsMarks m (step_on m step r).left

-- from a run that holds the marks of its guards every list of calls leaves one that does; lists are any, so this is said of every moment
-- of a list
abbrev pub MarksStay : Type 0
MarksStay =
    (m : List ℕ) (cs : List Call) (s : Store) (rs : List (Done Store)) → Performed m cs s rs
    → HoldsMarksOn (verdict m) s.run → HoldsMarksOn (verdict m) (last_left s rs).run

-- after an accepted start, whatever marks were held before it, and any list of calls the marks held are those of the guards
abbrev pub MarksHeld : Type 0
MarksHeld =
    (m : List ℕ) (s : Store) (d : Done Store) (count : ℕ) → Promise m Start s d → d.answer ≡ rounds count
    → (cs : List Call) (rs : List (Done Store)) → Performed m cs d.left rs → HoldsMarksOn (verdict m) (last_left d.left rs).run

-- different results never look alike, by what is told of their values
abbrev pub Distinct : {A : Type 0} → (A → Answer) → Type 0
Distinct {A} f = (a b : Result A Refusal) → seen_as f a ≡ seen_as f b → a ≡ b

-- different answers of the code never look alike: of a call of a list, of check, of start and fire, of undo and marks, of value, of pick,
-- of first outside, of each move
pub record SeenDistinct : Type 0 where
  pub listed : Distinct told
  pub checked : Distinct sizes
  pub fired : Distinct rounds
  pub undone : Distinct (λ (a : Unit {0}). done)
  pub valued : Distinct number
  pub chosen : Distinct picked
  pub looked : Distinct told_outside
  pub moved : (s : Move) → Distinct (told_by s)
