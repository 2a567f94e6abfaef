-- The code and the results of an answer, from what the function of crate `run` promises.
use mathlib.Core.Path.{◌≡◌, refl, sym, ap, ap₂, ◌∙◌, subst}
use mathlib.Core.List.{List, []}
use Prim.Native.Nat.{ℕ, zero, suc, ◌≤◌}
use native.Mathlib.Omega.{arith}
use lib.IntN.{ℤ}
use Rattle.std.specs.Prelude.{Result, Ok, Err}
use Rattle.results.specs.declared.refusal.Refusal.{Refusal}
use Rattle.results.specs.Results.{answered}
use Rattle.model.specs.declared.Sizes.{Sizes}
use Rattle.model.specs.Trees.{System}
use Rattle.model.specs.Check.{Verdict, verdict}
use Rattle.model.specs.Check.Verdict.{refusal, accepted}
use Rattle.semantics.specs.Meanings.{Meaning, meaning_of}
use Rattle.standing.specs.Runs.{Run, Answer, Done, run}
use Rattle.standing.specs.Runs.Answer.{rounds, done, number}
use Rattle.steps.specs.Answers.{seen_as, on_file}
use Rattle.steps.specs.Calls as calls
use Rattle.run.specs.Lists.{CountWithin, CountBounded}
use Rattle.run.specs.Promises.{StartPromise, FirePromise}
use Rattle.run.proofs.Cases.{start_cases, fire_cases}
use Rattle.capi.specs.Codes.{code_of, code_in, value_or, rounds_or, number_or, coded_rounds}
use Rattle.capi.specs.Promises.{CellBounded, StartCoded, FireCoded}

-- a code 0 is that of a round count
abbrev Counts : Answer → Type 0
Counts a = (old : ℕ) → code_of a ≡ 0 → a ≡ rounds (rounds_or old a)

module _ (m : Meaning) (r : Run) where
  start_counts : Counts (calls.start m r).answer
  unfolding code_of rounds_or
  start_counts = start_cases m r (λ d. Counts d.answer) (λ k o old e. absurd (omega (arith, o.2))) (λ n e old z. refl)

  fire_counts : (t : ℕ) → Counts (calls.fire m t r).answer
  unfolding code_of rounds_or
  fire_counts t =
      fire_cases m r (λ d. Counts d.answer) (λ k o old e. absurd (omega (arith, o.2))) (λ e old z. absurd (omega arith)) t
      (λ below held free n e old z. refl)

cell_bounded : (z : Sizes) (t : System) (code count : ℕ) → (code ≡ 0 → (1 ≤ count) × (count ≤ suc z.flows)) → CellBounded (accepted z t) code count
unfolding CellBounded
cell_bounded z t zero count h = h refl
cell_bounded z t (suc code) count h = tt

-- a call whose result is the round count
module _ (f : Meaning → Done Run) (counts : (m : Meaning) → Counts (f m).answer) (r left : Run) (a : Answer) (old code count : ℕ)
    (coded : code ≡ code_of a) (counted : count ≡ rounds_or old a) where
  rounds_bounded : (v : Verdict) → answered a left ≡ on_file v f r → CountBounded v a → CellBounded v code count
  unfolding on_file CountWithin CountBounded CellBounded
  rounds_bounded (refusal k) e b = tt
  rounds_bounded (accepted z t) e b =
      let c : Counts a = subst Counts (sym (ap (λ (d : Done Run). d.answer) e)) (counts (meaning_of t)) in
      cell_bounded z t code count (λ none. subst (CountWithin z.flows) (c old (sym coded ∙ none) ∙ ap rounds (sym counted)) b)

  rounds_coded : (v : Verdict) → answered a left ≡ on_file v f r → answered code (left, count) ≡ coded_rounds old (on_file v f r)
  rounds_coded v e = ap₂ (λ c k. answered c (left, k)) coded counted ∙ ap (coded_rounds old) e

-- ---- the answers of the code

-- an answer whose values have the code 0
code_seen : {A : Type 0} (f : A → Answer) → ((a : A) → code_of (f a) ≡ 0) → (r : Result A Refusal) → code_in r ≡ code_of (seen_as f r)
unfolding code_in code_of
code_seen f none (Ok a) = sym (none a)
code_seen f none (Err k) = refl

rounds_seen : (old : ℕ) (r : Result ℕ Refusal) → value_or old r ≡ rounds_or old (seen_as rounds r)
unfolding value_or rounds_or
rounds_seen old (Ok n) = refl
rounds_seen old (Err k) = refl

pub number_seen : (old : ℤ) (r : Result ℤ Refusal) → value_or old r ≡ number_or old (seen_as number r)
unfolding value_or number_or
number_seen old (Ok v) = refl
number_seen old (Err k) = refl

coded_seen : {A : Type 0} (f : A → Answer) → ((a : A) → code_of (f a) ≡ 0) → (r : Result A Refusal) {code : ℕ} → code ≡ code_in r → code ≡ code_of (seen_as f r)
coded_seen f none r e = e ∙ code_seen f none r

pub done_code_seen : (r : Result (Unit {0}) Refusal) → code_in r ≡ code_of (seen_as (λ _. done) r)
unfolding code_of
done_code_seen r = code_seen (λ _. done) (λ _. refl) r

pub number_code_seen : (r : Result ℤ Refusal) → code_in r ≡ code_of (seen_as number r)
unfolding code_of
number_code_seen r = code_seen number (λ _. refl) r

-- what an answer without a result, or with a number, is for C, for the search
pub ruleset seen = (done_code_seen, number_code_seen, number_seen)

rounds_code : (r : Result ℕ Refusal) {code : ℕ} → code ≡ code_in r → code ≡ code_of (seen_as rounds r)
unfolding code_of
rounds_code r e = coded_seen rounds (λ n. refl) r e

-- start and fire
module _ (m : List ℕ) (old code count : ℕ) (r : Result ℕ Refusal) (coded : code ≡ code_in r) (counted : count ≡ value_or old r) where
  pub start_coded : (values : List ℤ) (marks : List ℕ) (n : ℕ) (values' : List ℤ) (marks' : List ℕ) (n' : ℕ)
      → StartPromise m values marks n r values' marks' n' → StartCoded m values marks n old code values' marks' n' count
  start_coded values marks n values' marks' n' p = (
    λ history.
        rounds_coded (λ m. calls.start m (run values marks history n)) (λ m. start_counts m (run values marks history n)) (run values marks history n)
        (run values' marks' history n') (seen_as rounds r) old code count (rounds_code r coded) (counted ∙ rounds_seen old r) (verdict m) (p.0 history),
    rounds_bounded (λ m. calls.start m (run values marks [] n)) (λ m. start_counts m (run values marks [] n)) (run values marks [] n)
        (run values' marks' [] n') (seen_as rounds r) old code count (rounds_code r coded) (counted ∙ rounds_seen old r) (verdict m) (p.0 []) p.1,
  )

  pub fire_coded : (values : List ℤ) (marks history : List ℕ) (n t : ℕ) (values' : List ℤ) (marks' history' : List ℕ) (n' : ℕ)
      → FirePromise m values marks history n t r values' marks' history' n'
      → FireCoded m values marks history n t old code values' marks' history' n' count
  fire_coded values marks history n t values' marks' history' n' p = (
    rounds_coded (λ m. calls.fire m t (run values marks history n)) (λ m. fire_counts m (run values marks history n) t) (run values marks history n)
        (run values' marks' history' n') (seen_as rounds r) old code count (rounds_code r coded) (counted ∙ rounds_seen old r) (verdict m) p.0,
    rounds_bounded (λ m. calls.fire m t (run values marks history n)) (λ m. fire_counts m (run values marks history n) t) (run values marks history n)
        (run values' marks' history' n') (seen_as rounds r) old code count (rounds_code r coded) (counted ∙ rounds_seen old r) (verdict m) p.0 p.1,
  )
