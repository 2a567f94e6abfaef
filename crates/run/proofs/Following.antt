-- The history and the count follow the answer: a call as a whole from its answer and the values and marks that it leaves.
use mathlib.Core.Path.{◌≡◌, refl, sym, ap, ◌∙◌}
use mathlib.Core.Bool.{Bool, true, false, cond}
use mathlib.Core.List.{List, []}
use Prim.Native.Nat.{ℕ, zero, suc, ◌+◌, ◌-◌}
use native.Mathlib.Numerals.{add-one}
use lib.IntN.{ℤ}
use lib.ListN.{set}
use Rattle.semantics.specs.Meanings.{Meaning, meaning_of}
use Rattle.semantics.specs.Firing.{begun}
use Rattle.model.specs.Check.{Verdict}
use Rattle.model.specs.Check.Verdict.{refusal, accepted}
use Rattle.std.proofs.Common.{Result, Ok, Err}
use Rattle.results.specs.declared.refusal.Refusal.{Refusal}
use Rattle.results.specs.Refusals.{number_of}
use Rattle.replaying.specs.declared.Move.{Move}
use Rattle.replaying.specs.declared.Move.TheVariants.{Start, Fire, Undo}
use Rattle.standing.specs.Runs.{Run, Answer, run, answered}
use Rattle.standing.specs.Runs as runs
use Rattle.standing.specs.Runs.Answer.{refused, rounds, done, number, sizes, picked, outside}
use Rattle.standing.specs.Holding.{too_short, too_few}
use Rattle.marking.specs.Marks.{marks_over}
use Rattle.steps.specs.Calls as calls
use Rattle.steps.specs.Calls.{answer_of, step_on}
use Rattle.replaying.specs.Replays.{is_fired, initial}
use Rattle.replaying.proofs.Tests.{clash}
use Rattle.steps.specs.Lent.{Cells, cells_left}
use Rattle.steps.specs.Answers.{seen_as, told_by, on_file}
use Rattle.run.proofs.Cases.{start_cases, fire_cases, undo_cases}

-- ---- what is recorded after an answer

-- the new thing where rounds are answered, else the old one
unfoldable pub after_rounds : {A : Type 0} → Answer → A → A → A
after_rounds (refused k) new old = old
after_rounds (rounds k) new old = new
after_rounds done new old = old
after_rounds (number v) new old = old
after_rounds (sizes z) new old = old
after_rounds (picked t) new old = old
after_rounds (outside x looked) new old = old

unfoldable pub count_after_undo : Answer → ℕ → ℕ
count_after_undo (refused k) n = n
count_after_undo (rounds k) n = n
count_after_undo done n = n - 1
count_after_undo (number v) n = n
count_after_undo (sizes z) n = n
count_after_undo (picked t) n = n
count_after_undo (outside x looked) n = n

module _ (history : List ℕ) (n : ℕ) where
  abbrev after_start : runs.Done Cells → runs.Done Run
  after_start d = answered d.answer (run d.left.0 d.left.1 history (after_rounds d.answer 0 n))

  abbrev after_fire : ℕ → runs.Done Cells → runs.Done Run
  after_fire t d =
      answered d.answer
      (run d.left.0 d.left.1 (after_rounds d.answer (set history n t) history) (after_rounds d.answer (suc n) n))

  abbrev after_undo : runs.Done Cells → runs.Done Run
  after_undo d = answered d.answer (run d.left.0 d.left.1 history (count_after_undo d.answer n))

module _ (m : Meaning) (values : List ℤ) (marks history : List ℕ) (n : ℕ) where
  start_follows : calls.start m (run values marks history n) ≡ after_start history n (cells_left (calls.start m (run values marks history n)))
  unfolding after_rounds
  start_follows = start_cases m (run values marks history n) (λ d. d ≡ after_start history n (cells_left d)) (λ k o. refl) (λ k e. refl)

  fire_follows : (t : ℕ) → calls.fire m t (run values marks history n) ≡ after_fire history n t (cells_left (calls.fire m t (run values marks history n)))
  unfolding after_rounds
  fire_follows t =
      fire_cases m (run values marks history n) (λ d. d ≡ after_fire history n t (cells_left d)) (λ k o. refl) (λ e. refl) t (λ below held free k e. refl)

  undo_follows : calls.undo m (run values marks history n) ≡ after_undo history n (cells_left (calls.undo m (run values marks history n)))
  unfolding count_after_undo
  undo_follows =
      undo_cases m (run values marks history n) (λ d. d ≡ after_undo history n (cells_left d)) (λ k o. refl) (λ e. refl) (λ some-step e. refl)
      (λ held some-step new e. refl)

  -- a start is lent no history and no count
  start_lent : cells_left (calls.start m (run values marks [] 0)) ≡ cells_left (calls.start m (run values marks history n))
  unfolding calls.start
  start_lent = go (too_short m values) (too_few m marks) (is_fired (begun m (initial m) values).answer)
    where
      new : List ℤ
      new = (begun m (initial m) values).left

      marked : List ℕ
      marked = marks_over m new marks

      a : Answer
      a = answer_of (begun m (initial m) values).answer

      go : (short few fired : Bool)
          → cells_left (cond short (answered (refused 9) (run values marks [] 0)) (cond few (answered (refused 10) (run values marks [] 0))
          (answered a (cond fired (run new marked [] 0) (run values marks [] 0)))))
          ≡ cells_left (cond short (answered (refused 9) (run values marks history n)) (cond few (answered (refused 10) (run values marks history n)) (answered a (cond fired (run new marked history 0) (run values marks history n)))))
      go true few fired = refl
      go false true fired = refl
      go false false true = refl
      go false false false = refl

-- an undo tells no round count
undo_no_rounds : (m : Meaning) (r : Run) (k : ℕ) → rounds k ≡ (calls.undo m r).answer → ⊥
undo_no_rounds m r k =
    undo_cases m r (λ d. rounds k ≡ d.answer → ⊥) (λ i o e. clash cc) (λ h e. clash cc) (λ some-step f e. clash cc)
    (λ held some-step values f e. clash cc)

-- ---- on a file

module _ (v : Verdict) (values : List ℤ) (marks history : List ℕ) (n : ℕ) (a : Answer) (new : List ℤ) (marked : List ℕ) where
  pub start_on_file : answered a (new, marked) ≡ cells_left (on_file v (λ m. step_on m Start (run values marks [] 0)) (run values marks [] 0))
      → answered a (run new marked history (after_rounds a 0 n)) ≡ on_file v (λ m. calls.start m (run values marks history n)) (run values marks history n)
  unfolding on_file after_rounds step_on
  start_on_file e = ap (after_start history n) e ∙ go v
    where
      go : (v : Verdict) → after_start history n (cells_left (on_file v (λ m. step_on m Start (run values marks [] 0)) (run values marks [] 0)))
          ≡ on_file v (λ m. calls.start m (run values marks history n)) (run values marks history n)
      go (refusal k) = refl
      go (accepted z t) =
          ap (after_start history n) (start_lent (meaning_of t) values marks history n) ∙ sym (start_follows (meaning_of t) values marks history n)

  pub fire_on_file : (t : ℕ) → answered a (new, marked) ≡ cells_left (on_file v (λ m. step_on m (Fire t) (run values marks history n)) (run values marks history n))
      → answered a (run new marked (after_rounds a (set history n t) history) (after_rounds a (suc n) n)) ≡ on_file v (λ m. calls.fire m t (run values marks history n)) (run values marks history n)
  unfolding on_file after_rounds step_on
  fire_on_file t e = ap (after_fire history n t) e ∙ go v
    where
      go : (v : Verdict) → after_fire history n t (cells_left (on_file v (λ m. step_on m (Fire t) (run values marks history n)) (run values marks history n))) ≡ on_file v (λ m. calls.fire m t (run values marks history n)) (run values marks history n)
      go (refusal k) = refl
      go (accepted z s) = sym (fire_follows (meaning_of s) values marks history n t)

  pub undo_on_file : answered a (new, marked) ≡ cells_left (on_file v (λ m. step_on m Undo (run values marks history n)) (run values marks history n))
      → answered a (run new marked history (count_after_undo a n)) ≡ on_file v (λ m. calls.undo m (run values marks history n)) (run values marks history n)
  unfolding on_file count_after_undo step_on
  undo_on_file e = ap (after_undo history n) e ∙ go v
    where
      go : (v : Verdict) → after_undo history n (cells_left (on_file v (λ m. step_on m Undo (run values marks history n)) (run values marks history n))) ≡ on_file v (λ m. calls.undo m (run values marks history n)) (run values marks history n)
      go (refusal k) = refl
      go (accepted z s) = sym (undo_follows (meaning_of s) values marks history n)

undo_no_rounds_on_file : (v : Verdict) (r : Run) (k : ℕ) → rounds k ≡ (on_file v (λ m. calls.undo m r) r).answer → ⊥
unfolding on_file
undo_no_rounds_on_file (refusal i) r k e = clash cc
undo_no_rounds_on_file (accepted z s) r k e = undo_no_rounds (meaning_of s) r k e

-- ---- the code's answers on a file

-- what is said of the run that was moved holds of the slices that it was made of
pub placed : {a : Answer} {values new : List ℤ} {marks marked history : List ℕ} {n : ℕ} {d : runs.Done Run}
    → values ≡ new → marks ≡ marked → answered a (run new marked history n) ≡ d → answered a (run values marks history n) ≡ d
placed v m e = rw (v, m) e

module _ (v : Verdict) (values : List ℤ) (marks history : List ℕ) (n : ℕ) (new : List ℤ) (marked : List ℕ) where
  -- a move answered so, and left the new values and marks
  abbrev pub Advanced : Move → Result ℕ Refusal → Run → Type 0
  Advanced s r lent = answered (seen_as (told_by s) r) (new, marked) ≡ cells_left (on_file v (λ m. step_on m s lent) lent)

  module _ (r : Result ℕ Refusal) (e : Advanced Start r (run values marks [] 0)) where
    pub start_counted : (k : ℕ) → r ≡ Ok k → answered (rounds k) (run new marked history 0) ≡ on_file v (λ m. calls.start m (run values marks history n)) (run values marks history n)
    unfolding told_by after_rounds
    start_counted k q =
        start_on_file v values marks history n (rounds k) new marked (rw q at e)

    pub start_kept : (k : Refusal) → r ≡ Err k
        → answered (refused (number_of k)) (run new marked history n) ≡ on_file v (λ m. calls.start m (run values marks history n)) (run values marks history n)
    unfolding after_rounds
    start_kept k q = start_on_file v values marks history n (refused (number_of k)) new marked (rw q at e)

  module _ (t : ℕ) (r : Result ℕ Refusal) (e : Advanced (Fire t) r (run values marks history n)) where
    pub fire_counted : (k : ℕ) → r ≡ Ok k
        → answered (rounds k) (run new marked (set history n t) (n + 1)) ≡ on_file v (λ m. calls.fire m t (run values marks history n)) (run values marks history n)
    unfolding told_by after_rounds
    fire_counted k q =
        ap (λ i. answered (rounds k) (run new marked (set history n t) i)) (add-one n)
        ∙ fire_on_file v values marks history n (rounds k) new marked t (rw q at e)

    pub fire_kept : (k : Refusal) → r ≡ Err k
        → answered (refused (number_of k)) (run new marked history n) ≡ on_file v (λ m. calls.fire m t (run values marks history n)) (run values marks history n)
    unfolding after_rounds
    fire_kept k q = fire_on_file v values marks history n (refused (number_of k)) new marked t (rw q at e)

  module _ (r : Result ℕ Refusal) (e : Advanced Undo r (run values marks history n)) where
    -- an undo that is done answers 0
    pub undo_zero : (k : ℕ) → r ≡ Ok k → r ≡ Ok 0
    unfolding told_by count_after_undo
    undo_zero zero q = q
    undo_zero (suc k) q =
        absurd (undo_no_rounds_on_file v (run values marks history n) (suc k)
        (ap (λ (d : runs.Done Run). d.answer) (undo_on_file v values marks history n (rounds (suc k)) new marked (rw q at e))))

    pub undo_counted : (k : ℕ) → r ≡ Ok k → answered done (run new marked history (n - 1)) ≡ on_file v (λ m. calls.undo m (run values marks history n)) (run values marks history n)
    unfolding told_by count_after_undo
    undo_counted k q = undo_on_file v values marks history n done new marked (rw (undo_zero k q) at e)

    pub undo_kept : (k : Refusal) → r ≡ Err k
        → answered (refused (number_of k)) (run new marked history n) ≡ on_file v (λ m. calls.undo m (run values marks history n)) (run values marks history n)
    unfolding count_after_undo
    undo_kept k q = undo_on_file v values marks history n (refused (number_of k)) new marked (rw q at e)
