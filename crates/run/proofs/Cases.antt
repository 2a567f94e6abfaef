-- The calls by cases: each refusal with what it rests on, and the accepted call with what was found before it.
use Rattle.std.specs.Prelude.{Ok, Err}
use mathlib.Core.Path.{◌≡◌, refl}
use mathlib.Core.Bool.{true, false, not}
use mathlib.Core.List.{List, ◌++◌}
use mathlib.Core.Option.{Option, some, none}
use Rattle.std.specs.Prelude as prelude
use Prim.Native.Nat.{ℕ, suc, ◌-◌, ◌≤◌}
use native.Mathlib.Omega.{arith}
use borrow.Author.Tests.{not-true, not-false}
use lib.Dec.{eqb, ltb}
use lib.IntN.{ℤ, pos}
use lib.ListN.{length, get_or, take, drop, set}
use Rattle.semantics.specs.Firing.{Firing}
use Rattle.semantics.specs.declared.NotFired.TheVariants.{Disabled, GuardFailed, ActionFault, AssertionFault}
use Rattle.semantics.specs.Meanings.{Meaning}
use Rattle.semantics.specs.Firing.{fired, begun}
use Rattle.standing.specs.Runs.{Run, Answer, Done, answered, with_history, with_count}
use Rattle.standing.specs.Runs.Answer.{refused, rounds, done, number, picked, outside}
use Rattle.standing.specs.Holding.{too_short, too_few, holds}
use Rattle.marking.specs.Marks.{marks_of, refreshed}
use Rattle.inspection.specs.Queries.{marks, value, first_fireable, pick, range_check}
use Rattle.steps.specs.Calls.{answer_of, fired_into, start, fire, undone_by, undo}
use Rattle.replaying.specs.Replays.{initial, replay}
use Rattle.replaying.proofs.Tests.{by_test}
use Rattle.steps.proofs.FaultNumbers.{guard_numbered, action_number, assertion_number}

-- the number of a refusal is neither 20 nor 31, nor 0
abbrev pub Other : ℕ → Type 0
Other k = (k ≡ 20 → ⊥) × (k ≡ 31 → ⊥) × (1 ≤ k)

-- the run after an accepted start, fire or undo
module _ (m : Meaning) (r : Run) where
  abbrev pub started_run : Run
  started_run = with_count 0 (refreshed m (begun m (initial m) r.values).left r)

  abbrev pub fired_run : ℕ → Run
  fired_run t = with_count (suc r.count) (with_history (set r.history r.count t) (refreshed m (fired m t r.values).left r))

  abbrev pub undone_run : List ℤ → Run
  undone_run values = with_count (r.count - 1) (refreshed m values r)

module _ (m : Meaning) (r : Run) (P : Done Run → Type 0) (refusal : (k : ℕ) → Other k → P (answered (refused k) r)) where
  firing_cases : (new : Run) (f : Firing) → ((n : ℕ) → f ≡ Ok n → P (answered (rounds n) new)) → P (fired_into r new f)
  unfolding answer_of
  firing_cases new (Err Disabled) g = refusal 23 (omega arith)
  firing_cases new (Err (GuardFailed manner)) g = refusal _ (omega (arith, guard_numbered manner))
  firing_cases new (Err (ActionFault x)) g = refusal _ (omega (arith, action_number x))
  firing_cases new (Err (AssertionFault x)) g = refusal _ (omega (arith, assertion_number x))
  firing_cases new (Ok n) g = g n refl

  pub start_cases : ((n : ℕ) → (begun m (initial m) r.values).answer ≡ Ok n → P (answered (rounds n) (started_run m r))) → P (start m r)
  unfolding start
  start_cases f =
      by_test P (too_short m r.values) _ _ (λ e. refusal 9 (omega arith)) (λ long.
      by_test P (too_few m r.marks) _ _ (λ e. refusal 10 (omega arith)) (λ enough.
      firing_cases (started_run m r) (begun m (initial m) r.values).answer f))

  -- 20 where the run does not hold
  module _ (stale : holds m r ≡ false → P (answered (refused 20) r)) where
    pub fire_cases : (t : ℕ) → (ltb t m.transitions ≡ true → holds m r ≡ true → eqb r.count (length r.history) ≡ false
        → (n : ℕ) → (fired m t r.values).answer ≡ Ok n → P (answered (rounds n) (fired_run m r t)))
        → P (fire m t r)
    unfolding fire
    fire_cases t f =
        by_test P (too_short m r.values) _ _ (λ e. refusal 9 (omega arith)) (λ long.
        by_test P (too_few m r.marks) _ _ (λ e. refusal 10 (omega arith)) (λ enough.
        by_test P (not (ltb t m.transitions)) _ _ (λ e. refusal 11 (omega arith)) (λ below.
        by_test P (not (holds m r)) _ _ (λ e. stale (not-true (holds m r) e)) (λ held.
        by_test P (eqb r.count (length r.history)) _ _ (λ e. refusal 21 (omega arith)) (λ free.
        firing_cases (fired_run m r t) (fired m t r.values).answer (f (not-false _ below) (not-false _ held) free))))))

    undone_cases : (o : Option (List ℤ)) → (o ≡ none → P (answered (refused 31) r))
        → ((values : List ℤ) → o ≡ some values → P (answered done (undone_run m r values))) → P (undone_by m r o)
    unfolding undone_by
    undone_cases none f g = f refl
    undone_cases (some values) f g = g values refl

    pub undo_cases : (eqb r.count 0 ≡ false → replay m (initial m) (take (r.count - 1) r.history) r.values ≡ none
        → P (answered (refused 31) r))
        → (holds m r ≡ true → eqb r.count 0 ≡ false → (values : List ℤ)
        → replay m (initial m) (take (r.count - 1) r.history) r.values ≡ some values
        → P (answered done (undone_run m r values)))
        → P (undo m r)
    unfolding undo
    undo_cases f g =
        by_test P (too_short m r.values) _ _ (λ e. refusal 9 (omega arith)) (λ long.
        by_test P (too_few m r.marks) _ _ (λ e. refusal 10 (omega arith)) (λ enough.
        by_test P (not (holds m r)) _ _ (λ e. stale (not-true (holds m r) e)) (λ held.
        by_test P (eqb r.count 0) _ _ (λ e. refusal 22 (omega arith)) (λ some-step.
        undone_cases (replay m (initial m) (take (r.count - 1) r.history) r.values) (f some-step) (g (not-false _ held) some-step)))))

module _ (m : Meaning) (r : Run) where
  pub marks_cases : (buffer : List ℕ) (P : Done (List ℕ) → Type 0) → ((k : ℕ) → Other k → P (answered (refused k) buffer))
      → (holds m r ≡ false → P (answered (refused 20) buffer)) → P (answered done (take m.transitions r.marks ++ drop m.transitions buffer))
      → P (marks m r buffer)
  unfolding marks
  marks_cases buffer P refusal stale f =
      by_test P (too_short m r.values) _ _ (λ e. refusal 9 (omega arith)) (λ long.
      by_test P (too_few m r.marks) _ _ (λ e. refusal 10 (omega arith)) (λ enough.
      by_test P (too_few m buffer) _ _ (λ e. refusal 10 (omega arith)) (λ room.
      by_test P (not (holds m r)) _ _ (λ e. stale (not-true (holds m r) e)) (λ held. f))))

  pub value_cases : (x : ℕ) (P : Answer → Type 0) → ((k : ℕ) → Other k → P (refused k)) → (holds m r ≡ false → P (refused 20))
      → P (number (get_or r.values x (pos 0))) → P (value m x r)
  unfolding value
  value_cases x P refusal stale f =
      by_test P (too_short m r.values) _ _ (λ e. refusal 9 (omega arith)) (λ long.
      by_test P (too_few m r.marks) _ _ (λ e. refusal 10 (omega arith)) (λ enough.
      by_test P (not (ltb x (length m.declarations))) _ _ (λ e. refusal 12 (omega arith)) (λ below.
      by_test P (not (holds m r)) _ _ (λ e. stale (not-true (holds m r) e)) (λ held. f))))

  pub pick_cases : (P : Answer → Type 0) → ((k : ℕ) → Other k → P (refused k)) → (holds m r ≡ false → P (refused 20))
      → P (picked (first_fireable (marks_of m r.values) 0)) → P (pick m r)
  unfolding pick
  pick_cases P refusal stale f =
      by_test P (too_short m r.values) _ _ (λ e. refusal 9 (omega arith)) (λ long.
      by_test P (too_few m r.marks) _ _ (λ e. refusal 10 (omega arith)) (λ enough.
      by_test P (not (holds m r)) _ _ (λ e. stale (not-true (holds m r) e)) (λ held. f)))

pub range_cases : (m : Meaning) (values : List ℤ) (P : Answer → Type 0) → ((k : ℕ) → Other k → P (refused k))
    → ((x : prelude.Option ℕ) (looked : ℕ) → P (outside x looked)) → P (range_check m values)
unfolding range_check
range_cases m values P refusal f = by_test P (too_short m values) _ _ (λ e. refusal 9 (omega arith)) (λ long. f _ _)
