-- OldTransitionsStay.
use Rattle.std.specs.Prelude.{Ok, Err}
use mathlib.Core.Path.{◌≡◌, refl, sym, ap, ap₂, ◌∙◌}
use mathlib.Core.Bool.{Bool, true, false, false≢true, cond, not}
use mathlib.Core.List.{List, [], ◌∷◌, ◌++◌}
use mathlib.Core.Option.{Option, some, none}
use Prim.Native.Nat.{ℕ, zero, suc, ◌+◌, ◌≤◌, ◌<◌}
use native.Mathlib.Omega.{arith}
use native.Mathlib.Numerals.{add-one}
use borrow.Author.Tests.{lt-ltb}
use lib.Dec.{eqb, ltb}
use lib.IntN.{ℤ}
use lib.ListN.{length, take, drop, set, get_elem?}
use lib.Seq.{take_at, drop_at, drop-drop, take-append-le, drop-append-add}
use Rattle.model.specs.Trees.{Transition, System}
use Rattle.expressions.specs.Expressions.{known_from}
use Rattle.semantics.specs.Firing.{Firing}
use Rattle.semantics.specs.declared.NotFired.TheVariants.{Disabled, GuardFailed, ActionFault, AssertionFault}
use Rattle.semantics.specs.Actions.{act}
use Rattle.semantics.specs.Meanings.{Meaning, meaning_of, guard_in, action_in}
use Rattle.semantics.specs.Firing.{fired}
use Rattle.standing.specs.Runs.{Run, Answer, Done, run, answered}
use Rattle.standing.specs.Runs.Answer.{refused, rounds}
use Rattle.standing.specs.Holding.{too_short, too_few, holds}
use Rattle.marking.specs.Marks.{mark_of, marks_from, marks_over}
use Rattle.marking.proofs.MarksWritten.{length_marks}
use Rattle.steps.specs.Calls.{answer_of, fired_into, fire}
use Rattle.replaying.proofs.Tests.{clash}
use Rattle.synchronisation.specs.Synchronisations.{extended_by, together}
use Rattle.synchronisation.specs.Theorems.{SameButLastMark, NeitherRefuses, Stays, OldTransitionsStay}
use Rattle.synchronisation.proofs.Listed.{old_stays, one_more}
use Rattle.synchronisation.proofs.Firing.{fired_as, used, fired_old, fired_new}

-- ---- a refusal, and the tests before the firing

-- a run is the same as itself
pub same_done : (t : ℕ) (d : Done Run) → SameButLastMark t d d
same_done t d = record { answer = refl; values = refl; history = refl; count = refl; marks = refl; rest = refl; kept = λ n e. refl }

-- 9, 10, 11, 20 in their order, then another
abbrev pub tested : ℕ → Bool → Bool → Bool → Bool → Bool → Run → Done Run → Done Run
tested n short few there held full r d =
    cond short (answered (refused 9) r)
    (cond few (answered (refused 10) r)
    (cond (not there) (answered (refused 11) r)
    (cond (not held) (answered (refused 20) r)
    (cond full (answered (refused n) r) d))))

-- where 10 and 20 refuse under neither model, the tests come to the same
pub same_tests : (t j : ℕ) (r : Run) (d d' : Done Run) (short few few' there there' held held' full : Bool) → there ≡ true → there' ≡ true
    → NeitherRefuses (tested j short few there held full r d) → NeitherRefuses (tested j short few' there' held' full r d')
    → (held ≡ true → SameButLastMark t d d')
    → SameButLastMark t (tested j short few there held full r d) (tested j short few' there' held' full r d')
same_tests t j r d d' true few few' there there' held held' full p q n n' s = same_done t (answered (refused 9) r)
same_tests t j r d d' false true few' there there' held held' full p q n n' s = absurd (n.0 refl)
same_tests t j r d d' false false true there there' held held' full p q n n' s = absurd (n'.0 refl)
same_tests t j r d d' false false false false there' held held' full p q n n' s = absurd (false≢true p)
same_tests t j r d d' false false false true false held held' full p q n n' s = absurd (false≢true q)
same_tests t j r d d' false false false true true false held' full p q n n' s = absurd (n.1 refl)
same_tests t j r d d' false false false true true true false full p q n n' s = absurd (n'.1 refl)
same_tests t j r d d' false false false true true true true true p q n n' s = same_done t (answered (refused j) r)
same_tests t j r d d' false false false true true true true false p q n n' s = s refl

-- a round count is no refusal
no_refusal : (n j : ℕ) → rounds n ≡ refused j → ⊥
no_refusal n j e = clash (cc)

-- ---- held marks: those of the old transitions, and one more

module _ (t : ℕ) (ks ks' old : List ℕ) (long : length ks ≡ t) (long' : length ks' ≡ suc t) where
  -- the first t cells are the same
  cells_before : take t ks' ≡ ks → take t (ks' ++ drop (suc t) old) ≡ take t (ks ++ drop t old)
  cells_before e = take-append-le t ks' _ (omega arith) ∙ e ∙ sym (take_at ks _ t long)

  -- and so are the cells after the next
  cells_after : drop (suc t) (ks' ++ drop (suc t) old) ≡ drop (suc t) (ks ++ drop t old)
  cells_after =
      let e : suc t ≡ length ks + 1 = omega arith in
      drop_at ks' (drop (suc t) old) (suc t) long'
      ∙ sym (ap (λ n. drop n (ks ++ drop t old)) e ∙ drop-append-add ks (drop t old) 1 ∙ drop-drop 1 t old ∙ ap (λ n. drop n old) (add-one t))

-- ---- an old transition

module _ (t : System) (u : Transition) where
  -- the old meaning and the new one
  abbrev m : Meaning
  m = meaning_of t

  abbrev m' : Meaning
  m' = meaning_of (extended_by t u)

  -- the number of old transitions
  abbrev T : ℕ
  T = length t.transitions

  -- its guard is that of the old model
  guard_stays : (k : ℕ) → k < T → (values : List ℤ) → m'.guard k values ≡ m.guard k values
  unfolding meaning_of
  guard_stays k h values = ap (λ o. guard_in o (known_from values)) (old_stays t.transitions u k h)

  -- its action is that of the old model
  action_stays : (k : ℕ) → k < T → (values : List ℤ) → m'.action k values ≡ m.action k values
  unfolding meaning_of action_in act
  action_stays k h values = rw (old_stays t.transitions u k h) (by (get_elem? t.transitions k))
    where
      by : (o : Option Transition) → action_in (extended_by t u) o values ≡ action_in t o values
      by none = refl
      by (some v) = refl

  -- it fires as in the old model
  pub fired_stays : (k : ℕ) → k < T → (old : List ℤ) → fired m' k old ≡ fired m k old
  fired_stays k h old =
      fired_new t u k old
      ∙ ap₂ (λ g a. fired_as m g a old) (guard_stays k h (used t old)) (action_stays k h (used t old))
      ∙ sym (fired_old t u k old)

  -- the marks under the new model begin with those under the old one
  marks_stay : (values : List ℤ) (at n : ℕ) → at + n ≤ T → take n (marks_from m' values at (suc n)) ≡ marks_from m values at n
  unfolding marks_from
  marks_stay values at zero h = refl
  marks_stay values at (suc n) h =
      ap₂ (λ (k : ℕ) (ks : List ℕ). k ∷ ks) (ap mark_of (guard_stays at (omega arith) values)) (marks_stay values (suc at) n (omega arith))

  -- they are one more
  new_marks : (values : List ℤ) (old : List ℕ) → marks_over m' values old ≡ marks_from m' (used t values) 0 (suc T) ++ drop (suc T) old
  unfolding meaning_of
  new_marks values old = ap (λ n. marks_from m' (used t values) 0 n ++ drop n old) (one_more t.transitions u)

  -- an accepted call that leaves the same values, history and count under both models
  pub accepted_same : (a : Answer) → ((j : ℕ) → a ≡ refused j → ⊥) → (values : List ℤ) (old history : List ℕ) (count : ℕ)
      → SameButLastMark T (answered a (run values (marks_over m values old) history count))
      (answered a (run values (marks_over m' values old) history count))
  unfolding meaning_of
  accepted_same a n values old history count =
      let ks = marks_from m (used t values) 0 T in
      let ks' = marks_from m' (used t values) 0 (suc T) in
      let long = length_marks m (used t values) 0 T in
      let long' = length_marks m' (used t values) 0 (suc T) in
      record {
        answer = refl;
        values = refl;
        history = refl;
        count = refl;
        marks = rw (new_marks values old) (cells_before T ks ks' old long long' (marks_stay (used t values) 0 T (omega arith)));
        rest = rw (new_marks values old) (cells_after T ks ks' old long long');
        kept = λ j e. absurd (n j e);
      }

  -- a firing that comes to the same under both models
  pub by_firing : (r : Run) (values : List ℤ) (history : List ℕ) (count : ℕ) (f : Firing)
      → SameButLastMark T (fired_into r (run values (marks_over m values r.marks) history count) f)
      (fired_into r (run values (marks_over m' values r.marks) history count) f)
  unfolding answer_of
  by_firing r values history count (Err Disabled) = same_done T _
  by_firing r values history count (Err (GuardFailed manner)) = same_done T _
  by_firing r values history count (Err (ActionFault f)) = same_done T _
  by_firing r values history count (Err (AssertionFault f)) = same_done T _
  by_firing r values history count (Ok n) = accepted_same (rounds n) (no_refusal n) values r.marks history count

  -- the call comes to the same
  old_fires : (k : ℕ) → k < T → Stays t (extended_by t u) (λ x. fire x k)
  unfolding fire meaning_of
  old_fires k h r n n' =
      let new = length (t.transitions ++ (u ∷ [])) in
      let more = one_more t.transitions u in
      same_tests T 21 r _ _ (too_short m r.values) (too_few m r.marks) (too_few m' r.marks) (ltb k T) (ltb k new) (holds m r) (holds m' r)
      (eqb r.count (length r.history)) (lt-ltb k T h) (lt-ltb k new (omega arith)) n n'
      (λ e.
      rw (fired_stays k h r.values)
      (by_firing r (fired m k r.values).left (set r.history r.count k) (suc r.count) (fired m k r.values).answer))

pub old_transitions_stay : OldTransitionsStay
old_transitions_stay m ms os _ f k h = old_fires f.before (together f.before.events f.mandatory f.optional) k h
