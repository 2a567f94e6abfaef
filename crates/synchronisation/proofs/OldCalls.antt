-- OldCallsStay.
use mathlib.Core.Path.{◌≡◌, refl, ap, fun_ext}
use mathlib.Core.Bool.{true, false, ◌&&◌, and-eq-true_iff}
use mathlib.Core.List.{List, [], ◌∷◌}
use mathlib.Core.Option.{Option, some, none}
use Prim.Native.Nat.{ℕ, ◌-◌}
use native.Mathlib.Omega.{arith}
use borrow.Author.Tests.{ltb-true}
use lib.Dec.{eqb, leb, ltb}
use lib.IntN.{ℤ}
use lib.ListN.{length, take}
use Rattle.model.specs.Trees.{Transition, System, variables}
use Rattle.model.proofs.Complete.{T_true}
use Rattle.semantics.specs.Propagation.{settle}
use Rattle.semantics.specs.Meanings.{Meaning, meaning_of}
use Rattle.semantics.specs.Firing.{fired, begun}
use Rattle.standing.specs.Runs.{Run}
use Rattle.standing.specs.Runs.Answer.{done}
use Rattle.std.specs.Prelude.{is_none}
use Rattle.standing.specs.Holding.{too_short, too_few, holds, all_below, history_holds, marks_within, first_outside}
use Rattle.replaying.specs.Replays.{initial, go_on, refire, replay}
use Rattle.steps.specs.Calls.{start, undone_by, undo}
use Rattle.replaying.proofs.Tests.{clash, below_take}
use Rattle.synchronisation.specs.Synchronisations.{extended_by, together}
use Rattle.synchronisation.specs.Theorems.{SameButLastMark, Stays, OldCallsStay}
use Rattle.synchronisation.proofs.OldTransitions.{same_done, same_tests, fired_stays, accepted_same, by_firing}

module _ (t : System) (u : Transition) where
  -- the old meaning and the new one
  abbrev m : Meaning
  m = meaning_of t

  abbrev m' : Meaning
  m' = meaning_of (extended_by t u)

  -- the number of old transitions
  abbrev T : ℕ
  T = length t.transitions

  -- the record of a run that 20 does not refuse has old transitions alone
  recorded_below : (r : Run) → holds m r ≡ true → all_below T (take (r.count - 1) r.history) ≡ true
  unfolding meaning_of
  recorded_below r e =
      let n = r.count in
      let standing = marks_within T r.marks && is_none (first_outside (variables t) r.values 0) in
      let recorded = ((and-eq-true_iff (history_holds T n r.history) standing).0 e).0 in
      let below = ((and-eq-true_iff (leb n (length r.history)) (all_below T (take n r.history))).0 recorded).1 in
      T_true (all_below T (take (n - 1) r.history)) (below_take T (n - 1) n r.history (omega arith) (rw below tt))

  -- a start comes to the same
  begun_stays : (old : List ℤ) → begun m' (initial m') old ≡ begun m (initial m) old
  unfolding begun meaning_of settle
  begun_stays old = refl

  -- so do old transitions that are fired again
  refire_stays : (ks : List ℕ) → all_below T ks ≡ true → (values : List ℤ) → refire m' ks values ≡ refire m ks values
  unfolding refire
  refire_stays [] e values = refl
  refire_stays (k ∷ ks) e values =
      let h = (and-eq-true_iff (ltb k T) (all_below T ks)).0 e in
      rw (fired_stays t u k (ltb-true k T h.0) values)
      (ap (λ next. go_on next (fired m k values)) (fun_ext (refire_stays ks h.1)))

  -- so does a start with old transitions after it
  replay_stays : (ks : List ℕ) → all_below T ks ≡ true → (values : List ℤ) → replay m' (initial m') ks values ≡ replay m (initial m) ks values
  unfolding replay
  replay_stays ks e values =
      rw (begun_stays values) (ap (λ next. go_on next (begun m (initial m) values)) (fun_ext (refire_stays ks e)))

  -- an undoing that comes to the same values under both models
  by_replaying : (r : Run) (o : Option (List ℤ)) → SameButLastMark T (undone_by m r o) (undone_by m' r o)
  unfolding undone_by
  by_replaying r none = same_done T _
  by_replaying r (some values) =
      accepted_same t u done (λ j e. clash (cc)) values r.marks r.history (r.count - 1)

  -- start comes to the same
  start_stays : Stays t (extended_by t u) start
  unfolding start meaning_of
  start_stays r n n' =
      same_tests T 0 r _ _ (too_short m r.values) (too_few m r.marks) (too_few m' r.marks) true true true true false refl refl n n'
      (λ e.
      rw (begun_stays r.values)
      (by_firing t u r (begun m (initial m) r.values).left r.history 0 (begun m (initial m) r.values).answer))

  -- undo comes to the same
  undo_stays : Stays t (extended_by t u) undo
  unfolding undo meaning_of
  undo_stays r n n' =
      same_tests T 22 r _ _ (too_short m r.values) (too_few m r.marks) (too_few m' r.marks) true true (holds m r) (holds m' r)
      (eqb r.count 0) refl refl n n'
      (λ e.
      rw (replay_stays (take (r.count - 1) r.history) (recorded_below r e) r.values)
      (by_replaying r (replay m (initial m) (take (r.count - 1) r.history) r.values)))

pub old_calls_stay : OldCallsStay
old_calls_stay m ms os _ f =
    let u = together f.before.events f.mandatory f.optional in (start_stays f.before u, undo_stays f.before u)
