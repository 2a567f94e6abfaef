-- After an accepted start the run is what its history comes to: theorem ReplayHolds.
use Rattle.std.specs.Prelude.{Ok}
use mathlib.Core.Path.{◌≡◌, refl, sym, ◌∙◌}
use mathlib.Core.Bool.{false}
use mathlib.Core.List.{List, [], ◌∷◌, ◌++◌}
use mathlib.Core.Option.{some, none-ne-some}
use Prim.Native.Nat.{ℕ, zero, suc, ◌-◌, ◌≤◌, ◌<◌}
use native.Mathlib.Omega.{arith}
use borrow.Author.Tests.{eqb-false}
use lib.Dec.{eqb}
use lib.IntN.{ℤ}
use lib.ListN.{length, get_or, take, length-set}
use lib.Seq.{take-suc-set, take-suc}
use Rattle.semantics.specs.Meanings.{Meaning, meaning_of}
use Rattle.semantics.specs.Firing.{fired, begun}
use Rattle.standing.specs.Runs.{Run}
use Rattle.replaying.specs.Replays.{initial, go_on, refire, replay}
use Rattle.run.specs.Theorems.{ReplayHolds}
use Rattle.replaying.proofs.Written.{Complete}
use Rattle.replaying.proofs.Ends.{settle_complete}
use Rattle.run.proofs.Replay.{Succeeds, replay_append, replay_beginning, replay_keeps, replay_depends}
use Rattle.run.proofs.Cases.{started_run, fired_run, undone_run}
use Rattle.run.proofs.Invariants.{Invariant, never-after-start}

-- the count is within the history, and replaying what it counts gives the values
pub record Replayed (m : Meaning) (r : Run) : Type 0 where
  pub counted : r.count ≤ length r.history
  pub replayed : replay m (initial m) (take r.count r.history) r.values ≡ some r.values

-- the first n entries are the first n - 1 and one more
last_entry : (n : ℕ) (l : List ℕ) → n ≤ length l → (n ≡ 0 → ⊥) → take n l ≡ take (n - 1) l ++ (get_or l (n - 1) 0 ∷ [])
last_entry zero l h f = absurd (f refl)
last_entry (suc n) l h f = let e : suc n - 1 ≡ n = omega arith in rw e (take-suc l n 0 h)

module _ (m : Meaning) (complete : Complete m) where
  -- replaying gives the same again over the values that it gave
  replay_again : (ts : List ℕ) (old new : List ℤ) → replay m (initial m) ts old ≡ some new → replay m (initial m) ts new ≡ some new
  replay_again ts old new e =
      replay_depends m complete (initial m) ts old new (replay_keeps m complete (initial m) ts old new e) ∙ e

  begun_replayed : (r : Run) (n : ℕ) → (begun m (initial m) r.values).answer ≡ Ok n
      → Replayed m (started_run m r)
  unfolding replay refire go_on
  begun_replayed r n e =
      record {
        counted = omega arith;
        replayed = replay_again [] r.values (begun m (initial m) r.values).left (rw e);
      }

  fired_replayed : (t : ℕ) (r : Run) → Replayed m r → eqb r.count (length r.history) ≡ false → (n : ℕ)
      → (fired m t r.values).answer ≡ Ok n
      → Replayed m (fired_run m r t)
  unfolding refire go_on
  fired_replayed t r h free n e =
      let below : r.count < length r.history = omega (arith, h.counted, eqb-false r.count (length r.history) free) in
      record {
        counted = rw length-set below;
        replayed =
            rw (take-suc-set r.history r.count t below)
            (replay_again (take r.count r.history ++ (t ∷ [])) r.values (fired m t r.values).left
            (replay_append m (initial m) (take r.count r.history) (t ∷ []) r.values r.values h.replayed ∙ rw e));
      }

  undone_replayed : (r : Run) → Replayed m r → (values : List ℤ)
      → replay m (initial m) (take (r.count - 1) r.history) r.values ≡ some values
      → Replayed m (undone_run m r values)
  undone_replayed r h values e =
      record { counted = omega (arith, h.counted); replayed = replay_again (take (r.count - 1) r.history) r.values values e }

  replay_succeeds : (r : Run) → Replayed m r → (r.count ≡ 0 → ⊥)
      → Succeeds (replay m (initial m) (take (r.count - 1) r.history) r.values)
  replay_succeeds r h f =
      replay_beginning m (initial m) (take (r.count - 1) r.history) (get_or r.history (r.count - 1) 0 ∷ []) r.values r.values
      (rw (last_entry r.count r.history h.counted f) at h.replayed)

  replay_invariant : Invariant 31 m
  replay_invariant =
      record {
        Holds = Replayed m;
        started = λ r k e. begun_replayed r k e;
        fired = λ t r h below free k e. fired_replayed t r h free k e;
        undone = λ r h f values e. undone_replayed r h values e;
        stale = λ r h e. omega arith;
        stuck = λ r h f e x. none-ne-some _ (sym e ∙ (replay_succeeds r h (eqb-false r.count 0 f)).1);
      }

pub replayed_after_start : ReplayHolds
unfolding meaning_of
replayed_after_start = never-after-start 31 (λ k o. o.1) (λ file b z t e. replay_invariant (meaning_of t) (settle_complete t))
