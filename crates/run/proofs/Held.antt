-- After an accepted start the run holds, its values within their ends, its history of transitions and its marks at most 2: theorem
-- NoStaleRun.
use Rattle.std.specs.Prelude.{Ok}
use mathlib.Core.Path.{◌≡◌, refl, subst}
use mathlib.Core.Bool.{true, false, not, ◌&&◌, ◌||◌}
use mathlib.Core.List.{List, [], ◌∷◌, ◌++◌}
use mathlib.Core.Option.{Option, some, none, none-ne-some, some-injective}
use Prim.Native.Nat.{ℕ, zero, suc, ◌-◌, ◌≤◌, ◌<◌}
use native.Mathlib.Nat.{le_of_suc-le-suc, not-suc-le-zero}
use native.Mathlib.Omega.{arith}
use borrow.Author.Tests.{eqb-false, ltb-false}
use lib.Dec.{T, eqb, ltb, leb, le→leb}
use lib.IntN.{ℤ}
use lib.Signed.{le_z}
use lib.ListN.{length, take, drop, get_elem?, length-set, length-append}
use lib.Seq.{length-take-le, take-suc-set}
use Rattle.evaluation.specs.declared.Evaluation.{Evaluation}
use Rattle.evaluation.specs.declared.Evaluation.TheVariants.{Unknown, Failed, Value}
use Rattle.evaluation.specs.Numbers.{eq_z, boolean}
use Rattle.model.specs.Trees.{System, Transition, Variable, variables}
use Rattle.model.specs.WellFormed.{WellFormed}
use Rattle.model.specs.Theorems.{CheckExact}
use Rattle.expressions.specs.Expressions.{known_from}
use Rattle.interpreter.specs.Instructions.{is_within}
use Rattle.semantics.specs.Actions.{Acted}
use Rattle.semantics.specs.Actions.Acted.{faulty, states}
use Rattle.semantics.specs.Propagation.{Settled}
use Rattle.semantics.specs.Propagation.Settled.{refused, settled}
use Rattle.semantics.specs.Meanings.{Meaning, action_in, meaning_of}
use Rattle.semantics.specs.Firing.{Left, left_by_settling, left_by_acting, left_by_guard, fired, begun}
use Rattle.standing.specs.Runs.{Run}
use Rattle.std.specs.Prelude.{is_none, Some}
use Rattle.standing.specs.Holding.{first_outside, all_below, history_holds, marks_within, holds}
use Rattle.marking.specs.Marks.{refreshed}
use Rattle.marking.proofs.Refreshed.{refreshed_holds, marks_within_lem}
use Rattle.replaying.specs.Replays.{initial, refire, replay}
use Rattle.run.specs.Theorems.{NoStaleRun}
use Rattle.replaying.proofs.Tests.{clash, by_test, passed, neither, both, each, below_take}
use Rattle.replaying.proofs.Written.{Complete, rest_written}
use Rattle.replaying.proofs.Ends.{Within, initial_within, act_within, settle_complete, settle_within}
use Rattle.run.proofs.Replay.{goes_on}
use Rattle.run.proofs.Cases.{fired_run}
use Rattle.run.proofs.Invariants.{Invariant, never-after-start}

-- a value for each variable, within its ends
pub record InEnds (vs : List Variable) (values : List ℤ) : Type 0 where
  pub long : length vs ≤ length values
  pub within : Within vs (known_from values)

-- ---- values in a longer list, and in a beginning of it

written_within : (vs : List Variable) (new rest : List ℤ) → length new ≡ length vs → Within vs (known_from new) → Within vs (known_from (new ++ rest))
unfolding is_within
written_within [] [] rest e within x v g = tt
written_within [] (c ∷ new) rest e within x v g = tt
written_within (d ∷ vs) [] rest e within x v g = absurd (let p : 0 ≡ suc (length vs) = e in omega arith)
written_within (d ∷ vs) (c ∷ new) rest e within zero v g = within zero v g
written_within (d ∷ vs) (c ∷ new) rest e within (suc x) v g =
    written_within vs new rest (let p : suc (length new) ≡ suc (length vs) = e in omega arith) (λ y. within (suc y)) x v g

get_take : (n : ℕ) (l : List ℤ) (x : ℕ) (v : ℤ) → get_elem? (take n l) x ≡ some v → get_elem? l x ≡ some v
get_take zero l x v e = absurd (none-ne-some v e)
get_take (suc n) [] x v e = e
get_take (suc n) (c ∷ l) zero v e = e
get_take (suc n) (c ∷ l) (suc x) v e = get_take n l x v e

-- ---- the tests of 20

none_outside : (vs : List Variable) (values : List ℤ) (x : ℕ) → length vs ≤ length values → Within vs (known_from values)
    → T (is_none (first_outside vs values x))
unfolding first_outside is_within
none_outside [] values x h within = tt
none_outside (d ∷ vs) [] x h within = absurd (not-suc-le-zero h)
none_outside (d ∷ vs) (c ∷ values) x h within =
    passed (λ o. T (is_none o)) (le_z d.low c && le_z c d.high) (first_outside vs values (suc x)) (Some x) (within zero c refl)
    (none_outside vs values (suc x) (le_of_suc-le-suc h) (λ y. within (suc y)))

below_append : (t : ℕ) (ks : List ℕ) (k : ℕ) → T (all_below t ks) → T (ltb k t) → T (all_below t (ks ++ (k ∷ [])))
below_append t [] k h b = both (ltb k t) true b tt
below_append t (j ∷ ks) k h b =
    let parts : T (ltb j t) × T (all_below t ks) = each (ltb j t) (all_below t ks) h in
    both (ltb j t) (all_below t (ks ++ (k ∷ []))) parts.0 (below_append t ks k parts.1 b)

-- ---- firing over a meaning

-- what a meaning keeps within the ends
pub record EndsKept (m : Meaning) : Type 0 where
  pub complete : Complete m
  pub first : Within m.declarations (known_from (initial m))
  pub acted : (t : ℕ) (values : List ℤ) → InEnds m.declarations values → (ss : List ℤ) → m.action t values ≡ states ss
      → Within m.declarations (known_from ss)
  pub propagated : (ss : List ℤ) → Within m.declarations (known_from ss) → (count : ℕ) (new : List ℤ) → m.propagate ss ≡ settled count new
      → Within m.declarations (known_from new)

module _ (m : Meaning) (kept : EndsKept m) where
  -- the values left are within their ends, if it was fired
  abbrev LeftWithin : Left → Type 0
  LeftWithin l = (n : ℕ) → l.answer ≡ Ok n → InEnds m.declarations l.left

  settling_within : (old : List ℤ) → length m.declarations ≤ length old → (ss : List ℤ) → Within m.declarations (known_from ss)
      → (x : Settled) → m.propagate ss ≡ x → LeftWithin (left_by_settling old x)
  unfolding left_by_settling
  settling_within old h ss w (refused f) e n a = clash cc
  settling_within old h ss w (settled count new) e n a =
      let same : length new ≡ length m.declarations = kept.complete ss count new e in
      record {
        long = rw (rest_written (length m.declarations) old new same h).long h;
        within = written_within m.declarations new (drop (length new) old) same (kept.propagated ss w count new e);
      }

  acting_within : (t : ℕ) (old : List ℤ) → InEnds m.declarations old → (a : Acted)
      → m.action t (take (length m.declarations) old) ≡ a → LeftWithin (left_by_acting m old a)
  unfolding left_by_acting
  acting_within t old h (faulty f) e = λ n a. clash cc
  acting_within t old h (states ss) e =
      settling_within old h.long ss (kept.acted t (take (length m.declarations) old) used ss e) (m.propagate ss) refl
    where
      used : InEnds m.declarations (take (length m.declarations) old)
      used =
          record {
            long = omega (arith, length-take-le (length m.declarations) old h.long);
            within = λ x v g. h.within x v (get_take (length m.declarations) old x v g);
          }

  guard_within_lem : (t : ℕ) (old : List ℤ) → InEnds m.declarations old → (g : Evaluation) → LeftWithin (left_by_guard m t old g)
  unfolding left_by_guard
  guard_within_lem t old h Unknown = λ n a. clash cc
  guard_within_lem t old h (Failed manner) = λ n a. clash cc
  guard_within_lem t old h (Value v) =
      by_test LeftWithin (eq_z v (boolean true)) _ _
      (λ e. acting_within t old h (m.action t (take (length m.declarations) old)) refl)
      (λ e n a. clash cc)

  fired_within : (t : ℕ) (old : List ℤ) → InEnds m.declarations old → LeftWithin (fired m t old)
  unfolding fired
  fired_within t old h =
      by_test LeftWithin (ltb (length old) (length m.declarations)) _ _
      (λ e n a. clash cc)
      (λ e. guard_within_lem t old h (m.guard t (take (length m.declarations) old)))

  begun_within : (ss old : List ℤ) → Within m.declarations (known_from ss) → LeftWithin (begun m ss old)
  unfolding begun
  begun_within ss old w =
      by_test LeftWithin (ltb (length old) (length m.declarations) || not (eqb (length ss) m.states)) _ _
      (λ e n a. clash cc)
      (λ e. settling_within old (ltb-false (length old) (length m.declarations) (neither _ _ e).0) ss w (m.propagate ss) refl)

  refire_within : (ts : List ℕ) (values vs : List ℤ) → InEnds m.declarations values → refire m ts values ≡ some vs → InEnds m.declarations vs
  unfolding refire
  refire_within [] values vs h e = rw (← some-injective values vs e) h
  refire_within (t ∷ ts) values vs h e =
      goes_on (λ o. InEnds m.declarations vs) (λ x. refire m ts x) (λ x. refire m ts x) (fired m t values) vs
      (λ n f. refire_within ts (fired m t values).left vs (fired_within t values h n f)) e

  replay_within : (ts : List ℕ) (values vs : List ℤ) → replay m (initial m) ts values ≡ some vs → InEnds m.declarations vs
  unfolding replay
  replay_within ts values vs =
      goes_on (λ o. InEnds m.declarations vs) (λ x. refire m ts x) (λ x. refire m ts x) (begun m (initial m) values) vs
      (λ n f. refire_within ts (begun m (initial m) values).left vs (begun_within (initial m) values kept.first n f))

-- ---- along a list of calls

-- what number 20 asks
pub record Held (m : Meaning) (r : Run) : Type 0 where
  pub counted : r.count ≤ length r.history
  pub below : T (all_below m.transitions (take r.count r.history))
  pub marked : marks_within m.transitions r.marks ≡ true
  pub ends : InEnds m.declarations r.values

held_holds : (m : Meaning) (r : Run) → Held m r → T (holds m r)
held_holds m r h =
    both (history_holds m.transitions r.count r.history) (marks_within m.transitions r.marks && is_none (first_outside m.declarations r.values 0))
    (both (leb r.count (length r.history)) (all_below m.transitions (take r.count r.history)) (le→leb _ _ h.counted) h.below)
    (rw h.marked (none_outside m.declarations r.values 0 h.ends.long h.ends.within))

-- the marks of the guards are at most 2
refreshed_marked : (m : Meaning) (values : List ℤ) (r : Run) → marks_within m.transitions (refreshed m values r).marks ≡ true
refreshed_marked m values r = marks_within_lem m (refreshed m values r) (refreshed_holds m values r)

module _ (m : Meaning) (kept : EndsKept m) where
  fired_held : (t : ℕ) (r : Run) → Held m r → ltb t m.transitions ≡ true → eqb r.count (length r.history) ≡ false → (k : ℕ)
      → (fired m t r.values).answer ≡ Ok k
      → Held m (fired_run m r t)
  fired_held t r h low free k e =
      let inside : r.count < length r.history = omega (arith, h.counted, eqb-false r.count (length r.history) free) in
      record {
        counted = rw length-set inside;
        below =
            rw (take-suc-set r.history r.count t inside)
            (below_append m.transitions (take r.count r.history) t h.below (rw low tt));
        marked = refreshed_marked m (fired m t r.values).left r;
        ends = fired_within m kept t r.values h.ends k e;
      }

  held_invariant : Invariant 20 m
  held_invariant =
      record {
        Holds = Held m;
        started = λ r k e.
            record {
              counted = omega arith;
              below = tt;
              marked = refreshed_marked m (begun m (initial m) r.values).left r;
              ends = begun_within m kept (initial m) r.values kept.first k e;
            };
        fired = λ t r h low free k e. fired_held t r h low free k e;
        undone = λ r h f values e.
            record {
              counted = omega (arith, h.counted);
              below = below_take m.transitions (r.count - 1) r.count r.history (omega arith) h.below;
              marked = refreshed_marked m values r;
              ends = replay_within m kept (take (r.count - 1) r.history) r.values values e;
            };
        stale = λ r h e x. subst T e (held_holds m r h);
        stuck = λ r h f e. omega arith;
      }

-- ---- the meaning of a well-formed tree

tree_ends : (t : System) → WellFormed t → EndsKept (meaning_of t)
unfolding meaning_of action_in
tree_ends t w =
    record {
      complete = settle_complete t;
      first = initial_within (variables t) w.declared (length t.states);
      acted = λ k values h ss. acted (get_elem? t.transitions k) values h ss;
      propagated = settle_within t w.declared;
    }
  where
    acted : (o : Option Transition) (values : List ℤ) → InEnds (variables t) values → (ss : List ℤ) → action_in t o values ≡ states ss
        → Within (variables t) (known_from ss)
    acted none values h ss e = let q : values ≡ ss = cc in rw (← q) h.within
    acted (some d) values h ss e =
        act_within t d.action values (omega (arith, length-append t.states t.flows, h.long)) h.within ss e

module _ (check_exact : CheckExact) where
  pub held_after_start : NoStaleRun
  held_after_start =
      never-after-start 20 (λ k o. o.0) (λ file b z t e. held_invariant (meaning_of t) (tree_ends t ((check_exact file b z t).0 e).2))
