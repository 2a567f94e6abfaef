-- The marks held: theorems MarksSet, MarksStay and MarksHeld.
use mathlib.Core.Path.{◌≡◌, refl, sym, ap, ◌∙◌, subst}
use mathlib.Core.List.{List}
use Prim.Native.Nat.{ℕ}
use native.Mathlib.Omega.{arith}
use Rattle.model.specs.Check.{Verdict, verdict}
use Rattle.model.specs.Check.Verdict.{refusal, accepted}
use Rattle.semantics.specs.Meanings.{Meaning, meaning_of}
use Rattle.semantics.specs.Firing.{fired, begun}
use Rattle.run.specs.declared.Call.{Call}
use Rattle.run.specs.declared.Call.TheVariants.{Start}
use Rattle.standing.specs.Runs.{Run, Store, Done}
use Rattle.standing.specs.Runs.Answer.{refused, rounds}
use Rattle.marking.specs.Marks.{HoldsMarks}
use Rattle.marking.proofs.Refreshed.{refreshed_holds}
use Rattle.replaying.specs.declared.Move.TheVariants as Move
use Rattle.replaying.specs.Replays.{initial}
use Rattle.steps.specs.Calls.{step_on}
use Rattle.run.specs.Lists.{call_on, call_by, Performed, last_left}
use Rattle.run.specs.Lists.Performed.{nothing, next}
use Rattle.run.specs.Theorems.{MarksSet, HoldsMarksOn, MarksStay, MarksHeld}
use Rattle.run.proofs.Cases.{Other, start_cases, fire_cases, undo_cases}
use Rattle.run.proofs.Invariants.{Invariant, stays, begins}

-- an answer that is no refusal leaves the marks of the guards
abbrev SetRight : Meaning → Done Run → Type 0
SetRight m d = ((k : ℕ) → d.answer ≡ refused k → ⊥) → HoldsMarks m d.left

pub marks_set : MarksSet
unfolding step_on
marks_set m Move.Start r =
    start_cases m r (SetRight m) (λ k o n. absurd (n k refl)) (λ n e x. refreshed_holds m (begun m (initial m) r.values).left r)
marks_set m (Move.Fire t) r =
    fire_cases m r (SetRight m) (λ k o n. absurd (n k refl)) (λ e n. absurd (n 20 refl)) t
    (λ below held free n e x. refreshed_holds m (fired m t r.values).left r)
marks_set m Move.Undo r =
    undo_cases m r (SetRight m) (λ k o n. absurd (n k refl)) (λ e n. absurd (n 20 refl)) (λ f e n. absurd (n 31 refl))
    (λ held f values e x. refreshed_holds m values r)

-- ---- along a list of calls

-- no refusal is number 0, so the invariant says of the marks alone
marks_invariant : (m : Meaning) → Invariant 0 m
marks_invariant m =
    record {
      Holds = HoldsMarks m;
      started = λ r k e. refreshed_holds m (begun m (initial m) r.values).left r;
      fired = λ t r h below free k e. refreshed_holds m (fired m t r.values).left r;
      undone = λ r h f values e. refreshed_holds m values r;
      stale = λ r h e. omega arith;
      stuck = λ r h f e. omega arith;
    }

not_zero : (k : ℕ) → Other k → k ≡ 0 → ⊥
not_zero k o e = omega (arith, o.2)

stays_by : (v : Verdict) (c : Call) (s : Store) → HoldsMarksOn v s.run → HoldsMarksOn v (call_by v c s).left.run
unfolding call_by HoldsMarksOn marks_invariant
stays_by (refusal n) c s h = h
stays_by (accepted z t) c s h = (stays 0 not_zero (meaning_of t) (marks_invariant (meaning_of t)) z c s h).1

begins_by : (v : Verdict) (s : Store) (count : ℕ) → (call_by v Start s).answer ≡ rounds count → HoldsMarksOn v (call_by v Start s).left.run
unfolding call_by call_on HoldsMarksOn marks_invariant
begins_by (refusal n) s count e = tt
begins_by (accepted z t) s count e = begins 0 not_zero (meaning_of t) (marks_invariant (meaning_of t)) s.run count e

-- what a call leaves holds the marks of its guards
abbrev LeftMarked : List ℕ → Done Store → Type 0
LeftMarked m d = HoldsMarksOn (verdict m) d.left.run

stay : (m : List ℕ) {cs : List Call} {s : Store} {rs : List (Done Store)} → Performed m cs s rs
    → HoldsMarksOn (verdict m) s.run → HoldsMarksOn (verdict m) (last_left s rs).run
unfolding last_left
stay m nothing h = h
stay m (next {c = c} {s = s} p rest) h = stay m rest (subst (LeftMarked m) (sym p) (stays_by (verdict m) c s h))

pub marks_stay : MarksStay
marks_stay m cs s rs p = stay m p

pub marks_held : MarksHeld
marks_held m s d count p e cs rs performed =
    stay m performed (subst (LeftMarked m) (sym p) (begins_by (verdict m) s count (ap (λ (d : Done Store). d.answer) (sym p) ∙ e)))
