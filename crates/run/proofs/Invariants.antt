-- A refusal that never comes after an accepted start, from what holds after a start and stays along a list of calls.
use Rattle.std.specs.Prelude.{Ok}
use mathlib.Core.Path.{◌≡◌, refl, sym, ap, ◌∙◌}
use mathlib.Core.Bool.{true, false}
use mathlib.Core.List.{List}
use mathlib.Core.Option.{some, none}
use Prim.Native.Nat.{ℕ, ◌-◌}
use lib.Dec.{eqb, ltb}
use lib.IntN.{ℤ}
use lib.ListN.{length, take}
use Rattle.results.specs.Refusals.{number_of}
use Rattle.model.specs.declared.Sizes.{Sizes}
use Rattle.model.specs.Trees.{System}
use Rattle.model.specs.Check.{Verdict, verdict}
use Rattle.model.specs.Check.Verdict.{refusal, accepted}
use Rattle.model.specs.Theorems.{Bytes}
use Rattle.semantics.specs.Meanings.{Meaning, meaning_of}
use Rattle.semantics.specs.Firing as firing
use Rattle.run.specs.declared.Call.{Call}
use Rattle.run.specs.declared.Call.TheVariants.{Check, Start, Fire, Undo, Marks, Value, Pick, FirstOutside}
use Rattle.standing.specs.Runs.{Run, Store, Answer, Done, answered}
use Rattle.standing.specs.Runs.Answer.{refused, rounds}
use Rattle.standing.specs.Holding.{holds}
use Rattle.replaying.specs.Replays.{initial, replay}
use Rattle.steps.specs.Calls.{start}
use Rattle.run.specs.Lists.{call_on, call_by, call, Performed}
use Rattle.run.specs.Lists.Performed.{nothing, next}
use Rattle.run.specs.Theorems.{NoneIs, NeverAfterStart}
use Rattle.replaying.proofs.Tests.{clash}
use Rattle.run.proofs.Cases.{Other, started_run, fired_run, undone_run, start_cases, fire_cases, undo_cases, marks_cases, value_cases, pick_cases, range_cases}

-- what holds of the run after an accepted start and stays with each accepted call; under it number n is not met
pub record Invariant (n : ℕ) (m : Meaning) : Type 1 where
  pub Holds : Run → Type 0
  pub started : (r : Run) (k : ℕ) → (firing.begun m (initial m) r.values).answer ≡ Ok k → Holds (started_run m r)
  pub fired : (t : ℕ) (r : Run) → Holds r → ltb t m.transitions ≡ true → eqb r.count (length r.history) ≡ false → (k : ℕ)
      → (firing.fired m t r.values).answer ≡ Ok k → Holds (fired_run m r t)
  pub undone : (r : Run) → Holds r → eqb r.count 0 ≡ false → (values : List ℤ)
      → replay m (initial m) (take (r.count - 1) r.history) r.values ≡ some values → Holds (undone_run m r values)
  pub stale : (r : Run) → Holds r → holds m r ≡ false → 20 ≡ n → ⊥
  pub stuck : (r : Run) → Holds r → eqb r.count 0 ≡ false → replay m (initial m) (take (r.count - 1) r.history) r.values ≡ none → 31 ≡ n → ⊥

module _ (n : ℕ) (other : (k : ℕ) → Other k → k ≡ n → ⊥) where
  -- the answer is not the refusal n
  abbrev Not : Answer → Type 0
  Not a = a ≡ refused n → ⊥

  not_refused : (k : ℕ) → (k ≡ n → ⊥) → Not (refused k)
  not_refused k f e = f (let same : k ≡ n = cc in same)

  module _ (m : Meaning) (i : Invariant n m) where
    abbrev Step : Done Run → Type 0
    Step d = Not d.answer × i.Holds d.left

    refused-stays : (r : Run) → i.Holds r → (k : ℕ) → Other k → Step (answered (refused k) r)
    refused-stays r h k o = (not_refused k (other k o), h)

    pub stays : (z : Sizes) (c : Call) (s : Store) → i.Holds s.run → Not (call_on z m c s).answer × i.Holds (call_on z m c s).left.run
    unfolding call_on
    stays z Check s h = (λ e. clash cc, h)
    stays z Start s h =
        start_cases m s.run Step (refused-stays s.run h)
        (λ k e. (λ e. clash cc, i.started s.run k e))
    stays z (Fire t) s h =
        fire_cases m s.run Step (refused-stays s.run h) (λ e. (not_refused 20 (i.stale s.run h e), h)) t
        (λ below held free k e. (λ e. clash cc, i.fired t s.run h below free k e))
    stays z Undo s h =
        undo_cases m s.run Step (refused-stays s.run h) (λ e. (not_refused 20 (i.stale s.run h e), h))
        (λ f e. (not_refused 31 (i.stuck s.run h f e), h))
        (λ held f values e. (λ e. clash cc, i.undone s.run h f values e))
    stays z Marks s h = (
      marks_cases m s.run s.buffer (λ d. Not d.answer) (λ k o. not_refused k (other k o))
          (λ e. not_refused 20 (i.stale s.run h e)) (λ e. clash cc),
      h,
    )
    stays z (Value x) s h = (
      value_cases m s.run x Not (λ k o. not_refused k (other k o)) (λ e. not_refused 20 (i.stale s.run h e))
          (λ e. clash cc),
      h,
    )
    stays z Pick s h = (
      pick_cases m s.run Not (λ k o. not_refused k (other k o)) (λ e. not_refused 20 (i.stale s.run h e)) (λ e. clash cc),
      h,
    )
    stays z FirstOutside s h = (range_cases m s.run.values Not (λ k o. not_refused k (other k o)) (λ x looked e. clash cc), h)

    pub begins : (r : Run) (count : ℕ) → (start m r).answer ≡ rounds count → i.Holds (start m r).left
    begins r count =
        start_cases m r (λ d. d.answer ≡ rounds count → i.Holds d.left)
        (λ k o e. clash cc)
        (λ k e p. i.started r k e)

    never : (file : List ℕ) (z : Sizes) → ((c : Call) (s : Store) → call file c s ≡ call_on z m c s) → {cs : List Call} {s : Store} {rs : List (Done Store)}
        → Performed file cs s rs → i.Holds s.run → NoneIs n rs
    unfolding NoneIs
    never file z e nothing h = tt
    never file z e (next {c = c} {s = s} {d = d} p rest) h =
        let k : Not d.answer × i.Holds d.left.run = rw (p ∙ e c s) (stays z c s h) in (k.0, never file z e rest k.1)

  pub never-after-start : ((file : List ℕ) → Bytes file → (z : Sizes) (t : System) → verdict file ≡ accepted z t → Invariant n (meaning_of t))
      → NeverAfterStart n
  unfolding call_by call_on
  never-after-start invariant file b s d count promised started cs rs performed = go (verdict file) refl
    where
      go : (v : Verdict) → verdict file ≡ v → NoneIs n rs
      go (refusal k) e = clash (let q : refused (number_of k) ≡ rounds count = rw e at (ap (λ x. x.answer) (sym promised) ∙ started) in cc)
      go (accepted z t) e =
          let i : Invariant n (meaning_of t) = invariant file b z t e in
          let h : i.Holds d.left.run =
          rw (promised, e) (begins (meaning_of t) i s.run count (rw e at (ap (λ x. x.answer) (sym promised) ∙ started))) in
          never (meaning_of t) i file z (λ c x. rw e) performed h
