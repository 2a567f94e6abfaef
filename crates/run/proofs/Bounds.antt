-- What an accepted call on a file tells: the bounds of the round count, of the transition and of the count.
use Rattle.std.specs.Prelude.{Ok}
use mathlib.Core.Path.{◌≡◌, refl, sym, ap, ◌∙◌, subst}
use mathlib.Core.Bool.{false, true≢false}
use mathlib.Core.List.{List}
use Prim.Native.Nat.{ℕ, suc, ◌≤◌, ◌<◌}
use native.Mathlib.Omega.{arith}
use borrow.Author.Tests.{ltb-true, eqb-false}
use lib.IntN.{ℤ}
use lib.ListN.{length}
use Rattle.results.specs.Refusals.{number_of}
use Rattle.model.specs.declared.Sizes.{Sizes}
use Rattle.model.specs.Trees.{System}
use Rattle.model.specs.Check.{Verdict, verdict}
use Rattle.model.specs.Check.Verdict.{refusal, accepted}
use Rattle.model.specs.Theorems.{Bytes}
use Rattle.model.specs.WellFormed.{WellFormed}
use Rattle.model.proofs.CheckExact.{check_exact}
use Rattle.results.specs.Results.{answered, over}
use Rattle.semantics.specs.Firing.{Firing}
use Rattle.semantics.specs.Propagation.Settled.{settled}
use Rattle.semantics.specs.Meanings.{Meaning, meaning_of}
use Rattle.semantics.specs.Firing.{Left, fired, begun}
use Rattle.semantics.proofs.Rounds.{rounds_bounded_tree}
use Rattle.run.specs.declared.Call.{Call}
use Rattle.run.specs.declared.Call.TheVariants as calls
use Rattle.standing.specs.Runs.{Store, Answer, Done}
use Rattle.standing.specs.Runs.Answer.{refused, rounds, done, number, sizes, picked, outside}
use Rattle.replaying.specs.Replays.{is_fired, initial}
use Rattle.run.specs.Lists.{call_on, call_by, call, CountWithin, CountBounded, Promise}
use Rattle.replaying.proofs.Tests.{clash}
use Rattle.replaying.proofs.Outcomes.{fired_left, begun_left}
use Rattle.steps.proofs.StepTests.{count_within}
use Rattle.run.proofs.Cases.{start_cases, fire_cases, undo_cases, marks_cases, value_cases, pick_cases, range_cases}

-- ---- rounds that are answered come of a settled assertion

module _ (m : Meaning) (n : ℕ) (old : List ℤ) where
  abbrev Settles : Left → Type 0
  Settles l = l.answer ≡ Ok n → (ss : List ℤ) × (new : List ℤ) × (m.propagate ss ≡ settled n new)

  refused_settles : (f : Firing) → is_fired f ≡ false → Settles (answered f old)
  refused_settles f e q = absurd (true≢false (ap is_fired (sym q) ∙ e))

  settled_settles : length m.declarations ≤ length old → (k : ℕ) (new ss : List ℤ) → m.propagate ss ≡ settled k new
      → Settles (answered (Ok k) (over new old))
  settled_settles enough k new ss e q = let same : k ≡ n = cc in (ss, new, e ∙ ap (λ k. settled k new) same)

  fired_settles : (t : ℕ) → Settles (fired m t old)
  fired_settles = fired_left m Settles old refused_settles settled_settles

  begun_settles : (ss : List ℤ) → Settles (begun m ss old)
  begun_settles = begun_left m Settles old refused_settles settled_settles

-- ---- over a well-formed tree

no_rounds : (k count : ℕ) → refused k ≡ rounds count → ⊥
no_rounds k count e = clash cc

module _ (t : System) (w : WellFormed t) (count : ℕ) where
  abbrev Within : Type 0
  Within = (1 ≤ count) × (count ≤ suc (length t.flows))

  abbrev WithinBy : {A : Type 0} → Done A → Type 0
  WithinBy d = d.answer ≡ rounds count → Within

  settled_within : ((ss : List ℤ) × (new : List ℤ) × ((meaning_of t).propagate ss ≡ settled count new)) → Within
  unfolding meaning_of
  settled_within x = let b = rounds_bounded_tree t w x.0 count x.1 x.2 in (b.0, b.1)

  call_within : (z : Sizes) (c : Call) (s : Store) → (call_on z (meaning_of t) c s).answer ≡ rounds count → Within
  unfolding call_on
  call_within z calls.Check s e = clash cc
  call_within z calls.Start s e =
      start_cases (meaning_of t) s.run WithinBy (λ k o e. absurd (no_rounds k count e))
      (λ n f e. let same : n ≡ count = cc in settled_within (begun_settles (meaning_of t) count s.run.values (initial (meaning_of t)) (f ∙ ap Ok same)))
      e
  call_within z (calls.Fire k) s e =
      fire_cases (meaning_of t) s.run WithinBy (λ k o e. absurd (no_rounds k count e)) (λ h e. absurd (no_rounds 20 count e)) k
      (λ below held free n f e. let same : n ≡ count = cc in settled_within (fired_settles (meaning_of t) count s.run.values k (f ∙ ap Ok same)))
      e
  call_within z calls.Undo s e =
      undo_cases (meaning_of t) s.run WithinBy (λ k o e. absurd (no_rounds k count e)) (λ h e. absurd (no_rounds 20 count e))
      (λ h f e. absurd (no_rounds 31 count e)) (λ held h values f e. clash cc) e
  call_within z calls.Marks s e =
      marks_cases (meaning_of t) s.run s.buffer WithinBy (λ k o e. absurd (no_rounds k count e)) (λ h e. absurd (no_rounds 20 count e)) (λ e. clash cc) e
  call_within z (calls.Value x) s e =
      value_cases (meaning_of t) s.run x (λ a. a ≡ rounds count → Within) (λ k o e. absurd (no_rounds k count e)) (λ h e. absurd (no_rounds 20 count e)) (λ e. clash cc) e
  call_within z calls.Pick s e =
      pick_cases (meaning_of t) s.run (λ a. a ≡ rounds count → Within) (λ k o e. absurd (no_rounds k count e)) (λ h e. absurd (no_rounds 20 count e)) (λ e. clash cc) e
  call_within z calls.FirstOutside s e =
      range_cases (meaning_of t) s.run.values (λ a. a ≡ rounds count → Within) (λ k o e. absurd (no_rounds k count e)) (λ x looked e. clash cc) e

-- ---- on a file

within_by : (flows : ℕ) (a : Answer) → ((count : ℕ) → a ≡ rounds count → (1 ≤ count) × (count ≤ suc flows)) → CountWithin flows a
unfolding CountWithin
within_by flows (refused k) h = tt
within_by flows (rounds n) h = h n refl
within_by flows done h = tt
within_by flows (number v) h = tt
within_by flows (sizes z) h = tt
within_by flows (picked t) h = tt
within_by flows (outside x looked) h = tt

module _ (m : List ℕ) (bytes : Bytes m) where
  bounded_by : (c : Call) (s : Store) (a : Answer) (v : Verdict) → verdict m ≡ v → a ≡ (call_by v c s).answer → CountBounded v a
  unfolding call_by CountBounded
  bounded_by c s a (refusal k) e q = tt
  bounded_by c s a (accepted z t) e q =
      let x = (check_exact m bytes z t).0 e in
      within_by z.flows a (λ count r.
      subst (λ (s : Sizes). (1 ≤ count) × (count ≤ suc s.flows)) (sym x.1) (call_within t x.2 count z c s (sym q ∙ r)))

  -- the promise of a call bounds the round count that it answers
  pub bounded : (c : Call) (s : Store) (d : Done Store) → Promise m c s d → CountBounded (verdict m) d.answer
  bounded c s d p = bounded_by c s d.answer (verdict m) refl (ap (λ (d : Done Store). d.answer) p)

  -- an accepted fire was of a transition, with room in the history
  pub fire_fits : (t : ℕ) (s : Store) (count : ℕ) → (call m (calls.Fire t) s).answer ≡ rounds count
      → (t < 65536) × (s.run.count < length s.run.history)
  unfolding call_by call_on meaning_of
  fire_fits t s count = go (verdict m) refl
    where
      go : (v : Verdict) → verdict m ≡ v → (call_by v (calls.Fire t) s).answer ≡ rounds count → (t < 65536) × (s.run.count < length s.run.history)
      go (refusal k) e q = absurd (no_rounds (number_of k) count q)
      go (accepted z y) e q =
          let x = (check_exact m bytes z y).0 e in
          fire_cases (meaning_of y) s.run (λ d. d.answer ≡ rounds count → (t < 65536) × (s.run.count < length s.run.history))
          (λ k o e. absurd (no_rounds k count e)) (λ h e. absurd (no_rounds 20 count e)) t
          (λ below held free n f e. (
            omega (arith, ltb-true t (length y.transitions) below, x.2.transitions),
            omega (
              arith,
              count_within (meaning_of y) s.run held,
              eqb-false s.run.count (length s.run.history) free,
            ),
          ))
          q

-- an accepted undo has a step to take back
pub undo_fits : (m : List ℕ) (s : Store) → (call m calls.Undo s).answer ≡ done → s.run.count ≡ 0 → ⊥
unfolding call_by call_on
undo_fits m s = go (verdict m)
  where
    go : (v : Verdict) → (call_by v calls.Undo s).answer ≡ done → s.run.count ≡ 0 → ⊥
    go (refusal k) q h = clash cc
    go (accepted z t) q h =
        undo_cases (meaning_of t) s.run (λ d. d.answer ≡ done → s.run.count ≡ 0 → ⊥) (λ k o e h. clash cc) (λ h e g. clash cc)
        (λ h f e g. clash cc) (λ held some-step values f e. eqb-false s.run.count 0 some-step) q h
