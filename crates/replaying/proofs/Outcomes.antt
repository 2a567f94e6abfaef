-- Firing and starting by cases: refused with the values as they were, or settled.
use Rattle.std.specs.Prelude.{Ok, Err}
use mathlib.Core.Path.{◌≡◌, refl}
use mathlib.Core.Bool.{true, false, not, ◌||◌}
use mathlib.Core.List.{List}
use Prim.Native.Nat.{ℕ, ◌≤◌}
use borrow.Author.Tests.{ltb-false}
use lib.Dec.{eqb, ltb}
use lib.IntN.{ℤ}
use lib.ListN.{length, take}
use Rattle.evaluation.specs.declared.Evaluation.{Evaluation}
use Rattle.evaluation.specs.declared.Evaluation.TheVariants.{Unknown, Failed, Value}
use Rattle.evaluation.specs.Numbers.{eq_z, boolean}
use Rattle.results.specs.Results.{answered, over}
use Rattle.semantics.specs.Firing.{Firing}
use Rattle.semantics.specs.declared.NotFired.TheVariants.{Disabled, GuardFailed, ActionFault, AssertionFault}
use Rattle.semantics.specs.Actions.{Acted}
use Rattle.semantics.specs.Actions.Acted.{faulty, states}
use Rattle.semantics.specs.Propagation.{Settled}
use Rattle.semantics.specs.Propagation.Settled.{refused, settled}
use Rattle.semantics.specs.Meanings.{Meaning}
use Rattle.semantics.specs.Firing.{Left, left_by_settling, left_by_acting, left_by_guard, fired, begun}
use Rattle.replaying.specs.Replays.{is_fired}
use Rattle.replaying.proofs.Tests.{by_test, neither}

module _ (m : Meaning) (P : Left → Type 0) (old : List ℤ) (refusal : (f : Firing) → is_fired f ≡ false → P (answered f old))
    (settles : length m.declarations ≤ length old → (k : ℕ) (new ss : List ℤ) → m.propagate ss ≡ settled k new → P (answered (Ok k) (over new old))) where
  module _ (enough : length m.declarations ≤ length old) where
    settling_cases : (ss : List ℤ) (x : Settled) → m.propagate ss ≡ x → P (left_by_settling old x)
    unfolding left_by_settling
    settling_cases ss (refused f) e = refusal (Err (AssertionFault f)) refl
    settling_cases ss (settled k new) e = settles enough k new ss e

    acting_cases : (a : Acted) → P (left_by_acting m old a)
    unfolding left_by_acting
    acting_cases (faulty f) = refusal (Err (ActionFault f)) refl
    acting_cases (states ss) = settling_cases ss (m.propagate ss) refl

    guard_cases : (t : ℕ) (g : Evaluation) → P (left_by_guard m t old g)
    unfolding left_by_guard
    guard_cases t Unknown = refusal (Err Disabled) refl
    guard_cases t (Failed manner) = refusal (Err (GuardFailed manner)) refl
    guard_cases t (Value v) =
        by_test P (eq_z v (boolean true)) _ _ (λ e. acting_cases (m.action t (take (length m.declarations) old))) (λ e. refusal (Err Disabled) refl)

  pub fired_left : (t : ℕ) → P (fired m t old)
  unfolding fired
  fired_left t =
      by_test P (ltb (length old) (length m.declarations)) _ _ (λ e. refusal (Err Disabled) refl)
      (λ e. guard_cases (ltb-false (length old) (length m.declarations) e) t (m.guard t (take (length m.declarations) old)))

  pub begun_left : (ss : List ℤ) → P (begun m ss old)
  unfolding begun
  begun_left ss =
      by_test P (ltb (length old) (length m.declarations) || not (eqb (length ss) m.states)) _ _ (λ e. refusal (Err Disabled) refl)
      (λ e. settling_cases (ltb-false (length old) (length m.declarations) (neither _ _ e).0) ss (m.propagate ss) refl)
