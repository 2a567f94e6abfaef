-- Theorem PickedFires: what pick answers, fire does not refuse by its guard.
use mathlib.Core.Path.{◌≡◌, sym, subst}
use mathlib.Core.Bool.{true, false, not}
use mathlib.Core.List.{List}
use mathlib.Core.Logic.{◌⊎◌, inl, inr}
use Rattle.std.specs.Prelude.{Some}
use Prim.Native.Nat.{ℕ, ◌<◌}
use borrow.Author.Tests.{lt-ltb, not-false}
use lib.Dec.{eqb}
use lib.IntN.{ℤ}
use lib.ListN.{length, take}
use Rattle.evaluation.specs.declared.Evaluation.TheVariants.{Value}
use Rattle.evaluation.specs.Numbers.{eq_z, boolean}
use Rattle.semantics.specs.Actions.{Acted}
use Rattle.semantics.specs.Actions.Acted.{faulty, states}
use Rattle.semantics.specs.Propagation.{Settled}
use Rattle.semantics.specs.Propagation.Settled.{refused as unsettled, settled}
use Rattle.semantics.specs.Meanings.{Meaning}
use Rattle.semantics.specs.Firing.{left_by_settling, left_by_acting, left_by_guard, fired}
use Rattle.standing.specs.Runs.{Run, Answer, Done}
use Rattle.standing.specs.Runs.Answer.{refused, picked}
use Rattle.standing.specs.Holding.{too_short, too_few, holds}
use Rattle.steps.specs.Calls.{answer_of, fire}
use Rattle.replaying.proofs.Tests.{clash, by_test}
use Rattle.steps.proofs.FaultNumbers.{FaultNumber, action_number, assertion_number}
use Rattle.inspection.specs.Queries.{pick}
use Rattle.inspection.specs.Theorems.{PickedFires}
use Rattle.inspection.proofs.Lowest.{pick_lowest, fireable_exact}

-- a refusal is one of those that are left
abbrev Later : Answer → Type 0
Later a = (k : ℕ) → a ≡ refused k → (k ≡ 21) ⊎ FaultNumber k

fault_later : (n : ℕ) → FaultNumber n → Later (refused n)
fault_later n f k e = let same : n ≡ k = cc in inr (subst FaultNumber same f)

settling_later : (old : List ℤ) (s : Settled) → Later (answer_of (left_by_settling old s).answer)
unfolding left_by_settling answer_of
settling_later old (unsettled f) = fault_later _ (assertion_number f)
settling_later old (settled n new) = λ k e. clash cc

acting_later : (m : Meaning) (old : List ℤ) (a : Acted) → Later (answer_of (left_by_acting m old a).answer)
unfolding left_by_acting answer_of
acting_later m old (faulty f) = fault_later _ (action_number f)
acting_later m old (states ss) = settling_later old (m.propagate ss)

module _ (m : Meaning) (r : Run) where
  -- the run was not refused
  standing : (t : ℕ) → pick m r ≡ picked (Some t) → (too_short m r.values ≡ false) × (too_few m r.marks ≡ false) × (holds m r ≡ true)
  unfolding pick
  standing t =
      by_test Stands (too_short m r.values) _ _ (λ e p. clash cc) (λ long.
      by_test Stands (too_few m r.marks) _ _ (λ e p. clash cc) (λ room.
      by_test Stands (not (holds m r)) _ _ (λ e p. clash cc) (λ held p. (long, room, not-false _ held))))
    where
      Stands : Answer → Type 0
      Stands a = a ≡ picked (Some t) → (too_short m r.values ≡ false) × (too_few m r.marks ≡ false) × (holds m r ≡ true)

  guarded_later : (t : ℕ) → too_short m r.values ≡ false
      → m.guard t (take (length m.declarations) r.values) ≡ Value (boolean true) → Later (answer_of (fired m t r.values).answer)
  unfolding fired left_by_guard eq_z
  guarded_later t long g = rw (long, g) (acting_later m r.values (m.action t (take (length m.declarations) r.values)))

  fire_later : (t : ℕ) → too_short m r.values ≡ false → too_few m r.marks ≡ false → t < m.transitions → holds m r ≡ true
      → m.guard t (take (length m.declarations) r.values) ≡ Value (boolean true) → Later (fire m t r).answer
  unfolding fire
  fire_later t long room below held g =
      rw (long, room, lt-ltb t m.transitions below, held)
      (by_test (λ (d : Done Run). Later d.answer) (eqb r.count (length r.history)) _ _
      (λ e k p. inl (let same : 21 ≡ k = cc in sym same)) (λ e. guarded_later t long g))

pub picked_fires : PickedFires
picked_fires m r t e =
    let s = standing m r t e in
    let f = (((pick_lowest m r s.0 s.1 s.2).0 t).0 e).0 in
    let g = (fireable_exact m r.values t).0 f in
    fire_later m r t s.0 s.1 f.0 s.2 g.1
