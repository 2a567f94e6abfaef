-- Why a transition was not fired is found again by the number.
use mathlib.Core.Path.{◌≡◌, refl, sym, ap, ◌∙◌}
use mathlib.Core.Bool.{cond}
use Prim.Native.Nat.{ℕ}
use native.Mathlib.Omega.{arith}
use lib.Dec.{eqb}
use Rattle.std.specs.Prelude.{Err}
use Rattle.evaluation.specs.declared.Manner.TheVariants.{ZeroDivisor, TooLarge}
use Rattle.interpreter.specs.declared.Fault.TheVariants.{Failure, Outside, Conflict}
use Rattle.interpreter.specs.Instructions.{guard_number, fault_number}
use Rattle.interpreter.specs.Instructions.Place.{action, assertion}
use Rattle.semantics.specs.declared.NotFired.{NotFired}
use Rattle.semantics.specs.declared.NotFired.TheVariants.{Disabled, GuardFailed, ActionFault, AssertionFault}
use Rattle.standing.specs.Runs.Answer.{refused}
use Rattle.steps.specs.Calls.{answer_of}
use Rattle.steps.specs.Theorems.{NumbersApart}
use Rattle.steps.proofs.FaultNumbers.{guard_numbered, action_number, assertion_number}

-- the reason with a number; of other numbers it has no meaning
reason_of : ℕ → NotFired
reason_of n =
    cond (eqb n 23) Disabled
    (cond (eqb n 24) (GuardFailed ZeroDivisor)
    (cond (eqb n 38) (GuardFailed TooLarge)
    (cond (eqb n 25) (ActionFault (Failure ZeroDivisor))
    (cond (eqb n 39) (ActionFault (Failure TooLarge))
    (cond (eqb n 26) (ActionFault Outside)
    (cond (eqb n 27) (ActionFault Conflict)
    (cond (eqb n 28) (AssertionFault (Failure ZeroDivisor))
    (cond (eqb n 40) (AssertionFault (Failure TooLarge))
    (cond (eqb n 29) (AssertionFault Outside)
    (AssertionFault Conflict))))))))))

number : NotFired → ℕ
number Disabled = 23
number (GuardFailed m) = guard_number m
number (ActionFault f) = fault_number action f
number (AssertionFault f) = fault_number assertion f

numbered : (f : NotFired) → answer_of (Err f) ≡ refused (number f)
unfolding answer_of number
numbered Disabled = refl
numbered (GuardFailed m) = refl
numbered (ActionFault f) = refl
numbered (AssertionFault f) = refl

found_again : (f : NotFired) → reason_of (number f) ≡ f
unfolding reason_of number guard_number fault_number
found_again Disabled = refl
found_again (GuardFailed ZeroDivisor) = refl
found_again (GuardFailed TooLarge) = refl
found_again (ActionFault (Failure ZeroDivisor)) = refl
found_again (ActionFault (Failure TooLarge)) = refl
found_again (ActionFault Outside) = refl
found_again (ActionFault Conflict) = refl
found_again (AssertionFault (Failure ZeroDivisor)) = refl
found_again (AssertionFault (Failure TooLarge)) = refl
found_again (AssertionFault Outside) = refl
found_again (AssertionFault Conflict) = refl

not_replay : (f : NotFired) → number f ≡ 31 → ⊥
unfolding number
not_replay Disabled e = omega (arith, e)
not_replay (GuardFailed m) e = omega (arith, e, guard_numbered m)
not_replay (ActionFault f) e = omega (arith, e, action_number f)
not_replay (AssertionFault f) e = omega (arith, e, assertion_number f)

pub refused_same : {a b : ℕ} → refused a ≡ refused b → a ≡ b
refused_same e = cc

pub numbers_apart : NumbersApart
numbers_apart = (
  λ f g e. sym (found_again f) ∙ ap reason_of (refused_same (sym (numbered f) ∙ e ∙ numbered g)) ∙ found_again g,
  λ f e. not_replay f (refused_same (sym (numbered f) ∙ e)),
)
