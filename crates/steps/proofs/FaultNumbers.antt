-- Among which numbers those of guards and of faults are.
use mathlib.Core.Path.{◌≡◌, refl}
use mathlib.Core.Logic.{◌⊎◌, inl, inr}
use Prim.Native.Nat.{ℕ, ◌≤◌}
use native.Mathlib.Omega.{arith}
use Rattle.evaluation.specs.declared.Manner.{Manner}
use Rattle.evaluation.specs.declared.Manner.TheVariants.{ZeroDivisor, TooLarge}
use Rattle.interpreter.specs.declared.Fault.{Fault}
use Rattle.interpreter.specs.declared.Fault.TheVariants.{Failure, Outside, Conflict}
use Rattle.interpreter.specs.Instructions.{guard_number, fault_number}
use Rattle.interpreter.specs.Instructions.Place.{action, assertion}

pub guard_numbered : (m : Manner) → (guard_number m ≡ 24) ⊎ (guard_number m ≡ 38)
unfolding guard_number
guard_numbered ZeroDivisor = inl refl
guard_numbered TooLarge = inr refl

-- the number of a fault of an action or of the assertion
abbrev pub FaultNumber : ℕ → Type 0
FaultNumber n = ((25 ≤ n) × (n ≤ 30)) ⊎ ((39 ≤ n) × (n ≤ 40))

pub action_number : (f : Fault) → FaultNumber (fault_number action f)
unfolding fault_number
action_number (Failure ZeroDivisor) = inl (omega arith)
action_number (Failure TooLarge) = inr (omega arith)
action_number Outside = inl (omega arith)
action_number Conflict = inl (omega arith)

pub assertion_number : (f : Fault) → FaultNumber (fault_number assertion f)
unfolding fault_number
assertion_number (Failure ZeroDivisor) = inl (omega arith)
assertion_number (Failure TooLarge) = inr (omega arith)
assertion_number Outside = inl (omega arith)
assertion_number Conflict = inl (omega arith)
