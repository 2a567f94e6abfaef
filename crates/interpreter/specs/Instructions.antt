-- 01, "Action and assertion": what an instruction comes to over a valuation, and its faults.
-- "An assignment is active if all conditions around it are true. A condition is reached if all conditions around it are true."
use Rattle.std.specs.Prelude.{Bool, true, false, cond, not, ◌&&◌, ◌||◌, List, [], ◌∷◌, ◌++◌, ℕ, eqb, ℤ}
use Rattle.std.proofs.Math.Option.{Option, some, none}
use Rattle.std.specs.Int.Signed.{le_z}
use Rattle.std.proofs.Math.ListN.{get_elem?}
use Rattle.evaluation.specs.declared.Evaluation.{Evaluation}
use Rattle.evaluation.specs.declared.Evaluation.TheVariants.{Unknown, Failed, Value}
use Rattle.evaluation.specs.declared.Manner.{Manner}
use Rattle.evaluation.specs.declared.Manner.TheVariants.{ZeroDivisor, TooLarge}
use Rattle.evaluation.specs.Numbers.{eq_z, boolean}
use Rattle.evaluation.specs.Meaning.{same_manner}
use Rattle.model.specs.Trees.{Instruction, Instructions, Variable}
use Rattle.model.specs.Trees.Instruction.{skip, assign, if_then, block}
use Rattle.model.specs.Trees.Instructions.{none as no_branch, more}
use Rattle.interpreter.specs.declared.Fault.{Fault}
use Rattle.interpreter.specs.declared.Fault.TheVariants.{Failure, Outside, Conflict}
use Rattle.expressions.specs.Expressions.{Valuation, evaluate}

-- a reached condition or an active expression failed, in this manner, or an active assignment gives a variable a value
pub data Effect : Type 0 where
  fails : Manner → Effect
  gives : ℕ → ℤ → Effect

-- of an active assignment; 01: "Unknown expressions and conditions wait."
unfoldable pub assigned : ℕ → Evaluation → List Effect
assigned x Unknown = []
assigned x (Failed m) = fails m ∷ []
assigned x (Value v) = gives x v ∷ []

-- of what stands under a reached condition
unfoldable pub under : Evaluation → List Effect → List Effect
under Unknown es = []
under (Failed m) es = fails m ∷ []
under (Value v) es = cond (eq_z v (boolean true)) es []

unfoldable mutual
  pub effects : Instruction → Valuation → List Effect
  effects skip σ = []
  effects (assign x e) σ = assigned x (evaluate e σ)
  effects (if_then c i) σ = under (evaluate c σ) (effects i σ)
  effects (block is) σ = effects_of_all is σ

  pub effects_of_all : Instructions → Valuation → List Effect
  effects_of_all no_branch σ = []
  effects_of_all (more i is) σ = effects i σ ++ effects_of_all is σ

unfoldable pub any : {A : Type 0} → (A → Bool) → List A → Bool
any p [] = false
any p (a ∷ rest) = p a || any p rest

-- a failure in this manner
unfoldable pub is_failure : Manner → Effect → Bool
is_failure m (fails n) = same_manner m n
is_failure m (gives x v) = false

unfoldable pub is_within : Option Variable → ℤ → Bool
is_within none v = true
is_within (some d) v = le_z d.low v && le_z v d.high

-- "an active value is outside its variable's ends"
unfoldable pub is_outside : List Variable → Effect → Bool
is_outside vs (fails m) = false
is_outside vs (gives x v) = not (is_within (get_elem? vs x) v)

unfoldable pub differs : ℤ → Option ℤ → Bool
differs v none = false
differs v (some w) = not (eq_z v w)

-- the value that the effect gives to the variable
unfoldable pub given_by : ℕ → Effect → Option ℤ
given_by x (fails m) = none
given_by x (gives y v) = cond (eqb x y) (some v) none

-- "two active assignments give one variable different values", or one that "differs from a known value"
unfoldable pub conflicts_with : Valuation → List Effect → Effect → Bool
conflicts_with known es (fails m) = false
conflicts_with known es (gives x v) = differs v (known x) || any (λ e. differs v (given_by x e)) es

-- 01: "refused if a reached condition or active expression failed (25); else if an active value is outside its variable's
-- ends (26); else if two active assignments give one variable different values (27)". 02, A8: too large "right after" the zero divisor; "a
-- round's first fault in the order 28, 40, 29, 30 counts".
unfoldable pub fault_of : List Variable → Valuation → List Effect → Option Fault
fault_of vs known es =
    cond (any (is_failure ZeroDivisor) es) (some (Failure ZeroDivisor))
    (cond (any (is_failure TooLarge) es) (some (Failure TooLarge))
    (cond (any (is_outside vs) es) (some Outside)
    (cond (any (conflicts_with known es) es) (some Conflict) none)))

unfoldable pub first_of : Option ℤ → Option ℤ → Option ℤ
first_of none b = b
first_of (some v) b = some v

-- the value given to a variable; where there is no conflict all are the same
unfoldable pub given_to : ℕ → List Effect → Option ℤ
given_to x [] = none
given_to x (e ∷ es) = first_of (given_by x e) (given_to x es)

-- where a fault was met, for its number
pub data Place : Type 0 where
  action assertion : Place

-- 01: the numbers 25 to 30; 02, A8: 39 and 40 "too large in [..] an action, the assertion"
unfoldable pub fault_number : Place → Fault → ℕ
fault_number action (Failure ZeroDivisor) = 25
fault_number action (Failure TooLarge) = 39
fault_number action Outside = 26
fault_number action Conflict = 27
fault_number assertion (Failure ZeroDivisor) = 28
fault_number assertion (Failure TooLarge) = 40
fault_number assertion Outside = 29
fault_number assertion Conflict = 30

-- 01: 24; 02, A8: 38 "too large in a guard". A guard has no other fault.
unfoldable pub guard_number : Manner → ℕ
guard_number ZeroDivisor = 24
guard_number TooLarge = 38
