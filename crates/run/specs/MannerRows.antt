-- 02, A8: "38, 39, 40 too large in a guard, an action, the assertion, each right after 24, 25, 28, which keep the zero divisor". Whole
-- calls for each number, with both manners together in either order, and beside what they come before. Proved in proofs/MannerRows.antt.
use Rattle.std.specs.Prelude.{◌≡◌, [], ◌∷◌, ℕ, ℤ, pos, neg_ℤ}
use Rattle.evaluation.specs.declared.Operator.TheVariants.{Conjunction, Equality, Sum, Quotient, Remainder}
use Rattle.model.specs.Trees.{Expression, Instruction, System}
use Rattle.model.specs.Trees.Expression.{numeral, truth, variable, binary, if_then_else}
use Rattle.model.specs.Trees.Instruction.{skip, assign, if_then}
use Rattle.semantics.specs.Meanings.{meaning_of}
use Rattle.semantics.specs.Rows.{both}
use Rattle.standing.specs.Runs.{Run, Done, run, answered}
use Rattle.standing.specs.Runs.Answer.{refused, rounds}
use Rattle.steps.specs.Calls.{start, fire, undo}
use Rattle.run.specs.Rows.{up_to_five, with_transition, firing, fired_to4, unfired, starting, settled_to, unsettled}

-- 1 div 0
abbrev pub by_zero : Expression
by_zero = binary Quotient (numeral (pos 1)) (numeral (pos 0))

-- 2,147,483,647 + 1
abbrev pub too_large : Expression
too_large = binary Sum (numeral (pos 2147483647)) (numeral (pos 1))

-- a guard or a condition that fails as the number does
abbrev pub is_zero : Expression → Expression
is_zero e = binary Equality e (numeral (pos 0))

-- ---- guards

-- fired with this guard, over an action that could be carried out
abbrev pub guarding : Expression → Done Run
guarding guard = firing guard (numeral (pos 4))

-- 24, 38
abbrev pub GuardManners : Type 0
GuardManners =
    (guarding (is_zero by_zero) ≡ unfired 24)
    × (guarding (is_zero (binary Remainder (numeral (pos 1)) (numeral (pos 0)))) ≡ unfired 24)
    × (guarding (is_zero too_large) ≡ unfired 38)
    × (guarding (is_zero (binary Quotient (numeral (neg_ℤ (pos 2147483648))) (numeral (neg_ℤ (pos 1))))) ≡ unfired 38)

-- of two operands that failed a zero divisor wins, on either side; an operand that failed is not worked with, so over 0 it stays too large
abbrev pub OperandManners : Type 0
OperandManners =
    (guarding (binary Equality by_zero too_large) ≡ unfired 24)
    × (guarding (binary Equality too_large by_zero) ≡ unfired 24)
    × (guarding (binary Conjunction (is_zero by_zero) (is_zero too_large)) ≡ unfired 24)
    × (guarding (binary Conjunction (is_zero too_large) (is_zero by_zero)) ≡ unfired 24)
    × (guarding (is_zero (binary Quotient too_large (numeral (pos 0)))) ≡ unfired 38)
    × (guarding (is_zero (binary Remainder too_large (numeral (pos 0)))) ≡ unfired 38)

-- x := if too large then y else 4, y := w: x waits for y, then its branches agree or not (A6)
abbrev pub waiting_for : ℤ → Done Run
waiting_for w =
    starting (up_to_five ∷ up_to_five ∷ [])
    (both (assign 0 (if_then_else (is_zero too_large) (variable 1) (numeral (pos 4)))) (assign 1 (numeral w)))
    (pos 0 ∷ pos 0 ∷ [])

-- a failed condition passes its own manner on, whatever failed in its branches; A6's agreement and unknown branch come first
abbrev pub ConditionManners : Type 0
ConditionManners =
    (guarding (if_then_else (is_zero too_large) (is_zero by_zero) (truth (pos 1))) ≡ unfired 38)
    × (guarding (if_then_else (is_zero by_zero) (is_zero too_large) (truth (pos 1))) ≡ unfired 24)
    × (guarding (if_then_else (is_zero too_large) (truth (pos 1)) (truth (pos 1))) ≡ fired_to4)
    × (waiting_for (pos 4) ≡ settled_to 3 (pos 4 ∷ pos 4 ∷ []))
    × (waiting_for (pos 3) ≡ unsettled 40 (pos 0 ∷ pos 0 ∷ []))

-- ---- actions and the assertion

-- a value outside its ends
abbrev pub outside : Instruction
outside = assign 0 (numeral (pos 9))

-- two values for one variable
abbrev pub conflict : Instruction
conflict = both (assign 0 (numeral (pos 1))) (assign 0 (numeral (pos 2)))

-- A zero divisor, then too large, of an active expression and of a reached condition; both in either order; then 26 or 29, 27 or 30.
-- `does` carries the instruction out, `by` is the refusal with a number, and these are the two numbers.
abbrev pub FaultManners : (Instruction → Done Run) → (ℕ → Done Run) → ℕ → ℕ → Type 0
FaultManners does by zero_divisor large =
    (does (assign 1 by_zero) ≡ by zero_divisor)
    × (does (assign 1 too_large) ≡ by large)
    × (does (if_then (is_zero by_zero) skip) ≡ by zero_divisor)
    × (does (if_then (is_zero too_large) skip) ≡ by large)
    × (does (both (assign 0 by_zero) (assign 1 too_large)) ≡ by zero_divisor)
    × (does (both (assign 0 too_large) (assign 1 by_zero)) ≡ by zero_divisor)
    × (does (both outside (assign 1 by_zero)) ≡ by zero_divisor)
    × (does (both outside (assign 1 too_large)) ≡ by large)
    × (does (both (assign 1 too_large) outside) ≡ by large)
    × (does (both conflict (assign 1 by_zero)) ≡ by zero_divisor)
    × (does (both conflict (assign 1 too_large)) ≡ by large)
    × (does (both (assign 1 too_large) conflict) ≡ by large)

-- two states, one flow, and one transition
abbrev pub with_all : Expression → Instruction → Instruction → System
with_all guard action assertion =
    record {
      states = up_to_five ∷ up_to_five ∷ [];
      flows = up_to_five ∷ [];
      events = 1;
      transitions = record { event = 0; guard = guard; action = action } ∷ [];
      assertion = assertion;
    }

-- fired over zeros, with a history of one place; mark 2 and entry 9 are made up
abbrev pub doing : Expression → Instruction → Instruction → Done Run
doing guard action assertion =
    fire (meaning_of (with_all guard action assertion)) 0 (run (pos 0 ∷ pos 0 ∷ pos 0 ∷ []) (2 ∷ []) (9 ∷ []) 0)

-- refused with this number, all as it was
abbrev pub undone : ℕ → Done Run
undone number = answered (refused number) (run (pos 0 ∷ pos 0 ∷ pos 0 ∷ []) (2 ∷ []) (9 ∷ []) 0)

-- 25, 39, then 26 and 27
abbrev pub ActionManners : Type 0
ActionManners = FaultManners (λ action. doing (truth (pos 1)) action skip) undone 25 39

-- three flows, started
abbrev pub settling : Instruction → Done Run
settling assertion = starting (up_to_five ∷ up_to_five ∷ up_to_five ∷ []) assertion (pos 0 ∷ pos 0 ∷ pos 0 ∷ [])

abbrev pub unsettled_by : ℕ → Done Run
unsettled_by number = unsettled number (pos 0 ∷ pos 0 ∷ pos 0 ∷ [])

-- 28, 40, then 29 and 30
abbrev pub AssertionManners : Type 0
AssertionManners = FaultManners settling unsettled_by 28 40

-- guard, action, assertion: the first that fails counts, whatever the next would meet
abbrev pub PlaceManners : Type 0
PlaceManners =
    (doing (is_zero too_large) (assign 0 by_zero) (assign 2 by_zero) ≡ undone 38)
    × (doing (truth (pos 1)) (assign 0 too_large) (assign 2 by_zero) ≡ undone 39)
    × (doing (truth (pos 1)) skip (assign 2 too_large) ≡ undone 40)

-- flow 1 is 0, known in the second round, in which flow 2 divides by it
abbrev pub late_zero : Instruction
late_zero = both (assign 1 (numeral (pos 0))) (assign 2 (binary Quotient (numeral (pos 1)) (variable 1)))

-- the first round with a fault ends it, whatever a later one would meet
abbrev pub RoundManners : Type 0
RoundManners =
    (settling late_zero ≡ unsettled_by 28)
    × (settling (both late_zero (assign 0 too_large)) ≡ unsettled_by 40)
    × (settling (both late_zero conflict) ≡ unsettled_by 30)

-- met in the reading after the reset alone: flow 1 is never given a value, and is reset to 0
abbrev pub ResetManners : Type 0
ResetManners =
    (settling (assign 0 (binary Quotient (numeral (pos 1)) (variable 1))) ≡ unsettled_by 28)
    × (settling (assign 0 (binary Sum (numeral (pos 2147483647)) (binary Sum (variable 1) (numeral (pos 1))))) ≡ unsettled_by 40)

-- ---- what says as much as before

-- started with this guard
abbrev pub starting_with : Expression → Done Run
starting_with guard = start (meaning_of (with_transition guard (numeral (pos 4)))) (run (pos 0 ∷ []) (0 ∷ []) [] 0)

-- a mark is 2 in either manner
abbrev pub MarkManners : Type 0
MarkManners =
    (starting_with (is_zero by_zero) ≡ answered (rounds 1) (run (pos 0 ∷ []) (2 ∷ []) [] 0))
    × (starting_with (is_zero too_large) ≡ answered (rounds 1) (run (pos 0 ∷ []) (2 ∷ []) [] 0))

-- the last of two steps is taken back, and the first cannot be fired again
abbrev pub undoing : Expression → Expression → Done Run
undoing guard value = undo (meaning_of (with_transition guard value)) (run (pos 4 ∷ []) (2 ∷ []) (0 ∷ 0 ∷ []) 2)

abbrev pub not_undone : Done Run
not_undone = answered (refused 31) (run (pos 4 ∷ []) (2 ∷ []) (0 ∷ 0 ∷ []) 2)

-- an undo is refused with 31 in either manner, of a guard and of an action
abbrev pub UndoManners : Type 0
UndoManners =
    (undoing (is_zero by_zero) (numeral (pos 4)) ≡ not_undone)
    × (undoing (is_zero too_large) (numeral (pos 4)) ≡ not_undone)
    × (undoing (truth (pos 1)) by_zero ≡ not_undone)
    × (undoing (truth (pos 1)) too_large ≡ not_undone)

abbrev pub MannerRows : Type 0
MannerRows =
    GuardManners × OperandManners × ConditionManners × ActionManners × AssertionManners × PlaceManners × RoundManners × ResetManners
    × MarkManners × UndoManners
