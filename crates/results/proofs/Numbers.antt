-- The numbers of the refusals differ, and none is 0.
use mathlib.Core.Path.{◌≡◌, refl, sym, ap, ◌∙◌}
use Prim.Native.Nat.{ℕ, ◌≤◌}
use native.Mathlib.Omega.{arith}
use lib.Dec.{eqb}
use mathlib.Core.Bool.{cond}
use Rattle.results.specs.declared.refusal.Refusal.{Refusal}
use Rattle.results.specs.declared.refusal.Refusal.TheVariants.{ShortFile, TooManyNodes, WrongLength, MissingNode, TooDeep, KindNotAllowed, ParameterNotAllowed, NodesLeftOver, ShortValues, ShortSlice, NoSuchTransition, NoSuchVariable, NoCommand, InvalidRun, FullHistory, EmptyHistory, GuardFalse, GuardZeroDivisor, ActionZeroDivisor, ActionOutside, ActionConflict, AssertionZeroDivisor, AssertionOutside, AssertionConflict, NotReplayable, NotInGrammar, TypesDoNotFit, TextTooLarge, NoMembers, LimitPassed, TooManyVariables, GuardTooLarge, ActionTooLarge, AssertionTooLarge, NoWindows}
use Rattle.results.specs.Refusals.{number_of, NumbersDiffer}

-- the refusal of a number; of other numbers it has no meaning
refusal_of : ℕ → Refusal
refusal_of n =
    cond (eqb n 1) ShortFile
    (cond (eqb n 2) TooManyNodes
    (cond (eqb n 3) WrongLength
    (cond (eqb n 4) MissingNode
    (cond (eqb n 5) TooDeep
    (cond (eqb n 6) KindNotAllowed
    (cond (eqb n 7) ParameterNotAllowed
    (cond (eqb n 8) NodesLeftOver
    (cond (eqb n 9) ShortValues
    (cond (eqb n 10) ShortSlice
    (cond (eqb n 11) NoSuchTransition
    (cond (eqb n 12) NoSuchVariable
    (cond (eqb n 13) NoCommand
    (cond (eqb n 20) InvalidRun
    (cond (eqb n 21) FullHistory
    (cond (eqb n 22) EmptyHistory
    (cond (eqb n 23) GuardFalse
    (cond (eqb n 24) GuardZeroDivisor
    (cond (eqb n 25) ActionZeroDivisor
    (cond (eqb n 26) ActionOutside
    (cond (eqb n 27) ActionConflict
    (cond (eqb n 28) AssertionZeroDivisor
    (cond (eqb n 29) AssertionOutside
    (cond (eqb n 30) AssertionConflict
    (cond (eqb n 31) NotReplayable
    (cond (eqb n 32) NotInGrammar
    (cond (eqb n 33) TypesDoNotFit
    (cond (eqb n 34) TextTooLarge
    (cond (eqb n 35) NoMembers
    (cond (eqb n 36) LimitPassed
    (cond (eqb n 37) TooManyVariables
    (cond (eqb n 38) GuardTooLarge
    (cond (eqb n 39) ActionTooLarge
    (cond (eqb n 40) AssertionTooLarge
    NoWindows)))))))))))))))))))))))))))))))))

found_again : (r : Refusal) → refusal_of (number_of r) ≡ r
unfolding refusal_of number_of
found_again ShortFile = refl
found_again TooManyNodes = refl
found_again WrongLength = refl
found_again MissingNode = refl
found_again TooDeep = refl
found_again KindNotAllowed = refl
found_again ParameterNotAllowed = refl
found_again NodesLeftOver = refl
found_again ShortValues = refl
found_again ShortSlice = refl
found_again NoSuchTransition = refl
found_again NoSuchVariable = refl
found_again NoCommand = refl
found_again InvalidRun = refl
found_again FullHistory = refl
found_again EmptyHistory = refl
found_again GuardFalse = refl
found_again GuardZeroDivisor = refl
found_again ActionZeroDivisor = refl
found_again ActionOutside = refl
found_again ActionConflict = refl
found_again AssertionZeroDivisor = refl
found_again AssertionOutside = refl
found_again AssertionConflict = refl
found_again NotReplayable = refl
found_again NotInGrammar = refl
found_again TypesDoNotFit = refl
found_again TextTooLarge = refl
found_again NoMembers = refl
found_again LimitPassed = refl
found_again TooManyVariables = refl
found_again GuardTooLarge = refl
found_again ActionTooLarge = refl
found_again AssertionTooLarge = refl
found_again NoWindows = refl

positive : (r : Refusal) → 1 ≤ number_of r
unfolding number_of
positive ShortFile = omega arith
positive TooManyNodes = omega arith
positive WrongLength = omega arith
positive MissingNode = omega arith
positive TooDeep = omega arith
positive KindNotAllowed = omega arith
positive ParameterNotAllowed = omega arith
positive NodesLeftOver = omega arith
positive ShortValues = omega arith
positive ShortSlice = omega arith
positive NoSuchTransition = omega arith
positive NoSuchVariable = omega arith
positive NoCommand = omega arith
positive InvalidRun = omega arith
positive FullHistory = omega arith
positive EmptyHistory = omega arith
positive GuardFalse = omega arith
positive GuardZeroDivisor = omega arith
positive ActionZeroDivisor = omega arith
positive ActionOutside = omega arith
positive ActionConflict = omega arith
positive AssertionZeroDivisor = omega arith
positive AssertionOutside = omega arith
positive AssertionConflict = omega arith
positive NotReplayable = omega arith
positive NotInGrammar = omega arith
positive TypesDoNotFit = omega arith
positive TextTooLarge = omega arith
positive NoMembers = omega arith
positive LimitPassed = omega arith
positive TooManyVariables = omega arith
positive GuardTooLarge = omega arith
positive ActionTooLarge = omega arith
positive AssertionTooLarge = omega arith
positive NoWindows = omega arith

pub numbers_differ : NumbersDiffer
numbers_differ = (positive, λ r r' e. sym (found_again r) ∙ (ap refusal_of e ∙ found_again r'))
