-- The numbers of the refusals. 01, "Refused because of the input" and "Refused because of the state"; the numbers from 32 on are those of
-- 02's requests. Of 1, 2 and 3 the words are those of A7; of an old file they say 6 bytes, 4,000 nodes and 6 + 5N.
use Rattle.std.specs.Prelude.{◌≡◌, ℕ, ◌≤◌}
use Rattle.results.specs.declared.refusal.Refusal.{Refusal}
use Rattle.results.specs.declared.refusal.Refusal.TheVariants.{ShortFile, TooManyNodes, WrongLength, MissingNode, TooDeep, KindNotAllowed, ParameterNotAllowed, NodesLeftOver, ShortValues, ShortSlice, NoSuchTransition, NoSuchVariable, NoCommand, InvalidRun, FullHistory, EmptyHistory, GuardFalse, GuardZeroDivisor, ActionZeroDivisor, ActionOutside, ActionConflict, AssertionZeroDivisor, AssertionOutside, AssertionConflict, NotReplayable, NotInGrammar, TypesDoNotFit, TextTooLarge, NoMembers, LimitPassed, TooManyVariables, GuardTooLarge, ActionTooLarge, AssertionTooLarge, NoWindows}

unfoldable pub number_of : Refusal → ℕ
-- "under 10 bytes"
number_of ShortFile = 1
-- "N above 12,000"
number_of TooManyNodes = 2
-- "a length not 10 + 5N"
number_of WrongLength = 3
-- "a node is due past the N-th"
number_of MissingNode = 4
-- "depth 33"
number_of TooDeep = 5
-- "kind not allowed there"
number_of KindNotAllowed = 6
-- "parameter or variable not allowed there"
number_of ParameterNotAllowed = 7
-- "nodes left over"
number_of NodesLeftOver = 8
-- "values slice under S+F"
number_of ShortValues = 9
-- "marks slice under T"
number_of ShortSlice = 10
-- "transition T or above"
number_of NoSuchTransition = 11
-- "variable S+F or above"
number_of NoSuchVariable = 12
-- "program only: a line is no command"
number_of NoCommand = 13
-- "n above the record's length, one of the first n entries T or above, or a value outside its ends"
number_of InvalidRun = 20
-- "fire with n equal to the record's length"
number_of FullHistory = 21
-- "take back with n = 0"
number_of EmptyHistory = 22
-- "guard false"
number_of GuardFalse = 23
-- "guard failed"; A8: 24, 25, 28 "keep the zero divisor"
number_of GuardZeroDivisor = 24
-- "a reached condition or active expression failed"
number_of ActionZeroDivisor = 25
-- "an active value is outside its variable's ends"
number_of ActionOutside = 26
-- "two active assignments give one variable different values"
number_of ActionConflict = 27
-- "28, 29, 30 are as 25, 26, 27"
number_of AssertionZeroDivisor = 28
number_of AssertionOutside = 29
number_of AssertionConflict = 30
-- "start is refused, or the first n − 1 entries can't be fired again"
number_of NotReplayable = 31
-- "not in the grammar"
number_of NotInGrammar = 32
-- "types that don't fit"
number_of TypesDoNotFit = 33
-- "text over 200 bytes [..] or nodes deeper than 32"
number_of TextTooLarge = 34
-- "both lists empty"
number_of NoMembers = 35
-- "the result would pass a limit of sizes, nodes or depth, or the slice lent for it"
number_of LimitPassed = 36
-- "S+F above 4,000"
number_of TooManyVariables = 37
-- "too large in a guard, an action, the assertion, each right after 24, 25, 28"
number_of GuardTooLarge = 38
number_of ActionTooLarge = 39
number_of AssertionTooLarge = 40
-- "W zero or above 1,000, S+F zero, or a slice that is no whole number of rows"
number_of NoWindows = 41

-- 0 is no refusal's number, and no two refusals have one number. Proved in proofs/Numbers.antt.
abbrev pub NumbersDiffer : Type 0
NumbersDiffer = ((r : Refusal) → 1 ≤ number_of r) × ((r r' : Refusal) → number_of r ≡ number_of r' → r ≡ r')
