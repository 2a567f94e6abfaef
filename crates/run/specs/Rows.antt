-- 02, A6: "A start or fire may thereby be accepted that gave 24, 25, 28, 29 or 30 before." For each number a model with an if-then-else:
-- with branches that agree it is accepted, with branches that differ it gives the number, which 01 alone gives to both. Proved in
-- proofs/Rows.antt.
use Rattle.std.specs.Prelude.{◌≡◌, List, [], ◌∷◌, ℕ, ℤ, pos}
use Rattle.evaluation.specs.declared.Operator.TheVariants.{Equality, Quotient}
use Rattle.model.specs.Trees.{Expression, Instruction, Variable, System}
use Rattle.model.specs.Trees.Expression.{numeral, truth, variable, binary, if_then_else}
use Rattle.model.specs.Trees.Instruction.{skip, assign}
use Rattle.semantics.specs.Meanings.{meaning_of}
use Rattle.semantics.specs.Rows.{both, number_variable, boolean_variable, of_flows}
use Rattle.standing.specs.Runs.{Run, Done, run, answered}
use Rattle.standing.specs.Runs.Answer.{refused, rounds}
use Rattle.steps.specs.Calls.{start, fire}

-- 1 div 0 = 0, which failed
abbrev pub failing : Expression
failing = binary Equality (binary Quotient (numeral (pos 1)) (numeral (pos 0))) (numeral (pos 0))

-- if c then 4 else w
abbrev pub four_else : Expression → ℤ → Expression
four_else c w = if_then_else c (numeral (pos 4)) (numeral w)

-- a number from 0 to 5, first 0
abbrev pub up_to_five : Variable
up_to_five = number_variable (pos 0) (pos 5) (pos 0)

-- ---- firing

-- one state, and one transition that assigns to it
abbrev pub with_transition : Expression → Expression → System
with_transition guard value =
    record {
      states = up_to_five ∷ [];
      flows = [];
      events = 1;
      transitions = record { event = 0; guard = guard; action = assign 0 value } ∷ [];
      assertion = skip;
    }

-- fired at state 0, with a history of one place; mark 2 and entry 9 are made up
abbrev pub firing : Expression → Expression → Done Run
firing guard value = fire (meaning_of (with_transition guard value)) 0 (run (pos 0 ∷ []) (2 ∷ []) (9 ∷ []) 0)

-- the state is 4, the guard true, transition 0 recorded
abbrev pub fired_to4 : Done Run
fired_to4 = answered (rounds 1) (run (pos 4 ∷ []) (1 ∷ []) (0 ∷ []) 1)

-- refused with this number, all as it was
abbrev pub unfired : ℕ → Done Run
unfired number = answered (refused number) (run (pos 0 ∷ []) (2 ∷ []) (9 ∷ []) 0)

-- 24: the condition of a guard failed
abbrev pub GuardRow : Type 0
GuardRow =
    (firing (if_then_else failing (truth (pos 1)) (truth (pos 1))) (numeral (pos 4)) ≡ fired_to4)
    × (firing (if_then_else failing (truth (pos 1)) (truth (pos 0))) (numeral (pos 4)) ≡ unfired 24)

-- 25: that of an action's expression
abbrev pub ActionRow : Type 0
ActionRow =
    (firing (truth (pos 1)) (four_else failing (pos 4)) ≡ fired_to4)
    × (firing (truth (pos 1)) (four_else failing (pos 5)) ≡ unfired 25)

-- ---- starting

-- a model of flows alone, with these cells
abbrev pub starting : List Variable → Instruction → List ℤ → Done Run
starting flows assertion values = start (meaning_of (of_flows flows assertion)) (run values [] [] 0)

-- accepted with this count
abbrev pub settled_to : ℕ → List ℤ → Done Run
settled_to count values = answered (rounds count) (run values [] [] 0)

-- refused with this number, the cells as they were
abbrev pub unsettled : ℕ → List ℤ → Done Run
unsettled number values = answered (refused number) (run values [] [] 0)

-- x := if failing then y else 4, y := w: x waits for y, then its branches agree or not
abbrev pub late : ℤ → Instruction
late w = both (assign 0 (if_then_else failing (variable 1) (numeral (pos 4)))) (assign 1 (numeral w))

-- 28: that of the assertion's expression, with both branches known at once, and with one known in the second round
abbrev pub AssertionRow : Type 0
AssertionRow =
    (starting (up_to_five ∷ []) (assign 0 (four_else failing (pos 4))) (pos 0 ∷ []) ≡ settled_to 2 (pos 4 ∷ []))
    × (starting (up_to_five ∷ []) (assign 0 (four_else failing (pos 5))) (pos 0 ∷ []) ≡ unsettled 28 (pos 0 ∷ []))
    × (starting (up_to_five ∷ up_to_five ∷ []) (late (pos 4)) (pos 0 ∷ pos 0 ∷ []) ≡ settled_to 3 (pos 4 ∷ pos 4 ∷ []))
    × (starting (up_to_five ∷ up_to_five ∷ []) (late (pos 3)) (pos 0 ∷ pos 0 ∷ []) ≡ unsettled 28 (pos 0 ∷ pos 0 ∷ []))

-- x := if y then 4 else w, y := (x = 4)
abbrev pub circular : ℤ → Instruction
circular w = both (assign 0 (four_else (variable 1) w)) (assign 1 (binary Equality (variable 0) (numeral (pos 4))))

-- the same, and z := if x = 0 then 9 else x
abbrev pub circular_with_third : ℤ → Instruction
circular_with_third w =
    both (circular w)
    (assign 2 (if_then_else (binary Equality (variable 0) (numeral (pos 0))) (numeral (pos 9)) (variable 0)))

-- 29: without agreement x and y wait and are reset; then x is 0, so that z is 9, outside its ends, and 29 is below the 30 of x
abbrev pub OutsideRow : Type 0
OutsideRow =
    let flows = up_to_five ∷ boolean_variable (pos 0) ∷ up_to_five ∷ [] in
    let cells = pos 0 ∷ pos 0 ∷ pos 0 ∷ [] in
    (starting flows (circular_with_third (pos 4)) cells ≡ settled_to 3 (pos 4 ∷ pos 1 ∷ pos 4 ∷ []))
    × (starting flows (circular_with_third (pos 5)) cells ≡ unsettled 29 cells)

-- 30: x is reset to 0 and given 5
abbrev pub ConflictRow : Type 0
ConflictRow =
    let flows = up_to_five ∷ boolean_variable (pos 0) ∷ [] in
    let cells = pos 0 ∷ pos 0 ∷ [] in
    (starting flows (circular (pos 4)) cells ≡ settled_to 3 (pos 4 ∷ pos 1 ∷ []))
    × (starting flows (circular (pos 5)) cells ≡ unsettled 30 cells)

abbrev pub AgreementRows : Type 0
AgreementRows = GuardRow × ActionRow × AssertionRow × OutsideRow × ConflictRow
