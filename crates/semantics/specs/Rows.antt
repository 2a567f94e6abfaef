-- 01, "Rows to prove": "These twelve are shown to hold for the definitions as one collected list".
use Rattle.std.specs.Prelude.{◌≡◌, List, [], ◌∷◌, T, ℤ, pos}
use Rattle.std.specs.Int.Signed.{le_z}
use Rattle.evaluation.specs.declared.Manner.TheVariants.{ZeroDivisor}
use Rattle.evaluation.specs.declared.Operator.TheVariants.{Quotient}
use Rattle.evaluation.specs.Rows.{RowA, RowB, RowC, RowD, RowE, RowF, RowG}
use Rattle.kinds.specs.declared.Sort.TheVariants.{Boolean, Number}
use Rattle.model.specs.Trees.{Instruction, Variable, System}
use Rattle.model.specs.Trees.Expression.{numeral, variable, negation, binary}
use Rattle.model.specs.Trees.Instruction.{skip, assign, block}
use Rattle.model.specs.Trees.Instructions.{none, more}
use Rattle.interpreter.specs.declared.Fault.TheVariants.{Failure, Conflict}
use Rattle.interpreter.specs.Instructions.{fault_number}
use Rattle.interpreter.specs.Instructions.Place.{action, assertion}
use Rattle.semantics.specs.Actions.{act}
use Rattle.semantics.specs.Actions.Acted.{faulty, states}
use Rattle.semantics.specs.Propagation.{settle}
use Rattle.semantics.specs.Propagation.Settled.{refused, settled}

-- two instructions in parallel
abbrev pub both : Instruction → Instruction → Instruction
both i j = block (more i (more j none))

abbrev pub number_variable : ℤ → ℤ → ℤ → Variable
number_variable low high first = record { sort = Number; low = low; high = high; first = first }

abbrev pub boolean_variable : ℤ → Variable
boolean_variable first = record { sort = Boolean; low = pos 0; high = pos 1; first = first }

-- a model of states alone
abbrev pub of_states : List Variable → System
of_states vs = record { states = vs; flows = []; events = 0; transitions = []; assertion = skip }

-- a model of flows and an assertion alone
abbrev pub of_flows : List Variable → Instruction → System
of_flows vs i = record { states = []; flows = vs; events = 0; transitions = []; assertion = i }

-- (h) block a := b, b := a exchanges, whatever the old values within the ends
abbrev pub RowH : Type 0
RowH =
    (low high a b : ℤ) → T (le_z low a) → T (le_z a high) → T (le_z low b) → T (le_z b high)
    → act (of_states (number_variable low high a ∷ number_variable low high b ∷ []))
    (both (assign 0 (variable 1)) (assign 1 (variable 0))) (a ∷ b ∷ []) ≡ states (b ∷ a ∷ [])

-- (i) a := 1 twice passes; 1 and 2 give 27
abbrev pub RowI : Type 0
RowI =
    (act (of_states (number_variable (pos 0) (pos 5) (pos 0) ∷ [])) (both (assign 0 (numeral (pos 1))) (assign 0 (numeral (pos 1)))) (pos 0 ∷ [])
    ≡ states (pos 1 ∷ []))
    × (act (of_states (number_variable (pos 0) (pos 5) (pos 0) ∷ [])) (both (assign 0 (numeral (pos 1))) (assign 0 (numeral (pos 2)))) (pos 0 ∷ [])
    ≡ faulty Conflict)
    × (fault_number action Conflict ≡ 27)

-- flows v := w, w := v with these resets
abbrev pub exchanging : ℤ → ℤ → System
exchanging v w =
    of_flows (number_variable (pos 0) (pos 5) v ∷ number_variable (pos 0) (pos 5) w ∷ [])
    (both (assign 0 (variable 1)) (assign 1 (variable 0)))

-- (j) flows v := w, w := v, resets 0, 0: both 0, one round; resets 0, 1: 30
abbrev pub RowJ : Type 0
RowJ =
    (settle (exchanging (pos 0) (pos 0)) [] ≡ settled 1 (pos 0 ∷ pos 0 ∷ []))
    × (settle (exchanging (pos 0) (pos 1)) [] ≡ refused Conflict)
    × (fault_number assertion Conflict ≡ 30)

-- (k) v := not v, reset 0: 30
abbrev pub RowK : Type 0
RowK =
    (settle (of_flows (boolean_variable (pos 0) ∷ []) (assign 0 (negation (variable 0)))) [] ≡ refused Conflict)
    × (fault_number assertion Conflict ≡ 30)

-- (l) a := 1 div 0 beside b := 9 with ends 0 to 5: 25 in either order
abbrev pub divides : Instruction
divides = assign 0 (binary Quotient (numeral (pos 1)) (numeral (pos 0)))

abbrev pub leaves : Instruction
leaves = assign 1 (numeral (pos 9))

abbrev pub RowL : Type 0
RowL =
    (act (of_states (number_variable (pos 0) (pos 5) (pos 0) ∷ number_variable (pos 0) (pos 5) (pos 0) ∷ [])) (both divides leaves) (pos 0 ∷ pos 0 ∷ [])
    ≡ faulty (Failure ZeroDivisor))
    × (act (of_states (number_variable (pos 0) (pos 5) (pos 0) ∷ number_variable (pos 0) (pos 5) (pos 0) ∷ [])) (both leaves divides) (pos 0 ∷ pos 0 ∷ [])
    ≡ faulty (Failure ZeroDivisor))
    × (fault_number action (Failure ZeroDivisor) ≡ 25)

abbrev pub Rows : Type 0
Rows = RowA × RowB × RowC × RowD × RowE × RowF × RowG × RowH × RowI × RowJ × RowK × RowL
