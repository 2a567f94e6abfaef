-- How the code holds the states and flows of actions and of the assertion, and what it may ask of the nodes lent to it.
use Rattle.std.specs.Prelude.{◌≡◌, List, [], ◌∷◌, map, ℕ, suc, ◌≤◌, ℤ, length, take, drop, Result, Ok, Err, Option as Optional, Some, unwrap_or}
use Rattle.std.proofs.Math.Option.{Option, some, none}
use Rattle.results.specs.Results.{Answered, answered}
use Rattle.model.specs.Trees.{Instruction, System, variables}
use Rattle.model.specs.Standing.{InstructionAt}
use Rattle.model.specs.WellFormed.{WellFormed, Scoped, sizes_of}
use Rattle.model.specs.Check.{action_scope}
use Rattle.variables.specs.declared.VariableRow.{VariableRow}
use Rattle.variables.specs.Rows.{variable_rows}
use Rattle.interpreter.specs.declared.Fault.{Fault}
use Rattle.interpreter.specs.Cells.{NextPlaces}
use Rattle.semantics.specs.Actions.{Acted}
use Rattle.semantics.specs.Actions.Acted.{faulty, states as acted}
use Rattle.semantics.specs.Propagation.{Settled as Settling}
use Rattle.semantics.specs.Propagation.Settled.{refused, settled}
use Rattle.rounds.specs.Cells.{AssertionStands}

-- one cell for each variable, a mark for each node
abbrev pub Fits : ℕ → ℕ → List (Optional ℤ) → List (Optional ℤ) → List ℕ → List ℕ → Type 0
Fits variables nodes cells given queue waits =
    (length cells ≡ variables) × (length given ≡ variables) × (length queue ≡ variables) × (length waits ≡ nodes)

-- the cells of variables that have these values
abbrev pub cells_of : List ℤ → List (Optional ℤ)
cells_of values = map Some values

-- what the cells hold, and these values where they hold nothing
unfoldable pub held_or : List (Optional ℤ) → List ℤ → List ℤ
held_or [] values = values
held_or (c ∷ cells) [] = []
held_or (c ∷ cells) (v ∷ values) = unwrap_or c v ∷ held_or cells values

-- the answer with the flows as they are left: those after so many states, the old ones where it is refused
unfoldable pub flows_by_settling : ℕ → List ℤ → Settling → Answered (Result ℕ Fault) (List ℤ)
flows_by_settling states old (refused f) = answered (Err f) old
flows_by_settling states old (settled count new) = answered (Ok count) (drop states new)

-- 01: "so it is at most F + 1"
unfoldable pub CountWithin : ℕ → Result ℕ Fault → Type 0
CountWithin flows (Err f) = Unit {0}
CountWithin flows (Ok count) = (1 ≤ count) × (count ≤ suc flows)

-- the answer with the states as they are left: where there is no fault those take their values that have one
unfoldable pub changed_by : Option Fault → List ℤ → List (Optional ℤ) → Answered (Result (Unit {0}) Fault) (List ℤ)
changed_by (some f) old given = answered (Err f) old
changed_by none old given = answered (Ok tt) (held_or given old)

-- the answer with the states as they are left
unfoldable pub states_by_acting : List ℤ → Acted → Answered (Result (Unit {0}) Fault) (List ℤ)
states_by_acting old (faulty f) = answered (Err f) old
states_by_acting old (acted new) = answered (Ok tt) new

module _ (ks : List ℕ) (ps : List ℤ) where
  -- the assertion stands at the place, with as many cells for states and flows as there are
  pub record PropagationStands (nexts : List ℕ) (rows : List VariableRow) (at : ℕ) (states flows : ℕ) : Type 0 where
    pub assertion : AssertionStands ks ps nexts rows at
    pub state_cells : states ≡ length assertion.system.states
    pub flow_cells : flows ≡ length assertion.system.flows

  -- an action of a well-formed system stands at the place, over the values of all variables, which the cells hold, and with the old states
  pub record ActionStands (nexts : List ℕ) (rows : List VariableRow) (cells : List (Optional ℤ)) (old : List ℤ) (at : ℕ) : Type 0 where
    pub values : List ℤ
    pub system : System
    pub action : Instruction
    pub well_formed : WellFormed system
    pub scoped : Scoped action (action_scope (sizes_of system) (variables system))
    pub stands : InstructionAt ks ps action at
    pub places : NextPlaces ks ps nexts
    pub rows_held : rows ≡ variable_rows (variables system)
    pub held : cells ≡ cells_of values
    pub long : length values ≡ length (variables system)
    pub states : old ≡ take (length system.states) values
