-- What `decode` makes of an accepted file for the layers above.
use Rattle.std.specs.Prelude.{◌≡◌, cond, List, [], ◌∷◌, ◌++◌, ℕ, ◌+◌, ◌<◌, ◌≤◌, ℤ, take, Result, Ok, Err}
use Rattle.results.specs.Results.{Answered, answered, over}
use Rattle.results.specs.declared.refusal.Refusal.{Refusal}
use Rattle.kinds.specs.declared.Sort.{Sort}
use Rattle.kinds.specs.declared.Sort.TheVariants.{Boolean}
use Rattle.kinds.specs.Sameness.{is_sort}
use Rattle.model.specs.declared.Sizes.{Sizes}
use Rattle.model.specs.declared.Model.{Model}
use Rattle.model.specs.Trees.{Expression, Instruction, Instructions, Variable, Transition, System, variables, sorts_of}
use Rattle.model.specs.Trees.Expression.{numeral, truth, variable, negation, binary, if_then_else}
use Rattle.model.specs.Trees.Instruction.{skip, assign, if_then, block}
use Rattle.model.specs.Trees.Instructions.{none, more}
use Rattle.model.specs.Sizes.{file_layout, max_nodes, max_variables, max_transitions}
use Rattle.model.specs.Walk.{variable_at, row_at}
use Rattle.model.specs.Walk.Walk.{found}
use Rattle.model.specs.Check.{Verdict, verdict, kinds_in, parameters_in}
use Rattle.model.specs.Check.Verdict.{accepted, refusal}
use Rattle.model.specs.Standing.{size_of_expression, size_of, size_of_transition, size_of_transitions}
use Rattle.tables.specs.declared.Tables.{Tables}
use Rattle.variables.specs.declared.VariableRow.{VariableRow}
use Rattle.variables.specs.Rows.{variable_rows}
use Rattle.decoding.specs.declared.Decoding.{Decoding}

-- the places after each node with its children, in prefix order, of a tree that stands at place `at`
unfoldable pub nexts_of_expression : Expression → ℕ → List ℕ
nexts_of_expression (numeral v) at = (at + 1) ∷ []
nexts_of_expression (truth v) at = (at + 1) ∷ []
nexts_of_expression (variable x) at = (at + 1) ∷ []
nexts_of_expression (negation a) at = (at + size_of_expression (negation a)) ∷ nexts_of_expression a (at + 1)
nexts_of_expression (binary op a b) at =
    (at + size_of_expression (binary op a b))
    ∷ nexts_of_expression a (at + 1) ++ nexts_of_expression b (at + 1 + size_of_expression a)
nexts_of_expression (if_then_else c a b) at =
    (at + size_of_expression (if_then_else c a b))
    ∷ nexts_of_expression c (at + 1)
    ++ (nexts_of_expression a (at + 1 + size_of_expression c) ++ nexts_of_expression b (at + 1 + size_of_expression c + size_of_expression a))

unfoldable mutual
  pub nexts_of : Instruction → ℕ → List ℕ
  nexts_of skip at = (at + 1) ∷ []
  nexts_of (assign x e) at = (at + size_of (assign x e)) ∷ nexts_of_expression e (at + 1)
  nexts_of (if_then c i) at =
      (at + size_of (if_then c i)) ∷ nexts_of_expression c (at + 1) ++ nexts_of i (at + 1 + size_of_expression c)
  nexts_of (block is) at = (at + size_of (block is)) ∷ nexts_of_all is (at + 1)

  pub nexts_of_all : Instructions → ℕ → List ℕ
  nexts_of_all none at = []
  nexts_of_all (more i is) at = nexts_of i at ++ nexts_of_all is (at + size_of i)

-- 01: "kind 1, Boolean, P its first value, 0 or 1; or three nodes"
unfoldable pub size_of_variable : Variable → ℕ
size_of_variable v = cond (is_sort v.sort Boolean) 1 3

unfoldable pub size_of_variables : List Variable → ℕ
size_of_variables [] = 0
size_of_variables (v ∷ vs) = size_of_variable v + size_of_variables vs

unfoldable pub nexts_of_variables : List Variable → ℕ → List ℕ
nexts_of_variables [] at = []
nexts_of_variables (v ∷ vs) at =
    cond (is_sort v.sort Boolean) ((at + 1) ∷ []) ((at + 1) ∷ (at + 2) ∷ (at + 3) ∷ [])
    ++ nexts_of_variables vs (at + size_of_variable v)

unfoldable pub nexts_of_transitions : List Transition → ℕ → List ℕ
nexts_of_transitions [] at = []
nexts_of_transitions (t ∷ ts) at =
    ((at + size_of_transition t)
    ∷ nexts_of_expression t.guard (at + 1) ++ nexts_of t.action (at + 1 + size_of_expression t.guard))
    ++ nexts_of_transitions ts (at + size_of_transition t)

-- the places of the guards. 01: "Transition: 5, P an event below E; then a Boolean guard and an instruction, its action."
unfoldable pub guard_places : List Transition → ℕ → List ℕ
guard_places [] at = []
guard_places (t ∷ ts) at = (at + 1) ∷ guard_places ts (at + size_of_transition t)

-- 01: "Nodes stand in prefix order: S+F variables (states first, numbered from 0), T transitions, one instruction that is
-- the assertion."
abbrev pub transitions_place : System → ℕ
transitions_place t = size_of_variables (variables t)

abbrev pub assertion_place : System → ℕ
assertion_place t = transitions_place t + size_of_transitions t.transitions

unfoldable pub nexts_of_system : System → List ℕ
nexts_of_system t =
    nexts_of_variables (variables t) 0
    ++ (nexts_of_transitions t.transitions (transitions_place t) ++ nexts_of t.assertion (assertion_place t))

-- so many variables stand from the first node on, up to place `next`
pub record VariablesRead (ks : List ℕ) (ps : List ℤ) (count : ℕ) : Type 0 where
  pub variables : List Variable
  pub next : ℕ
  pub row : row_at (variable_at ks ps) count 0 ≡ found variables next

-- The slices are the decoding of the accepted bytes m: what the layers above may ask.
pub record Decoded (m : List ℕ) (model : Model) (kinds : List ℕ) (parameters : List ℤ) (rows : List VariableRow) (nexts guards : List ℕ) : Type 0 where
  pub system : System
  pub checked : verdict m ≡ accepted model.sizes system
  pub assertion_decoded : model.assertion ≡ assertion_place system
  pub kinds_decoded : kinds ≡ kinds_in file_layout model.sizes.nodes m
  pub parameters_decoded : parameters ≡ parameters_in file_layout model.sizes.nodes m
  pub variables_decoded : rows ≡ variable_rows (variables system)
  pub nexts_decoded : nexts ≡ nexts_of_system system
  pub guards_decoded : guards ≡ guard_places system.transitions (transitions_place system)

-- arrays of these lengths, which are those of the largest model at most, have room for so many nodes and variables
pub record RoomFor (nodes variables node_cells variable_cells : ℕ) : Type 0 where
  pub for_nodes : nodes ≤ node_cells
  pub for_variables : variables ≤ variable_cells
  pub most_nodes : node_cells ≤ max_nodes
  pub most_variables : variable_cells ≤ max_variables

-- so many cells, with those for its guards, are enough for a model of these sizes
abbrev pub Enough : Sizes → ℕ → ℕ → ℕ → Type 0
Enough s nodes variables transitions =
    RoomFor s.nodes (s.states + s.flows) nodes variables × (s.transitions ≤ transitions) × (transitions ≤ max_transitions)

-- slices of these lengths have cells enough for a model of these sizes, and the places fit 16 bits
pub record EnoughCells (s : Sizes) (parameters rows nexts guards : ℕ) : Type 0 where
  pub for_parameters : s.nodes ≤ parameters
  pub for_variables : s.states + s.flows ≤ rows
  pub for_nexts : s.nodes ≤ nexts
  pub for_guards : s.transitions ≤ guards
  pub places : nexts < 65536

-- what the arrays hold that a file is decoded to
pub record Arrays : Type 0 where
  pub parameters : List ℤ
  pub variables : List VariableRow
  pub nexts : List ℕ
  pub guards : List ℕ

abbrev pub arrays : List ℤ → List VariableRow → List ℕ → List ℕ → Arrays
arrays parameters rows nexts guards = record { parameters = parameters; variables = rows; nexts = nexts; guards = guards }

abbrev pub arrays_in : {nodes variables transitions : ℕ} → Decoding nodes variables transitions → Arrays
arrays_in d = arrays d.parameters d.variables d.nexts d.guards

-- the tables are those of a model with these bytes, lent out of the first cells of these arrays
pub record LentOf (m : List ℕ) (a : Arrays) (d : Model) (t : Tables) : Type 0 where
  pub model : t.model ≡ d
  pub kinds : t.kinds.now ≡ kinds_in file_layout d.sizes.nodes m
  pub parameters : t.parameters.now ≡ take d.sizes.nodes a.parameters
  pub variables : t.variables.now ≡ take (d.sizes.states + d.sizes.flows) a.variables
  pub nexts : t.nexts.now ≡ take d.sizes.nodes a.nexts
  pub guards : t.guards.now ≡ take d.sizes.transitions a.guards

-- the arrays after the decoding; cells past it stay
unfoldable pub decoded_over : List ℕ → Sizes → System → Arrays → Arrays
decoded_over m s t old =
    arrays (over (parameters_in file_layout s.nodes m) old.parameters)
    (over (variable_rows (variables t)) old.variables)
    (over (nexts_of_system t) old.nexts)
    (over (guard_places t.transitions (transitions_place t)) old.guards)

-- the check's answer, and the sorts of an accepted model's variables at the beginning of the cells lent for them
unfoldable pub sorts_after : Verdict → List Sort → Answered (Result Sizes Refusal) (List Sort)
sorts_after (refusal r) old = answered (Err r) old
sorts_after (accepted s t) old = answered (Ok s) (over (sorts_of (variables t)) old)
