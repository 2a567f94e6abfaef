-- What 01's list asks of a model, said of its tree: sorts, parameters, depths, sizes.
use Rattle.std.specs.Prelude.{◌≡◌, ◌⊎◌, ℕ, ◌<◌, ◌≤◌, T, pos, length, slice_get, Option, Some}
use mathlib.Core.List.{List, [], ◌∷◌, ◌++◌, map, flat_map}
use Rattle.std.specs.Int.Signed.{le_z}
use Rattle.evaluation.specs.Numbers.{representable}
use Rattle.kinds.specs.declared.Sort.{Sort}
use Rattle.kinds.specs.declared.Sort.TheVariants.{Boolean, Number}
use Rattle.model.specs.declared.Layout.{Layout}
use Rattle.model.specs.declared.Sizes.{Sizes}
use Rattle.kinds.specs.Kinds.{boolean_sort, number_sort, kind_of, result_of, operand_sort}
use Rattle.model.specs.Trees.{Expression, Instruction, Instructions, Variable, Transition, System, variables, depth_of, depth_of_expression}
use Rattle.model.specs.Trees.Expression.{numeral, truth, variable, negation, binary, if_then_else}
use Rattle.model.specs.Trees.Instruction.{skip, assign, if_then, block}
use Rattle.model.specs.Trees.Instructions.{none, more}
use Rattle.model.specs.Nodes.{nodes_of_system, parameter_bytes}
use Rattle.model.specs.Sizes.{file_layout, header_bytes, size_bound_of}
use Rattle.model.specs.Walk.{Scope}
use Rattle.syntax.specs.Readings.{is_truth}
use Rattle.model.specs.Check.{action_scope, assertion_scope, max_depth}

-- the expression has the wanted sort over variables of these sorts
unfoldable pub Sorted : List Sort → Option Sort → Expression → Type 0
Sorted vs wanted (numeral v) = (wanted ≡ number_sort) × T (representable v)
Sorted vs wanted (truth v) = (wanted ≡ boolean_sort) × T (is_truth v)
Sorted vs wanted (variable x) = (x < length vs) × (slice_get vs x ≡ wanted)
Sorted vs wanted (negation a) = (wanted ≡ boolean_sort) × Sorted vs boolean_sort a
Sorted vs wanted (binary op a b) =
    (wanted ≡ result_of (kind_of op)) × Sorted vs (Some (operand_sort (kind_of op))) a × Sorted vs (Some (operand_sort (kind_of op))) b
Sorted vs wanted (if_then_else c a b) = Sorted vs boolean_sort c × Sorted vs wanted a × Sorted vs wanted b

unfoldable mutual
  -- targets are in scope, and expressions have their sorts
  pub Scoped : Instruction → Scope → Type 0
  Scoped skip s = Unit {0}
  Scoped (assign x e) s = (s.from ≤ x) × (x < s.past) × Sorted s.sorts (slice_get s.sorts x) e
  Scoped (if_then c i) s = Sorted s.sorts boolean_sort c × Scoped i s
  Scoped (block is) s = AllScoped is s

  pub AllScoped : Instructions → Scope → Type 0
  AllScoped none s = Unit {0}
  AllScoped (more i is) s = Scoped i s × AllScoped is s

-- a Boolean with ends 0 and 1, or a number with 32-bit ends in order, and the first value within them
unfoldable pub Declared : Variable → Type 0
Declared v =
    ((v.sort ≡ Boolean) × (v.low ≡ pos 0) × (v.high ≡ pos 1) × T (is_truth v.first))
    ⊎ ((v.sort ≡ Number) × T (representable v.low) × T (representable v.high) × T (le_z v.low v.first) × T (le_z v.first v.high))

pub record GuardedBy (events : ℕ) (s : Scope) (t : Transition) : Type 0 where
  pub event : t.event < events
  pub guard : Sorted s.sorts boolean_sort t.guard
  pub guard_depth : depth_of_expression t.guard ≤ max_depth
  pub action : Scoped t.action s
  pub action_depth : depth_of t.action ≤ max_depth

unfoldable pub All : {A : Type 0} → (A → Type 0) → List A → Type 0
All P [] = Unit {0}
All P (a ∷ rest) = P a × All P rest

-- the five sizes of a tree
abbrev pub sizes_of : System → Sizes
sizes_of t =
    record {
      states = length t.states;
      flows = length t.flows;
      events = t.events;
      transitions = length t.transitions;
      nodes = length (nodes_of_system t);
    }

-- the bytes of the model file, by a layout
unfoldable pub encode_in : Layout → System → List ℕ
encode_in l t =
    header_bytes l (sizes_of t)
    ++ (map (λ n. n.kind) (nodes_of_system t) ++ flat_map (λ n. parameter_bytes n.parameter) (nodes_of_system t))

abbrev pub encode : System → List ℕ
encode = encode_in file_layout

-- 01's list, as a whole; the sizes fit their bytes, and keep the limits of the layout
pub record WellFormedIn (l : Layout) (t : System) : Type 0 where
  pub states : length t.states < size_bound_of l
  pub flows : length t.flows < size_bound_of l
  pub events : t.events < size_bound_of l
  pub transitions : length t.transitions < size_bound_of l
  pub nodes : length (nodes_of_system t) ≤ l.max_nodes
  pub few : length (variables t) ≤ l.max_variables
  pub declared : All Declared (variables t)
  pub guarded : All (GuardedBy t.events (action_scope (sizes_of t) (variables t))) t.transitions
  pub assertion : Scoped t.assertion (assertion_scope (sizes_of t) (variables t))
  pub assertion_depth : depth_of t.assertion ≤ max_depth

abbrev pub WellFormed : System → Type 0
WellFormed = WellFormedIn file_layout
