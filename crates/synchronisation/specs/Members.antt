-- Where the code finds the members' nodes, and where it puts those of the new model.
use Rattle.std.specs.Prelude.{◌≡◌, List, [], ◌∷◌, map, Bool, false, ◌&&◌, ℕ, suc, ◌≤◌, ◌<◌, leb, ltb, ℤ, length, get_or}
use Rattle.std.proofs.Math.Option.{some}
use Rattle.std.proofs.Math.Seq.{slice}
use Rattle.kinds.specs.Kinds.{boolean_sort}
use Rattle.kinds.specs.declared.Sort.{Sort}
use Rattle.model.specs.declared.Model.{Model}
use Rattle.model.specs.declared.Sizes.{Sizes}
use Rattle.model.specs.Trees.{Transition, System, variables, sorts_of}
use Rattle.model.specs.Nodes.{Node, nodes_of_expression, nodes_of, nodes_of_system}
use Rattle.model.specs.Sizes.{max_nodes, size_bound}
use Rattle.model.specs.Check.{action_scope}
use Rattle.model.specs.WellFormed.{WellFormed, Sorted, Scoped, sizes_of}
use Rattle.decoding.specs.Decoding.{assertion_place}
use Rattle.tables.specs.declared.Tables.{Tables}
use Rattle.tapes.specs.Tapes.{Tape, tape_in, put_all}
use Rattle.engine.specs.Cells.{Loaded}
use Rattle.synchronisation.specs.declared.nodes.Members.{Members}
use Rattle.synchronisation.specs.declared.nodes.Sheet.{Sheet as Lent}
use Rattle.synchronisation.specs.Synchronisations.{members_of, extended_by, is_empty}
use Rattle.variables.specs.declared.VariableRow.{VariableRow}

-- with sizes s and so many members of each list the new model may keep the limits: a size more fits its two bytes, and each member has a node
unfoldable pub may_fit : Sizes → ℕ → ℕ → Bool
may_fit s mandatory optional =
    (ltb (suc s.events) size_bound && ltb (suc s.transitions) size_bound) && (leb mandatory max_nodes && leb optional max_nodes)

-- the kinds and the parameters of the new model's nodes, written side by side
pub record Sheet : Type 0 where
  pub kinds : Tape ℕ
  pub parameters : Tape ℤ

-- the sheet that is lent
abbrev pub sheet_in : Lent → Sheet
sheet_in s = record { kinds = tape_in s.kinds; parameters = tape_in s.parameters }

abbrev pub put_columns : List ℕ → List ℤ → Sheet → Sheet
put_columns ks ps s = record { kinds = put_all ks s.kinds; parameters = put_all ps s.parameters }

abbrev pub put_nodes : List Node → Sheet → Sheet
put_nodes ns s = put_columns (map (λ n. n.kind) ns) (map (λ n. n.parameter) ns) s

module _ (ks : List ℕ) (ps : List ℤ) where
  -- these nodes stand from place `from` up to `past`
  pub record Between (ns : List Node) (from past : ℕ) : Type 0 where
    pub long : length ps ≡ length ks
    pub ordered : from ≤ past
    pub within : past ≤ length ks
    pub kinds : slice from past ks ≡ map (λ n. n.kind) ns
    pub parameters : slice from past ps ≡ map (λ n. n.parameter) ns

  module _ (nexts guards : List ℕ) where
    abbrev pub guard_place : ℕ → ℕ
    guard_place k = get_or guards k 0

    -- right after the guard
    abbrev pub action_place : ℕ → ℕ
    action_place k = get_or nexts (guard_place k) 0

    -- this transition has the number k: its guard and its action stand where the places lead
    pub record MemberStands (k : ℕ) (t : Transition) : Type 0 where
      pub below : k < length guards
      pub guard_within : guard_place k < length nexts
      pub action_within : action_place k < length nexts
      pub guard : Between (nodes_of_expression t.guard) (guard_place k) (action_place k)
      pub action : Between (nodes_of t.action) (action_place k) (get_or nexts (action_place k) 0)

    -- these transitions have these numbers
    unfoldable pub MembersStand : List ℕ → List Transition → Type 0
    MembersStand [] [] = Unit {0}
    MembersStand [] (t ∷ ts) = ⊥
    MembersStand (k ∷ rest) [] = ⊥
    MembersStand (k ∷ rest) (t ∷ ts) = MemberStands k t × MembersStand rest ts

-- the same over the tables that are lent
abbrev pub MembersIn : Tables → List ℕ → List Transition → Type 0
MembersIn t ms ts = MembersStand t.kinds.now t.parameters.now t.nexts.now t.guards.now ms ts

-- and over both lists
abbrev pub BothIn : Tables → Members → Type 0
BothIn t m =
    ((ts : List Transition) × MembersIn t m.mandatory.now ts) × ((os : List Transition) × MembersIn t m.optional.now os)

-- the slices are the decoding of an accepted file, the sorts of its variables among them
pub record SystemStands (model : Model) (ks : List ℕ) (ps : List ℤ) (sorts : List Sort) (nexts guards : List ℕ) : Type 0 where
  pub rows : List VariableRow
  pub loaded : Loaded model ks ps rows nexts guards
  pub sorts_held : sorts ≡ sorts_of (variables loaded.decoded.system)

-- the same over the tables that are lent
abbrev pub SystemIn : Tables → List Sort → Type 0
SystemIn t sorts = SystemStands t.model t.kinds.now t.parameters.now sorts t.nexts.now t.guards.now

-- these are the members of two lists, of which one at least is not empty
pub record MembersFound (t : System) (ms os : List ℕ) : Type 0 where
  pub given : (is_empty ms && is_empty os) ≡ false
  pub mandatory : List Transition
  pub optional : List Transition
  pub mandatory_found : members_of t.transitions ms ≡ some mandatory
  pub optional_found : members_of t.transitions os ≡ some optional

-- the slices are the decoding of an accepted file, and the lists have their members in its model
pub record JoinStands (model : Model) (ks : List ℕ) (ps : List ℤ) (nexts guards ms os : List ℕ) : Type 0 where
  pub rows : List VariableRow
  pub loaded : Loaded model ks ps rows nexts guards
  pub members : MembersFound loaded.decoded.system ms os

-- the same over what is lent
abbrev pub JoinIn : Tables → Members → Type 0
JoinIn t m = JoinStands t.model t.kinds.now t.parameters.now t.nexts.now t.guards.now m.mandatory.now m.optional.now

abbrev pub joined_system : {model : Model} {ks : List ℕ} {ps : List ℤ} {nexts guards ms os : List ℕ} → JoinStands model ks ps nexts guards ms os → System
joined_system j = j.loaded.decoded.system

-- a model with one transition more, written as these kinds and parameters: its depth and the room in the slice are not known yet
pub record ExtensionStands (sizes : Sizes) (assertion : ℕ) (ks : List ℕ) (ps : List ℤ) (sorts : List Sort) : Type 0 where
  pub system : System
  pub transition : Transition
  pub well_formed : WellFormed system
  pub event : transition.event < suc system.events
  pub guard : Sorted (sorts_of (variables system)) boolean_sort transition.guard
  pub action : Scoped transition.action (action_scope (sizes_of system) (variables system))
  pub events_fit : suc system.events < size_bound
  pub transitions_fit : suc (length system.transitions) < size_bound
  pub nodes_fit : length (nodes_of_system (extended_by system transition)) ≤ max_nodes
  pub sizes_held : sizes ≡ sizes_of (extended_by system transition)
  pub assertion_held : assertion ≡ assertion_place system
  pub kinds_held : ks ≡ map (λ n. n.kind) (nodes_of_system (extended_by system transition))
  pub parameters_held : ps ≡ map (λ n. n.parameter) (nodes_of_system (extended_by system transition))
  pub sorts_held : sorts ≡ sorts_of (variables system)
