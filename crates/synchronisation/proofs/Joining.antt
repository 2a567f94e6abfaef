-- The members joined: what the tests on the sizes and the nodes on the sheet tell of the new model.
use mathlib.Core.Path.{◌≡◌, refl, sym, ap, ◌∙◌}
use mathlib.Core.Bool.{Bool, true, false}
use mathlib.Core.List.{List, map}
use Prim.Native.Nat.{ℕ, suc, ◌+◌, ◌≤◌, ◌<◌}
use native.Mathlib.Omega.{arith}
use borrow.Author.Tests.{ltb-true, ltb-false}
use lib.Dec.{ltb}
use lib.IntN.{ℤ, pos}
use lib.ListN.{length, take, replicate, length-replicate, length-map}
use Rattle.results.specs.Results.{over}
use Rattle.kinds.specs.declared.Sort.{Sort}
use Rattle.model.specs.declared.Model.{Model}
use Rattle.model.specs.declared.Sizes.{Sizes}
use Rattle.model.specs.Sizes.{max_nodes, size_bound}
use Rattle.model.specs.Trees.{Transition, System, variables, sorts_of}
use Rattle.model.specs.Nodes.{Node, nodes_of_system}
use Rattle.model.specs.Check.{action_scope}
use Rattle.model.specs.WellFormed.{Scoped, sizes_of}
use Rattle.model.proofs.Encoding.{sizes_path}
use Rattle.decoding.proofs.InUse.{take_over}
use Rattle.engine.proofs.Loading.{loaded_well_formed, loaded_states, loaded_flows}
use Rattle.tapes.specs.Tapes.{tape}
use Rattle.synchronisation.specs.Synchronisations.{together, extended_by}
use Rattle.synchronisation.specs.Members.{may_fit, Sheet, put_nodes, JoinStands, ExtensionStands}
use Rattle.synchronisation.proofs.Lists.{may_fit_lem}
use Rattle.synchronisation.proofs.Sheets.{kinds_over, parameters_over, nodes_full}
use Rattle.synchronisation.proofs.Places.{loaded_events, loaded_transitions, members_stand}
use Rattle.synchronisation.proofs.Pieces.{members_long}
use Rattle.synchronisation.proofs.Listed.{members_all, one_more}
use Rattle.synchronisation.proofs.Accepted.{Fitting, MembersGuarded, guard_sorted, branches_scoped}
use Rattle.synchronisation.proofs.Extending.{may_not_fit}

module _ {model : Model} {ks : List ℕ} {ps : List ℤ} {nexts guards ms os : List ℕ} (j : JoinStands model ks ps nexts guards ms os) where
  abbrev t : System
  t = j.loaded.decoded.system

  abbrev ts : List Transition
  ts = j.members.mandatory

  abbrev us : List Transition
  us = j.members.optional

  abbrev u : Transition
  u = together t.events ts us

  abbrev ns : List Node
  ns = nodes_of_system (extended_by t u)

  -- a size is full, or there are too many members
  pub sizes_full : may_fit model.sizes (length ms) (length os) ≡ false → Fitting t u → ⊥
  sizes_full e =
      may_not_fit t ts us model.sizes (length ms) (length os) (loaded_events j.loaded) (loaded_transitions j.loaded)
      (members_long ks ps nexts guards ms ts (members_stand j.loaded ms ts j.members.mandatory_found))
      (members_long ks ps nexts guards os us (members_stand j.loaded os us j.members.optional_found)) e

  -- the members are guarded as all transitions are
  pub mandatory_in : MembersGuarded t ts
  mandatory_in = members_all _ t.transitions (loaded_well_formed j.loaded).guarded ms ts j.members.mandatory_found

  pub optional_in : MembersGuarded t us
  optional_in = members_all _ t.transitions (loaded_well_formed j.loaded).guarded os us j.members.optional_found

  -- the nodes on the sheet, of which `at` are told
  module _ {s : Sheet}
      (put : s ≡ put_nodes ns (record { kinds = tape (replicate 12001 0) 0; parameters = tape (replicate 12001 (pos 0)) 0 })) where
    abbrev at : ℕ
    at = s.kinds.at

    abbrev kinds : List ℕ
    kinds = s.kinds.cells

    abbrev parameters : List ℤ
    parameters = s.parameters.cells

    abbrev blank_kinds : List ℕ
    blank_kinds = replicate 12001 0

    abbrev blank_parameters : List ℤ
    blank_parameters = replicate 12001 (pos 0)

    kinds_blank : length blank_kinds ≡ 12001
    kinds_blank = length-replicate {A = ℕ} 12001 0

    all_kinds : length ns ≤ max_nodes → (kinds ≡ over (map (λ n. n.kind) ns) blank_kinds) × (at ≡ length ns)
    all_kinds h = kinds_over ns blank_kinds blank_parameters put (omega (arith, h, kinds_blank))

    -- too many
    pub nodes_many : max_nodes < at → Fitting t u → ⊥
    nodes_many h f = omega (arith, h, f.nodes, (all_kinds f.nodes).1)

    module _ (few : at ≤ max_nodes) where
      pub nodes_fit_lem : length ns ≤ max_nodes
      nodes_fit_lem = by (ltb max_nodes (length ns)) refl
        where
          by : (b : Bool) → ltb max_nodes (length ns) ≡ b → length ns ≤ max_nodes
          by true e =
              absurd (omega (
                arith,
                few,
                kinds_blank,
                ltb-true max_nodes (length ns) e,
                nodes_full ns blank_kinds blank_parameters put (omega (arith, kinds_blank, ltb-true max_nodes (length ns) e)),
              ))
          by false e = ltb-false max_nodes (length ns) e

      same_nodes : at ≡ length ns
      same_nodes = (all_kinds nodes_fit_lem).1

      -- the cells in use are the columns of the new model
      pub kinds_held_lem : take at kinds ≡ map (λ n. n.kind) ns
      kinds_held_lem =
          ap (take at) (all_kinds nodes_fit_lem).0 ∙ take_over (map (λ n. n.kind) ns) blank_kinds at (length-map ns (λ n. n.kind) ∙ sym same_nodes)

      pub parameters_held_lem : take at parameters ≡ map (λ n. n.parameter) ns
      parameters_held_lem =
          ap (take at) (parameters_over ns blank_kinds blank_parameters put (omega (arith, nodes_fit_lem, length-replicate 12001 (pos 0))))
          ∙ take_over (map (λ n. n.parameter) ns) blank_parameters at (length-map ns (λ n. n.parameter) ∙ sym same_nodes)

      pub kinds_counted : at ≡ length (take at kinds)
      kinds_counted = same_nodes ∙ sym (ap length kinds_held_lem ∙ length-map ns (λ n. n.kind))

      pub parameters_counted : at ≡ length (take at parameters)
      parameters_counted = same_nodes ∙ sym (ap length parameters_held_lem ∙ length-map ns (λ n. n.parameter))

      -- all that is asked but the depth
      module _ (fit : may_fit model.sizes (length ms) (length os) ≡ true) {sorts : List Sort} (held : sorts ≡ sorts_of (variables t)) where
        abbrev new_sizes : Sizes
        new_sizes =
            record {
              states = model.sizes.states;
              flows = model.sizes.flows;
              events = model.sizes.events + 1;
              transitions = model.sizes.transitions + 1;
              nodes = at;
            }

        pub sizes_held_lem : new_sizes ≡ sizes_of (extended_by t u)
        sizes_held_lem =
            sizes_path (loaded_states j.loaded) (loaded_flows j.loaded) (omega (arith, loaded_events j.loaded))
            (omega (arith, loaded_transitions j.loaded, one_more t.transitions u)) same_nodes

        pub action_scoped : Scoped u.action (action_scope (sizes_of t) (variables t))
        action_scoped = unfold Scoped in branches_scoped t.events (action_scope (sizes_of t) (variables t)) ts us mandatory_in optional_in

        pub events_fit_lem : suc t.events < size_bound
        events_fit_lem = omega (arith, (may_fit_lem model.sizes (length ms) (length os) fit).events, loaded_events j.loaded)

        pub transitions_fit_lem : suc (length t.transitions) < size_bound
        transitions_fit_lem = omega (arith, (may_fit_lem model.sizes (length ms) (length os) fit).transitions, loaded_transitions j.loaded)

        abbrev pub extension : ExtensionStands new_sizes model.assertion (take at kinds) (take at parameters) sorts
        extension =
            record {
              system = t;
              transition = u;
              well_formed = loaded_well_formed j.loaded;
              event = omega arith;
              guard = guard_sorted t.events (action_scope (sizes_of t) (variables t)) ts us mandatory_in optional_in;
              action = action_scoped;
              events_fit = events_fit_lem;
              transitions_fit = transitions_fit_lem;
              nodes_fit = nodes_fit_lem;
              sizes_held = sizes_held_lem;
              assertion_held = j.loaded.decoded.assertion_decoded;
              kinds_held = kinds_held_lem;
              parameters_held = parameters_held_lem;
              sorts_held = held;
            }
