-- 36, or the bytes of the new model and their number.
use mathlib.Core.Path.{◌≡◌, refl, sym, ap, ◌∙◌, subst}
use mathlib.Core.Bool.{Bool, true, false, true≢false, not, or-true}
use mathlib.Core.List.{List, ◌++◌, map, flat_map}
use Prim.Native.Nat.{ℕ, suc, ◌+◌, ◌*◌, ◌≤◌, ◌<◌}
use native.Mathlib.Nat.{zero-add}
use native.Mathlib.Omega.{arith}
use borrow.Author.Tests.{lt-ltb, le-ltb, le-leb}
use lib.IntN.{ℤ, pos}
use lib.ListN.{length, length-append, length-map}
use Rattle.syntax.specs.declared.Cursor.{Cursor}
use Rattle.results.specs.Results.{answered, over}
use Rattle.kinds.specs.declared.Sort.{Sort}
use Rattle.model.specs.declared.Sizes.{Sizes}
use Rattle.std.proofs.Common.{Result, Ok, Err}
use Rattle.std.specs.Result.{is_err}
use Rattle.results.specs.declared.refusal.Refusal.{Refusal}
use Rattle.model.specs.Trees.{Transition, System, variables}
use Rattle.model.specs.Nodes.{Node, nodes_of_expression, nodes_of, nodes_of_variable, nodes_of_transition, nodes_of_system}
use Rattle.model.specs.Sizes.{file_layout, header_bytes, header_of, node_width, max_nodes, size_bound}
use Rattle.model.specs.Walk.{Walk, scope_of, outcome, transition_at}
use Rattle.model.specs.Walk.Walk.{refused, found}
use Rattle.model.specs.Check.{max_depth, action_scope}
use Rattle.model.specs.Standing.{NodeAt, ExpressionAt, InstructionAt, size_of_expression, size_of}
use Rattle.model.specs.WellFormed.{encode, encode_in, sizes_of}
use Rattle.model.proofs.NodeLists.{NodesAt, nodes_split, own_nodes}
use Rattle.model.proofs.NodeTrees.{expression_size, nodes_expression, nodes_instruction, transitions_size}
use Rattle.model.proofs.Standing.{AllRepresentable}
use Rattle.model.proofs.Walking.{split}
use Rattle.model.proofs.Encoding.{file, file_length, parameters_map}
use Rattle.decoding.specs.Decoding.{assertion_place}
use Rattle.decoding.proofs.Places.{variables_size}
use Rattle.encoding.specs.Files.{file_bytes}
use Rattle.tapes.specs.Tapes.{Tape, tape, put_all}
use Rattle.tapes.proofs.Tapes.{put_over}
use Rattle.results.specs.declared.refusal.Refusal.TheVariants.{LimitPassed}
use Rattle.synchronisation.specs.Synchronisations.{together, extended_by, fits, extended_into}
use Rattle.synchronisation.specs.Members.{may_fit, ExtensionStands}
use Rattle.synchronisation.proofs.NewNodes.{extended_nodes, members_few}
use Rattle.synchronisation.proofs.Depth.{Shallow, found_shallow, shallow_found, extended_numbers}
use Rattle.synchronisation.proofs.Accepted.{Fitting, fitting_of, fits_by}

-- ---- the answer, by the tests

module _ (t : System) (u : Transition) (old : List ℕ) where
  -- a limit is passed
  pub not_fitting : (Fitting t u → ⊥) → answered (Err LimitPassed) old ≡ extended_into t u old
  unfolding extended_into
  not_fitting n = rw (by (fits t u) refl)
    where
      by : (b : Bool) → fits t u ≡ b → fits t u ≡ false
      by true e = absurd (n (fitting_of t u e))
      by false e = e

  -- the slice is too short
  no_room : length old < length (encode (extended_by t u)) → answered (Err LimitPassed) old ≡ extended_into t u old
  unfolding extended_into
  no_room h = rw (lt-ltb (length old) (length (encode (extended_by t u))) h, or-true (not (fits t u)))

  -- neither
  fitting_room : Fitting t u → length (encode (extended_by t u)) ≤ length old
      → answered (Ok (length (encode (extended_by t u)))) (over (encode (extended_by t u)) old) ≡ extended_into t u old
  unfolding extended_into
  fitting_room f h = rw (fits_by t u f, le-ltb (length old) (length (encode (extended_by t u))) h)

-- ---- what is tried before the nodes are put

module _ (t : System) (ts os : List Transition) (s : Sizes) (m o : ℕ) where
  pub may_not_fit : s.events ≡ t.events → s.transitions ≡ length t.transitions → m ≡ length ts → o ≡ length os → may_fit s m o ≡ false
      → Fitting t (together t.events ts os) → ⊥
  unfolding may_fit
  may_not_fit e f p q n g =
      let few = members_few t t.events ts os in
      true≢false
      (rw (
        lt-ltb (suc s.events) size_bound (omega (arith, e, g.events)),
        lt-ltb (suc s.transitions) size_bound (omega (arith, f, g.transitions)),
        le-leb m max_nodes (omega (arith, p, few, g.nodes)),
        le-leb o max_nodes (omega (arith, q, few, g.nodes)),
      ) at n)

-- ---- an answer that is a refusal, and one that is not

refused_by : {A : Type 0} (r : Result A Refusal) → is_err r ≡ true → (n : Refusal) × (r ≡ Err n)
refused_by (Ok a) h = absurd (true≢false (sym h))
refused_by (Err n) h = (n, refl)

found_by : {A : Type 0} (r : Result A Refusal) → is_err r ≡ false → (a : A) × (r ≡ Ok a)
found_by (Ok a) h = (a, refl)
found_by (Err n) h = absurd (true≢false h)

-- ---- the nodes that have been put

module _ {sizes : Sizes} {assertion : ℕ} {ks : List ℕ} {ps : List ℤ} {sorts : List Sort} (e : ExtensionStands sizes assertion ks ps sorts) (old : List ℕ) where
  abbrev t : System
  t = e.system

  abbrev u : Transition
  u = e.transition

  abbrev ns : List Node
  ns = nodes_of_system (extended_by t u)

  abbrev kinds : List ℕ
  kinds = map (λ n. n.kind) ns

  abbrev parameters : List ℤ
  parameters = map (λ n. n.parameter) ns

  abbrev place : ℕ
  place = assertion_place t

  same_nodes : sizes.nodes ≡ length ns
  same_nodes = ap (λ s. s.nodes) e.sizes_held

  -- the length that is answered
  bytes_of : header_of file_layout + node_width * sizes.nodes ≡ length (encode (extended_by t u))
  unfolding encode_in file
  bytes_of = ap (λ n. header_of file_layout + node_width * n) same_nodes ∙ sym (file_length file_layout (sizes_of (extended_by t u)) ns)

  -- the new transition stands in the place of the assertion
  transition_nodes : NodesAt kinds parameters (nodes_of_transition u) place
  transition_nodes =
      let front = flat_map nodes_of_variable (variables t) ++ flat_map nodes_of_transition t.transitions in
      let here : length front ≡ place =
      length-append (flat_map nodes_of_variable (variables t)) (flat_map nodes_of_transition t.transitions)
      ∙ (λ i. variables_size (variables t) i + transitions_size t.transitions i) in
      let split =
      nodes_split kinds parameters front (nodes_of_transition u ++ nodes_of t.assertion) 0
      (subst (λ l. NodesAt kinds parameters l 0) (extended_nodes t u) (own_nodes ns)) in
      subst (NodesAt kinds parameters (nodes_of_transition u)) (zero-add (length front) ∙ here)
      (nodes_split kinds parameters (nodes_of_transition u) (nodes_of t.assertion) (0 + length front) split.1).0

  event_stands : NodeAt kinds parameters place 5 (pos u.event)
  unfolding nodes_of_transition NodesAt
  event_stands = transition_nodes.0

  parts : NodesAt kinds parameters (nodes_of_expression u.guard) (place + 1)
      × NodesAt kinds parameters (nodes_of u.action) (place + 1 + length (nodes_of_expression u.guard))
  unfolding nodes_of_transition NodesAt
  parts = nodes_split kinds parameters (nodes_of_expression u.guard) (nodes_of u.action) (place + 1) transition_nodes.1

  guard_stands : ExpressionAt kinds parameters u.guard (place + 1)
  guard_stands = nodes_expression kinds parameters u.guard (place + 1) parts.0

  action_stands : InstructionAt kinds parameters u.action (place + 1 + size_of_expression u.guard)
  action_stands =
      subst (InstructionAt kinds parameters u.action) (ap (λ n. place + 1 + n) (expression_size u.guard))
      (nodes_instruction kinds parameters u.action _ parts.1)

  -- the walk over what was lent is the walk over these nodes
  abbrev walk : Walk Transition
  walk = transition_at kinds parameters (suc t.events) (action_scope (sizes_of t) (variables t)) max_depth place

  walk_same : transition_at ks ps sizes.events (scope_of sorts 0 sizes.states) max_depth assertion ≡ walk
  walk_same = λ i.
      transition_at (e.kinds_held i) (e.parameters_held i) (e.sizes_held i).events (scope_of (e.sorts_held i) 0 (e.sizes_held i).states) max_depth (e.assertion_held i)

  same_columns : length parameters ≡ length kinds
  same_columns = length-map ns (λ n. n.parameter) ∙ sym (length-map ns (λ n. n.kind))

  numbers : AllRepresentable parameters
  numbers = extended_numbers t u e.well_formed (omega (arith, e.event, e.events_fit)) e.guard e.action e.nodes_fit

  -- it finds the new transition exactly if that is not too deep
  found_by_lem : Shallow u → walk ≡ found u (place + 1 + size_of_expression u.guard + size_of u.action)
  found_by_lem d =
      shallow_found kinds parameters same_columns numbers (suc t.events) (action_scope (sizes_of t) (variables t)) u place
      event_stands guard_stands action_stands e.event e.guard e.action d

  shallow_by : (v : Transition) (next : ℕ) → walk ≡ found v next → Shallow u
  shallow_by v next p =
      found_shallow kinds parameters same_columns numbers (suc t.events) (action_scope (sizes_of t) (variables t)) u place
      event_stands guard_stands action_stands e.event e.guard e.action v next p

  -- ---- what the check answered

  module _ {w : Result Cursor Refusal} (checked : w ≡ outcome (transition_at ks ps sizes.events (scope_of sorts 0 sizes.states) max_depth assertion)) where
    walked_as : w ≡ outcome walk
    walked_as = checked ∙ ap outcome walk_same

    -- too deep
    pub walk_refused : is_err w ≡ true → answered (Err LimitPassed) old ≡ extended_into t u old
    unfolding outcome
    walk_refused h =
        not_fitting t u old (λ f. split (refused_by w h).1 (walked_as ∙ ap outcome (found_by_lem (f.guard_depth, f.action_depth))))

    walk_found : is_err w ≡ false → Shallow u
    unfolding outcome
    walk_found h = by walk refl walked_as
      where
        by : (x : Walk Transition) → walk ≡ x → w ≡ outcome x → Shallow u
        by (refused n) p q = absurd (split q (found_by w h).1)
        by (found v next) p q = shallow_by v next p

    -- the slice is too short
    pub slice_short : length old < header_of file_layout + node_width * sizes.nodes → answered (Err LimitPassed) old ≡ extended_into t u old
    slice_short h = no_room t u old (omega (arith, h, bytes_of))

    -- the bytes that were written
    same_bytes_lem : file_bytes sizes ks ps ≡ encode (extended_by t u)
    unfolding file_bytes encode_in
    same_bytes_lem =
        (λ i. file_bytes (e.sizes_held i) (e.kinds_held i) (e.parameters_held i))
        ∙ ap (λ (l : List ℕ). header_bytes file_layout (sizes_of (extended_by t u)) ++ (kinds ++ l)) (sym (parameters_map ns))

    pub model_written : {new : List ℕ} {r : ℕ} → is_err w ≡ false → header_of file_layout + node_width * sizes.nodes ≤ length old
        → tape new r ≡ put_all (file_bytes sizes ks ps) (tape old 0) → answered (Ok (header_of file_layout + node_width * sizes.nodes)) new ≡ extended_into t u old
    model_written {new = new} h room put =
        let d = walk_found h in
        let f : Fitting t u = record { events = e.events_fit; transitions = e.transitions_fit; nodes = e.nodes_fit; guard_depth = d.0; action_depth = d.1 } in
        let enough : length (encode (extended_by t u)) ≤ length old = omega (arith, room, bytes_of) in
        let cells : new ≡ over (encode (extended_by t u)) old =
        ap (λ (t : Tape ℕ). t.cells) (put ∙ ap (λ (l : List ℕ). put_all l (tape old 0)) same_bytes_lem ∙ put_over (encode (extended_by t u)) old enough) in
        (λ i. answered (Ok (bytes_of i)) (cells i)) ∙ fitting_room t u old f enough
