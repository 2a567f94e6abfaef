-- The members of the lists stand where the decoded places lead, and so do the nodes before and behind the new transition.
use mathlib.Core.Path.{◌≡◌, sym, ap, ◌∙◌, subst, subst₂}
use mathlib.Core.List.{List, [], ◌∷◌, ◌++◌, map, flat_map}
use mathlib.Core.Option.{some, none-ne-some, some-injective}
use Prim.Native.Nat.{ℕ, zero, suc, ◌+◌, ◌≤◌, ◌<◌}
use native.Mathlib.Nat.{zero-add}
use native.Mathlib.Omega.{arith}
use lib.IntN.{ℤ, pos}
use lib.ListN.{length, get_or, get_elem?, length-map, length-append, get_or-map}
use lib.Seq.{slice, length-slice, get_or-take, get_or-drop, ext_get_or}
use Rattle.model.specs.declared.Model.{Model}
use Rattle.model.specs.Trees.{Transition, System, variables}
use Rattle.model.specs.Nodes.{Node, node, nodes_of_expression, nodes_of, nodes_of_variable, nodes_of_transition}
use Rattle.model.proofs.NodeLists.{TransitionsAt, NodesAt, nodes_append, nodes_within, nodes_each}
use Rattle.model.proofs.NodeTrees.{expression_size, instruction_size, transitions_size, expression_nodes, instruction_nodes, transitions_nodes}
use Rattle.decoding.specs.Decoding.{assertion_place}
use Rattle.decoding.proofs.Accepted.{accepted_file}
use Rattle.decoding.proofs.Decoded.{decoded_parameters}
use Rattle.decoding.proofs.Places.{SystemAt, variables_size, instruction_within}
use Rattle.expressions.proofs.Evaluating.{expression_within}
use Rattle.engine.specs.Cells.{Loaded}
use Rattle.engine.proofs.Loading.{exact, loaded_places, loaded_guards, loaded_guard, loaded_action}
use Rattle.synchronisation.specs.Synchronisations.{members_of}
use Rattle.synchronisation.proofs.Listed.{first_and_rest}
use Rattle.synchronisation.specs.Members.{Between, MemberStands, MembersStand}
use Rattle.variables.specs.declared.VariableRow.{VariableRow}

-- ---- nodes that stand from a place on, as a part of the columns

column : {A : Type 0} (l : List A) (f : Node → A) (ns : List Node) (at : ℕ) → at + length ns ≤ length l
    → ((i : ℕ) → i < length ns → get_or l (at + i) (f (node 0 (pos 0))) ≡ f (get_or ns i (node 0 (pos 0))))
    → slice at (at + length ns) l ≡ map f ns
column l f ns at h each =
    let none = f (node 0 (pos 0)) in
    let long : length (slice at (at + length ns) l) ≡ length ns = omega (arith, length-slice at (at + length ns) l h) in
    ext_get_or none _ _ (long ∙ sym (length-map ns f))
    (λ i g.
    get_or-drop at _ i none ∙ get_or-take (at + length ns) l (at + i) none (omega (arith, long)) ∙ each i (omega (arith, long))
    ∙ sym (get_or-map f ns i (node 0 (pos 0))))

module _ (ks : List ℕ) (ps : List ℤ) (long : length ps ≡ length ks) where
  nodes_between : (ns : List Node) (at : ℕ) → at ≤ length ks → NodesAt ks ps ns at → Between ks ps ns at (at + length ns)
  nodes_between ns at h n =
      let within = nodes_within ks ps ns at h n in
      record {
        long = long;
        ordered = omega arith;
        within = within;
        kinds = column ks (λ n. n.kind) ns at within (λ i l. (nodes_each ks ps ns at i n l).0);
        parameters = column ps (λ n. n.parameter) ns at (omega (arith, long)) (λ i l. (nodes_each ks ps ns at i n l).1);
      }

-- ---- one that is there

some_below : {A : Type 0} (l : List A) (k : ℕ) {a : A} → get_elem? l k ≡ some a → k < length l
some_below [] k {a} e = absurd (none-ne-some a e)
some_below (x ∷ l) zero e = omega arith
some_below (x ∷ l) (suc k) e = omega (arith, some_below l k e)

module _ {model : Model} {ks : List ℕ} {ps : List ℤ} {rows : List VariableRow} {nexts guards : List ℕ} (d : Loaded model ks ps rows nexts guards) where
  abbrev system : System
  system = d.decoded.system

  pub loaded_events : model.sizes.events ≡ system.events
  loaded_events = ap (λ s. s.events) (exact d).1

  pub loaded_transitions : model.sizes.transitions ≡ length system.transitions
  loaded_transitions = ap (λ s. s.transitions) (exact d).1

  columns_long : length ps ≡ length ks
  columns_long = decoded_parameters d.file model ks ps rows nexts guards d.decoded

  member_stands : (k : ℕ) (t : Transition) → get_elem? system.transitions k ≡ some t → MemberStands ks ps nexts guards k t
  member_stands k t e =
      let p = loaded_places d in
      let g = loaded_guard d k t e in
      let a = loaded_action d k t e in
      let inside = (expression_within ks ps t.guard (get_or guards k 0) g).0 in
      let inside' = instruction_within ks ps t.action (get_or nexts (get_or guards k 0) 0) a in
      let after = p.expression t.guard (get_or guards k 0) g in
      let after' = p.instruction t.action (get_or nexts (get_or guards k 0) 0) a in
      record {
        below = omega (arith, some_below system.transitions k e, loaded_guards d);
        guard_within = omega (arith, inside, p.long);
        action_within = omega (arith, inside', p.long);
        guard =
            subst (Between ks ps (nodes_of_expression t.guard) (get_or guards k 0))
            (ap (λ n. get_or guards k 0 + n) (expression_size t.guard) ∙ sym after)
            (nodes_between ks ps columns_long (nodes_of_expression t.guard) (get_or guards k 0) (omega (arith, inside)) (expression_nodes ks ps t.guard _ g));
        action =
            subst (Between ks ps (nodes_of t.action) (get_or nexts (get_or guards k 0) 0))
            (ap (λ n. get_or nexts (get_or guards k 0) 0 + n) (instruction_size t.action) ∙ sym after')
            (nodes_between ks ps columns_long (nodes_of t.action) (get_or nexts (get_or guards k 0) 0) (omega (arith, inside')) (instruction_nodes ks ps t.action _ a));
      }

  -- and all of a list
  pub members_stand : (numbers : List ℕ) (ts : List Transition) → members_of system.transitions numbers ≡ some ts
      → MembersStand ks ps nexts guards numbers ts
  unfolding members_of MembersStand
  members_stand [] [] e = tt
  members_stand [] (t ∷ ts) e = let z : ◌≡◌ {A = ℕ} 0 (suc (length ts)) = ap length (some-injective [] (t ∷ ts) e) in absurd (omega arith)
  members_stand (k ∷ rest) ts e =
      let f = first_and_rest (get_elem? system.transitions k) (members_of system.transitions rest) ts e in
      rw f.4 (member_stands k f.0 f.2, members_stand rest f.1 f.3)

  -- ---- the nodes before the new transition, and the assertion behind it

  stands : SystemAt ks ps system
  stands = subst₂ (λ ks ps. SystemAt ks ps system) (sym d.decoded.kinds_decoded) (sym d.decoded.parameters_decoded) (accepted_file d.file model.sizes system d.decoded.checked).system.stands

  abbrev pub front : List Node
  front = flat_map nodes_of_variable (variables system) ++ flat_map nodes_of_transition system.transitions

  front_length : length front ≡ model.assertion
  front_length =
      omega (
        arith,
        length-append (flat_map nodes_of_variable (variables system)) (flat_map nodes_of_transition system.transitions),
        variables_size (variables system),
        transitions_size system.transitions,
        d.decoded.assertion_decoded,
      )

  pub front_between : Between ks ps front 0 model.assertion
  front_between =
      subst (Between ks ps front 0) (zero-add (length front) ∙ front_length)
      (nodes_between ks ps columns_long front 0 (omega arith)
      (nodes_append ks ps (flat_map nodes_of_variable (variables system)) (flat_map nodes_of_transition system.transitions) 0 stands.declarations
      (transitions_nodes ks ps system.transitions _
      (subst (TransitionsAt ks ps system.transitions) (sym (variables_size (variables system)) ∙ sym (zero-add _)) stands.transitions))))

  pub assertion_between : Between ks ps (nodes_of system.assertion) model.assertion (length ks)
  assertion_between =
      let place = d.decoded.assertion_decoded in
      let end : model.assertion + length (nodes_of system.assertion) ≡ length ks = omega (arith, place, stands.nodes, instruction_size system.assertion) in
      subst (Between ks ps (nodes_of system.assertion) model.assertion) end
      (nodes_between ks ps columns_long (nodes_of system.assertion) model.assertion (omega (arith, end))
      (subst (NodesAt ks ps (nodes_of system.assertion)) (sym place) (instruction_nodes ks ps system.assertion (assertion_place system) stands.assertion)))
