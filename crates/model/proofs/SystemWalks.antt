-- The walk of a whole model: what it finds are the nodes of a well-formed tree, and it finds every such tree.
use mathlib.Core.Path.{◌≡◌, refl, sym, ap, ◌∙◌, subst}
use mathlib.Core.List.{List, ◌++◌, flat_map}
use Prim.Native.Nat.{ℕ, ◌+◌, ◌≤◌}
use native.Mathlib.Omega.{arith}
use lib.IntN.{ℤ}
use lib.ListN.{length, take, drop, length-append, length-take, length-drop, take-append-drop}
use lib.Seq.{take-append_seam, drop-append_seam}
use Rattle.kinds.specs.declared.Sort.{Sort}
use Rattle.model.specs.declared.Layout.{Layout}
use Rattle.model.specs.declared.Sizes.{Sizes}
use Rattle.model.specs.Trees.{Variable, Transition, Instruction, System, variables, sorts_of, depth_of}
use Rattle.model.specs.Nodes.{nodes_of_variable, nodes_of_transition, nodes_of, nodes_of_system}
use Rattle.model.specs.Walk.{scope_of, and_then, instruction_at, variable_at, transition_at, row_at}
use Rattle.model.specs.Walk.Walk.{found}
use Rattle.model.specs.Check.{max_depth, action_scope, assertion_scope, rest_at, system_at}
use Rattle.model.specs.WellFormed.{Scoped, Declared, GuardedBy, All, WellFormedIn, sizes_of}
use Rattle.model.specs.Standing.{size_of_transitions}
use Rattle.model.proofs.WalkClaims.{Holds, holds_then}
use Rattle.model.proofs.NodeLists.{NodesAt, nodes_append, nodes_split}
use Rattle.model.proofs.NodeTrees.{instruction_size, transitions_size, instruction_nodes, nodes_instruction, transitions_nodes, nodes_transitions}
use Rattle.model.proofs.Standing.{AllRepresentable, InstructionFound, instruction_found}
use Rattle.model.proofs.StandingRows.{VariablesFound, variables_found, TransitionsFound, transitions_found}
use Rattle.model.proofs.Complete.{complete_instruction}
use Rattle.model.proofs.CompleteRows.{complete_variables, complete_transitions}

-- the transitions and the assertion after them
pub record RestFound (ks : List ℕ) (ps : List ℤ) (sorts : List Sort) (s : Sizes) (at : ℕ) (r : List Transition × Instruction) (next : ℕ) : Type 0 where
  pub second : ℕ
  pub transitions : TransitionsFound ks ps s.events (scope_of sorts 0 s.states) s.transitions at r.0 second
  pub assertion : InstructionFound ks ps (scope_of sorts s.states (s.states + s.flows)) max_depth second r.1 next

pub record SystemFound (ks : List ℕ) (ps : List ℤ) (s : Sizes) (t : System) (next : ℕ) : Type 0 where
  pub nodes : NodesAt ks ps (nodes_of_system t) 0
  pub after : next ≡ length (nodes_of_system t)
  pub states : length t.states ≡ s.states
  pub flows : length t.flows ≡ s.flows
  pub events : t.events ≡ s.events
  pub transitions : length t.transitions ≡ s.transitions
  pub declared : AllRepresentable ps → All Declared (variables t)
  pub guarded : AllRepresentable ps → All (GuardedBy s.events (scope_of (sorts_of (variables t)) 0 s.states)) t.transitions
  pub assertion : AllRepresentable ps → Scoped t.assertion (scope_of (sorts_of (variables t)) s.states (s.states + s.flows))
  pub assertion_depth : depth_of t.assertion ≤ max_depth

module _ (ks : List ℕ) (ps : List ℤ) (s : Sizes) where
  rest_found : length ps ≡ length ks → (sorts : List Sort) (at : ℕ) → Holds (RestFound ks ps sorts s at) (rest_at ks ps sorts s at)
  unfolding Holds rest_at
  rest_found long sorts at =
      holds_then (TransitionsFound ks ps s.events (scope_of sorts 0 s.states) s.transitions at) (RestFound ks ps sorts s at)
      (row_at (transition_at ks ps s.events (scope_of sorts 0 s.states) max_depth) s.transitions at) _
      (transitions_found ks ps long s.events (scope_of sorts 0 s.states) s.transitions at)
      (λ ts second f.
      holds_then (InstructionFound ks ps (scope_of sorts s.states (s.states + s.flows)) max_depth second) (RestFound ks ps sorts s at)
      (instruction_at ks ps (scope_of sorts s.states (s.states + s.flows)) max_depth second) _
      (instruction_found ks ps long (scope_of sorts s.states (s.states + s.flows)) max_depth second)
      (λ a next g. record { second = second; transitions = f; assertion = g }))

  -- the tree, over all variables in one list
  abbrev built : List Variable → List Transition → Instruction → System
  built vs ts a = record { states = take s.states vs; flows = drop s.states vs; events = s.events; transitions = ts; assertion = a }

  build : (vs : List Variable) (second : ℕ) (ts : List Transition) (a : Instruction) (next : ℕ)
      → VariablesFound ks ps (s.states + s.flows) 0 vs second → RestFound ks ps (sorts_of vs) s second (ts, a) next
      → SystemFound ks ps s (built vs ts a) next
  unfolding nodes_of_system
  build vs second ts a next f g =
      let q : take s.states vs ++ drop s.states vs ≡ vs = take-append-drop s.states vs in
      let front = flat_map nodes_of_variable vs in
      let middle = flat_map nodes_of_transition ts in
      let t = g.transitions in
      let i = g.assertion in
      let all : NodesAt ks ps (front ++ (middle ++ nodes_of a)) 0 =
      nodes_append ks ps front (middle ++ nodes_of a) 0 f.nodes
      (subst (NodesAt ks ps (middle ++ nodes_of a)) f.after
      (nodes_append ks ps middle (nodes_of a) second (transitions_nodes ks ps ts second t.stands)
      (subst (NodesAt ks ps (nodes_of a)) (t.after ∙ ap (λ n. second + n) (sym (transitions_size ts))) (instruction_nodes ks ps a g.second i.stands)))) in
      let end : next ≡ length (front ++ (middle ++ nodes_of a)) =
      omega (arith, f.after, t.after, i.after, length-append front (middle ++ nodes_of a), length-append middle (nodes_of a), transitions_size ts, instruction_size a) in
      record {
        nodes = subst (λ us. NodesAt ks ps (flat_map nodes_of_variable us ++ (middle ++ nodes_of a)) 0) (sym q) all;
        after = subst (λ us. next ≡ length (flat_map nodes_of_variable us ++ (middle ++ nodes_of a))) (sym q) end;
        states = length-take s.states vs ∙ omega (arith, f.number);
        flows = length-drop s.states vs ∙ omega (arith, f.number);
        events = refl;
        transitions = t.number;
        declared = λ r. subst (All Declared) (sym q) (f.declared r);
        guarded = λ r. subst (λ us. All (GuardedBy s.events (scope_of (sorts_of us) 0 s.states)) ts) (sym q) (t.guarded r);
        assertion = λ r. subst (λ us. Scoped a (scope_of (sorts_of us) s.states (s.states + s.flows))) (sym q) (i.scoped r);
        assertion_depth = i.depth;
      }

  pub system_found : length ps ≡ length ks → Holds (SystemFound ks ps s) (system_at ks ps s)
  unfolding Holds system_at
  system_found long =
      holds_then (VariablesFound ks ps (s.states + s.flows) 0) (SystemFound ks ps s) (row_at (variable_at ks ps) (s.states + s.flows) 0) _ (variables_found ks ps long (s.states + s.flows) 0)
      (λ vs second f.
      holds_then (RestFound ks ps (sorts_of vs) s second) (SystemFound ks ps s) (rest_at ks ps (sorts_of vs) s second) _ (rest_found long (sorts_of vs) second)
      (λ r next g. build vs second r.0 r.1 next f g))

-- ---- and every well-formed tree is found

module _ (ks : List ℕ) (ps : List ℤ) (t : System) where
  complete_rest : (at next : ℕ) → NodesAt ks ps (flat_map nodes_of_transition t.transitions ++ nodes_of t.assertion) at
      → All (GuardedBy t.events (action_scope (sizes_of t) (variables t))) t.transitions
      → Scoped t.assertion (assertion_scope (sizes_of t) (variables t)) → depth_of t.assertion ≤ max_depth
      → next ≡ at + length (flat_map nodes_of_transition t.transitions ++ nodes_of t.assertion)
      → rest_at ks ps (sorts_of (variables t)) (sizes_of t) at ≡ found (t.transitions, t.assertion) next
  unfolding rest_at and_then
  complete_rest at next n g c d e =
      let ts = t.transitions in
      let a = t.assertion in
      let h = nodes_split ks ps (flat_map nodes_of_transition ts) (nodes_of a) at n in
      let second = at + size_of_transitions ts in
      rw (
        complete_transitions ks ps t.events (action_scope (sizes_of t) (variables t)) ts at (nodes_transitions ks ps ts at h.0) g,
        complete_instruction ks ps a (assertion_scope (sizes_of t) (variables t)) max_depth second
            (nodes_instruction ks ps a second (subst (NodesAt ks ps (nodes_of a)) (ap (λ n. at + n) (transitions_size ts)) h.1)) c d,
      )
      (ap (found (ts, a)) (omega (arith, e, length-append (flat_map nodes_of_transition ts) (nodes_of a), transitions_size ts, instruction_size a)))

  pub complete_system : NodesAt ks ps (nodes_of_system t) 0 → {l : Layout} → WellFormedIn l t → system_at ks ps (sizes_of t) ≡ found t (length (nodes_of_system t))
  unfolding system_at and_then nodes_of_system
  complete_system n w =
      let front = flat_map nodes_of_variable (variables t) in
      let back = flat_map nodes_of_transition t.transitions ++ nodes_of t.assertion in
      let h = nodes_split ks ps front back 0 n in
      let v : row_at (variable_at ks ps) (length t.states + length t.flows) 0 ≡ found (variables t) (0 + length front) =
      ap (λ n. row_at (variable_at ks ps) n 0) (sym (length-append t.states t.flows)) ∙ complete_variables ks ps (variables t) 0 h.0 w.declared in
      let r : rest_at ks ps (sorts_of (variables t)) (sizes_of t) (0 + length front) ≡ found (t.transitions, t.assertion) (length (front ++ back)) =
      complete_rest (0 + length front) (length (front ++ back)) h.1 w.guarded w.assertion w.assertion_depth (omega (arith, length-append front back)) in
      rw (v, r, take-append_seam t.states t.flows, drop-append_seam t.states t.flows)
