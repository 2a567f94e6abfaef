-- What an accepted file tells: its length, its sizes, and that its nodes are those of its system.
use mathlib.Core.Path.{◌≡◌, refl, sym, ap, ◌∙◌, subst}
use mathlib.Core.Bool.{Bool, true, false, cond}
use mathlib.Core.List.{List, flat_map}
use Prim.Native.Nat.{ℕ, ◌+◌, ◌≤◌}
use native.Mathlib.Omega.{arith}
use borrow.Author.Tests.{ltb-false}
use lib.Dec.{ltb}
use lib.IntN.{ℤ}
use lib.ListN.{length, take-append-drop}
use Rattle.std.specs.Prelude.{Result, Ok, Err}
use Rattle.results.specs.declared.refusal.Refusal.{Refusal}
use Rattle.results.specs.declared.refusal.Refusal.TheVariants.{NodesLeftOver}
use Rattle.model.specs.declared.Sizes.{Sizes}
use Rattle.model.specs.Trees.{Instruction, Variable, Transition, System, variables, sorts_of}
use Rattle.model.specs.Sizes.{file_layout, sized}
use Rattle.model.specs.Walk.{Walk, variable_at, transition_at, row_at, scope_of}
use Rattle.model.specs.Walk.Walk.{refused, found}
use Rattle.model.specs.Check.{max_depth, complete, rest_at, system_at, kinds_in, parameters_in, walked_in, verdict, verdict_in, verdict_of, verdict_of_layout}
use Rattle.model.specs.Check.Verdict.{accepted}
use Rattle.model.specs.Standing.{InstructionAt, size_of, size_of_transitions}
use Rattle.model.proofs.NodeLists.{TransitionsAt}
use Rattle.decoding.specs.Decoding.{size_of_variables, transitions_place, assertion_place}
use Rattle.model.specs.Nodes.{nodes_of_variable, nodes_of}
use Rattle.model.proofs.NodeLists.{NodesAt, nodes_within}
use Rattle.model.proofs.NodeTrees.{instruction_size, instruction_nodes}
use Rattle.model.proofs.LittleBytes.{parameters_length}
use Rattle.model.proofs.Encoding.{SizedAs, sized_read}
use Rattle.model.proofs.CheckExact.{kinds_length}
use Rattle.model.proofs.WalkClaims.{Holds, holds_found, holds_then}
use Rattle.model.proofs.Standing.{InstructionFound, instruction_found}
use Rattle.model.proofs.StandingRows.{standing_variables, standing_transitions}
use Rattle.decoding.proofs.Places.{SystemAt, variables_size, instruction_within}

-- ---- the walk

holds_itself : {A : Type 0} (w : Walk A) → Holds (λ a next. w ≡ found a next) w
unfolding Holds
holds_itself (refused n) = tt
holds_itself (found a next) = refl

-- the walk of variables, transitions and the assertion, up to this place
record Parts (ks : List ℕ) (ps : List ℤ) (s : Sizes) (vs : List Variable) (ts : List Transition) (a : Instruction) (next : ℕ) : Type 0 where
  row : row_at (variable_at ks ps) (s.states + s.flows) 0 ≡ found vs (size_of_variables vs)
  number : length vs ≡ s.states + s.flows
  declarations : NodesAt ks ps (flat_map nodes_of_variable vs) 0
  number_of_transitions : length ts ≡ s.transitions
  transitions : TransitionsAt ks ps ts (size_of_variables vs)
  assertion : InstructionAt ks ps a (size_of_variables vs + size_of_transitions ts)
  after : next ≡ size_of_variables vs + size_of_transitions ts + size_of a

pub record SystemRead (ks : List ℕ) (ps : List ℤ) (s : Sizes) (t : System) : Type 0 where
  pub row : row_at (variable_at ks ps) (s.states + s.flows) 0 ≡ found (variables t) (transitions_place t)
  pub number : length (variables t) ≡ s.states + s.flows
  pub number_of_transitions : length t.transitions ≡ s.transitions
  pub stands : SystemAt ks ps t

module _ (ks : List ℕ) (ps : List ℤ) (long : length ps ≡ length ks) (s : Sizes) where
  rest_parts : (vs : List Variable) (second : ℕ) → row_at (variable_at ks ps) (s.states + s.flows) 0 ≡ found vs second
      → Holds (λ r next. Parts ks ps s vs r.0 r.1 next) (rest_at ks ps (sorts_of vs) s second)
  unfolding Holds rest_at
  rest_parts vs second e =
      let v = standing_variables ks ps long (s.states + s.flows) 0 e in
      let place : second ≡ size_of_variables vs = omega (arith, v.after, variables_size vs) in
      let actions = scope_of (sorts_of vs) 0 s.states in
      let flows = scope_of (sorts_of vs) s.states (s.states + s.flows) in
      holds_then (λ ts third. row_at (transition_at ks ps s.events actions max_depth) s.transitions second ≡ found ts third) (λ r next. Parts ks ps s vs r.0 r.1 next) _ _
      (holds_itself (row_at (transition_at ks ps s.events actions max_depth) s.transitions second))
      (λ ts third g.
      let f = standing_transitions ks ps long s.events actions s.transitions second g in
      holds_then (InstructionFound ks ps flows max_depth third) (λ r next. Parts ks ps s vs r.0 r.1 next) _ _ (instruction_found ks ps long flows max_depth third)
      (λ a next i.
      record {
        row = e ∙ ap (found vs) place;
        number = v.number;
        declarations = v.nodes;
        number_of_transitions = f.number;
        transitions = subst (TransitionsAt ks ps ts) place f.stands;
        assertion = subst (InstructionAt ks ps a) (f.after ∙ ap (λ n. n + size_of_transitions ts) place) i.stands;
        after = omega (arith, i.after, f.after, place);
      }))

  system_parts : Holds (λ t next. Parts ks ps s (variables t) t.transitions t.assertion next) (system_at ks ps s)
  unfolding Holds system_at
  system_parts =
      holds_then (λ vs second. row_at (variable_at ks ps) (s.states + s.flows) 0 ≡ found vs second) (λ t next. Parts ks ps s (variables t) t.transitions t.assertion next) _ _
      (holds_itself (row_at (variable_at ks ps) (s.states + s.flows) 0))
      (λ vs second e.
      holds_then (λ r next. Parts ks ps s vs r.0 r.1 next) (λ t next. Parts ks ps s (variables t) t.transitions t.assertion next) _ _
      (rest_parts vs second e)
      (λ r next p. subst (λ ws. Parts ks ps s ws r.0 r.1 next) (sym (take-append-drop s.states vs)) p))

  ends : (i : Instruction) (at : ℕ) → InstructionAt ks ps i at → at + size_of i ≤ length ks
  ends i at h =
      let w = instruction_within ks ps i at h in
      omega (arith, nodes_within ks ps (nodes_of i) at (omega arith) (instruction_nodes ks ps i at h), instruction_size i)

  -- no node is left over
  whole : (t : System) (next : ℕ) → length ks ≤ next → Parts ks ps s (variables t) t.transitions t.assertion next → SystemRead ks ps s t
  whole t next h p =
      record {
        row = p.row;
        number = p.number;
        number_of_transitions = p.number_of_transitions;
        stands =
            record {
              declarations = p.declarations;
              transitions = p.transitions;
              assertion = p.assertion;
              nodes = omega (arith, p.after, ends t.assertion (assertion_place t) p.assertion);
            };
      }

  pub system_read : (t : System) (next : ℕ) → complete (length ks) (system_at ks ps s) ≡ found t next → SystemRead ks ps s t
  unfolding complete Holds
  system_read t next e =
      holds_found (λ t next. SystemRead ks ps s t)
      (holds_then (λ t next. Parts ks ps s (variables t) t.transitions t.assertion next) (λ t next. SystemRead ks ps s t) (system_at ks ps s) _ system_parts
      (λ t next p. go t next p (ltb next (length ks)) refl)) e
    where
      go : (t : System) (next : ℕ) → Parts ks ps s (variables t) t.transitions t.assertion next → (b : Bool) → ltb next (length ks) ≡ b
          → Holds (λ t next. SystemRead ks ps s t) (cond b (refused NodesLeftOver) (found t next))
      go t next p true q = tt
      go t next p false q = whole t next (ltb-false next (length ks) q) p

-- ---- the file

pub record FileRead (m : List ℕ) (s : Sizes) (t : System) : Type 0 where
  pub sizes : SizedAs file_layout m s
  pub system : SystemRead (kinds_in file_layout s.nodes m) (parameters_in file_layout s.nodes m) s t

module _ (m : List ℕ) where
  walked_read : (s : Sizes) (t : System) → sized file_layout m ≡ Ok s → (next : ℕ) → walked_in file_layout m s ≡ found t next → FileRead m s t
  walked_read s t r next e =
      let h = sized_read m s r in
      record {
        sizes = h;
        system =
            system_read (kinds_in file_layout s.nodes m) (parameters_in file_layout s.nodes m)
            (parameters_length m s.nodes _ ∙ sym (kinds_length m s h)) s t next
            (ap (λ n. complete n (system_at (kinds_in file_layout s.nodes m) (parameters_in file_layout s.nodes m) s)) (kinds_length m s h) ∙ e);
      }

  verdict_walk : (r s : Sizes) (t : System) → sized file_layout m ≡ Ok r → (w : Walk System) → walked_in file_layout m r ≡ w → verdict_of r w ≡ accepted s t → FileRead m s t
  unfolding verdict_of
  verdict_walk r s t h (refused n) e v = cc
  verdict_walk r s t h (found t' next) e v =
      let p : r ≡ s = cc in
      let q : t' ≡ t = cc in
      subst (λ s. FileRead m s t) p (walked_read r t h next (e ∙ ap (λ t. found t next) q))

  verdict_sized : (z : Result Sizes Refusal) → sized file_layout m ≡ z → (s : Sizes) (t : System) → verdict_in file_layout m z ≡ accepted s t → FileRead m s t
  unfolding verdict_in
  verdict_sized (Err n) h s t v = cc
  verdict_sized (Ok r) h s t v = verdict_walk r s t h (walked_in file_layout m r) refl v

  pub accepted_file : (s : Sizes) (t : System) → verdict m ≡ accepted s t → FileRead m s t
  unfolding verdict_of_layout
  accepted_file s t v = verdict_sized (sized file_layout m) refl s t v
