-- The check accepts exactly the bytes of well-formed trees.
use mathlib.Core.Path.{◌≡◌, refl, sym, ap, ◌∙◌, subst}
use mathlib.Core.Bool.{Bool, true, false, cond}
use mathlib.Core.List.{List, map}
use Prim.Native.Nat.{ℕ, ◌+◌, ◌*◌, ◌≤◌, ◌<◌}
use native.Mathlib.Omega.{arith}
use borrow.Author.Tests.{ltb-false, le-ltb}
use lib.Dec.{T, ltb}
use lib.IntN.{ℤ}
use lib.ListN.{length, length-take, length-drop, length-append, drop}
use Rattle.evaluation.specs.Numbers.{representable}
use Rattle.std.specs.Prelude.{Result, Ok, Err}
use Rattle.results.specs.declared.refusal.Refusal.{Refusal}
use Rattle.results.specs.declared.refusal.Refusal.TheVariants.{NodesLeftOver}
use Rattle.model.specs.declared.Layout.{Layout}
use Rattle.model.specs.declared.Sizes.{Sizes}
use Rattle.model.specs.Trees.{System, variables}
use Rattle.model.specs.Nodes.{Node, nodes_of_system}
use Rattle.model.specs.Sizes.{file_layout, header_of, size_bound_of, sized, sizes_in}
use Rattle.model.specs.Walk.{Walk, and_then}
use Rattle.model.specs.Walk.Walk.{refused, found}
use Rattle.model.specs.Check.{Verdict, verdict, verdict_of_layout, verdict_in, verdict_of, complete, walked_in, system_at, kinds_in, parameters_in, action_scope, assertion_scope}
use Rattle.model.specs.Check.Verdict.{refusal, accepted}
use Rattle.model.specs.WellFormed.{Scoped, GuardedBy, All, WellFormed, WellFormedIn, encode, encode_in, sizes_of}
use Rattle.model.specs.Theorems.{Sound, CheckExact, LayoutsSound, LayoutsExact}
use Rattle.model.proofs.WalkClaims.{Holds, holds_then}
use Rattle.model.proofs.NodeLists.{nodes_within, all_kinds, all_parameters, own_nodes}
use Rattle.model.proofs.LittleBytes.{AllBytes, all_bytes, little_bound, parameters_length, parameters_representable}
use Rattle.model.proofs.Encoding.{Fits, SizedAs, sized_read, read_sized, sizes_path, file, file_length, file_kinds_lem, file_parameters_lem, file_written, header_read}
use Rattle.model.proofs.Representable.{all_map, system_parameters}
use Rattle.model.proofs.SystemWalks.{SystemFound, system_found, complete_system}

-- ---- what is accepted is the file of a well-formed tree

abbrev Exact : Layout → List ℕ → Sizes → System → Type 0
Exact l m s t = (m ≡ encode_in l t) × (s ≡ sizes_of t) × WellFormedIn l t

pub sized_fits : {l : Layout} (m : List ℕ) → AllBytes m → (s : Sizes) → SizedAs l m s → Fits l s
unfolding sizes_in
sized_fits {l} m b s h =
    record {
      states = subst (λ s. s.states < size_bound_of l) h.sizes (little_bound m b l.width 0);
      flows = subst (λ s. s.flows < size_bound_of l) h.sizes (little_bound m b l.width l.width);
      events = subst (λ s. s.events < size_bound_of l) h.sizes (little_bound m b l.width (2 * l.width));
      transitions = subst (λ s. s.transitions < size_bound_of l) h.sizes (little_bound m b l.width (3 * l.width));
      nodes = h.few;
      variables = h.variables;
    }

pub kinds_length : {l : Layout} (m : List ℕ) (s : Sizes) → SizedAs l m s → length (kinds_in l s.nodes m) ≡ s.nodes
kinds_length {l} m s h = length-take s.nodes (drop (header_of l) m) ∙ omega (arith, length-drop (header_of l) m, h.long)

module _ (l : Layout) (m : List ℕ) (b : AllBytes m) (s : Sizes) (h : SizedAs l m s) where
  abbrev ks : List ℕ
  ks = kinds_in l s.nodes m

  abbrev ps : List ℤ
  ps = parameters_in l s.nodes m

  abbrev at : ℕ
  at = header_of l + s.nodes

  same_length : length ps ≡ length ks
  same_length = parameters_length m s.nodes at ∙ sym (kinds_length m s h)

  exact : (t : System) (next : ℕ) → SystemFound ks ps s t next → s.nodes ≤ next → Exact l m s t
  unfolding encode_in file
  exact t next f e =
      let ns = nodes_of_system t in
      let long : length ns ≡ s.nodes = omega (arith, f.after, e, nodes_within ks ps ns 0 (omega arith) f.nodes, kinds_length m s h) in
      let sizes : s ≡ sizes_of t = sizes_path (sym f.states) (sym f.flows) (sym f.events) (sym f.transitions) (sym long) in
      let written : m ≡ file l s ns =
      file_written l s ns m b h (all_kinds ks ps ns f.nodes (kinds_length m s h ∙ sym long))
      (all_parameters ks ps ns f.nodes (parameters_length m s.nodes at ∙ sym long)) in
      let fits : Fits l (sizes_of t) = subst (Fits l) sizes (sized_fits m b s h) in
      let r = parameters_representable m b s.nodes at in (
        written ∙ ap (λ s. file l s ns) sizes,
        sizes,
        record {
          states = fits.states;
          flows = fits.flows;
          events = fits.events;
          transitions = fits.transitions;
          nodes = fits.nodes;
          few = omega (arith, fits.variables, length-append t.states t.flows);
          declared = f.declared r;
          guarded = subst (λ s. All (GuardedBy s.events (action_scope s (variables t))) t.transitions) sizes (f.guarded r);
          assertion = subst (λ s. Scoped t.assertion (assertion_scope s (variables t))) sizes (f.assertion r);
          assertion_depth = f.assertion_depth;
        },
      )

  completed : (t : System) (next : ℕ) (c : Bool) → ltb next s.nodes ≡ c → SystemFound ks ps s t next
      → Holds (λ t next. Exact l m s t) (cond c (refused NodesLeftOver) (found t next))
  unfolding Holds
  completed t next true e f = tt
  completed t next false e f = exact t next f (ltb-false next s.nodes e)

  walk_exact : Holds (λ t next. Exact l m s t) (walked_in l m s)
  unfolding complete
  walk_exact =
      holds_then (SystemFound ks ps s) (λ t next. Exact l m s t) (system_at ks ps s) _ (system_found ks ps s same_length)
      (λ t next f. completed t next (ltb next s.nodes) refl f)

unfoldable pub VerdictHolds : (Sizes → System → Type 0) → Verdict → Type 0
VerdictHolds P (refusal n) = Unit {0}
VerdictHolds P (accepted s t) = P s t

pub walk_verdict : (P : Sizes → System → Type 0) (s : Sizes) (w : Walk System) → Holds (λ t next. P s t) w → VerdictHolds P (verdict_of s w)
unfolding Holds VerdictHolds verdict_of
walk_verdict P s (refused n) h = tt
walk_verdict P s (found t next) h = h

-- what holds of every walk over a file whose sizes are read holds of an accepted one
pub accepted_holds : (P : Sizes → System → Type 0) (l : Layout) (m : List ℕ)
    → ((s : Sizes) → SizedAs l m s → Holds (λ t next. P s t) (walked_in l m s)) → VerdictHolds P (verdict_of_layout l m)
unfolding verdict_of_layout verdict_in VerdictHolds
accepted_holds P l m f = by (sized l m) refl
  where
    by : (r : Result Sizes Refusal) → sized l m ≡ r → VerdictHolds P (verdict_in l m r)
    by (Err n) e = tt
    by (Ok s) e = walk_verdict P s (walked_in l m s) (f s (sized_read m s e))

pub accepted_sized : {l : Layout} (m : List ℕ) (s : Sizes) (t : System) → verdict_of_layout l m ≡ accepted s t → SizedAs l m s
unfolding VerdictHolds Holds
accepted_sized {l} m s t e = subst (VerdictHolds (λ s t. SizedAs l m s)) e (accepted_holds (λ s t. SizedAs l m s) l m (λ s h. always s h (walked_in l m s)))
  where
    always : (s : Sizes) → SizedAs l m s → (w : Walk System) → Holds (λ t next. SizedAs l m s) w
    always s h (refused n) = tt
    always s h (found t next) = h

verdict_exact : (l : Layout) (m : List ℕ) → AllBytes m → VerdictHolds (Exact l m) (verdict_of_layout l m)
verdict_exact l m b = accepted_holds (Exact l m) l m (walk_exact l m b)

-- ---- and the file of a well-formed tree is accepted

pub well_formed_fits : {l : Layout} (t : System) → WellFormedIn l t → Fits l (sizes_of t)
well_formed_fits t w =
    record {
      states = w.states;
      flows = w.flows;
      events = w.events;
      transitions = w.transitions;
      nodes = w.nodes;
      variables = omega (arith, w.few, length-append t.states t.flows);
    }

module _ {l : Layout} (sound : Sound l) (t : System) (w : WellFormedIn l t) where
  abbrev ns : List Node
  ns = nodes_of_system t

  encode_sized : SizedAs l (encode_in l t) (sizes_of t)
  unfolding encode_in file
  encode_sized =
      let fits = well_formed_fits t w in
      let long : length (encode_in l t) ≡ header_of l + 5 * length ns = file_length l (sizes_of t) ns in
      record {
        header = omega (arith, long);
        few = fits.nodes;
        variables = fits.variables;
        long = long;
        sizes = header_read l (sizes_of t) _ sound.nodes fits;
      }

  completes : (n : ℕ) → complete n (found t n) ≡ found t n
  unfolding complete and_then
  completes n = rw (le-ltb n n (omega arith))

  encode_walked : walked_in l (encode_in l t) (sizes_of t) ≡ found t (length ns)
  unfolding encode_in file
  encode_walked =
      let k : kinds_in l (length ns) (encode_in l t) ≡ map (λ n. n.kind) ns = file_kinds_lem l (sizes_of t) ns in
      let p : parameters_in l (length ns) (encode_in l t) ≡ map (λ n. n.parameter) ns =
      file_parameters_lem l (sizes_of t) ns (all_map (λ v. T (representable v)) (λ n. n.parameter) ns (system_parameters t sound w)) in
      ap (λ ks. complete (length ns) (system_at ks (parameters_in l (length ns) (encode_in l t)) (sizes_of t))) k
      ∙ ap (λ ps. complete (length ns) (system_at (map (λ n. n.kind) ns) ps (sizes_of t))) p
      ∙ ap (complete (length ns)) (complete_system (map (λ n. n.kind) ns) (map (λ n. n.parameter) ns) t (own_nodes ns) w)
      ∙ completes (length ns)

  pub encode_accepted_in : verdict_of_layout l (encode_in l t) ≡ accepted (sizes_of t) t
  unfolding verdict_of_layout verdict_in verdict_of
  encode_accepted_in =
      ap (verdict_in l (encode_in l t)) (read_sized (encode_in l t) (sizes_of t) encode_sized) ∙ ap (verdict_of (sizes_of t)) encode_walked

pub check_exact_in : LayoutsExact
unfolding VerdictHolds
check_exact_in l sound m b s t = (
  λ e. subst (VerdictHolds (Exact l m)) e (verdict_exact l m (all_bytes m b)),
  λ h. ap (verdict_of_layout l) h.0 ∙ encode_accepted_in sound t h.2 ∙ ap (λ s. accepted s t) (sym h.1),
)

-- ---- of old files, and of those that every call reads

pub layouts_sound : LayoutsSound
layouts_sound = (record { widths = (omega arith, omega arith); nodes = omega arith }, record { widths = (omega arith, omega arith); nodes = omega arith })

pub check_exact : CheckExact
check_exact = check_exact_in file_layout layouts_sound.1

pub encode_accepted : (t : System) → WellFormed t → verdict (encode t) ≡ accepted (sizes_of t) t
encode_accepted t w = encode_accepted_in layouts_sound.1 t w
