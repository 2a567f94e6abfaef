-- The bytes of a file: header, kinds and parameters, read as they were written and written as they were read.
use mathlib.Core.Path.{◌≡◌, refl, sym, ap, ap₂, ◌∙◌, subst}
use mathlib.Core.Bool.{Bool, true, false, cond, not}
use mathlib.Core.List.{List, [], ◌∷◌, ◌++◌, map, flat_map, append_assoc}
use Prim.Native.Nat.{ℕ, ◌+◌, ◌*◌, ◌≤◌, ◌<◌}
use native.Mathlib.Omega.{arith}
use borrow.Author.Tests.{eq-eqb, eqb-true, ltb-false, le-ltb}
use lib.Dec.{T, eqb, ltb}
use lib.ListN.{length, take, drop, length-append, length-map, take-append-drop}
use lib.Seq.{drop-drop, take_at, drop_at}
use Rattle.evaluation.specs.Numbers.{representable}
use Rattle.std.specs.Prelude.{Result, Ok, Err}
use Rattle.results.specs.declared.refusal.Refusal.{Refusal}
use Rattle.results.specs.declared.refusal.Refusal.TheVariants.{ShortFile, TooManyNodes, TooManyVariables, WrongLength}
use Rattle.model.specs.declared.Layout.{Layout}
use Rattle.model.specs.declared.Sizes.{Sizes}
use Rattle.model.specs.Nodes.{Node, little_bytes, twos_complement, parameter_bytes}
use Rattle.model.specs.Sizes.{header_of, size_bound_of, little_at, sizes_in, sized, header_bytes}
use Rattle.model.specs.Check.{kinds_in, parameters_in, parameters_at}
use Rattle.model.specs.WellFormed.{All}
use Rattle.model.proofs.LittleBytes.{AllBytes, little_length, little_written, little_read, little_rest, parameters_written, parameters_read}

-- a file of these sizes and nodes
unfoldable pub file : Layout → Sizes → List Node → List ℕ
file l s ns = header_bytes l s ++ (map (λ n. n.kind) ns ++ flat_map (λ n. parameter_bytes n.parameter) ns)

-- ---- the header

pub sizes_path : {s s' : Sizes} → s.states ≡ s'.states → s.flows ≡ s'.flows → s.events ≡ s'.events → s.transitions ≡ s'.transitions → s.nodes ≡ s'.nodes → s ≡ s'
sizes_path p q r u v = λ i. record { states = p i; flows = q i; events = r i; transitions = u i; nodes = v i }

-- the sizes fit their bytes, and keep the limits of the layout
pub record Fits (l : Layout) (s : Sizes) : Type 0 where
  pub states : s.states < size_bound_of l
  pub flows : s.flows < size_bound_of l
  pub events : s.events < size_bound_of l
  pub transitions : s.transitions < size_bound_of l
  pub nodes : s.nodes ≤ l.max_nodes
  pub variables : s.states + s.flows ≤ l.max_variables

module _ (l : Layout) where
  abbrev w : ℕ
  w = l.width

  -- one size after another, then what follows them
  header_parts : (s : Sizes) (body : List ℕ) → header_bytes l s ++ body
      ≡ little_bytes w s.states ++ (little_bytes w s.flows ++ (little_bytes w s.events ++ (little_bytes w s.transitions ++ (little_bytes 2 s.nodes ++ body))))
  unfolding header_bytes
  header_parts s body = simp append_assoc

  header_bytes_length : (s : Sizes) → length (header_bytes l s) ≡ header_of l
  unfolding header_bytes
  header_bytes_length s = simp (length-append, little_length) (omega arith)

  pub header_drop : (s : Sizes) (body : List ℕ) → drop (header_of l) (header_bytes l s ++ body) ≡ body
  header_drop s body = drop_at (header_bytes l s) body (header_of l) (header_bytes_length s)

  pub header_length : (s : Sizes) (body : List ℕ) → length (header_bytes l s ++ body) ≡ header_of l + length body
  header_length s body = length-append (header_bytes l s) body ∙ ap (λ n. n + length body) (header_bytes_length s)

  pub header_read : (s : Sizes) (body : List ℕ) → l.max_nodes < 65536 → Fits l s → sizes_in l (header_bytes l s ++ body) ≡ s
  unfolding sizes_in
  header_read s body small f =
      let m = header_bytes l s ++ body in
      let p₀ : drop 0 m ≡ _ = header_parts s body in
      let p₁ = next 0 w s.states (omega arith) p₀ in
      let p₂ = next w (2 * w) s.flows (omega arith) p₁ in
      let p₃ = next (2 * w) (3 * w) s.events (omega arith) p₂ in
      let p₄ = next (3 * w) (4 * w) s.transitions (omega arith) p₃ in
      sizes_path
      (little_read m w s.states 0 _ f.states p₀)
      (little_read m w s.flows w _ f.flows p₁)
      (little_read m w s.events (2 * w) _ f.events p₂)
      (little_read m w s.transitions (3 * w) _ f.transitions p₃)
      (little_read m 2 s.nodes (4 * w) _ (omega (arith, f.nodes)) p₄)
    where
      next : (at after n : ℕ) {rest : List ℕ} → at + w ≡ after → drop at (header_bytes l s ++ body) ≡ little_bytes w n ++ rest → drop after (header_bytes l s ++ body) ≡ rest
      next at after n {rest} e p = subst (λ k. drop k (header_bytes l s ++ body) ≡ rest) e (little_rest (header_bytes l s ++ body) w n at rest p)

  pub header_written : (m : List ℕ) → AllBytes m → header_of l ≤ length m → header_bytes l (sizes_in l m) ++ drop (header_of l) m ≡ m
  unfolding sizes_in
  header_written m b h =
      rw (
        header_parts (sizes_in l m) (drop (header_of l) m),
        part 2 (4 * w) (header_of l) (omega arith) (omega arith),
        part w (3 * w) (4 * w) (omega arith) (omega arith),
        part w (2 * w) (3 * w) (omega arith) (omega arith),
        part w w (2 * w) (omega arith) (omega arith),
        part w 0 w (omega arith) (omega arith),
      )
    where
      part : (width at after : ℕ) → at + width ≡ after → after ≤ length m → little_bytes width (little_at m at width) ++ drop after m ≡ drop at m
      part width at after e u =
          ap₂ ◌++◌ (little_written m b width at (omega arith)) (ap (λ (k : ℕ). drop k m) (sym e) ∙ sym (drop-drop width at m))
          ∙ take-append-drop width (drop at m)

-- ---- the sizes that are accepted

pub record SizedAs (l : Layout) (m : List ℕ) (s : Sizes) : Type 0 where
  pub header : header_of l ≤ length m
  pub few : s.nodes ≤ l.max_nodes
  pub variables : s.states + s.flows ≤ l.max_variables
  pub long : length m ≡ header_of l + 5 * s.nodes
  pub sizes : sizes_in l m ≡ s

unfoldable SizedHolds : (Sizes → Type 0) → Result Sizes Refusal → Type 0
SizedHolds P (Err n) = Unit {0}
SizedHolds P (Ok s) = P s

module _ (l : Layout) (m : List ℕ) where
  abbrev told : Sizes
  told = sizes_in l m

  sized_by : (a b c d : Bool) → ltb (length m) (header_of l) ≡ a → ltb l.max_nodes told.nodes ≡ b
      → ltb l.max_variables (told.states + told.flows) ≡ c → eqb (length m) (header_of l + 5 * told.nodes) ≡ d
      → SizedHolds (SizedAs l m) (cond a (Err ShortFile) (cond b (Err TooManyNodes) (cond c (Err TooManyVariables) (cond (not d) (Err WrongLength) (Ok told)))))
  unfolding SizedHolds
  sized_by true b c d p q r u = tt
  sized_by false true c d p q r u = tt
  sized_by false false true d p q r u = tt
  sized_by false false false false p q r u = tt
  sized_by false false false true p q r u =
      record {
        header = ltb-false (length m) (header_of l) p;
        few = ltb-false l.max_nodes told.nodes q;
        variables = ltb-false l.max_variables (told.states + told.flows) r;
        long = eqb-true (length m) (header_of l + 5 * told.nodes) u;
        sizes = refl;
      }

pub sized_read : {l : Layout} (m : List ℕ) (s : Sizes) → sized l m ≡ Ok s → SizedAs l m s
unfolding sized SizedHolds
sized_read {l} m s e =
    let n = sizes_in l m in
    subst (SizedHolds (SizedAs l m)) e
    (sized_by l m (ltb (length m) (header_of l)) (ltb l.max_nodes n.nodes) (ltb l.max_variables (n.states + n.flows))
    (eqb (length m) (header_of l + 5 * n.nodes)) refl refl refl refl)

pub read_sized : {l : Layout} (m : List ℕ) (s : Sizes) → SizedAs l m s → sized l m ≡ Ok s
unfolding sized
read_sized {l} m s h =
    rw (
      h.sizes,
      le-ltb (length m) (header_of l) h.header,
      le-ltb l.max_nodes s.nodes h.few,
      le-ltb l.max_variables (s.states + s.flows) h.variables,
      eq-eqb (length m) (header_of l + 5 * s.nodes) h.long,
    )

-- ---- kinds and parameters

pub parameters_map : (ns : List Node) → flat_map (λ n. parameter_bytes n.parameter) ns ≡ flat_map parameter_bytes (map (λ n. n.parameter) ns)
unfolding flat_map
parameters_map [] = refl
parameters_map (n ∷ ns) = ap (λ r. parameter_bytes n.parameter ++ r) (parameters_map ns)

parameters_bytes : (ns : List Node) → length (flat_map (λ n. parameter_bytes n.parameter) ns) ≡ 4 * length ns
unfolding flat_map
parameters_bytes [] = refl
parameters_bytes (n ∷ ns) =
    omega (arith, length-append (parameter_bytes n.parameter) (flat_map (λ n. parameter_bytes n.parameter) ns), parameters_bytes ns, little_length 4 (twos_complement n.parameter))

module _ (l : Layout) (s : Sizes) (ns : List Node) where
  pub file_length : length (file l s ns) ≡ header_of l + 5 * length ns
  unfolding file
  file_length =
      header_length l s (map (λ n. n.kind) ns ++ flat_map (λ n. parameter_bytes n.parameter) ns)
      ∙ omega (arith, length-append (map (λ n. n.kind) ns) (flat_map (λ n. parameter_bytes n.parameter) ns), length-map ns (λ n. n.kind), parameters_bytes ns)

  pub file_kinds_lem : kinds_in l (length ns) (file l s ns) ≡ map (λ n. n.kind) ns
  unfolding file
  file_kinds_lem =
      ap (take (length ns)) (header_drop l s (map (λ n. n.kind) ns ++ flat_map (λ n. parameter_bytes n.parameter) ns))
      ∙ take_at (map (λ n. n.kind) ns) (flat_map (λ n. parameter_bytes n.parameter) ns) (length ns) (length-map ns (λ n. n.kind))

  pub file_parameters_lem : All (λ v. T (representable v)) (map (λ n. n.parameter) ns) → parameters_in l (length ns) (file l s ns) ≡ map (λ n. n.parameter) ns
  unfolding file
  file_parameters_lem r =
      let kinds = map (λ n. n.kind) ns in
      let bytes = flat_map (λ n. parameter_bytes n.parameter) ns in
      let at = header_of l + length ns in
      let e : drop at (file l s ns) ≡ flat_map parameter_bytes (map (λ n. n.parameter) ns) =
      sym (drop-drop (length ns) (header_of l) (file l s ns)) ∙ ap (drop (length ns)) (header_drop l s (kinds ++ bytes))
      ∙ drop_at kinds bytes (length ns) (length-map ns (λ n. n.kind)) ∙ parameters_map ns in
      ap (parameters_at (file l s ns) at) (sym (length-map ns (λ n. n.parameter)))
      ∙ parameters_read (map (λ n. n.parameter) ns) (file l s ns) at r e

  -- bytes with these sizes, kinds and parameters are that file
  pub file_written : (m : List ℕ) → AllBytes m → SizedAs l m s → kinds_in l s.nodes m ≡ map (λ n. n.kind) ns
      → parameters_in l s.nodes m ≡ map (λ n. n.parameter) ns → m ≡ file l s ns
  unfolding file
  file_written m b h k p =
      sym (header_written l m b h.header)
      ∙ ap₂ ◌++◌ (ap (header_bytes l) h.sizes)
      (sym (take-append-drop s.nodes (drop (header_of l) m))
      ∙ ap₂ ◌++◌ k
      (drop-drop s.nodes (header_of l) m ∙ sym (parameters_written m b s.nodes (header_of l + s.nodes) (omega (arith, h.long)))
      ∙ ap (flat_map parameter_bytes) p ∙ sym (parameters_map ns)))
