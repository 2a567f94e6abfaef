-- The decoding of an accepted file, put together from what the decoding's functions leave.
use mathlib.Core.Path.{◌≡◌, refl, sym, ap, ◌∙◌, subst}
use mathlib.Core.Bool.{Bool, true, false, cond}
use mathlib.Core.List.{List, [], ◌∷◌, ◌++◌, append_assoc}
use Prim.Native.Nat.{ℕ, ◌+◌, ◌≤◌}
use native.Mathlib.Omega.{arith}
use mir.Syntax.{w8}
use mir.Val.{Fits as Byte}
use lib.IntN.{ℤ}
use lib.ListN.{length, get_or, take, drop, length-append, length-map}
use lib.Seq.{take_at, drop_at, length-take-le}
use Rattle.std.specs.Prelude.{Ok}
use Rattle.kinds.specs.declared.Sort.TheVariants.{Boolean}
use Rattle.kinds.specs.Sameness.{is_sort}
use Rattle.model.specs.declared.Sizes.{Sizes}
use Rattle.model.specs.Trees.{Variable, Transition, System, variables}
use Rattle.model.specs.Sizes.{file_layout}
use Rattle.model.specs.Check.{verdict, answer_of, kinds_in, parameters_in}
use Rattle.model.specs.Check.Verdict.{accepted}
use Rattle.decoding.specs.NextPlaces.{filled}
use Rattle.model.specs.Standing.{size_of_transitions}
use Rattle.results.specs.Results.{over}
use Rattle.variables.specs.declared.VariableRow.{VariableRow}
use Rattle.variables.specs.Rows.{variable_row, variable_rows}
use Rattle.decoding.specs.Decoding.{VariablesRead, Arrays, arrays, decoded_over, guard_places, nexts_of, nexts_of_variables, nexts_of_transitions, nexts_of_system, size_of_variable, size_of_variables, transitions_place, assertion_place}
use Rattle.decoding.proofs.Accepted.{FileRead, accepted_file}
use Rattle.model.proofs.LittleBytes.{parameters_length}
use Rattle.model.proofs.Verdicts.{answer_accepted}
use Rattle.model.proofs.Encoding.{Fits, SizedAs}
use Rattle.model.proofs.CheckExact.{kinds_length, sized_fits}
use Rattle.decoding.proofs.StoredVariables.{cells_over}
use Rattle.decoding.proofs.Places.{filled_nexts, nexts_length}

-- ---- the answer of the check

module _ (m : List ℕ) (s : Sizes) where
  pub answer_sizes : answer_of (verdict m) ≡ Ok s → SizedAs file_layout m s
  answer_sizes e = let a = answer_accepted s (verdict m) e in (accepted_file m s a.0 a.1).sizes

  -- the sizes fit their bytes
  pub answer_fits : ((i : ℕ) → Byte w8 (get_or m i 0)) → answer_of (verdict m) ≡ Ok s → Fits file_layout s
  answer_fits bytes e = sized_fits m (λ i. omega (arith, bytes i)) s (answer_sizes e)

-- ---- the slices that are lent

module _ (m : List ℕ) (s : Sizes) (ks : List ℕ) (k : ks ≡ kinds_in file_layout s.nodes m) where
  pub lent_kinds : SizedAs file_layout m s → length ks ≡ s.nodes
  lent_kinds r = ap length k ∙ kinds_length m s r

  pub lent_parameters : (parameters : List ℤ) → SizedAs file_layout m s → s.nodes ≤ length parameters → length (take s.nodes parameters) ≡ length ks
  lent_parameters parameters r l = length-take-le s.nodes parameters l ∙ sym (lent_kinds r)

-- ---- the decoding

variable_nexts_length : (v : Variable) (at : ℕ)
    → length (cond (is_sort v.sort Boolean) ((at + 1) ∷ []) ((at + 1) ∷ (at + 2) ∷ (at + 3) ∷ [])) ≡ size_of_variable v
unfolding size_of_variable
variable_nexts_length v at = go (is_sort v.sort Boolean)
  where
    go : (t : Bool) → length (cond t ((at + 1) ∷ []) ((at + 1) ∷ (at + 2) ∷ (at + 3) ∷ [])) ≡ cond t 1 3
    go true = refl
    go false = refl

variables_nexts_length : (vs : List Variable) (at : ℕ) → length (nexts_of_variables vs at) ≡ size_of_variables vs
unfolding nexts_of_variables size_of_variables
variables_nexts_length [] at = refl
variables_nexts_length (v ∷ vs) at =
    length-append (cond (is_sort v.sort Boolean) ((at + 1) ∷ []) ((at + 1) ∷ (at + 2) ∷ (at + 3) ∷ [])) (nexts_of_variables vs (at + size_of_variable v))
    ∙ omega (arith, variable_nexts_length v at, variables_nexts_length vs (at + size_of_variable v))

arrays_same : {a a' : List ℤ} {b b' : List VariableRow} {c c' d d' : List ℕ}
    → a ≡ a' → b ≡ b' → c ≡ c' → d ≡ d' → arrays a b c d ≡ arrays a' b' c' d'
arrays_same p q r s = λ i. arrays (p i) (q i) (r i) (s i)

-- the parameters that were read stand in the first cells
pub parameters_front : (m : List ℕ) (n : ℕ) (rest new : List ℤ) → new ≡ parameters_in file_layout n m ++ rest → take n new ≡ parameters_in file_layout n m
parameters_front m n rest new e = ap (take n) e ∙ take_at (parameters_in file_layout n m) rest n (parameters_length m n (10 + n))

-- the variables of an accepted file are those that the walk finds
module _ (m : List ℕ) (s : Sizes) (ks : List ℕ) (ps : List ℤ) (k : ks ≡ kinds_in file_layout s.nodes m) (p : ps ≡ parameters_in file_layout s.nodes m)
    {count : ℕ} (n : count ≡ s.states + s.flows) where
  abbrev pub variables_read : (t : System) → verdict m ≡ accepted s t → VariablesRead ks ps count
  variables_read t v =
      record { variables = variables t; next = transitions_place t; row = rw (k, p, n) (accepted_file m s t v).system.row }

  pub variables_asked : answer_of (verdict m) ≡ Ok s → VariablesRead ks ps count
  variables_asked e = let a = answer_accepted s (verdict m) e in variables_read a.0 a.1

pub sorts_asked : (m : List ℕ) (s : Sizes) (ks : List ℕ) → ks ≡ kinds_in file_layout s.nodes m → {count : ℕ} → count ≡ s.states + s.flows
    → answer_of (verdict m) ≡ Ok s → (ps : List ℤ) × VariablesRead ks ps count
sorts_asked m s ks k n e = (parameters_in file_layout s.nodes m, variables_asked m s ks _ k refl n e)

-- the parameters and the rows of the variables, from what the functions leave that read them
pub variables_decoded_lem : (m : List ℕ) (s : Sizes) (ks : List ℕ) (old ps : List ℤ) (before rows : List VariableRow) (place count many : ℕ)
    → ks ≡ kinds_in file_layout s.nodes m → ps ≡ parameters_in file_layout s.nodes m → count ≡ s.states + s.flows → many ≡ count
    → ((r : VariablesRead ks (take s.nodes (ps ++ drop s.nodes old)) many) → (place ≡ r.next) × (rows ≡ variable_rows r.variables))
    → (t : System) → verdict m ≡ accepted s t
    → (place ≡ transitions_place t)
    × (ps ++ drop s.nodes old ≡ over (parameters_in file_layout s.nodes m) old)
    × (rows ++ drop count before ≡ over (variable_rows (variables t)) before)
variables_decoded_lem m s ks old ps before rows place count many k p n e d t v =
    let r = d (variables_read m s ks _ k (parameters_front m s.nodes _ _ (ap (λ l. l ++ drop s.nodes old) p)) (e ∙ n) t v) in (
      r.0,
      cells_over old p (parameters_length m s.nodes (10 + s.nodes)),
      cells_over before r.1 (length-map (variables t) variable_row ∙ (accepted_file m s t v).system.number ∙ sym n),
    )

-- what the functions leave: of the next places the first, which were lent alone
pub record Steps (m : List ℕ) (s : Sizes) (ks : List ℕ) (old new : Arrays) (part : List ℕ) (place assertion : ℕ) : Type 0 where
  pub kinds : ks ≡ kinds_in file_layout s.nodes m
  pub declared : (t : System) → verdict m ≡ accepted s t
      → (place ≡ transitions_place t)
      × (new.parameters ≡ over (parameters_in file_layout s.nodes m) old.parameters)
      × (new.variables ≡ over (variable_rows (variables t)) old.variables)
  pub filling : part ≡ filled ks (take s.nodes new.parameters) (length ks) (take s.nodes old.nexts)
  pub nexts : new.nexts ≡ part ++ drop s.nodes old.nexts
  pub long : s.nodes ≤ length old.nexts
  pub guards : (ts : List Transition) (rest : List ℕ) → length ts ≡ s.transitions → drop place new.nexts ≡ nexts_of_transitions ts place ++ rest
      → (assertion ≡ place + size_of_transitions ts) × (new.guards ≡ over (guard_places ts place) old.guards)

module _ (m : List ℕ) (s : Sizes) (ks : List ℕ) (old new : Arrays) (part : List ℕ) (place assertion : ℕ) (h : Steps m s ks old new part place assertion)
    (t : System) (v : verdict m ≡ accepted s t) where
  file : FileRead m s t
  file = accepted_file m s t v

  abbrev file_kinds : List ℕ
  file_kinds = kinds_in file_layout s.nodes m

  abbrev file_parameters : List ℤ
  file_parameters = parameters_in file_layout s.nodes m

  front : take s.nodes new.parameters ≡ file_parameters
  front = parameters_front m s.nodes _ new.parameters (h.declared t v).1

  table : new.nexts ≡ over (nexts_of_system t) old.nexts
  table =
      h.nexts
      ∙ cells_over old.nexts
      (h.filling
      ∙ ap (λ ks. filled ks (take s.nodes new.parameters) (length ks) (take s.nodes old.nexts)) h.kinds
      ∙ ap (λ ps. filled file_kinds ps (length file_kinds) (take s.nodes old.nexts)) front
      ∙ filled_nexts file_kinds file_parameters t file.system.stands _ (length-take-le s.nodes old.nexts h.long ∙ sym (kinds_length m s file.sizes)))
      (nexts_length file_kinds file_parameters t file.system.stands ∙ kinds_length m s file.sizes)

  -- what follows the entries of the transitions
  abbrev others : List ℕ
  others = nexts_of t.assertion (assertion_place t) ++ drop (length (nexts_of_system t)) old.nexts

  entries : drop (transitions_place t) new.nexts ≡ nexts_of_transitions t.transitions (transitions_place t) ++ others
  unfolding nexts_of_system
  entries =
      ap (drop (transitions_place t)) (table ∙ append_assoc (nexts_of_variables (variables t) 0) _ _)
      ∙ drop_at (nexts_of_variables (variables t) 0) _ (transitions_place t) (variables_nexts_length (variables t) 0)
      ∙ append_assoc (nexts_of_transitions t.transitions (transitions_place t)) (nexts_of t.assertion (assertion_place t)) _

  pub steps_decoded : (assertion ≡ assertion_place t) × (new ≡ decoded_over m s t old)
  unfolding decoded_over
  steps_decoded =
      let d = h.declared t v in
      let g = subst (λ place. (ts : List Transition) (rest : List ℕ) → length ts ≡ s.transitions → drop place new.nexts ≡ nexts_of_transitions ts place ++ rest
      → (assertion ≡ place + size_of_transitions ts) × (new.guards ≡ over (guard_places ts place) old.guards)) d.0 h.guards
      t.transitions others file.system.number_of_transitions entries in (
        g.0,
        arrays_same d.1 d.2 table g.1,
      )
