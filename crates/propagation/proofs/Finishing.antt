-- The reading after the reset, over what still waits.
use Rattle.std.specs.Prelude.{Option as Optional, Result}
use mathlib.Core.Path.{◌≡◌, refl, sym, ap, ◌∙◌}
use mathlib.Core.Bool.{false}
use mathlib.Core.List.{List, [], ◌∷◌, ◌++◌, append-nil, Memᴰ}
use mathlib.Core.Option.{Option, some, none}
use Prim.Native.Nat.{ℕ, ◌+◌, ◌≤◌, ◌<◌}
use native.Mathlib.Omega.{arith}
use lib.IntN.{ℤ}
use lib.ListN.{length, get_or, get_elem?, drop_of_length-le}
use Rattle.model.specs.Trees.{Variable, Instruction, variables}
use Rattle.model.specs.Trees.Instruction.{skip, assign, if_then, block}
use Rattle.model.specs.Walk.{Scope}
use Rattle.model.specs.WellFormed.{All, Scoped, sizes_of}
use Rattle.model.specs.Check.{assertion_scope}
use Rattle.model.specs.Nodes.{nodes_of}
use Rattle.model.specs.Standing.{InstructionAt, size_of}
use Rattle.model.proofs.NodeLists.{nodes_within}
use Rattle.model.proofs.NodeTrees.{instruction_size, instruction_nodes}
use Rattle.expressions.specs.Expressions.{Valuation}
use Rattle.expressions.specs.Cells.{valuation_of}
use Rattle.interpreter.specs.declared.Fault.{Fault}
use Rattle.interpreter.specs.declared.Gathered.{Gathered}
use Rattle.interpreter.specs.Instructions.{any, effects, fault_of, first_of}
use Rattle.interpreter.specs.Gathering.{gathering, gather_all, nothing_found, fault_in}
use Rattle.semantics.specs.Theorems.{Extends}
use Rattle.semantics.specs.Propagation.{is_new}
use Rattle.semantics.proofs.Effects.{faultless, given_at_rest}
use Rattle.semantics.proofs.Alike.{Alike, faults_alike}
use Rattle.results.specs.Results.{over}
use Rattle.variables.specs.declared.VariableRow.{VariableRow}
use Rattle.variables.specs.Rows.{firsts_in}
use Rattle.variables.proofs.Columns.{low_ends, high_ends, row_count}
use Rattle.waiting.specs.Waiting.{waiting, effects_of_each, Untouched}
use Rattle.waiting.specs.Spots.{Spot, spots, instructions_of}
use Rattle.waiting.specs.News.{news_of}
use Rattle.waiting.specs.Waking.{Old}
use Rattle.waiting.proofs.Gathering.{Admissible, fault_folded}
use Rattle.waiting.proofs.Scoping.{scoped_effects}
use Rattle.waiting.proofs.Waiting.{resumes}
use Rattle.waiting.proofs.Quiet.{Known, quiet_fault}
use Rattle.waiting.proofs.Touched.{enough}
use Rattle.waiting.proofs.Spots.{spot_scoped, spot_within}
use Rattle.waiting.proofs.Waking.{positive, woken_begins, enough_read}
use Rattle.rounds.specs.Cells.{AssertionStands, finding_of}
use Rattle.rounds.specs.Rounds.{Done, Waking, SomeWaking, StillWaking, Resting}
use Rattle.rounds.proofs.Propagating.{length_variables}
use Rattle.propagation.specs.Cells.{cells_of, held_or}
use Rattle.propagation.proofs.Valuations.{filled_known}

-- ---- lists

pub over_all : {A : Type 0} (new old : List A) → length new ≡ length old → over new old ≡ new
over_all new old e =
    let z : length old ≤ length new = omega (arith, e) in
    ap (λ l. new ++ l) (drop_of_length-le old z) ∙ append-nil new

all_append : {A : Type 0} (P : A → Type 0) (l m : List A) → All P l → All P m → All P (l ++ m)
unfolding All
all_append P [] m h k = k
all_append P (a ∷ l) m h k = (h.0, all_append P l m h.1 k)

-- the effects of what was read
each_admissible : (cells : List (Optional ℤ)) (sc : Scope) (read : List Spot) → ((s : Spot) → Memᴰ s read → Scoped s.instruction sc) → {n m : ℕ} → sc.past ≤ n → sc.past ≤ m
    → All (Admissible n m) (effects_of_each (instructions_of read) (valuation_of cells))
unfolding effects_of_each instructions_of All
each_admissible cells sc [] f p q = tt
each_admissible cells sc (s ∷ read) f {n} {m} p q =
    all_append (Admissible n m) (effects s.instruction (valuation_of cells)) (effects_of_each (instructions_of read) (valuation_of cells))
    (scoped_effects cells s.instruction sc (f s (Memᴰ.head refl)) p q) (each_admissible cells sc read (λ t k. f t (Memᴰ.tail k)) p q)

-- an instruction ends within the nodes
module _ (ks : List ℕ) (ps : List ℤ) where
  begins_within : (i : Instruction) (at : ℕ) → InstructionAt ks ps i at → at ≤ length ks
  unfolding InstructionAt
  begins_within skip at h = omega (arith, h.within)
  begins_within (assign x e) at h = omega (arith, h.0.within)
  begins_within (if_then c i) at h = omega (arith, h.0.within)
  begins_within (block is) at h = omega (arith, h.0.within)

  ends_within : (i : Instruction) (at : ℕ) → InstructionAt ks ps i at → at + size_of i ≤ length ks
  ends_within i at h = omega (arith, nodes_within ks ps (nodes_of i) at (begins_within i at h) (instruction_nodes ks ps i at h), instruction_size i)

-- ---- over more than is known at rest, the fault of all is that of what waits

module _ (vs : List Variable) (i : Instruction) (σ υ : Valuation) (n : fault_of vs σ (effects i σ) ≡ none) (r : any (is_new σ) (effects i σ) ≡ false) (larger : Extends σ υ) where
  known_at_rest : Known vs υ (effects i σ)
  known_at_rest =
      let f = faultless vs σ (effects i σ) n in
      record { failure = f.failure; outside = f.outside; values = λ x v m. larger x v (given_at_rest vs σ (effects i σ) n r x v m) }

  rest_by_waiting : fault_of vs υ (effects i υ) ≡ fault_of vs υ (effects_of_each (waiting i σ) υ)
  rest_by_waiting =
      let a : Alike (effects i υ) (effects i σ ++ effects_of_each (waiting i σ) υ) = record { tests = λ p. resumes σ υ larger i p } in
      faults_alike a vs υ ∙ quiet_fault vs υ (effects i σ) known_at_rest (effects_of_each (waiting i σ) υ)

first_some : (v : ℤ) (o : Option ℤ) → first_of (some v) o ≡ some v
unfolding first_of
first_some v o = refl

-- ---- the reading

module _ (ks : List ℕ) (ps : List ℤ) (nexts : List ℕ) (rows : List VariableRow) (at : ℕ) (cells cells' : List (Optional ℤ)) (count pending : ℕ) (waits : List ℕ)
    (reset : cells' ≡ over (cells_of (held_or cells (firsts_in rows))) cells) (fits : length (firsts_in rows) ≤ length cells) (long : length waits ≡ length ks) where
  larger : Extends (valuation_of cells) (valuation_of cells')
  larger x v k =
      ap (λ l. valuation_of l x) reset ∙ filled_known cells (firsts_in rows) fits x ∙ ap (λ o. first_of o (get_elem? (firsts_in rows) x)) k
      ∙ first_some v (get_elem? (firsts_in rows) x)

  module _ (nf : Gathered) (nothing : nf ≡ nothing_found) (given : List (Optional ℤ)) (same : given ≡ cells') (queue : List ℕ)
      (a : AssertionStands ks ps nexts rows at) (b : Resting ks ps nexts rows at a cells waits count pending) where
    begins : Waking ks ps nexts rows at cells' (count + 1) a (valuation_of cells) [] nf given 0 queue waits
    unfolding effects_of_each instructions_of gather_all news_of
    begins =
        record {
          larger = larger;
          later = omega arith;
          read = [];
          woken =
              woken_begins a.system.assertion at (valuation_of cells) (valuation_of cells') (count + 1) waits
              (omega (arith, ends_within ks ps a.system.assertion at a.stands, long)) b.marked (λ p. omega (arith, b.stamps p));
          gathered = λ j. gathering (nothing j) (same j);
          news = refl;
        }

    pub scan_begins : SomeWaking ks ps nexts rows at cells' (count + 1) nf given 0 queue waits
    scan_begins = record { stands = a; valuation = valuation_of cells; before = []; waking = begins }

    module _ (room : length rows ≤ length cells') (found' : Gathered) (given' : List (Optional ℤ)) (queued' : ℕ) (queue' waits' : List ℕ) (pending' : ℕ)
        (still : StillWaking ks ps nexts rows at cells' (count + 1) nf given 0 queue waits found' given' queued' queue' waits' pending')
        (passed : (p : ℕ) → at ≤ p → p < length ks → Done (count + 1) waits' p) where
      after : Waking ks ps nexts rows at cells' (count + 1) a (valuation_of cells) [] found' given' queued' queue' waits'
      after = still.still a (valuation_of cells) [] begins

      none_old : (s : Spot) → Memᴰ s (spots a.system.assertion (valuation_of cells) at) → Old (count + 1) (get_or waits' s.place 0)
          → Untouched s.instruction (valuation_of cells) (valuation_of cells')
      none_old s m o =
          let w = spot_within (valuation_of cells) a.system.assertion at s m in
          absurd (passed s.place w.start (omega (arith, w.end, positive s.instruction, ends_within ks ps a.system.assertion at a.stands)) o)

      pub finish_finds : {x : Result (Unit {0}) Fault} → x ≡ finding_of (fault_in found')
          → x ≡ finding_of (fault_of (variables a.system) (valuation_of cells') (effects a.system.assertion (valuation_of cells')))
      finish_finds f =
          let vs = variables a.system in
          let sc = assertion_scope (sizes_of a.system) (variables a.system) in
          let many = row_count (variables a.system) a.rows_held in
          let alike = enough (waiting a.system.assertion (valuation_of cells)) (instructions_of after.read) (valuation_of cells) (valuation_of cells')
          (enough_read a.system.assertion at (valuation_of cells) (valuation_of cells') (count + 1) larger after.later after.woken none_old) in
          f ∙ ap finding_of
          (ap (λ g. fault_in g.found) after.gathered
          ∙ fault_folded vs (low_ends vs a.rows_held) (high_ends vs a.rows_held) cells' (effects_of_each (instructions_of after.read) (valuation_of cells'))
          (each_admissible cells' sc after.read (λ s m. spot_scoped (valuation_of cells) sc a.system.assertion at s a.well_formed.assertion (after.woken.among s m))
          (omega (arith, room, many, length_variables a.system)) (omega (arith, length_variables a.system)))
          ∙ sym (faults_alike alike vs (valuation_of cells'))
          ∙ sym (rest_by_waiting vs a.system.assertion (valuation_of cells) (valuation_of cells') b.clear b.rest larger))
