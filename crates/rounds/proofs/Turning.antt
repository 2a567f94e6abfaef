-- The rounds: one reading of all, then turns over what waits. What is known between two rounds holds again after the next.
use Rattle.std.specs.Prelude.{Option as Optional, None, Result, Ok, Err}
use mathlib.Core.Path.{◌≡◌, refl, sym, ap, ap₂, subst, fun_ext, ◌∙◌}
use mathlib.Core.Logic.{◌⊎◌, inl, inr, ⊎_elim}
use mathlib.Core.Bool.{true, false, true≢false}
use mathlib.Core.List.{List, [], ◌∷◌, ◌++◌, append-nil, Memᴰ}
use mathlib.Core.Option.{some, none}
use Prim.Native.Nat.{ℕ, zero, suc, ◌+◌, ◌-◌, ◌≤◌, ◌<◌}
use native.Mathlib.Omega.{arith}
use lib.IntN.{ℤ}
use lib.ListN.{length, get_or, take, drop, replicate, length-append, length-replicate, get_or-append}
use lib.Seq.{drop-append_seam, get_or-take, length-take-le, get_or-append-add}
use Rattle.model.specs.Trees.{Instruction, Variable, variables}
use Rattle.model.specs.Walk.{Scope}
use Rattle.model.specs.Nodes.{Node, nodes_of}
use Rattle.model.specs.WellFormed.{All, Scoped, sizes_of}
use Rattle.model.specs.Check.{assertion_scope}
use Rattle.model.specs.Standing.{InstructionAt, size_of}
use Rattle.model.proofs.NodeLists.{NodesAt, nodes_within}
use Rattle.model.proofs.NodeTrees.{instruction_size, instruction_nodes}
use Rattle.model.proofs.Representable.{all_append}
use Rattle.variables.specs.declared.VariableRow.{VariableRow}
use Rattle.variables.specs.Rows.{lows_in, highs_in}
use Rattle.variables.proofs.Columns.{low_ends, high_ends, row_count}
use Rattle.expressions.specs.Expressions.{Valuation}
use Rattle.expressions.specs.Cells.{valuation_of, cell_value}
use Rattle.interpreter.specs.declared.Fault.{Fault}
use Rattle.interpreter.specs.declared.Gathered.{Gathered}
use Rattle.interpreter.specs.Instructions.{Effect, any, effects, fault_of, first_of, given_to}
use Rattle.interpreter.specs.Gathering.{gathering, gather_all, nothing_found, fault_in}
use Rattle.semantics.specs.Theorems.{Extends}
use Rattle.semantics.specs.Counting.{unknowns}
use Rattle.semantics.specs.Propagation.{is_new, extended, rounds, round_by}
use Rattle.semantics.specs.Propagation.Reached.{reached}
use Rattle.semantics.proofs.Effects.{faultless}
use Rattle.semantics.proofs.Alike.{Alike, faults_alike, given_alike}
use Rattle.semantics.proofs.Rounds.{round_falls, assertion_targets}
use Rattle.waiting.specs.Waiting.{waiting, effects_of_each}
use Rattle.waiting.specs.Spots.{Spot, spots, instructions_of}
use Rattle.waiting.specs.News.{news_of, Room}
use Rattle.waiting.specs.Marks.{marked, mark_count}
use Rattle.waiting.specs.Waking.{Spotted, Marked, Passed}
use Rattle.waiting.proofs.Gathering.{Admissible, fault_folded, fresh_folded, given_folded}
use Rattle.waiting.proofs.Scoping.{scoped_effects}
use Rattle.waiting.proofs.Reading.{Gathers}
use Rattle.waiting.proofs.Touched.{Enough, enough}
use Rattle.waiting.proofs.Quiet.{fault_same, new_same, extended_same}
use Rattle.waiting.proofs.Spots.{spot_scoped}
use Rattle.waiting.proofs.Marks.{Mark, mark_cases, marked_spot}
use Rattle.waiting.proofs.News.{news_changed, news_bounded}
use Rattle.waiting.proofs.Mentions.{le_or_lt}
use Rattle.waiting.proofs.Counting.{none_counted, none_marked}
use Rattle.waiting.proofs.Waking.{positive, woken_begins, marked_after, enough_read, quiet_where_passed}
use Rattle.reading.specs.Readings.{held, read_by}
use Rattle.rounds.specs.Cells.{AssertionStands, reached_in}
use Rattle.rounds.specs.Rounds.{Pending, Queued, Waking, SomeWaking, StillWaking, Resting, Going, Between, Turn, Unread, Unsettled, Ready}
use Rattle.rounds.proofs.Propagating.{going_begins, round_goes, round_rests, length_variables, rows_counted, assertion_gathers}

-- ---- the fault, the news and the values of a round over what was read are those over all instructions

first_some : (v : ℤ) (es : List Effect) (x : ℕ) → first_of (some v) (given_to x es) ≡ some v
unfolding first_of
first_some v es x = refl

extends : (es : List Effect) (σ : Valuation) → Extends σ (extended es σ)
extends es σ x v e = ap (λ o. first_of o (given_to x es)) e ∙ first_some v es x

module _ (vs : List Variable) (i : Instruction) (σ τ : Valuation) (n : fault_of vs σ (effects i σ) ≡ none) (q : τ ≡ extended (effects i σ) σ) (read : List Instruction)
    (e : Enough (waiting i σ) read σ τ) where
  same : Alike (effects_of_each (waiting i σ) τ) (effects_of_each read τ)
  same = enough (waiting i σ) read σ τ e

  read_fault : fault_of vs τ (effects_of_each read τ) ≡ fault_of vs τ (effects i τ)
  read_fault =
      sym (faults_alike same vs τ)
      ∙ subst (λ ρ. fault_of vs ρ (effects_of_each (waiting i σ) ρ) ≡ fault_of vs ρ (effects i ρ)) (sym q) (sym (fault_same vs i σ n))

  read_new : any (is_new τ) (effects_of_each read τ) ≡ any (is_new τ) (effects i τ)
  read_new =
      sym (same.tests (is_new τ))
      ∙ subst (λ ρ. any (is_new ρ) (effects_of_each (waiting i σ) ρ) ≡ any (is_new ρ) (effects i ρ)) (sym q) (sym (new_same vs i σ n))

  read_extended : fault_of vs τ (effects i τ) ≡ none → extended (effects_of_each read τ) τ ≡ extended (effects i τ) τ
  read_extended f =
      fun_ext (λ x. ap (first_of (τ x)) (sym (given_alike same τ (faultless vs τ (effects_of_each (waiting i σ) τ) (faults_alike same vs τ ∙ read_fault ∙ f)).conflict x)))
      ∙ subst (λ ρ. fault_of vs ρ (effects i ρ) ≡ none → extended (effects_of_each (waiting i σ) ρ) ρ ≡ extended (effects i ρ) ρ) (sym q) (λ g. sym (extended_same vs i σ n g)) f

-- ---- the effects of what was read are admissible

read_admissible : (cells : List (Optional ℤ)) (sc : Scope) (read : List Spot) → ((s : Spot) → Memᴰ s read → Scoped s.instruction sc) → {n m : ℕ} → sc.past ≤ n → sc.past ≤ m
    → All (Admissible n m) (effects_of_each (instructions_of read) (valuation_of cells))
unfolding effects_of_each instructions_of All
read_admissible cells sc [] f p q = tt
read_admissible cells sc (s ∷ read) f {n} {m} p q =
    all_append (Admissible n m) (effects s.instruction (valuation_of cells)) (effects_of_each (instructions_of read) (valuation_of cells))
    (scoped_effects cells s.instruction sc (f s (Memᴰ.head refl)) p q) (read_admissible cells sc read (λ t k. f t (Memᴰ.tail k)) p q)

-- ---- the marks after the first reading

module _ (i : Instruction) (at : ℕ) (σ : Valuation) (waits : List ℕ) (blank : (p : ℕ) → get_or waits p 0 ≡ 0) where
  first_marked : at + size_of i ≤ length waits → Marked i at σ (marked i σ at 1 waits)
  first_marked long =
      record {
        only = λ p n. by p n (mark_cases σ 1 i at waits p);
        all = λ s m e. omega (arith, marked_spot σ 1 i at waits s long m, e);
      }
    where
      by : (p : ℕ) → (get_or (marked i σ at 1 waits) p 0 ≡ 0 → ⊥) → Mark (get_or (marked i σ at 1 waits) p 0) (get_or waits p 0) 1 (spots i σ at) p → Spotted i at σ p
      by p n (Mark.kept e) = absurd (n (e ∙ blank p))
      by p n (Mark.cleared e) = absurd (n e)
      by p n (Mark.stamped q m t e) = record { spot = q; among = m; there = t }

  first_stamps : (p : ℕ) → get_or (marked i σ at 1 waits) p 0 ≤ 1
  first_stamps p = by (mark_cases σ 1 i at waits p)
    where
      by : Mark (get_or (marked i σ at 1 waits) p 0) (get_or waits p 0) 1 (spots i σ at) p → get_or (marked i σ at 1 waits) p 0 ≤ 1
      by (Mark.kept e) = omega (arith, e, blank p)
      by (Mark.cleared e) = omega (arith, e)
      by (Mark.stamped q m t e) = omega (arith, e)

-- ---- the queue after a reading

module _ (lows highs : List ℤ) (base : List (Optional ℤ)) (es : List Effect) (old : List ℕ) (found : Gathered) (given : List (Optional ℤ)) (queued : ℕ) (queue : List ℕ) (n : ℕ)
    (gathered : gathering found given ≡ gather_all lows highs es (gathering nothing_found base)) (news : take queued queue ≡ old ++ news_of es base) where
  pending_next : length base ≡ length given → Pending queue (length old) queued base given
  pending_next l = (
    l,
    λ y. ⊎_elim (λ m. inl (subst (λ q. Memᴰ y q) (sym (ap (λ q. drop (length old) q) news ∙ drop-append_seam old (news_of es base))) m))
        (λ e. inr (sym (ap (λ g. get_or g.given y None) gathered ∙ e)))
        (news_changed lows highs es (gathering nothing_found base) y),
  )

  member : (l : List ℕ) (k : ℕ) → k < length l → Memᴰ (get_or l k 0) l
  member [] k h = absurd (omega arith)
  member (x ∷ l) zero h = Memᴰ.head refl
  member (x ∷ l) (suc k) h = Memᴰ.tail (member l k (omega (arith, h)))

  queued_next : queued ≤ length queue → ((k : ℕ) → k < length old → get_or old k 0 < n) → (m : ℕ) → All (Admissible m n) es → Queued queue queued n
  queued_next l f m a = (
    l,
    λ k h. let e : get_or queue k 0 ≡ get_or (old ++ news_of es base) k 0 = sym (get_or-take queued queue k 0 h) ∙ ap (λ q. get_or q k 0) news in
        let u : queued ≡ length old + length (news_of es base) = sym (length-take-le queued queue l) ∙ ap length news ∙ length-append old (news_of es base) in
        ⊎_elim
        (λ g. let d : k ≡ length old + (k - length old) = omega (arith, g) in
        let z : get_or (old ++ news_of es base) k 0 ≡ get_or (news_of es base) (k - length old) 0 =
        ap (λ j. get_or (old ++ news_of es base) j 0) d ∙ get_or-append-add old (news_of es base) (k - length old) 0 in
        let b = news_bounded m n es base a (get_or (news_of es base) (k - length old) 0) (member (news_of es base) (k - length old) (omega (arith, h, u, g))) in
        omega (arith, e, z, b))
        (λ g. let b = f k g in let z = get_or-append old (news_of es base) 0 k g in omega (arith, e, z, b))
        (le_or_lt (length old) k),
  )

-- ---- an instruction ends within the nodes

module _ (ks : List ℕ) (ps : List ℤ) where
  nodes_end : (ns : List Node) (at : ℕ) → 0 < length ns → NodesAt ks ps ns at → at + length ns ≤ length ks
  unfolding NodesAt
  nodes_end [] at h n = absurd (omega arith)
  nodes_end (x ∷ ns) at h n = nodes_within ks ps (x ∷ ns) at (omega (arith, n.0.within)) n

  instruction_ends : (i : Instruction) (at : ℕ) → InstructionAt ks ps i at → at + size_of i ≤ length ks
  instruction_ends i at h =
      let e = instruction_size i in
      omega (arith, e, nodes_end (nodes_of i) at (omega (arith, e, positive i)) (instruction_nodes ks ps i at h))

-- ---- the first reading

module _ {ks : List ℕ} {ps : List ℤ} {nexts : List ℕ} {rows : List VariableRow} {at : ℕ} (some : AssertionStands ks ps nexts rows at)
    (cells given : List (Optional ℤ)) (same : given ≡ cells) (empty : Gathered) (nothing : empty ≡ nothing_found) (queue waits : List ℕ) (blank : waits ≡ replicate (length ks) 0) (room : length rows ≤ length given)
    (found' : Gathered) (given' : List (Optional ℤ)) (queued' : ℕ) (queue' waits' : List ℕ)
    (told : (j : Instruction) → InstructionAt ks ps j at
    → held found' given' queued' queue' waits' ≡ read_by (lows_in rows) (highs_in rows) (valuation_of cells) at 1 j (held empty given 0 queue waits)) where
  module _ (a : AssertionStands ks ps nexts rows at) where
    abbrev es : List Effect
    es = effects a.system.assertion (valuation_of cells)

    first_gathered : gathering found' given' ≡ gather_all (lows_in rows) (highs_in rows) es (gathering nothing_found cells)
    unfolding read_by
    first_gathered = ap (λ h. h.gathered) (told a.system.assertion a.stands) ∙ ap₂ (λ f g. gather_all (lows_in rows) (highs_in rows) es (gathering f g)) nothing same

    first_news : take queued' queue' ≡ [] ++ news_of es cells
    unfolding read_by
    first_news = ap (λ h. h.news) (told a.system.assertion a.stands) ∙ ap (λ g. news_of es g) same

    zeros : (p : ℕ) → get_or waits p 0 ≡ 0
    zeros = none_counted waits (ap mark_count blank ∙ none_marked (length ks))

    long : at + size_of a.system.assertion ≤ length waits
    long = omega (arith, instruction_ends ks ps a.system.assertion at a.stands, ap length blank, length-replicate {A = ℕ} (length ks) 0)

    first_between : Between ks ps nexts rows at cells cells 1 a found' given' waits'
    unfolding read_by
    first_between =
        let g = assertion_gathers a cells cells (omega (arith, room, ap length same)) found' given' first_gathered in
        let m : waits' ≡ marked a.system.assertion (valuation_of cells) at 1 waits = ap (λ h. h.waits) (told a.system.assertion a.stands) in
        record {
          going = going_begins a.system cells;
          first = omega arith;
          fault = g.fault;
          fresh = g.fresh;
          after = λ c. g.given;
          marked = subst (λ l. Marked a.system.assertion at (valuation_of cells) l) (sym m) (first_marked a.system.assertion at (valuation_of cells) waits zeros long);
          stamps = λ p. subst (λ l. get_or l p 0 ≤ 1) (sym m) (first_stamps a.system.assertion at (valuation_of cells) waits zeros p);
        }

  turn_begins : {pending' : ℕ} → length given' ≡ length given → Room given' queued' queue' → pending' ≡ mark_count waits'
      → Turn ks ps nexts rows at cells cells given' queue' waits' found' queued' pending' 1 0
  turn_begins l full counted =
      let n = rows_counted some in
      record {
        between = first_between;
        owed =
            pending_next (lows_in rows) (highs_in rows) cells (es some) [] found' given' queued' queue' (length rows) (first_gathered some) (first_news some) (omega (arith, l, ap length same));
        entries =
            queued_next (lows_in rows) (highs_in rows) cells (es some) [] found' given' queued' queue' (length rows) (first_gathered some) (first_news some) (omega (arith, full))
            (λ k h. absurd (omega arith)) (length rows)
            (scoped_effects cells some.system.assertion (assertion_scope (sizes_of some.system) (variables some.system)) some.well_formed.assertion (omega (arith, n)) (omega (arith, n)));
        ordered = omega arith;
        room = full;
        counted = counted;
      }

-- ---- a turn: from what is known between two rounds, over what was read in the next

module _ {ks : List ℕ} {ps : List ℤ} {nexts : List ℕ} {rows : List VariableRow} {at : ℕ} {cells₀ cells : List (Optional ℤ)} {r : ℕ} (a : AssertionStands ks ps nexts rows at) {found : Gathered} {given : List (Optional ℤ)} {waits : List ℕ}
    (b : Between ks ps nexts rows at cells₀ cells r a found given waits) (clear : fault_in found ≡ none) where
  abbrev vs : List Variable
  vs = variables a.system

  abbrev i : Instruction
  i = a.system.assertion

  now_gathers : Gathers vs i (valuation_of cells) (valuation_of cells) (gathering found given)
  now_gathers = record { fault = b.fault; fresh = b.fresh; given = b.after clear }

  larger_now : Extends (valuation_of cells) (valuation_of given)
  larger_now = subst (λ ρ. Extends (valuation_of cells) ρ) (sym (b.after clear)) (extends (effects i (valuation_of cells)) (valuation_of cells))

  -- the next round begins with nothing read
  waking_begins : (queued : ℕ) (queue : List ℕ) → length waits ≡ length ks
      → Waking ks ps nexts rows at given (r + 1) a (valuation_of cells) (take queued queue) nothing_found given queued queue waits
  unfolding effects_of_each instructions_of gather_all news_of
  waking_begins queued queue long =
      record {
        larger = larger_now;
        later = omega arith;
        read = [];
        woken =
            woken_begins i at (valuation_of cells) (valuation_of given) (r + 1) waits (omega (arith, instruction_ends ks ps i at a.stands, long)) b.marked (λ p. omega (arith, b.stamps p));
        gathered = refl;
        news = sym (append-nil (take queued queue));
      }

  module _ {before : List ℕ} {found' : Gathered} {given' : List (Optional ℤ)} {queued' : ℕ} {queue' waits' : List ℕ}
      (w : Waking ks ps nexts rows at given (r + 1) a (valuation_of cells) before found' given' queued' queue' waits') (room : length rows ≤ length given) where
    abbrev read_effects : List Effect
    read_effects = effects_of_each (instructions_of w.read) (valuation_of given)

    admissible : All (Admissible (length given) (length vs)) read_effects
    admissible =
        read_admissible given (assertion_scope (sizes_of a.system) vs) w.read
        (λ s m. spot_scoped (valuation_of cells) (assertion_scope (sizes_of a.system) vs) i at s a.well_formed.assertion (w.woken.among s m))
        (omega (arith, room, rows_counted a)) (omega (arith, length_variables a.system))

    values : valuation_of given' ≡ extended read_effects (valuation_of given)
    values =
        ap (λ g. valuation_of g.given) w.gathered
        ∙ fun_ext (given_folded vs (low_ends vs a.rows_held) (high_ends vs a.rows_held) given read_effects admissible)

    module _ (fresh : found.fresh ≡ true) (passed : (x : ℕ) → (valuation_of cells x ≡ valuation_of given x) ⊎ Passed ks ps at (r + 1) waits' x) where
      enough_now : Enough (waiting i (valuation_of cells)) (instructions_of w.read) (valuation_of cells) (valuation_of given)
      enough_now =
          enough_read i at (valuation_of cells) (valuation_of given) (r + 1) larger_now (omega arith) w.woken
          (quiet_where_passed i at (valuation_of cells) (valuation_of given) (r + 1) ks ps a.stands waits' passed)

      none_now : fault_of vs (valuation_of cells) (effects i (valuation_of cells)) ≡ none
      none_now = sym b.fault ∙ clear

      turned : Between ks ps nexts rows at cells₀ given (r + 1) a found' given' waits'
      turned =
          let lows = low_ends vs a.rows_held in
          let highs = high_ends vs a.rows_held in
          let fault : fault_in found' ≡ fault_of vs (valuation_of given) read_effects =
          ap (λ g. fault_in g.found) w.gathered ∙ fault_folded vs lows highs given read_effects admissible in
          let all : fault_of vs (valuation_of given) read_effects ≡ fault_of vs (valuation_of given) (effects i (valuation_of given)) =
          read_fault vs i (valuation_of cells) (valuation_of given) none_now (b.after clear) (instructions_of w.read) enough_now in
          let n : r - 1 + 1 ≡ r + 1 - 1 = omega (arith, b.first) in
          record {
            going = subst (λ m. Going a.system cells₀ given m) n (round_goes a.system a.well_formed cells₀ cells (r - 1) b.going found given now_gathers clear fresh);
            first = omega arith;
            fault = fault ∙ all;
            fresh =
                ap (λ g. g.found.fresh) w.gathered ∙ fresh_folded vs lows highs given read_effects admissible
                ∙ read_new vs i (valuation_of cells) (valuation_of given) none_now (b.after clear) (instructions_of w.read) enough_now;
            after =
                λ c. values
                ∙ read_extended vs i (valuation_of cells) (valuation_of given) none_now (b.after clear) (instructions_of w.read) enough_now (sym all ∙ sym fault ∙ c);
            marked =
                marked_after i at (valuation_of cells) (valuation_of given) (r + 1) larger_now (omega arith) w.woken
                (quiet_where_passed i at (valuation_of cells) (valuation_of given) (r + 1) ks ps a.stands waits' passed);
            stamps = w.woken.stamps;
          }

-- ---- the turns of the loop

module _ {ks : List ℕ} {ps : List ℤ} {nexts : List ℕ} {rows : List VariableRow} {at : ℕ} {cells₀ cells given : List (Optional ℤ)} {queue waits : List ℕ} {found : Gathered} {queued pending r done : ℕ}
    (some : AssertionStands ks ps nexts rows at) (t : Turn ks ps nexts rows at cells₀ cells given queue waits found queued pending r done) where
  module _ (clear : fault_in found ≡ none) {cells' : List (Optional ℤ)} (applied : cells' ≡ given) where
    module _ {empty : Gathered} (nothing : empty ≡ nothing_found) (long : length waits ≡ length ks) where
      begins : (a : AssertionStands ks ps nexts rows at) → Waking ks ps nexts rows at cells' (r + 1) a (valuation_of cells) (take queued queue) empty given queued queue waits
      begins a =
          subst (λ l. Waking ks ps nexts rows at l (r + 1) a (valuation_of cells) (take queued queue) empty given queued queue waits) (sym applied)
          (subst (λ f. Waking ks ps nexts rows at given (r + 1) a (valuation_of cells) (take queued queue) f given queued queue waits) (sym nothing)
          (waking_begins a (t.between a) clear queued queue long))

      turn_wakes : SomeWaking ks ps nexts rows at cells' (r + 1) empty given queued queue waits
      turn_wakes = record { stands = some; valuation = valuation_of cells; before = take queued queue; waking = begins some }

      module _ (fresh : found.fresh ≡ true) (room : length rows ≤ length given) {found' : Gathered} {given' : List (Optional ℤ)} {queued' : ℕ} {queue' waits' : List ℕ} {pending' : ℕ}
          (still : StillWaking ks ps nexts rows at cells' (r + 1) empty given queued queue waits found' given' queued' queue' waits' pending') where
        over : (a : AssertionStands ks ps nexts rows at) → Waking ks ps nexts rows at given (r + 1) a (valuation_of cells) (take queued queue) found' given' queued' queue' waits'
        over a =
            subst (λ l. Waking ks ps nexts rows at l (r + 1) a (valuation_of cells) (take queued queue) found' given' queued' queue' waits') applied
            (still.still a (valuation_of cells) (take queued queue) (begins a))

        front : length (take queued queue) ≡ queued
        front = length-take-le queued queue t.entries.0

        -- the effects of what was read
        abbrev last_effects : List Effect
        last_effects = effects_of_each (instructions_of (over some).read) (valuation_of given)

        turn_goes : ((x : ℕ) → Memᴰ x (drop done (take queued queue)) → Passed ks ps at (r + 1) waits' x) → length given' ≡ length given
            → Turn ks ps nexts rows at cells₀ cells' given' queue' waits' found' queued' pending' (r + 1) queued
        turn_goes passes l =
            let w = over some in
            let within : queued' ≤ length queue' = omega (arith, still.room) in
            record {
              between =
                  λ a. subst (λ c. Between ks ps nexts rows at cells₀ c (r + 1) a found' given' waits') (sym applied)
                  (turned a (t.between a) clear (over a) room fresh
                  (λ x. ⊎_elim (λ m. inr (passes x m)) (λ e. inl (ap cell_value e)) (t.owed.1 x)));
              owed =
                  subst (λ c. Pending queue' queued queued' c given') (sym applied)
                  (subst (λ n. Pending queue' n queued' given given') front
                  (pending_next (lows_in rows) (highs_in rows) given last_effects (take queued queue) found' given' queued' queue' (length rows) w.gathered w.news (sym l)));
              entries =
                  queued_next (lows_in rows) (highs_in rows) given last_effects (take queued queue) found' given' queued' queue' (length rows) w.gathered w.news within
                  (λ k h. let u : k < queued = omega (arith, h, front) in let e = get_or-take queued queue k 0 u in omega (arith, t.entries.1 k u, e)) (length given)
                  (subst (λ n. All (Admissible (length given) n) last_effects) (sym (row_count (variables some.system) some.rows_held))
                  (admissible some (t.between some) clear w room));
              ordered =
                  omega (arith, front, ap length w.news, length-append (take queued queue) (news_of last_effects given), length-take-le queued' queue' within);
              room = still.room;
              counted = still.counted;
            }

  -- a turn that goes on leaves fewer cells open
  pub turn_falls : fault_in found ≡ none → found.fresh ≡ true → {last : List (Optional ℤ)} → cells ≡ last
      → unknowns (valuation_of given) (length rows) 0 < unknowns (valuation_of last) (length rows) 0
  turn_falls clear fresh e =
      subst (λ l. unknowns (valuation_of given) (length rows) 0 < unknowns (valuation_of l) (length rows) 0) e
      (subst (λ ρ. unknowns ρ (length rows) 0 < unknowns (valuation_of cells) (length rows) 0) (sym ((t.between some).after clear))
      (round_falls (variables some.system) some.system.assertion 0 (length rows)
      (λ σ x v m. let h = assertion_targets some.system some.well_formed σ x v m in (omega arith, omega (arith, h, rows_counted some)))
      (valuation_of cells) (sym (t.between some).fresh ∙ fresh)))

-- ---- a round that is to be read: the first, or a later one

module _ {ks : List ℕ} {ps : List ℤ} {nexts : List ℕ} {rows : List VariableRow} {at : ℕ} {cells₀ cells given : List (Optional ℤ)} {queue waits : List ℕ} {found : Gathered} {queued pending r done : ℕ}
    (some : AssertionStands ks ps nexts rows at) (ready : Ready ks ps nexts rows at cells₀ cells given queue waits found queued pending r done) where
  pub when_first : r ≡ 1 → Unread ks ps nexts rows at cells₀ cells given waits queued r
  when_first e = ⊎_elim (λ u. u) (λ s. absurd (omega (arith, e, s.next, (s.turn.between some).first))) ready

  pub when_later : (r ≡ 1 → ⊥) → Unsettled ks ps nexts rows at cells₀ cells given queue waits found queued pending r done
  when_later n = ⊎_elim (λ u. absurd (n u.first)) (λ s. s) ready

  module _ {empty : Gathered} (nothing : empty ≡ nothing_found) (room : length rows ≤ length given) {found' : Gathered} {given' : List (Optional ℤ)} {queued' : ℕ} {queue' waits' : List ℕ} {pending' : ℕ} where
    pub first_goes : r ≡ 1
        → ((j : Instruction) → InstructionAt ks ps j at
        → held found' given' queued' queue' waits' ≡ read_by (lows_in rows) (highs_in rows) (valuation_of cells) at r j (held empty given queued queue waits))
        → length given' ≡ length given → Room given' queued' queue' → pending' ≡ mark_count waits'
        → Turn ks ps nexts rows at cells₀ cells given' queue' waits' found' queued' pending' r queued
    first_goes e told l full counted =
        let u = when_first e in
        subst (λ c. Turn ks ps nexts rows at c cells given' queue' waits' found' queued' pending' r queued) u.start
        (subst (λ n. Turn ks ps nexts rows at cells cells given' queue' waits' found' queued' pending' n queued) (sym e)
        (subst (λ n. Turn ks ps nexts rows at cells cells given' queue' waits' found' queued' pending' 1 n) (sym u.nothing_queued)
        (turn_begins some cells given u.same empty nothing queue waits u.blank room found' given' queued' queue' waits'
        (λ j h. told j h ∙ ap₂ (λ n m. read_by (lows_in rows) (highs_in rows) (valuation_of cells) at n j (held empty given m queue waits)) e u.nothing_queued) l full counted)))

    pub later_goes : (r ≡ 1 → ⊥) → {cells' : List (Optional ℤ)} → cells' ≡ given → length waits ≡ length ks
        → StillWaking ks ps nexts rows at cells' r empty given queued queue waits found' given' queued' queue' waits' pending'
        → ((x : ℕ) → Memᴰ x (drop done (take queued queue)) → Passed ks ps at r waits' x) → length given' ≡ length given
        → Turn ks ps nexts rows at cells₀ cells' given' queue' waits' found' queued' pending' r queued
    later_goes n {cells'} applied long still passes l =
        let s = when_later n in
        subst (λ m. StillWaking ks ps nexts rows at cells' m empty given queued queue waits found' given' queued' queue' waits' pending'
        → ((x : ℕ) → Memᴰ x (drop done (take queued queue)) → Passed ks ps at m waits' x)
        → Turn ks ps nexts rows at cells₀ cells' given' queue' waits' found' queued' pending' m queued) (sym s.next)
        (λ w f. turn_goes some s.turn s.clear applied nothing long s.fresh room w f l) still passes

  pub later_wakes : (r ≡ 1 → ⊥) → {cells' : List (Optional ℤ)} → cells' ≡ given → {empty : Gathered} → empty ≡ nothing_found → length waits ≡ length ks
      → SomeWaking ks ps nexts rows at cells' r empty given queued queue waits
  later_wakes n {cells'} applied {empty} nothing long =
      let s = when_later n in
      subst (λ m. SomeWaking ks ps nexts rows at cells' m empty given queued queue waits) (sym s.next) (turn_wakes some s.turn s.clear applied nothing long)

-- ---- the ends of the loop

module _ {ks : List ℕ} {ps : List ℤ} {nexts : List ℕ} {rows : List VariableRow} {at : ℕ} {cells₀ cells given : List (Optional ℤ)} {queue waits : List ℕ} {found : Gathered} {queued pending r done : ℕ}
    (t : Turn ks ps nexts rows at cells₀ cells given queue waits found queued pending r done) (a : AssertionStands ks ps nexts rows at) where
  pub turn_stops : (f : Fault) → fault_in found ≡ some f
      → (reached_in (Err f) cells ≡ rounds (variables a.system) a.system.assertion (suc (length a.system.flows)) 0 (valuation_of cells₀))
      × ((count : ℕ) → ◌≡◌ {A = Result ℕ Fault} (Err f) (Ok count) → Resting ks ps nexts rows at a cells waits count pending)
  unfolding reached_in rounds round_by
  turn_stops f e =
      let b = t.between a in (
        rw (b.going.same, ← b.fault, e),
        λ d q. let z : true ≡ false = cc in absurd (true≢false z),
      )

  pub turn_rests : fault_in found ≡ none → found.fresh ≡ false
      → (reached_in (Ok r) cells ≡ rounds (variables a.system) a.system.assertion (suc (length a.system.flows)) 0 (valuation_of cells₀))
      × ((count : ℕ) → ◌≡◌ {A = Result ℕ Fault} (Ok r) (Ok count) → Resting ks ps nexts rows at a cells waits count pending)
  unfolding reached_in
  turn_rests e n =
      let b = t.between a in
      let q : r ≡ r - 1 + 1 = omega (arith, b.first) in (
        ap (λ m. reached m (valuation_of cells)) q
            ∙ round_rests a.system a.well_formed cells₀ cells (r - 1) b.going found given (now_gathers a b e) e n,
        λ d z. subst (λ d. Resting ks ps nexts rows at a cells waits d pending) (same_count z)
            (record {
              clear = sym b.fault ∙ e;
              rest = sym b.fresh ∙ n;
              marked = b.marked;
              stamps = b.stamps;
              counted = t.counted;
              bounded = omega (arith, b.going.bound, b.first);
            }),
      )
    where
      same_count : {d e : ℕ} → ◌≡◌ {A = Result ℕ Fault} (Ok d) (Ok e) → d ≡ e
      same_count {d} {e} z = cc
