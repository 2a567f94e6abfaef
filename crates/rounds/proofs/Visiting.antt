-- One instruction that waits is read: what holds of the round so far holds after it.
use Rattle.std.specs.Prelude.{Option as Optional, None}
use mathlib.Core.Path.{◌≡◌, refl, sym, ap, ap₂, subst, ◌∙◌}
use mathlib.Core.Logic.{◌⊎◌, inl, inr, ⊎_elim}
use mathlib.Core.Bool.{Bool, true, false}
use mathlib.Core.List.Memᴰ
use mathlib.Core.List.{List, [], ◌∷◌, ◌++◌, append-nil, append_assoc, Memᴰ}
use Prim.Native.Nat.{ℕ, zero, suc, ◌+◌, ◌-◌, ◌≤◌, ◌<◌}
use native.Mathlib.Omega.{arith}
use native.Mathlib.Nat.{eq-or-lt_of_le}
use borrow.Author.Tests.{eqb-true, eqb-false}
use lib.Dec.{eqb}
use lib.IntN.{ℤ}
use lib.ListN.{length, get_or, set, take, drop, length-set, length-append, length-take, drop_of_length-le, get_or-append}
use lib.Seq.{get_or-take, get_or-set_same, get_or-set_other, length-take-le, drop-cons, ext_get_or}
use Rattle.std.proofs.lemmas.List.{drop-take, take_all, get_or-drop}
use Rattle.model.specs.Trees.{Instruction, variables}
use Rattle.model.specs.WellFormed.{sizes_of}
use Rattle.model.specs.Check.{assertion_scope}
use Rattle.model.specs.Standing.{InstructionAt}
use Rattle.variables.specs.declared.VariableRow.{VariableRow}
use Rattle.variables.specs.Rows.{lows_in, highs_in}
use Rattle.expressions.specs.Expressions.{Valuation}
use Rattle.expressions.specs.Cells.{valuation_of}
use Rattle.interpreter.specs.declared.Gathered.{Gathered}
use Rattle.interpreter.specs.Instructions.{effects}
use Rattle.interpreter.specs.Cells.{InstructionStands, TargetsBelow}
use Rattle.interpreter.specs.Gathering.{gathering, gather_all, nothing_found}
use Rattle.interpreter.proofs.Due.{gather_append}
use Rattle.waiting.specs.Waiting.{effects_of_each}
use Rattle.waiting.specs.Spots.{Spot, instructions_of}
use Rattle.waiting.specs.News.{news_of, Room}
use Rattle.waiting.specs.Marks.{marked, mark_count}
use Rattle.waiting.specs.Index.{Mention}
use Rattle.waiting.specs.Waking.{Old, Woken, Spotted, Passed}
use Rattle.waiting.proofs.Scoping.{targets_below}
use Rattle.waiting.proofs.Spots.{spot_stands, spot_targets, spot_waits}
use Rattle.waiting.proofs.Marks.{own_mark}
use Rattle.waiting.proofs.News.{news_append}
use Rattle.waiting.proofs.Waking.{woken_reads, reading_keeps_done}
use Rattle.reading.specs.Readings.{held, read_by}
use Rattle.rounds.specs.Cells.{AssertionStands}
use Rattle.rounds.specs.Rounds.{Pending, Queued, Done, Waking, SomeWaking, StillWaking}
use Rattle.rounds.proofs.Propagating.{rows_counted}

-- the effects of one more
more_effects : (read : List Spot) (s : Spot) (τ : Valuation) → effects_of_each (instructions_of (read ++ (s ∷ []))) τ ≡ effects_of_each (instructions_of read) τ ++ effects s.instruction τ
unfolding effects_of_each instructions_of
more_effects [] s τ = append-nil (effects s.instruction τ)
more_effects (r ∷ read) s τ =
    ap (λ l. effects r.instruction τ ++ l) (more_effects read s τ) ∙ sym (append_assoc (effects r.instruction τ) (effects_of_each (instructions_of read) τ) (effects s.instruction τ))

module _ {ks : List ℕ} {ps : List ℤ} {nexts : List ℕ} {rows : List VariableRow} {at : ℕ} {cells : List (Optional ℤ)} {r : ℕ} where
  module _ {f₀ f₁ : Gathered} {g₀ g₁ : List (Optional ℤ)} {n₀ n₁ : ℕ} {q₀ w₀ q₁ w₁ : List ℕ} {m₁ : ℕ} where
    -- one after the other
    pub still_then : {f₂ : Gathered} {g₂ : List (Optional ℤ)} {n₂ : ℕ} {q₂ w₂ : List ℕ} {m₂ : ℕ}
        → StillWaking ks ps nexts rows at cells r f₀ g₀ n₀ q₀ w₀ f₁ g₁ n₁ q₁ w₁ m₁
        → StillWaking ks ps nexts rows at cells r f₁ g₁ n₁ q₁ w₁ f₂ g₂ n₂ q₂ w₂ m₂
        → StillWaking ks ps nexts rows at cells r f₀ g₀ n₀ q₀ w₀ f₂ g₂ n₂ q₂ w₂ m₂
    still_then s t =
        record {
          still = λ a σ before w. t.still a σ before (s.still a σ before w);
          done = λ p d. t.done p (s.done p d);
          room = t.room;
          counted = t.counted;
          more = s.more ++ t.more;
          queue_kept = t.queue_kept ∙ ap (λ l. l ++ t.more) s.queue_kept ∙ append_assoc (take n₀ q₀) s.more t.more;
        }

    pub some_then : SomeWaking ks ps nexts rows at cells r f₀ g₀ n₀ q₀ w₀ → StillWaking ks ps nexts rows at cells r f₀ g₀ n₀ q₀ w₀ f₁ g₁ n₁ q₁ w₁ m₁
        → SomeWaking ks ps nexts rows at cells r f₁ g₁ n₁ q₁ w₁
    some_then s t =
        record { stands = s.stands; valuation = s.valuation; before = s.before; waking = t.still s.stands s.valuation s.before s.waking }

module _ (ks : List ℕ) (ps : List ℤ) (nexts : List ℕ) (rows : List VariableRow) (at : ℕ) (cells : List (Optional ℤ)) (r : ℕ)
    (found : Gathered) (given : List (Optional ℤ)) (queued : ℕ) (queue waits : List ℕ) (p : ℕ) (old : Old r (get_or waits p 0)) where
  -- what waits there
  spotted : (a : AssertionStands ks ps nexts rows at) (σ : Valuation) (before : List ℕ) → Waking ks ps nexts rows at cells r a σ before found given queued queue waits → Spotted a.system.assertion at σ p
  spotted a σ before w = w.woken.old p old

  there : (a : AssertionStands ks ps nexts rows at) (σ : Valuation) (k : Spotted a.system.assertion at σ p) → InstructionAt ks ps k.spot.instruction p
  there a σ k = subst (λ n. InstructionAt ks ps k.spot.instruction n) k.there (spot_stands σ ks ps a.system.assertion at k.spot a.stands k.among)

  module _ (found' : Gathered) (given' : List (Optional ℤ)) (queued' : ℕ) (queue' waits' : List ℕ)
      (told : (i : Instruction) → InstructionAt ks ps i p
      → held found' given' queued' queue' waits' ≡ read_by (lows_in rows) (highs_in rows) (valuation_of cells) p r i (held found given queued queue waits)) where
    reads : (a : AssertionStands ks ps nexts rows at) (σ : Valuation) (before : List ℕ) → Waking ks ps nexts rows at cells r a σ before found given queued queue waits
        → Waking ks ps nexts rows at cells r a σ before found' given' queued' queue' waits'
    unfolding read_by
    reads a σ before w =
        let k = spotted a σ before w in
        let s = k.spot in
        let τ = valuation_of cells in
        let e = told s.instruction (there a σ k) in
        let start = gathering nothing_found cells in
        let sofar = effects_of_each (instructions_of w.read) τ in
        let m : waits' ≡ marked s.instruction τ s.place r waits = ap (λ h. h.waits) e ∙ ap (λ n. marked s.instruction τ n r waits) (sym k.there) in
        let g : given ≡ (gather_all (lows_in rows) (highs_in rows) sofar start).given = ap (λ h. h.given) w.gathered in
        record {
          larger = w.larger;
          later = w.later;
          read = w.read ++ (s ∷ []);
          woken =
              subst (λ l. Woken a.system.assertion at σ τ r l (w.read ++ (s ∷ []))) (sym m)
              (woken_reads a.system.assertion at σ τ r w.larger w.later w.woken s k.among (subst (λ n. Old r (get_or waits n 0)) (sym k.there) old));
          gathered =
              ap (λ h. h.gathered) e ∙ ap (λ h. gather_all (lows_in rows) (highs_in rows) (effects s.instruction τ) h) w.gathered
              ∙ sym (gather_append (lows_in rows) (highs_in rows) sofar (effects s.instruction τ) start)
              ∙ ap (λ l. gather_all (lows_in rows) (highs_in rows) l start) (sym (more_effects w.read s τ));
          news =
              ap (λ h. h.news) e ∙ ap₂ (λ l h. l ++ news_of (effects s.instruction τ) h) w.news g
              ∙ append_assoc before (news_of sofar cells) (news_of (effects s.instruction τ) (gather_all (lows_in rows) (highs_in rows) sofar start).given)
              ∙ ap (λ l. before ++ l) (sym (news_append (lows_in rows) (highs_in rows) sofar (effects s.instruction τ) start))
              ∙ ap (λ l. before ++ news_of l cells) (sym (more_effects w.read s τ));
        }

    module _ (some : SomeWaking ks ps nexts rows at cells r found given queued queue waits) where
      it : Spotted some.stands.system.assertion at some.valuation p
      it = spotted some.stands some.valuation some.before some.waking

      after : waits' ≡ marked it.spot.instruction (valuation_of cells) p r waits
      unfolding read_by
      after = ap (λ h. h.waits) (told it.spot.instruction (there some.stands some.valuation it))

      still_reads : (pending' : ℕ) → Room given' queued' queue' → pending' ≡ mark_count waits'
          → StillWaking ks ps nexts rows at cells r found given queued queue waits found' given' queued' queue' waits' pending'
      unfolding read_by
      still_reads pending' room counted =
          record {
            still = reads;
            done = λ q d. subst (λ l. Done r l q) (sym after) (reading_keeps_done some.stands.system.assertion at some.valuation (valuation_of cells) r it.spot.instruction p waits q d);
            room = room;
            counted = counted;
            more = news_of (effects it.spot.instruction (valuation_of cells)) given;
            queue_kept = ap (λ h. h.news) (told it.spot.instruction (there some.stands some.valuation it));
          }

      read_done : p < length waits → Done r waits' p
      read_done within o =
          ⊎_elim (λ e. o.set (ap (λ l. get_or l p 0) after ∙ e)) (λ e. o.other (ap (λ l. get_or l p 0) after ∙ e))
          (own_mark (valuation_of cells) r it.spot.instruction p waits some.valuation
          (spot_waits some.valuation some.stands.system.assertion at it.spot it.among) within)

-- something waits at the place since an earlier round
module _ {ks : List ℕ} {ps : List ℤ} {nexts : List ℕ} {rows : List VariableRow} {at : ℕ} {cells : List (Optional ℤ)} {r : ℕ}
    {found : Gathered} {given : List (Optional ℤ)} {queued : ℕ} {queue waits : List ℕ} (some : SomeWaking ks ps nexts rows at cells r found given queued queue waits)
    (p : ℕ) (old : Old r (get_or waits p 0)) where
  pub may_read : length rows ≤ length given → InstructionStands ks ps nexts (length rows) (length given) p
  may_read l =
      let a = some.stands in
      let σ = some.valuation in
      let k = spotted ks ps nexts rows at cells r found given queued queue waits p old a σ some.before some.waking in
      let below : (n : ℕ) → length rows ≤ n → TargetsBelow k.spot.instruction n =
      λ n h. spot_targets σ n a.system.assertion at k.spot
      (targets_below a.system.assertion (assertion_scope (sizes_of a.system) (variables a.system)) a.well_formed.assertion (omega (arith, h, rows_counted a))) k.among in
      record {
        instruction = k.spot.instruction;
        stands = there ks ps nexts rows at cells r found given queued queue waits p old a σ k;
        target_variables = below (length rows) (omega arith);
        target_given = below (length given) l;
        places = a.places;
      }

  pub still_read : {found' : Gathered} {given' : List (Optional ℤ)} {queued' : ℕ} {queue' waits' : List ℕ} {pending' : ℕ}
      → ((i : Instruction) → InstructionAt ks ps i p
      → held found' given' queued' queue' waits' ≡ read_by (lows_in rows) (highs_in rows) (valuation_of cells) p r i (held found given queued queue waits))
      → Room given' queued' queue' → pending' ≡ mark_count waits' → p < length waits
      → StillWaking ks ps nexts rows at cells r found given queued queue waits found' given' queued' queue' waits' pending' × Done r waits' p
  still_read {found'} {given'} {queued'} {queue'} {waits'} {pending'} told room counted within = (
    still_reads ks ps nexts rows at cells r found given queued queue waits p old found' given' queued' queue' waits' told some pending' room counted,
    read_done ks ps nexts rows at cells r found given queued queue waits p old found' given' queued' queue' waits' told some within,
  )

-- ---- the queue

pub kept_entry : (queue queue' : List ℕ) (queued queued' : ℕ) (more : List ℕ) → queued ≤ length queue → take queued' queue' ≡ take queued queue ++ more
    → (k : ℕ) → k < queued → get_or queue' k 0 ≡ get_or queue k 0
kept_entry queue queue' queued queued' more l e k h =
    let n : length (take queued queue) ≡ queued = length-take-le queued queue l in
    let u : k < queued' = omega (arith, h, n, ap length e, length-append (take queued queue) more, length-take queued' queue') in
    sym (get_or-take queued' queue' k 0 u) ∙ ap (λ q. get_or q k 0) e ∙ get_or-append (take queued queue) more 0 k (omega (arith, h, n)) ∙ get_or-take queued queue k 0 h

pub record Entry (queue : List ℕ) (from to x : ℕ) : Type 0 where
  pub index : ℕ
  pub start : from ≤ index
  pub end : index < to
  pub holds : get_or queue index 0 ≡ x

pub entry : (queue : List ℕ) (from to x : ℕ) → Memᴰ x (drop from (take to queue)) → Entry queue from to x
entry queue from zero x m = absurd (Memᴰ.not-nil (subst (λ l. Memᴰ x l) (empty from) m))
  where
    empty : (n : ℕ) → drop {A = ℕ} n [] ≡ []
    empty zero = refl
    empty (suc n) = refl
entry [] zero (suc to) x m = absurd (Memᴰ.not-nil m)
entry [] (suc from) (suc to) x m = absurd (Memᴰ.not-nil m)
entry (y ∷ queue) zero (suc to) x m =
    ⊎_elim (λ e. record { index = 0; start = omega arith; end = omega arith; holds = sym e })
    (λ n. let r = entry queue zero to x n in record { index = suc r.index; start = omega arith; end = omega (arith, r.end); holds = r.holds })
    (Memᴰ.cases_cons m)
entry (y ∷ queue) (suc from) (suc to) x m =
    let r = entry queue from to x m in record { index = suc r.index; start = omega (arith, r.start); end = omega (arith, r.end); holds = r.holds }

-- ---- the cells of the queued flows

module _ (queue : List ℕ) (queued : ℕ) (given cells : List (Optional ℤ)) (k : ℕ) (within : queued ≤ length queue) where
  pub applied_one : Pending queue k queued cells given → k < queued → get_or queue k 0 < length given → {v : Optional ℤ} → v ≡ get_or given (get_or queue k 0) None
      → Pending queue (k + 1) queued (set cells (get_or queue k 0) v) given
  applied_one pending u bound {v} e =
      (length-set cells (get_or queue k 0) v ∙ pending.0, λ y. by y (eqb y (get_or queue k 0)) refl)
    where
      x : ℕ
      x = get_or queue k 0

      here : (y : ℕ) → y ≡ x → get_or (set cells x v) y None ≡ get_or given y None
      here y q =
          ap (λ n. get_or (set cells x v) n None) q ∙ get_or-set_same cells x v None (omega (arith, bound, pending.0)) ∙ e ∙ ap (λ n. get_or given n None) (sym q)

      long : k < length (take queued queue)
      long = omega (arith, u, length-take-le queued queue within)

      by : (y : ℕ) (t : Bool) → eqb y x ≡ t → Memᴰ y (drop (k + 1) (take queued queue)) ⊎ (get_or (set cells x v) y None ≡ get_or given y None)
      by y true q = inr (here y (eqb-true y x q))
      by y false q =
          ⊎_elim
          (λ m. ⊎_elim (λ z. absurd (eqb-false y x q (z ∙ get_or-take queued queue k 0 u)))
          (λ n. let z : suc k ≡ k + 1 = omega arith in inl (subst (λ j. Memᴰ y (drop j (take queued queue))) z n))
          (Memᴰ.cases_cons (subst (λ l. Memᴰ y l) (drop-cons (take queued queue) k 0 long) m)))
          (λ z. inr (get_or-set_other cells x y v None (eqb-false y x q) ∙ z))
          (pending.1 y)

  pub applied_all : Pending queue k queued cells given → queued ≤ k → cells ≡ given
  applied_all pending u =
      ext_get_or None cells given pending.0
      (λ y h. ⊎_elim
      (λ m. let z : length (take queued queue) ≤ k = omega (arith, u, length-take-le queued queue within) in absurd (Memᴰ.not-nil (subst (λ l. Memᴰ y l) (drop_of_length-le (take queued queue) z) m)))
      (λ e. e) (pending.1 y))

-- a part of the queue, by itself
module _ (queue : List ℕ) (done queued : ℕ) (ordered : done ≤ queued) where
  abbrev part : List ℕ
  part = take (queued - done) (drop done queue)

  part_is : part ≡ drop done (take queued queue)
  part_is = sym (drop-take done (queued - done) queue) ∙ ap (λ n. drop done (take n queue)) (omega arith)

  pub part_pending : (cells given : List (Optional ℤ)) → Pending queue done queued cells given → Pending part 0 (length part) cells given
  part_pending cells given p =
      (p.0, λ y. ⊎_elim (λ m. inl (subst (λ l. Memᴰ y l) (sym (take_all (length part) part (omega arith) ∙ part_is)) m)) (λ e. inr e) (p.1 y))

  pub part_queued : {n : ℕ} → Queued queue queued n → Queued part (length part) n
  part_queued q = (
    omega arith,
    λ k h. let u : k < queued - done = omega (arith, h, length-take (queued - done) (drop done queue)) in
        omega (arith, q.1 (done + k) (omega arith), get_or-take (queued - done) (drop done queue) k 0 u, get_or-drop done queue k 0),
  )

-- ---- everything from the assertion on

pub scan_goes : (at r : ℕ) (waits waits' : List ℕ) (here : ℕ) → ((p : ℕ) → at ≤ p → p < here → Done r waits p) → ((p : ℕ) → Done r waits p → Done r waits' p)
    → Done r waits' here → (p : ℕ) → at ≤ p → p < here + 1 → Done r waits' p
scan_goes at r waits waits' here f keep now p l u =
    ⊎_elim (λ e. subst (λ q. Done r waits' q) (sym e) now) (λ h. keep p (f p l h)) (eq-or-lt_of_le {n = p} {m = here} (omega (arith, u)))

-- ---- the flows in the queue

pub all_goes : (ks : List ℕ) (ps : List ℤ) (at r : ℕ) (queue waits waits' : List ℕ) (done k x : ℕ) → x ≡ get_or queue k 0
    → ((j : ℕ) → done ≤ j → j < k → Passed ks ps at r waits (get_or queue j 0)) → ((p : ℕ) → Done r waits p → Done r waits' p) → Passed ks ps at r waits' x
    → (j : ℕ) → done ≤ j → j < k + 1 → Passed ks ps at r waits' (get_or queue j 0)
all_goes ks ps at r queue waits waits' done k x e f keep now j a b p o l m w =
    ⊎_elim (λ q. let z : j ≡ k = q in now p o l (subst (λ n. Mention ks ps n p) (ap (λ n. get_or queue n 0) z ∙ sym e) m) w)
    (λ h. keep o (f j a h p o l m w)) (eq-or-lt_of_le {n = j} {m = k} (omega (arith, b)))
