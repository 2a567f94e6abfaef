-- What waits stands where it is said to, no part of it inside another; over more that is known, what waits stands in what waited.
use mathlib.Core.Path.{◌≡◌, refl, sym, ap, ap₂, subst, ◌∙◌}
use mathlib.Core.Logic.{⊎_elim}
use mathlib.Core.Bool.{Bool, true, false, cond}
use mathlib.Core.List.Memᴰ
use mathlib.Core.List.{List, [], ◌∷◌, ◌++◌, append-nil, append_assoc, Memᴰ}
use Prim.Native.Nat.{ℕ, ◌+◌, ◌≤◌}
use native.Mathlib.Omega.{arith}
use lib.IntN.{ℤ}
use Rattle.evaluation.specs.declared.Evaluation.{Evaluation}
use Rattle.evaluation.specs.declared.Evaluation.TheVariants.{Unknown, Failed, Value}
use Rattle.evaluation.specs.Numbers.{eq_z, boolean}
use Rattle.evaluation.specs.Laws.{Grows}
use Rattle.evaluation.specs.Laws.Grows.{stays}
use Rattle.model.specs.Trees.{Expression, Instruction, Instructions}
use Rattle.model.specs.Trees.Instruction.{skip, assign, if_then, block}
use Rattle.model.specs.Trees.Instructions.{none as no_branch, more}
use Rattle.model.specs.Walk.{Scope}
use Rattle.model.specs.WellFormed.{Scoped, AllScoped}
use Rattle.model.specs.Standing.{InstructionAt, InstructionsAt, size_of_expression, size_of, size_of_all}
use Rattle.expressions.specs.Expressions.{Valuation, evaluate}
use Rattle.interpreter.specs.Cells.{TargetsBelow, AllTargetsBelow}
use Rattle.semantics.specs.Theorems.{Extends}
use Rattle.semantics.proofs.Growth.{growth}
use Rattle.waiting.specs.Waiting.{waits_by, waits_under, waiting, waiting_in, Waits, Untouched}
use Rattle.waiting.specs.Spots.{Spot, spot, spots_by, spots_under, spots, spots_in, spots_of_each, instructions_of}
use Rattle.waiting.proofs.Waiting.{depends}

-- ---- a property of what waits, shown once for the whole walk

-- what is below a condition counts only if the condition is true
under_member : {s q : Spot} {ss : List Spot} (v : Evaluation) {A : Type 0} → (v ≡ Unknown → q ≡ s → A) → (Memᴰ q ss → A) → Memᴰ q (spots_under v s ss) → A
unfolding spots_under
under_member Unknown f g m = f refl (Memᴰ.eq_of_singleton m)
under_member (Failed manner) f g m = absurd (Memᴰ.not-nil m)
under_member {s} {q} {ss} (Value v) {A} f g m = by (eq_z v (boolean true)) m
  where
    by : (t : Bool) → Memᴰ q (cond t ss []) → A
    by true m = g m
    by false m = absurd (Memᴰ.not-nil m)

by_member : {s q : Spot} (v : Evaluation) {A : Type 0} → (v ≡ Unknown → q ≡ s → A) → Memᴰ q (spots_by v s) → A
unfolding spots_by
by_member Unknown f m = f refl (Memᴰ.eq_of_singleton m)
by_member (Failed manner) f m = absurd (Memᴰ.not-nil m)
by_member (Value v) f m = absurd (Memᴰ.not-nil m)

-- it lies within the whole
pub record Within (q : Spot) (from to : ℕ) : Type 0 where
  pub start : from ≤ q.place
  pub end : q.place + size_of q.instruction ≤ to

-- two that wait are the same, or one ends before the other begins
pub data Apart (q s : Spot) : Type 0 where
  same : q ≡ s → Apart q s
  before : q.place + size_of q.instruction ≤ s.place → Apart q s
  after : s.place + size_of s.instruction ≤ q.place → Apart q s

under_apart : (v : Evaluation) (o : Spot) (ss : List Spot) (q s : Spot) → (Memᴰ q ss → Memᴰ s ss → Apart q s)
    → Memᴰ q (spots_under v o ss) → Memᴰ s (spots_under v o ss) → Apart q s
unfolding spots_under
under_apart Unknown o ss q s f m n = Apart.same (Memᴰ.eq_of_singleton m ∙ sym (Memᴰ.eq_of_singleton n))
under_apart (Failed manner) o ss q s f m n = absurd (Memᴰ.not-nil m)
under_apart (Value v) o ss q s f m n = by (eq_z v (boolean true)) m n
  where
    by : (t : Bool) → Memᴰ q (cond t ss []) → Memᴰ s (cond t ss []) → Apart q s
    by true m n = f m n
    by false m n = absurd (Memᴰ.not-nil m)

module _ (σ : Valuation) where
  -- it waits
  mutual
    unfolding spots spots_in Waits

    pub spot_waits : (i : Instruction) (at : ℕ) (q : Spot) → Memᴰ q (spots i σ at) → Waits q.instruction σ
    spot_waits skip at q m = absurd (Memᴰ.not-nil m)
    spot_waits (assign x e) at q m = by_member (evaluate e σ) (λ u p. subst (λ s. Waits s.instruction σ) (sym p) u) m
    spot_waits (if_then c i) at q m =
        under_member (evaluate c σ) (λ u p. subst (λ s. Waits s.instruction σ) (sym p) u) (λ n. spot_waits i (at + 1 + size_of_expression c) q n) m
    spot_waits (block is) at q m = spot_waits_in is (at + 1) q m

    spot_waits_in : (is : Instructions) (at : ℕ) (q : Spot) → Memᴰ q (spots_in is σ at) → Waits q.instruction σ
    spot_waits_in no_branch at q m = absurd (Memᴰ.not-nil m)
    spot_waits_in (more i is) at q m =
        ⊎_elim (λ n. spot_waits i at q n) (λ n. spot_waits_in is (at + size_of i) q n) (Memᴰ.append_cases (spots i σ at) m)

  -- it stands there
  module _ (ks : List ℕ) (ps : List ℤ) where
    mutual
      unfolding spots spots_in InstructionAt InstructionsAt

      pub spot_stands : (i : Instruction) (at : ℕ) (q : Spot) → InstructionAt ks ps i at → Memᴰ q (spots i σ at) → InstructionAt ks ps q.instruction q.place
      spot_stands skip at q h m = absurd (Memᴰ.not-nil m)
      spot_stands (assign x e) at q h m = by_member (evaluate e σ) (λ u p. subst (λ s. InstructionAt ks ps s.instruction s.place) (sym p) h) m
      spot_stands (if_then c i) at q h m =
          under_member (evaluate c σ) (λ u p. subst (λ s. InstructionAt ks ps s.instruction s.place) (sym p) h)
          (λ n. spot_stands i (at + 1 + size_of_expression c) q h.2 n) m
      spot_stands (block is) at q h m = spot_stands_in is (at + 1) q h.1 m

      spot_stands_in : (is : Instructions) (at : ℕ) (q : Spot) → InstructionsAt ks ps is at → Memᴰ q (spots_in is σ at) → InstructionAt ks ps q.instruction q.place
      spot_stands_in no_branch at q h m = absurd (Memᴰ.not-nil m)
      spot_stands_in (more i is) at q h m =
          ⊎_elim (λ n. spot_stands i at q h.0 n) (λ n. spot_stands_in is (at + size_of i) q h.1 n) (Memᴰ.append_cases (spots i σ at) m)

  -- its targets are among those of the whole, and it is in the same scope
  module _ (n : ℕ) where
    mutual
      unfolding spots spots_in TargetsBelow AllTargetsBelow

      pub spot_targets : (i : Instruction) (at : ℕ) (q : Spot) → TargetsBelow i n → Memᴰ q (spots i σ at) → TargetsBelow q.instruction n
      spot_targets skip at q h m = absurd (Memᴰ.not-nil m)
      spot_targets (assign x e) at q h m = by_member (evaluate e σ) (λ u p. subst (λ s. TargetsBelow s.instruction n) (sym p) h) m
      spot_targets (if_then c i) at q h m =
          under_member (evaluate c σ) (λ u p. subst (λ s. TargetsBelow s.instruction n) (sym p) h)
          (λ k. spot_targets i (at + 1 + size_of_expression c) q h k) m
      spot_targets (block is) at q h m = spot_targets_in is (at + 1) q h m

      spot_targets_in : (is : Instructions) (at : ℕ) (q : Spot) → AllTargetsBelow is n → Memᴰ q (spots_in is σ at) → TargetsBelow q.instruction n
      spot_targets_in no_branch at q h m = absurd (Memᴰ.not-nil m)
      spot_targets_in (more i is) at q h m =
          ⊎_elim (λ k. spot_targets i at q h.0 k) (λ k. spot_targets_in is (at + size_of i) q h.1 k) (Memᴰ.append_cases (spots i σ at) m)

  module _ (sc : Scope) where
    mutual
      unfolding spots spots_in Scoped AllScoped

      pub spot_scoped : (i : Instruction) (at : ℕ) (q : Spot) → Scoped i sc → Memᴰ q (spots i σ at) → Scoped q.instruction sc
      spot_scoped skip at q h m = absurd (Memᴰ.not-nil m)
      spot_scoped (assign x e) at q h m = by_member (evaluate e σ) (λ u p. subst (λ s. Scoped s.instruction sc) (sym p) h) m
      spot_scoped (if_then c i) at q h m =
          under_member (evaluate c σ) (λ u p. subst (λ s. Scoped s.instruction sc) (sym p) h)
          (λ k. spot_scoped i (at + 1 + size_of_expression c) q h.1 k) m
      spot_scoped (block is) at q h m = spot_scoped_in is (at + 1) q h m

      spot_scoped_in : (is : Instructions) (at : ℕ) (q : Spot) → AllScoped is sc → Memᴰ q (spots_in is σ at) → Scoped q.instruction sc
      spot_scoped_in no_branch at q h m = absurd (Memᴰ.not-nil m)
      spot_scoped_in (more i is) at q h m =
          ⊎_elim (λ k. spot_scoped i at q h.0 k) (λ k. spot_scoped_in is (at + size_of i) q h.1 k) (Memᴰ.append_cases (spots i σ at) m)

  mutual
    unfolding spots spots_in size_of size_of_all

    pub spot_within : (i : Instruction) (at : ℕ) (q : Spot) → Memᴰ q (spots i σ at) → Within q at (at + size_of i)
    spot_within skip at q m = absurd (Memᴰ.not-nil m)
    spot_within (assign x e) at q m =
        by_member (evaluate e σ) (λ u p. subst (λ s. Within s at (at + size_of (assign x e))) (sym p) (record { start = omega arith; end = omega arith })) m
    spot_within (if_then c i) at q m =
        under_member (evaluate c σ) (λ u p. subst (λ s. Within s at (at + size_of (if_then c i))) (sym p) (record { start = omega arith; end = omega arith }))
        (λ n. let w = spot_within i (at + 1 + size_of_expression c) q n in record { start = omega (arith, w.start); end = omega (arith, w.end) }) m
    spot_within (block is) at q m = let w = spot_within_in is (at + 1) q m in record { start = omega (arith, w.start); end = omega (arith, w.end) }

    spot_within_in : (is : Instructions) (at : ℕ) (q : Spot) → Memᴰ q (spots_in is σ at) → Within q at (at + size_of_all is)
    spot_within_in no_branch at q m = absurd (Memᴰ.not-nil m)
    spot_within_in (more i is) at q m =
        ⊎_elim (λ n. let w = spot_within i at q n in record { start = w.start; end = omega (arith, w.end) })
        (λ n. let w = spot_within_in is (at + size_of i) q n in record { start = omega (arith, w.start); end = omega (arith, w.end) })
        (Memᴰ.append_cases (spots i σ at) m)

  mutual
    unfolding spots spots_in

    pub spots_apart : (i : Instruction) (at : ℕ) (q s : Spot) → Memᴰ q (spots i σ at) → Memᴰ s (spots i σ at) → Apart q s
    spots_apart skip at q s m n = absurd (Memᴰ.not-nil m)
    spots_apart (assign x e) at q s m n =
        by_member (evaluate e σ) (λ u p. by_member (evaluate e σ) (λ v r. Apart.same (p ∙ sym r)) n) m
    spots_apart (if_then c i) at q s m n = under_apart (evaluate c σ) (spot at (if_then c i)) (spots i σ (at + 1 + size_of_expression c)) q s (λ a b. spots_apart i (at + 1 + size_of_expression c) q s a b) m n
    spots_apart (block is) at q s m n = spots_apart_in is (at + 1) q s m n

    spots_apart_in : (is : Instructions) (at : ℕ) (q s : Spot) → Memᴰ q (spots_in is σ at) → Memᴰ s (spots_in is σ at) → Apart q s
    spots_apart_in no_branch at q s m n = absurd (Memᴰ.not-nil m)
    spots_apart_in (more i is) at q s m n =
        ⊎_elim
        (λ a. ⊎_elim (λ b. spots_apart i at q s a b)
        (λ b. Apart.before (omega (arith, (spot_within i at q a).end, (spot_within_in is (at + size_of i) s b).start))) (Memᴰ.append_cases (spots i σ at) n))
        (λ a. ⊎_elim (λ b. Apart.after (omega (arith, (spot_within i at s b).end, (spot_within_in is (at + size_of i) q a).start)))
        (λ b. spots_apart_in is (at + size_of i) q s a b) (Memᴰ.append_cases (spots i σ at) n))
        (Memᴰ.append_cases (spots i σ at) m)

  -- what waits, without the places
  instructions_append : (ss ts : List Spot) → instructions_of (ss ++ ts) ≡ instructions_of ss ++ instructions_of ts
  unfolding instructions_of
  instructions_append [] ts = refl
  instructions_append (s ∷ ss) ts = ap (λ l. s.instruction ∷ l) (instructions_append ss ts)

  instructions_by : (v : Evaluation) (at : ℕ) (i : Instruction) → instructions_of (spots_by v (spot at i)) ≡ waits_by v i
  unfolding instructions_of spots_by waits_by
  instructions_by Unknown at i = refl
  instructions_by (Failed manner) at i = refl
  instructions_by (Value v) at i = refl

  instructions_under : (v : Evaluation) (at : ℕ) (i : Instruction) (ss : List Spot) (is : List Instruction) → instructions_of ss ≡ is
      → instructions_of (spots_under v (spot at i) ss) ≡ waits_under v i is
  unfolding instructions_of spots_under waits_under
  instructions_under Unknown at i ss is e = refl
  instructions_under (Failed manner) at i ss is e = refl
  instructions_under (Value v) at i ss is e = by (eq_z v (boolean true))
    where
      by : (t : Bool) → instructions_of (cond t ss []) ≡ cond t is []
      by true = e
      by false = refl

  mutual
    unfolding spots spots_in waiting waiting_in instructions_of

    pub spots_waiting : (i : Instruction) (at : ℕ) → instructions_of (spots i σ at) ≡ waiting i σ
    spots_waiting skip at = refl
    spots_waiting (assign x e) at = instructions_by (evaluate e σ) at (assign x e)
    spots_waiting (if_then c i) at =
        instructions_under (evaluate c σ) at (if_then c i) (spots i σ (at + 1 + size_of_expression c)) (waiting i σ) (spots_waiting i (at + 1 + size_of_expression c))
    spots_waiting (block is) at = spots_waiting_in is (at + 1)

    spots_waiting_in : (is : Instructions) (at : ℕ) → instructions_of (spots_in is σ at) ≡ waiting_in is σ
    spots_waiting_in no_branch at = refl
    spots_waiting_in (more i is) at =
        instructions_append (spots i σ at) (spots_in is σ (at + size_of i)) ∙ ap₂ ◌++◌ (spots_waiting i at) (spots_waiting_in is (at + size_of i))

-- ---- over more that is known

each_append : (ss ts : List Spot) (τ : Valuation) → spots_of_each (ss ++ ts) τ ≡ spots_of_each ss τ ++ spots_of_each ts τ
unfolding spots_of_each
each_append [] ts τ = refl
each_append (s ∷ ss) ts τ =
    ap (λ l. spots s.instruction τ s.place ++ l) (each_append ss ts τ) ∙ sym (append_assoc (spots s.instruction τ s.place) (spots_of_each ss τ) (spots_of_each ts τ))

module _ (σ τ : Valuation) (larger : Extends σ τ) where
  by_on : (at x : ℕ) (e : Expression) (a b : Evaluation) → Grows a b → spots_by b (spot at (assign x e)) ≡ spots (assign x e) τ at
      → spots_by b (spot at (assign x e)) ≡ spots_of_each (spots_by a (spot at (assign x e))) τ
  unfolding spots_by spots_of_each
  by_on at x e Unknown b g q = q ∙ sym (append-nil (spots (assign x e) τ at))
  by_on at x e (Failed manner) b stays q = refl
  by_on at x e (Value v) b stays q = refl

  under_on : (at : ℕ) (c : Expression) (i : Instruction) (a b : Evaluation) → Grows a b
      → spots_under b (spot at (if_then c i)) (spots i τ (at + 1 + size_of_expression c)) ≡ spots (if_then c i) τ at
      → spots i τ (at + 1 + size_of_expression c) ≡ spots_of_each (spots i σ (at + 1 + size_of_expression c)) τ
      → spots_under b (spot at (if_then c i)) (spots i τ (at + 1 + size_of_expression c))
      ≡ spots_of_each (spots_under a (spot at (if_then c i)) (spots i σ (at + 1 + size_of_expression c))) τ
  unfolding spots_under spots_of_each
  under_on at c i Unknown b g q h = q ∙ sym (append-nil (spots (if_then c i) τ at))
  under_on at c i (Failed manner) b stays q h = refl
  under_on at c i (Value v) b stays q h = go (eq_z v (boolean true))
    where
      go : (t : Bool) → cond t (spots i τ (at + 1 + size_of_expression c)) [] ≡ spots_of_each (cond t (spots i σ (at + 1 + size_of_expression c)) []) τ
      go true = h
      go false = refl

  nothing : [] ≡ spots_of_each [] τ
  unfolding spots_of_each
  nothing = refl

  mutual
    unfolding spots spots_in

    pub spots_on : (i : Instruction) (at : ℕ) → spots i τ at ≡ spots_of_each (spots i σ at) τ
    spots_on skip at = nothing
    spots_on (assign x e) at = by_on at x e (evaluate e σ) (evaluate e τ) (growth e σ τ larger) refl
    spots_on (if_then c i) at = under_on at c i (evaluate c σ) (evaluate c τ) (growth c σ τ larger) refl (spots_on i (at + 1 + size_of_expression c))
    spots_on (block is) at = spots_on_in is (at + 1)

    spots_on_in : (is : Instructions) (at : ℕ) → spots_in is τ at ≡ spots_of_each (spots_in is σ at) τ
    spots_on_in no_branch at = nothing
    spots_on_in (more i is) at =
        ap₂ ◌++◌ (spots_on i at) (spots_on_in is (at + size_of i)) ∙ sym (each_append (spots i σ at) (spots_in is σ (at + size_of i)) τ)

  -- what waits then waits in one that waited
  pub record From (i : Instruction) (at : ℕ) (q : Spot) : Type 0 where
    pub spot : Spot
    pub among : Memᴰ spot (spots i σ at)
    pub inside : Memᴰ q (spots spot.instruction τ spot.place)

  from_each : (i : Instruction) (at : ℕ) (q : Spot) (ss : List Spot) → ((s : Spot) → Memᴰ s ss → Memᴰ s (spots i σ at)) → Memᴰ q (spots_of_each ss τ) → From i at q
  unfolding spots_of_each
  from_each i at q [] f m = absurd (Memᴰ.not-nil m)
  from_each i at q (s ∷ ss) f m =
      ⊎_elim (λ n. record { spot = s; among = f s (Memᴰ.head refl); inside = n })
      (λ n. from_each i at q ss (λ r k. f r (Memᴰ.tail k)) n)
      (Memᴰ.append_cases (spots s.instruction τ s.place) m)

  pub spot_from : (i : Instruction) (at : ℕ) (q : Spot) → Memᴰ q (spots i τ at) → From i at q
  spot_from i at q m = from_each i at q (spots i σ at) (λ s k. k) (subst (λ l. Memᴰ q l) (spots_on i at) m)

  each_from : (s q : Spot) (ss : List Spot) → Memᴰ s ss → Memᴰ q (spots s.instruction τ s.place) → Memᴰ q (spots_of_each ss τ)
  unfolding spots_of_each
  each_from s q ss (Memᴰ.head {x} {xs} e) n =
      Memᴰ.append_left (spots_of_each xs τ) (subst (λ r. Memᴰ q (spots r.instruction τ r.place)) e n)
  each_from s q ss (Memᴰ.tail {x} {xs} m) n = Memᴰ.append_right (spots x.instruction τ x.place) (each_from s q xs m n)

  pub from_spot : (i : Instruction) (at : ℕ) (s q : Spot) → Memᴰ s (spots i σ at) → Memᴰ q (spots s.instruction τ s.place) → Memᴰ q (spots i τ at)
  from_spot i at s q m n = subst (λ l. Memᴰ q l) (sym (spots_on i at)) (each_from s q (spots i σ at) m n)

-- what waits and is untouched waits
pub still_spot : (i : Instruction) (σ τ : Valuation) (at : ℕ) → Waits i σ → Untouched i σ τ → spots i τ at ≡ spot at i ∷ []
unfolding spots spots_by spots_under Waits Untouched
still_spot skip σ τ at w u = absurd w
still_spot (assign x e) σ τ at w u = rw (← depends e σ τ u, w)
still_spot (if_then c i) σ τ at w u = rw (← depends c σ τ u, w)
still_spot (block is) σ τ at w u = absurd w
