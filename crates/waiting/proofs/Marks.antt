-- The marks that a reading leaves: at each place the old one, none, or the round where something waits; what waits is marked.
use mathlib.Core.Path.{◌≡◌, refl, sym, ap, subst, ◌∙◌}
use mathlib.Core.Logic.{◌⊎◌, inl, inr, ⊎_elim}
use mathlib.Core.Bool.{Bool, true, false, cond}
use mathlib.Core.List.Memᴰ
use mathlib.Core.List.{List, [], ◌∷◌, ◌++◌, Memᴰ}
use Prim.Native.Nat.{ℕ, zero, suc, ◌+◌, ◌-◌, ◌≤◌, ◌<◌}
use native.Mathlib.Omega.{arith}
use lib.ListN.{length, get_or, set, length-set}
use lib.Seq.{get_or-set_same, get_or-set_other}
use Rattle.evaluation.specs.declared.Evaluation.{Evaluation}
use Rattle.evaluation.specs.declared.Evaluation.TheVariants.{Unknown, Failed, Value}
use Rattle.evaluation.specs.Numbers.{eq_z, boolean}
use Rattle.model.specs.Trees.{Instruction, Instructions}
use Rattle.model.specs.Trees.Instruction.{skip, assign, if_then, block}
use Rattle.model.specs.Trees.Instructions.{none as no_branch, more}
use Rattle.model.specs.Standing.{size_of_expression, size_of, size_of_all}
use Rattle.expressions.specs.Expressions.{Valuation, evaluate}
use Rattle.interpreter.specs.Gathering.{due_after, chosen_branch}
use Rattle.interpreter.proofs.Due.{joined}
use Rattle.waiting.specs.Waiting.{Waits}
use Rattle.waiting.specs.Spots.{Spot, spot, spots_by, spots_under, spots, spots_in}
use Rattle.waiting.specs.Marks.{stamp_of, marked_under, marked, marked_in, mark_at_once}
use Rattle.waiting.proofs.Spots.{spot_within}

-- ---- lists

pub set_cases : (w : List ℕ) (at a p : ℕ) → (get_or (set w at a) p 0 ≡ get_or w p 0) ⊎ ((p ≡ at) × (get_or (set w at a) p 0 ≡ a))
set_cases [] at a p = inl refl
set_cases (b ∷ w) zero a zero = inr (refl, refl)
set_cases (b ∷ w) zero a (suc p) = inl refl
set_cases (b ∷ w) (suc at) a zero = inl refl
set_cases (b ∷ w) (suc at) a (suc p) = ⊎_elim (λ e. inl e) (λ e. inr (ap suc e.0, e.1)) (set_cases w at a p)

-- what one place holds after a reading: the old mark, none, or the round
pub data Mark (z old r : ℕ) (ss : List Spot) (p : ℕ) : Type 0 where
  kept : z ≡ old → Mark z old r ss p
  cleared : z ≡ 0 → Mark z old r ss p
  stamped : (q : Spot) → Memᴰ q ss → q.place ≡ p → z ≡ r → Mark z old r ss p

more_right : {z old r p : ℕ} {ss : List Spot} (ts : List Spot) → Mark z old r ss p → Mark z old r (ss ++ ts) p
more_right ts (Mark.kept e) = Mark.kept e
more_right ts (Mark.cleared e) = Mark.cleared e
more_right ts (Mark.stamped q m p e) = Mark.stamped q (Memᴰ.append_left ts m) p e

then : {z y old r p : ℕ} (ss ts : List Spot) → Mark y old r ss p → Mark z y r ts p → Mark z old r (ss ++ ts) p
then {z} {y} {old} {r} {p} ss ts f (Mark.kept e) = more_right ts (subst (λ n. Mark n old r ss p) (sym e) f)
then ss ts f (Mark.cleared e) = Mark.cleared e
then ss ts f (Mark.stamped q m p e) = Mark.stamped q (Memᴰ.append_right ss m) p e

by_mark : (v : Evaluation) (o : Spot) (w : List ℕ) (r p : ℕ) → Mark (get_or (set w o.place (stamp_of v r)) p 0) (get_or w p 0) r (spots_by v o) p
unfolding stamp_of spots_by
by_mark Unknown o w r p = ⊎_elim (λ e. Mark.kept e) (λ e. Mark.stamped o (Memᴰ.head refl) (sym e.0) e.1) (set_cases w o.place r p)
by_mark (Failed manner) o w r p = ⊎_elim (λ e. Mark.kept e) (λ e. Mark.cleared e.1) (set_cases w o.place 0 p)
by_mark (Value v) o w r p = ⊎_elim (λ e. Mark.kept e) (λ e. Mark.cleared e.1) (set_cases w o.place 0 p)

under_mark : (v : Evaluation) (o : Spot) (ss : List Spot) (w : List ℕ) (r p : ℕ) (body : List ℕ → List ℕ)
    → ((u : List ℕ) → Mark (get_or (body u) p 0) (get_or u p 0) r ss p)
    → Mark (get_or (marked_under v (set w o.place (stamp_of v r)) (body (set w o.place (stamp_of v r)))) p 0) (get_or w p 0) r (spots_under v o ss) p
unfolding stamp_of spots_under marked_under
under_mark Unknown o ss w r p body f = ⊎_elim (λ e. Mark.kept e) (λ e. Mark.stamped o (Memᴰ.head refl) (sym e.0) e.1) (set_cases w o.place r p)
under_mark (Failed manner) o ss w r p body f = ⊎_elim (λ e. Mark.kept e) (λ e. Mark.cleared e.1) (set_cases w o.place 0 p)
under_mark (Value v) o ss w r p body f = by (eq_z v (boolean true))
  where
    old : Mark (get_or (set w o.place 0) p 0) (get_or w p 0) r [] p
    old = ⊎_elim (λ e. Mark.kept e) (λ e. Mark.cleared e.1) (set_cases w o.place 0 p)

    by : (t : Bool) → Mark (get_or (cond t (body (set w o.place 0)) (set w o.place 0)) p 0) (get_or w p 0) r (cond t ss []) p
    by true = then [] ss old (f (set w o.place 0))
    by false = old

module _ (σ : Valuation) (r : ℕ) where
  mutual
    unfolding marked marked_in spots spots_in

    pub mark_cases : (i : Instruction) (at : ℕ) (w : List ℕ) (p : ℕ) → Mark (get_or (marked i σ at r w) p 0) (get_or w p 0) r (spots i σ at) p
    mark_cases skip at w p = Mark.kept refl
    mark_cases (assign x e) at w p = by_mark (evaluate e σ) (spot at (assign x e)) w r p
    mark_cases (if_then c i) at w p =
        under_mark (evaluate c σ) (spot at (if_then c i)) (spots i σ (at + 1 + size_of_expression c)) w r p (λ u. marked i σ (at + 1 + size_of_expression c) r u)
        (λ u. mark_cases i (at + 1 + size_of_expression c) u p)
    mark_cases (block is) at w p = mark_cases_in is (at + 1) w p

    mark_cases_in : (is : Instructions) (at : ℕ) (w : List ℕ) (p : ℕ) → Mark (get_or (marked_in is σ at r w) p 0) (get_or w p 0) r (spots_in is σ at) p
    mark_cases_in no_branch at w p = Mark.kept refl
    mark_cases_in (more i is) at w p =
        then (spots i σ at) (spots_in is σ (at + size_of i)) (mark_cases i at w p) (mark_cases_in is (at + size_of i) (marked i σ at r w) p)

  -- ---- the length

  under_length : (v : Evaluation) (n : ℕ) (w body : List ℕ) → length w ≡ n → length body ≡ n → length (marked_under v w body) ≡ n
  unfolding marked_under
  under_length Unknown n w body e f = e
  under_length (Failed manner) n w body e f = e
  under_length (Value v) n w body e f = by (eq_z v (boolean true))
    where
      by : (t : Bool) → length (cond t body w) ≡ n
      by true = f
      by false = e

  mutual
    unfolding marked marked_in

    pub length_marked : (i : Instruction) (at : ℕ) (w : List ℕ) → length (marked i σ at r w) ≡ length w
    length_marked skip at w = refl
    length_marked (assign x e) at w = length-set w at (stamp_of (evaluate e σ) r)
    length_marked (if_then c i) at w =
        under_length (evaluate c σ) (length w) (set w at (stamp_of (evaluate c σ) r))
        (marked i σ (at + 1 + size_of_expression c) r (set w at (stamp_of (evaluate c σ) r)))
        (length-set w at (stamp_of (evaluate c σ) r))
        (length_marked i (at + 1 + size_of_expression c) (set w at (stamp_of (evaluate c σ) r)) ∙ length-set w at (stamp_of (evaluate c σ) r))
    length_marked (block is) at w = length_marked_in is (at + 1) w

    length_marked_in : (is : Instructions) (at : ℕ) (w : List ℕ) → length (marked_in is σ at r w) ≡ length w
    length_marked_in no_branch at w = refl
    length_marked_in (more i is) at w = length_marked_in is (at + size_of i) (marked i σ at r w) ∙ length_marked i at w

  -- ---- outside the instruction nothing changes

  under_keeps : (v : Evaluation) (z p : ℕ) (w body : List ℕ) → get_or w p 0 ≡ z → get_or body p 0 ≡ z → get_or (marked_under v w body) p 0 ≡ z
  unfolding marked_under
  under_keeps Unknown z p w body e f = e
  under_keeps (Failed manner) z p w body e f = e
  under_keeps (Value v) z p w body e f = by (eq_z v (boolean true))
    where
      by : (t : Bool) → get_or (cond t body w) p 0 ≡ z
      by true = f
      by false = e

  abbrev Outside : ℕ → ℕ → ℕ → Type 0
  Outside p from to = (p < from) ⊎ (to ≤ p)

  mutual
    unfolding marked marked_in size_of size_of_all

    pub marked_outside : (i : Instruction) (at : ℕ) (w : List ℕ) (p : ℕ) → (p < at) ⊎ (at + size_of i ≤ p) → get_or (marked i σ at r w) p 0 ≡ get_or w p 0
    marked_outside skip at w p o = refl
    marked_outside (assign x e) at w p o = get_or-set_other w at p (stamp_of (evaluate e σ) r) 0 (λ q. ⊎_elim (λ l. omega (arith, l, q)) (λ l. omega (arith, l, q)) o)
    marked_outside (if_then c i) at w p o =
        let u : List ℕ = set w at (stamp_of (evaluate c σ) r) in
        let here : get_or u p 0 ≡ get_or w p 0 = get_or-set_other w at p (stamp_of (evaluate c σ) r) 0 (λ q. ⊎_elim (λ l. omega (arith, l, q)) (λ l. omega (arith, l, q)) o) in
        under_keeps (evaluate c σ) (get_or w p 0) p u (marked i σ (at + 1 + size_of_expression c) r u) here
        (marked_outside i (at + 1 + size_of_expression c) u p (⊎_elim (λ l. inl (omega (arith, l))) (λ l. inr (omega (arith, l))) o) ∙ here)
    marked_outside (block is) at w p o = marked_outside_in is (at + 1) w p (⊎_elim (λ l. inl (omega (arith, l))) (λ l. inr (omega (arith, l))) o)

    marked_outside_in : (is : Instructions) (at : ℕ) (w : List ℕ) (p : ℕ) → (p < at) ⊎ (at + size_of_all is ≤ p) → get_or (marked_in is σ at r w) p 0 ≡ get_or w p 0
    marked_outside_in no_branch at w p o = refl
    marked_outside_in (more i is) at w p o =
        marked_outside_in is (at + size_of i) (marked i σ at r w) p (⊎_elim (λ l. inl (omega (arith, l))) (λ l. inr (omega (arith, l))) o)
        ∙ marked_outside i at w p (⊎_elim (λ l. inl l) (λ l. inr (omega (arith, l))) o)

  -- ---- what waits is marked

  by_marked : (v : Evaluation) (at : ℕ) (i : Instruction) (w : List ℕ) (q : Spot) → at < length w → Memᴰ q (spots_by v (spot at i)) → get_or (set w at (stamp_of v r)) q.place 0 ≡ r
  unfolding spots_by stamp_of
  by_marked Unknown at i w q l m = subst (λ s. get_or (set w at r) s.place 0 ≡ r) (sym (Memᴰ.eq_of_singleton m)) (get_or-set_same w at r 0 l)
  by_marked (Failed manner) at i w q l m = absurd (Memᴰ.not-nil m)
  by_marked (Value v) at i w q l m = absurd (Memᴰ.not-nil m)

  under_marked : (v : Evaluation) (at : ℕ) (i : Instruction) (ss : List Spot) (w body : List ℕ) (q : Spot) → at < length w
      → (Memᴰ q ss → get_or body q.place 0 ≡ r) → Memᴰ q (spots_under v (spot at i) ss)
      → get_or (marked_under v (set w at (stamp_of v r)) body) q.place 0 ≡ r
  unfolding spots_under marked_under stamp_of
  under_marked Unknown at i ss w body q l f m = subst (λ s. get_or (set w at r) s.place 0 ≡ r) (sym (Memᴰ.eq_of_singleton m)) (get_or-set_same w at r 0 l)
  under_marked (Failed manner) at i ss w body q l f m = absurd (Memᴰ.not-nil m)
  under_marked (Value v) at i ss w body q l f m = by (eq_z v (boolean true)) m
    where
      by : (t : Bool) → Memᴰ q (cond t ss []) → get_or (cond t body (set w at 0)) q.place 0 ≡ r
      by true m = f m
      by false m = absurd (Memᴰ.not-nil m)

  positive : (i : Instruction) → 0 < size_of i
  unfolding size_of
  positive skip = omega arith
  positive (assign x e) = omega arith
  positive (if_then c i) = omega arith
  positive (block is) = omega arith

  mutual
    unfolding marked marked_in spots spots_in size_of size_of_all

    pub marked_spot : (i : Instruction) (at : ℕ) (w : List ℕ) (q : Spot) → at + size_of i ≤ length w → Memᴰ q (spots i σ at) → get_or (marked i σ at r w) q.place 0 ≡ r
    marked_spot skip at w q l m = absurd (Memᴰ.not-nil m)
    marked_spot (assign x e) at w q l m = by_marked (evaluate e σ) at (assign x e) w q (omega arith) m
    marked_spot (if_then c i) at w q l m =
        let u : List ℕ = set w at (stamp_of (evaluate c σ) r) in
        under_marked (evaluate c σ) at (if_then c i) (spots i σ (at + 1 + size_of_expression c)) w (marked i σ (at + 1 + size_of_expression c) r u) q (omega arith)
        (λ n. marked_spot i (at + 1 + size_of_expression c) u q (omega (arith, length-set w at (stamp_of (evaluate c σ) r))) n) m
    marked_spot (block is) at w q l m = marked_spot_in is (at + 1) w q (omega arith) m

    marked_spot_in : (is : Instructions) (at : ℕ) (w : List ℕ) (q : Spot) → at + size_of_all is ≤ length w → Memᴰ q (spots_in is σ at) → get_or (marked_in is σ at r w) q.place 0 ≡ r
    marked_spot_in no_branch at w q l m = absurd (Memᴰ.not-nil m)
    marked_spot_in (more i is) at w q l m =
        ⊎_elim
        (λ n. marked_outside_in is (at + size_of i) (marked i σ at r w) q.place (inl (omega (arith, (spot_within σ i at q n).end, positive q.instruction)))
        ∙ marked_spot i at w q (omega arith) n)
        (λ n. marked_spot_in is (at + size_of i) (marked i σ at r w) q (omega (arith, length_marked i at w)) n)
        (Memᴰ.append_cases (spots i σ at) m)

  -- an assignment or if-then that was read holds the round or nothing
  stamp_cases : (v : Evaluation) → (stamp_of v r ≡ 0) ⊎ (stamp_of v r ≡ r)
  unfolding stamp_of
  stamp_cases Unknown = inr refl
  stamp_cases (Failed manner) = inl refl
  stamp_cases (Value v) = inl refl

  pub own_mark : (i : Instruction) (at : ℕ) (w : List ℕ) (ρ : Valuation) → Waits i ρ → at < length w
      → (get_or (marked i σ at r w) at 0 ≡ 0) ⊎ (get_or (marked i σ at r w) at 0 ≡ r)
  unfolding marked Waits
  own_mark skip at w ρ n l = absurd n
  own_mark (assign x e) at w ρ n l =
      ⊎_elim (λ z. inl (get_or-set_same w at (stamp_of (evaluate e σ) r) 0 l ∙ z)) (λ z. inr (get_or-set_same w at (stamp_of (evaluate e σ) r) 0 l ∙ z)) (stamp_cases (evaluate e σ))
  own_mark (if_then c i) at w ρ n l =
      let u : List ℕ = set w at (stamp_of (evaluate c σ) r) in
      let here : get_or u at 0 ≡ stamp_of (evaluate c σ) r = get_or-set_same w at (stamp_of (evaluate c σ) r) 0 l in
      let e : get_or (marked_under (evaluate c σ) u (marked i σ (at + 1 + size_of_expression c) r u)) at 0 ≡ stamp_of (evaluate c σ) r =
      under_keeps (evaluate c σ) (stamp_of (evaluate c σ) r) at u (marked i σ (at + 1 + size_of_expression c) r u) here
      (marked_outside i (at + 1 + size_of_expression c) u at (inl (omega arith)) ∙ here) in
      ⊎_elim (λ z. inl (e ∙ z)) (λ z. inr (e ∙ z)) (stamp_cases (evaluate c σ))
  own_mark (block is) at w ρ n l = absurd n

  -- ---- node by node

  pub marks_joined : (a b : Instructions) (at : ℕ) (w : List ℕ) → marked_in (joined a b) σ at r w ≡ marked_in b σ (at + size_of_all a) r (marked_in a σ at r w)
  unfolding joined marked_in size_of_all
  marks_joined no_branch b at w = ap (λ n. marked_in b σ n r w) (omega arith)
  marks_joined (more i a) b at w =
      marks_joined a b (at + size_of i) (marked i σ at r w) ∙ ap (λ n. marked_in b σ n r (marked_in a σ (at + size_of i) r (marked i σ at r w))) (omega arith)

  pub due_marks : (i : Instruction) (at : ℕ) (w : List ℕ)
      → marked i σ at r w ≡ marked_in (due_after i σ) σ (at + size_of i - size_of_all (due_after i σ)) r (mark_at_once i σ at r w)
  unfolding marked marked_in due_after chosen_branch mark_at_once size_of size_of_all marked_under
  due_marks skip at w = refl
  due_marks (assign x e) at w = refl
  due_marks (if_then c i) at w = by (evaluate c σ) (set w at (stamp_of (evaluate c σ) r))
    where
      chosen : (t : Bool) (u : List ℕ) → cond t (marked i σ (at + 1 + size_of_expression c) r u) u
          ≡ marked_in (cond t (more i no_branch) no_branch) σ (at + suc (size_of_expression c + size_of i) - size_of_all (cond t (more i no_branch) no_branch)) r u
      chosen true u = ap (λ n. marked i σ n r u) (omega arith)
      chosen false u = refl

      by : (v : Evaluation) (u : List ℕ) → marked_under v u (marked i σ (at + 1 + size_of_expression c) r u)
          ≡ marked_in (chosen_branch v i) σ (at + suc (size_of_expression c + size_of i) - size_of_all (chosen_branch v i)) r u
      by Unknown u = refl
      by (Failed manner) u = refl
      by (Value v) u = chosen (eq_z v (boolean true)) u
  due_marks (block is) at w = ap (λ n. marked_in is σ n r w) (omega arith)
