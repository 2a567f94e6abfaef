-- One node of an instruction: what `assignment`, `test` and `step` ask and give.
use mathlib.Core.Path.{◌≡◌, refl, sym, ap, subst, ◌∙◌}
use mathlib.Core.Logic.{◌⊎◌, inl, inr, ⊎_elim}
use mathlib.Core.Bool.{true, false, true≢false}
use mathlib.Core.List.{List, [], ◌∷◌, ◌++◌, append-nil}
use Prim.Native.Nat.{ℕ, suc, ◌+◌, ◌-◌, ◌<◌, ◌^◌}
use native.Mathlib.Omega.{arith}
use lib.IntN.{ℤ, pos, nat_abs}
use lib.Signed.{mag}
use lib.ListN.{length, get_or}
use mir.Syntax.{w32}
use mir.Val.{to_z, of_z}
use types.Run.{OneOf, miss}
use denote.Enum.Declared.{tag_of}
use Rattle.evaluation.specs.declared.Evaluation.{Evaluation}
use Rattle.evaluation.specs.declared.Manner.{Manner}
use Rattle.evaluation.specs.declared.Evaluation.TheVariants.{Unknown, Failed, Value}
use Rattle.evaluation.specs.Numbers.{eq_z, boolean}
use Rattle.evaluation.specs.Meaning.{is_true}
use Rattle.evaluation.specs.contracts.Evaluation.{the_type}
use Rattle.evaluation.proofs.Signed.{read_back}
use Rattle.model.specs.Trees.{Expression, Instruction, count}
use Rattle.model.specs.Trees.Instruction.{skip, assign, if_then, block}
use Rattle.model.specs.Standing.{InstructionAt, size_of_expression, size_of, size_of_all}
use Rattle.expressions.specs.declared.Evaluated.{Evaluated}
use Rattle.expressions.specs.Expressions.{Valuation, evaluate}
use Rattle.expressions.specs.Cells.{ExpressionStands}
use Rattle.expressions.proofs.Evaluating.{Told}
use Rattle.interpreter.specs.Instructions.{assigned, under}
use Rattle.interpreter.specs.Cells.{NextPlaces, AssignmentStands, TestStands, TargetsBelow}
use Rattle.interpreter.specs.Gathering.{gather, gather_all, at_once, due_after, chosen_branch}
use Rattle.interpreter.proofs.Due.{instruction_within}
use Rattle.waiting.specs.News.{news_of}
use Rattle.waiting.specs.Marks.{mark_at_once, stamp_of}
use Rattle.reading.specs.Readings.{found_by, Held, Walked, noted, giving, walked, walked_by}

-- what is no value is unknown or failed
abbrev all_but_value : List ℕ
all_but_value = 0 ∷ 1 ∷ []

no_value : (v : Evaluation) → OneOf all_but_value (tag_of the_type v) → (v ≡ Unknown) ⊎ ((m : Manner) × (v ≡ Failed m))
no_value Unknown h = inl refl
no_value (Failed manner) h = inr (manner, refl)
no_value (Value v) h = absurd (miss all_but_value 2 tt h)

-- ---- what an assignment and an if-then ask

module _ {ks : List ℕ} {ps : List ℤ} {variables given at : ℕ} (s : AssignmentStands ks ps variables given at) where
  pub assigned_stands : ExpressionStands ks ps (at + 1)
  unfolding InstructionAt
  assigned_stands = record { expression = s.expression; stands = s.stands.1 }

  pub target_within : {x : ℕ} → mag (get_or ps at (pos 0)) < 2 ^ 31 → x ≡ nat_abs (to_z w32 (of_z w32 (get_or ps at (pos 0))))
      → (x < given) × (x < variables)
  unfolding InstructionAt
  target_within {x} f p =
      let q : x ≡ s.target = p ∙ ap nat_abs (read_back (get_or ps at (pos 0)) f ∙ s.stands.0.parameter) in
      (omega (arith, s.target_given), omega (arith, s.target_variable))

module _ {ks : List ℕ} {ps : List ℤ} {nexts : List ℕ} {at : ℕ} (s : TestStands ks ps nexts at) where
  pub condition_stands : ExpressionStands ks ps (at + 1)
  unfolding InstructionAt
  condition_stands = record { expression = s.condition; stands = s.stands.1 }

  pub body_within : (σ : Valuation) {r : Evaluated} → Told ks ps σ r (at + 1) → r.next.at < length nexts
  unfolding InstructionAt
  body_within σ {r} told =
      let m : r.next.at ≡ at + 1 + size_of_expression s.condition = ap (λ r. r.next.at) (told s.condition s.stands.1) in
      omega (arith, instruction_within ks ps s.body _ s.stands.2, s.places.long)

module _ (ks : List ℕ) (ps : List ℤ) where
  -- ---- what they give

  module _ (σ : Valuation) (lows highs : List ℤ) (at round : ℕ) (start : Held) {r : Evaluated} (told : Told ks ps σ r (at + 1)) {now : Held} (noting : now ≡ noted r.evaluation at round start) where
    -- one node done
    abbrev Walks : Held → ℕ → ℕ → Instruction → Type 0
    Walks after next due i = walked after next due ≡ walked_by lows highs σ at round i start

    module _ (x : ℕ) (e : Expression) (h : InstructionAt ks ps (assign x e) at) where
      place : r.next.at ≡ at + suc (size_of_expression e) - 0
      unfolding InstructionAt
      place = ap (λ r. r.next.at) (told e h.1) ∙ omega arith

      value : {v : Evaluation} → r.evaluation ≡ v → evaluate e σ ≡ v
      unfolding InstructionAt
      value p = sym (ap (λ r. r.evaluation) (told e h.1)) ∙ p

    assigned_unknown : r.evaluation ≡ Unknown → (x : ℕ) (e : Expression) → InstructionAt ks ps (assign x e) at → Walks now r.next.at 0 (assign x e)
    unfolding walked_by at_once due_after size_of size_of_all count gather_all assigned news_of mark_at_once stamp_of found_by
    assigned_unknown p x e h = rw (noting, p, value x e h p, place x e h, append-nil start.news)

    assigned_failed : {m : Manner} → r.evaluation ≡ Failed m → (x : ℕ) (e : Expression) → InstructionAt ks ps (assign x e) at → Walks now r.next.at 0 (assign x e)
    unfolding walked_by at_once due_after size_of size_of_all count gather_all gather assigned news_of mark_at_once stamp_of found_by
    assigned_failed p x e h = rw (noting, p, value x e h p, place x e h, append-nil start.news)

    pub assigned_nothing : OneOf all_but_value (tag_of the_type r.evaluation) → (x : ℕ) (e : Expression) → InstructionAt ks ps (assign x e) at → Walks now r.next.at 0 (assign x e)
    assigned_nothing k x e h = ⊎_elim (λ p. assigned_unknown p x e h) (λ p. assigned_failed p.1 x e h) (no_value r.evaluation k)

    pub assigned_value : {v : ℤ} → mag v < 2 ^ 31 → r.evaluation ≡ Value v → mag (get_or ps at (pos 0)) < 2 ^ 31
        → {y : ℕ} → y ≡ nat_abs (to_z w32 (of_z w32 (get_or ps at (pos 0)))) → {after : Held} → after ≡ giving lows highs y (to_z w32 (of_z w32 v)) now
        → (x : ℕ) (e : Expression) → InstructionAt ks ps (assign x e) at → Walks after r.next.at 0 (assign x e)
    unfolding InstructionAt walked_by at_once due_after size_of size_of_all count gather_all assigned mark_at_once stamp_of found_by
    assigned_value {v} f p g {y} k t x e h =
        let q : y ≡ x = k ∙ ap nat_abs (read_back (get_or ps at (pos 0)) g ∙ h.0.parameter) in
        rw (t, noting, q, read_back v f, p, value x e h p, place x e h)

    module _ (c : Expression) (i : Instruction) (h : InstructionAt ks ps (if_then c i) at) where
      body_place : r.next.at ≡ at + 1 + size_of_expression c
      unfolding InstructionAt
      body_place = ap (λ r. r.next.at) (told c h.1)

      body_due : r.next.at ≡ at + suc (size_of_expression c + size_of i) - (size_of i + 0)
      body_due = body_place ∙ omega arith

      condition : {v : Evaluation} → r.evaluation ≡ v → evaluate c σ ≡ v
      unfolding InstructionAt
      condition p = sym (ap (λ r. r.evaluation) (told c h.1)) ∙ p

      place_past : (nexts : List ℕ) → NextPlaces ks ps nexts → get_or nexts r.next.at 0 ≡ at + suc (size_of_expression c + size_of i) - 0
      unfolding InstructionAt
      place_past nexts places = places.instruction i r.next.at (subst (λ n. InstructionAt ks ps i n) (sym body_place) h.2) ∙ omega (arith, body_place)

    tested_value : {v : ℤ} → r.evaluation ≡ Value v → eq_z v (boolean true) ≡ true
        → (c : Expression) (i : Instruction) → InstructionAt ks ps (if_then c i) at → Walks now r.next.at 1 (if_then c i)
    unfolding walked_by at_once due_after chosen_branch size_of size_of_all count gather_all under news_of mark_at_once stamp_of found_by
    tested_value p t c i h = rw (noting, p, condition c i h p, t, body_due c i h, append-nil start.news)

    pub tested_true : is_true r.evaluation ≡ true → (c : Expression) (i : Instruction) → InstructionAt ks ps (if_then c i) at → Walks now r.next.at 1 (if_then c i)
    unfolding is_true
    tested_true = by r.evaluation refl
      where
        by : (v : Evaluation) → r.evaluation ≡ v → is_true v ≡ true → (c : Expression) (i : Instruction) → InstructionAt ks ps (if_then c i) at → Walks now r.next.at 1 (if_then c i)
        by Unknown p t = absurd (true≢false (sym t))
        by (Failed manner) p t = absurd (true≢false (sym t))
        by (Value v) p t = tested_value p t

    module _ (nexts : List ℕ) (places : NextPlaces ks ps nexts) where
      tested_unknown : r.evaluation ≡ Unknown → (c : Expression) (i : Instruction) → InstructionAt ks ps (if_then c i) at → Walks now (get_or nexts r.next.at 0) 0 (if_then c i)
      unfolding walked_by at_once due_after chosen_branch size_of size_of_all count gather_all under news_of mark_at_once stamp_of found_by
      tested_unknown p c i h = rw (noting, p, condition c i h p, place_past c i h nexts places, append-nil start.news)

      tested_failed : {m : Manner} → r.evaluation ≡ Failed m → (c : Expression) (i : Instruction) → InstructionAt ks ps (if_then c i) at → Walks now (get_or nexts r.next.at 0) 0 (if_then c i)
      unfolding walked_by at_once due_after chosen_branch size_of size_of_all count gather_all gather under news_of mark_at_once stamp_of found_by
      tested_failed p c i h = rw (noting, p, condition c i h p, place_past c i h nexts places, append-nil start.news)

      tested_false : {v : ℤ} → r.evaluation ≡ Value v → eq_z v (boolean true) ≡ false
          → (c : Expression) (i : Instruction) → InstructionAt ks ps (if_then c i) at → Walks now (get_or nexts r.next.at 0) 0 (if_then c i)
      unfolding walked_by at_once due_after chosen_branch size_of size_of_all count gather_all under news_of mark_at_once stamp_of found_by
      tested_false p t c i h = rw (noting, p, condition c i h p, t, place_past c i h nexts places, append-nil start.news)

      pub tested_other : is_true r.evaluation ≡ false → (c : Expression) (i : Instruction) → InstructionAt ks ps (if_then c i) at → Walks now (get_or nexts r.next.at 0) 0 (if_then c i)
      unfolding is_true
      tested_other = by r.evaluation refl
        where
          by : (v : Evaluation) → r.evaluation ≡ v → is_true v ≡ false → (c : Expression) (i : Instruction) → InstructionAt ks ps (if_then c i) at → Walks now (get_or nexts r.next.at 0) 0 (if_then c i)
          by Unknown p t = tested_unknown p
          by (Failed manner) p t = tested_failed p
          by (Value v) p t = tested_false p t

  -- ---- any instruction, by its kind

  module _ (at : ℕ) where
    pub assignment_stands : {variables given : ℕ} (i : Instruction) → InstructionAt ks ps i at → TargetsBelow i variables → TargetsBelow i given
        → get_or ks at 0 ≡ 17 → AssignmentStands ks ps variables given at
    unfolding InstructionAt TargetsBelow
    assignment_stands skip h v g k = absurd (omega (arith, h.kind))
    assignment_stands (assign x e) h v g k = record { target = x; expression = e; stands = h; target_variable = v; target_given = g }
    assignment_stands (if_then c i) h v g k = absurd (omega (arith, h.0.kind))
    assignment_stands (block is) h v g k = absurd (omega (arith, h.0.kind))

    pub test_stands : (nexts : List ℕ) (i : Instruction) → InstructionAt ks ps i at → NextPlaces ks ps nexts → get_or ks at 0 ≡ 18 → TestStands ks ps nexts at
    unfolding InstructionAt
    test_stands nexts skip h places k = absurd (omega (arith, h.kind))
    test_stands nexts (assign x e) h places k = absurd (omega (arith, h.0.kind))
    test_stands nexts (if_then c i) h places k = record { condition = c; body = i; stands = h; places = places }
    test_stands nexts (block is) h places k = absurd (omega (arith, h.0.kind))

  module _ (σ : Valuation) (at round : ℕ) (lows highs : List ℤ) (start : Held) where
    module _ {w : Walked} where
      pub of_assignment : get_or ks at 0 ≡ 17 → ((x : ℕ) (e : Expression) → InstructionAt ks ps (assign x e) at → w ≡ walked_by lows highs σ at round (assign x e) start)
          → (i : Instruction) → InstructionAt ks ps i at → w ≡ walked_by lows highs σ at round i start
      unfolding InstructionAt
      of_assignment k t skip h = absurd (omega (arith, h.kind))
      of_assignment k t (assign x e) h = t x e h
      of_assignment k t (if_then c i) h = absurd (omega (arith, h.0.kind))
      of_assignment k t (block is) h = absurd (omega (arith, h.0.kind))

      pub of_test : get_or ks at 0 ≡ 18 → ((c : Expression) (i : Instruction) → InstructionAt ks ps (if_then c i) at → w ≡ walked_by lows highs σ at round (if_then c i) start)
          → (i : Instruction) → InstructionAt ks ps i at → w ≡ walked_by lows highs σ at round i start
      unfolding InstructionAt
      of_test k t skip h = absurd (omega (arith, h.kind))
      of_test k t (assign x e) h = absurd (omega (arith, h.0.kind))
      of_test k t (if_then c i) h = t c i h
      of_test k t (block is) h = absurd (omega (arith, h.0.kind))

    quiet : start ≡ record { gathered = start.gathered; news = start.news ++ []; waits = start.waits }
    quiet = λ j. record { gathered = start.gathered; news = sym (append-nil start.news) j; waits = start.waits }

    pub of_count : (get_or ks at 0 ≡ 17 → ⊥) → (get_or ks at 0 ≡ 18 → ⊥) → mag (get_or ps at (pos 0)) < 2 ^ 31
        → {n : ℕ} → n ≡ nat_abs (to_z w32 (of_z w32 (get_or ps at (pos 0))))
        → (i : Instruction) → InstructionAt ks ps i at → walked start (at + 1) n ≡ walked_by lows highs σ at round i start
    unfolding InstructionAt walked_by at_once due_after size_of size_of_all count gather_all news_of mark_at_once
    of_count j k f {n} p skip h =
        let q : n ≡ 0 = p ∙ ap nat_abs (read_back (get_or ps at (pos 0)) f ∙ h.parameter) in
        let m : at + 1 ≡ at + 1 - 0 = omega arith in
        λ j. walked (quiet j) (m j) (q j)
    of_count j k f p (assign x e) h = absurd (j h.0.kind)
    of_count j k f p (if_then c i) h = absurd (k h.0.kind)
    of_count j k f {n} p (block is) h =
        let q : n ≡ count is = p ∙ ap nat_abs (read_back (get_or ps at (pos 0)) f ∙ h.0.parameter) in
        let m : at + 1 ≡ at + suc (size_of_all is) - size_of_all is = omega arith in
        λ j. walked (quiet j) (m j) (q j)
