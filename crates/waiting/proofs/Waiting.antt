-- Over a larger valuation an instruction has the effects that it had and those of what waited in it, and what waits then is what
-- waits in what waited. An instruction that waits and none of whose variables became known has no effect, and waits.
use mathlib.Core.Path.{◌≡◌, refl, sym, ap, ap₂, ◌∙◌}
use mathlib.Core.Bool.{Bool, true, false, cond, ◌||◌, or-true}
use mathlib.Core.List.{List, [], ◌∷◌, ◌++◌}
use Prim.Native.Nat.{ℕ}
use borrow.Author.Tests.{eq-eqb}
use Rattle.evaluation.specs.declared.Evaluation.{Evaluation}
use Rattle.evaluation.specs.declared.Evaluation.TheVariants.{Unknown, Failed, Value}
use Rattle.evaluation.specs.Numbers.{eq_z, boolean}
use Rattle.evaluation.specs.Meaning.{operated, negated}
use Rattle.evaluation.specs.Laws.{Grows}
use Rattle.evaluation.specs.Laws.Grows.{stays}
use Rattle.model.specs.Trees.{Expression, Instruction, Instructions}
use Rattle.model.specs.Trees.Expression.{numeral, truth, variable, negation, binary, if_then_else}
use Rattle.model.specs.Trees.Instruction.{skip, assign, if_then, block}
use Rattle.model.specs.Trees.Instructions.{none as no_branch, more}
use Rattle.expressions.specs.Expressions.{Valuation, evaluation_of, evaluate}
use Rattle.interpreter.specs.Instructions.{Effect, any, assigned, under, effects, effects_of_all}
use Rattle.semantics.specs.Theorems.{Extends}
use Rattle.semantics.proofs.Growth.{growth}
use Rattle.semantics.proofs.Alike.{any_append}
use Rattle.waiting.specs.Waiting.{mentions, AgreeOn, waits_by, waits_under, waiting, waiting_in, effects_of_each, waiting_of_each, Waits, Untouched}

-- ---- an evaluation depends on the variables mentioned alone

or_first : (a b : Bool) → a ≡ true → (a || b) ≡ true
or_first a b e = rw e

or_second : (a b : Bool) → b ≡ true → (a || b) ≡ true
or_second a b e = rw e (or-true a)

pub depends : (e : Expression) (σ τ : Valuation) → AgreeOn e σ τ → evaluate e σ ≡ evaluate e τ
unfolding evaluate mentions
depends (numeral v) σ τ h = refl
depends (truth v) σ τ h = refl
depends (variable x) σ τ h = ap evaluation_of (h x (eq-eqb x x refl))
depends (negation a) σ τ h = ap negated (depends a σ τ h)
depends (binary op a b) σ τ h =
    ap₂ (operated op) (depends a σ τ (λ x m. h x (or_first (mentions a x) (mentions b x) m)))
    (depends b σ τ (λ x m. h x (or_second (mentions a x) (mentions b x) m)))
depends (if_then_else c a b) σ τ h =
    let p = depends c σ τ (λ x m. h x (or_first (mentions c x) _ m)) in
    let q = depends a σ τ (λ x m. h x (or_second (mentions c x) _ (or_first (mentions a x) (mentions b x) m))) in
    let r = depends b σ τ (λ x m. h x (or_second (mentions c x) _ (or_second (mentions a x) (mentions b x) m))) in
    rw (p, q, r)

-- ---- what waits and is untouched: no effect, and it waits

pub still_silent : (i : Instruction) (σ τ : Valuation) → Waits i σ → Untouched i σ τ → effects i τ ≡ []
unfolding effects assigned under Waits Untouched
still_silent skip σ τ w u = absurd w
still_silent (assign x e) σ τ w u = rw (← depends e σ τ u, w)
still_silent (if_then c i) σ τ w u = rw (← depends c σ τ u, w)
still_silent (block is) σ τ w u = absurd w

-- ---- lists

append_nil : {A : Type 0} (l : List A) → l ++ [] ≡ l
append_nil [] = refl
append_nil (a ∷ l) = ap (λ m. a ∷ m) (append_nil l)

append_assoc : {A : Type 0} (l m n : List A) → (l ++ m) ++ n ≡ l ++ (m ++ n)
append_assoc [] m n = refl
append_assoc (a ∷ l) m n = ap (λ k. a ∷ k) (append_assoc l m n)

each_append : (is js : List Instruction) (σ : Valuation) → effects_of_each (is ++ js) σ ≡ effects_of_each is σ ++ effects_of_each js σ
unfolding effects_of_each
each_append [] js σ = refl
each_append (i ∷ is) js σ = ap (λ m. effects i σ ++ m) (each_append is js σ) ∙ sym (append_assoc (effects i σ) (effects_of_each is σ) (effects_of_each js σ))

waiting_append : (is js : List Instruction) (σ : Valuation) → waiting_of_each (is ++ js) σ ≡ waiting_of_each is σ ++ waiting_of_each js σ
unfolding waiting_of_each
waiting_append [] js σ = refl
waiting_append (i ∷ is) js σ = ap (λ m. waiting i σ ++ m) (waiting_append is js σ) ∙ sym (append_assoc (waiting i σ) (waiting_of_each is σ) (waiting_of_each js σ))

-- ---- resuming: the effects over more that is known

module _ (σ τ : Valuation) where
  -- the effects then are those now and those of what waits now
  abbrev Resumes : Instruction → Type 0
  Resumes i = (p : Effect → Bool) → any p (effects i τ) ≡ any p (effects i σ ++ effects_of_each (waiting i σ) τ)

  assign_resumes : (x : ℕ) (e : Expression) (a b : Evaluation) → Grows a b → assigned x b ≡ effects (assign x e) τ
      → assigned x b ≡ assigned x a ++ effects_of_each (waits_by a (assign x e)) τ
  unfolding assigned waits_by effects_of_each
  assign_resumes x e Unknown b g q = q ∙ sym (append_nil (effects (assign x e) τ))
  assign_resumes x e (Failed manner) b stays q = refl
  assign_resumes x e (Value v) b stays q = refl

  under_resumes : (c : Expression) (i : Instruction) (a b : Evaluation) → Grows a b → under b (effects i τ) ≡ effects (if_then c i) τ → Resumes i
      → (p : Effect → Bool) → any p (under b (effects i τ)) ≡ any p (under a (effects i σ) ++ effects_of_each (waits_under a (if_then c i) (waiting i σ)) τ)
  unfolding under waits_under effects_of_each
  under_resumes c i Unknown b g q h p = ap (any p) (q ∙ sym (append_nil (effects (if_then c i) τ)))
  under_resumes c i (Failed manner) b stays q h p = refl
  under_resumes c i (Value v) b stays q h p = go (eq_z v (boolean true))
    where
      go : (t : Bool) → any p (cond t (effects i τ) []) ≡ any p (cond t (effects i σ) [] ++ effects_of_each (cond t (waiting i σ) []) τ)
      go true = h p
      go false = refl

  or_inner : (a b c d : Bool) → (a || b || (c || d)) ≡ (a || c || (b || d))
  or_inner true b c d = refl
  or_inner false true c d = sym (or-true c)
  or_inner false false c d = refl

  both_resume : (p : Effect → Bool) (es fs gs hs es' gs' : List Effect) → any p es' ≡ any p (es ++ fs) → any p gs' ≡ any p (gs ++ hs)
      → any p (es' ++ gs') ≡ any p ((es ++ gs) ++ (fs ++ hs))
  both_resume p es fs gs hs es' gs' h k =
      any_append p es' gs' ∙ ap₂ ◌||◌ (h ∙ any_append p es fs) (k ∙ any_append p gs hs)
      ∙ or_inner (any p es) (any p fs) (any p gs) (any p hs)
      ∙ sym (any_append p (es ++ gs) (fs ++ hs) ∙ ap₂ ◌||◌ (any_append p es gs) (any_append p fs hs))

module _ (σ τ : Valuation) (larger : Extends σ τ) where
  mutual
    unfolding effects effects_of_all waiting waiting_in effects_of_each any

    pub resumes : (i : Instruction) → (p : Effect → Bool) → any p (effects i τ) ≡ any p (effects i σ ++ effects_of_each (waiting i σ) τ)
    resumes skip p = refl
    resumes (assign x e) p = ap (any p) (assign_resumes σ τ x e (evaluate e σ) (evaluate e τ) (growth e σ τ larger) refl)
    resumes (if_then c i) p = under_resumes σ τ c i (evaluate c σ) (evaluate c τ) (growth c σ τ larger) refl (resumes i) p
    resumes (block is) p = all_resume is p

    all_resume : (is : Instructions) → (p : Effect → Bool) → any p (effects_of_all is τ) ≡ any p (effects_of_all is σ ++ effects_of_each (waiting_in is σ) τ)
    all_resume no_branch p = refl
    all_resume (more i is) p =
        both_resume σ τ p (effects i σ) (effects_of_each (waiting i σ) τ) (effects_of_all is σ) (effects_of_each (waiting_in is σ) τ)
        (effects i τ) (effects_of_all is τ) (resumes i p) (all_resume is p)
        ∙ ap (λ l. any p ((effects i σ ++ effects_of_all is σ) ++ l)) (sym (each_append (waiting i σ) (waiting_in is σ) τ))

  -- ---- what waits over more that is known

  assign_waits : (x : ℕ) (e : Expression) (a b : Evaluation) → Grows a b → waits_by b (assign x e) ≡ waiting (assign x e) τ
      → waits_by b (assign x e) ≡ waiting_of_each (waits_by a (assign x e)) τ
  unfolding waits_by waiting_of_each
  assign_waits x e Unknown b g q = q ∙ sym (append_nil (waiting (assign x e) τ))
  assign_waits x e (Failed manner) b stays q = refl
  assign_waits x e (Value v) b stays q = refl

  under_waits : (c : Expression) (i : Instruction) (a b : Evaluation) → Grows a b → waits_under b (if_then c i) (waiting i τ) ≡ waiting (if_then c i) τ
      → waiting i τ ≡ waiting_of_each (waiting i σ) τ
      → waits_under b (if_then c i) (waiting i τ) ≡ waiting_of_each (waits_under a (if_then c i) (waiting i σ)) τ
  unfolding waits_under waiting_of_each
  under_waits c i Unknown b g q h = q ∙ sym (append_nil (waiting (if_then c i) τ))
  under_waits c i (Failed manner) b stays q h = refl
  under_waits c i (Value v) b stays q h = go (eq_z v (boolean true))
    where
      go : (t : Bool) → cond t (waiting i τ) [] ≡ waiting_of_each (cond t (waiting i σ) []) τ
      go true = h
      go false = refl

  nothing : [] ≡ waiting_of_each [] τ
  unfolding waiting_of_each
  nothing = refl

  mutual
    unfolding waiting waiting_in

    pub waits_on : (i : Instruction) → waiting i τ ≡ waiting_of_each (waiting i σ) τ
    waits_on skip = nothing
    waits_on (assign x e) = assign_waits x e (evaluate e σ) (evaluate e τ) (growth e σ τ larger) refl
    waits_on (if_then c i) = under_waits c i (evaluate c σ) (evaluate c τ) (growth c σ τ larger) refl (waits_on i)
    waits_on (block is) = all_wait_on is

    all_wait_on : (is : Instructions) → waiting_in is τ ≡ waiting_of_each (waiting_in is σ) τ
    all_wait_on no_branch = nothing
    all_wait_on (more i is) = ap₂ ◌++◌ (waits_on i) (all_wait_on is) ∙ sym (waiting_append (waiting i σ) (waiting_in is σ) τ)
