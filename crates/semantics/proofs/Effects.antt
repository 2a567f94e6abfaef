-- What a list of effects without a fault says of its elements, that a fault stays a fault as more becomes known, and that
-- instructions give values to the variables in their scope alone.
use mathlib.Core.Path.{◌≡◌, refl, sym, ap, ◌∙◌, subst}
use mathlib.Core.Logic.{⊎_elim}
use mathlib.Core.Bool.{Bool, true, false, true≢false, false≢true, cond, not, ◌||◌}
use mathlib.Core.List.Memᴰ
use mathlib.Core.List.{List, [], ◌∷◌, Memᴰ}
use mathlib.Core.Option.{Option, some, none, some-ne-none}
use Prim.Native.Nat.{ℕ, ◌≤◌, ◌<◌}
use borrow.Author.Tests.{eqb-true, eq-eqb, not-false}
use lib.Dec.{eqb}
use lib.IntN.{ℤ}
use Rattle.evaluation.specs.declared.Evaluation.{Evaluation}
use Rattle.evaluation.specs.declared.Evaluation.TheVariants.{Unknown, Failed, Value}
use Rattle.evaluation.specs.declared.Manner.{Manner}
use Rattle.evaluation.specs.declared.Manner.TheVariants.{ZeroDivisor, TooLarge}
use Rattle.evaluation.specs.Numbers.{eq_z, boolean}
use Rattle.evaluation.proofs.Laws.{eq_z_true}
use Rattle.model.specs.Trees.{Instruction, Instructions, Variable}
use Rattle.model.specs.Trees.Instruction.{skip, assign, if_then, block}
use Rattle.model.specs.Trees.Instructions.{none as no_branch, more}
use Rattle.model.specs.Walk.{Scope}
use Rattle.model.specs.WellFormed.{Scoped, AllScoped}
use Rattle.expressions.specs.Expressions.{Valuation, evaluate}
use Rattle.interpreter.specs.Instructions.{Effect, assigned, under, effects, effects_of_all, any, is_failure, is_outside, differs, given_by, conflicts_with, fault_of, given_to, first_of}
use Rattle.interpreter.specs.Instructions.Effect.{fails, gives}
use Rattle.interpreter.specs.declared.Fault.TheVariants.{Failure as failure, Outside as outside, Conflict as conflict}
use Rattle.semantics.specs.Propagation.{is_new, is_known}
use Rattle.semantics.specs.Theorems.{Extends}
use Rattle.semantics.proofs.Growth.{Includes}

-- ---- the test `any` and membership

or_left : (a b : Bool) → (a || b) ≡ false → a ≡ false
or_left true b e = e
or_left false b e = refl

or_right : (a b : Bool) → (a || b) ≡ false → b ≡ false
or_right true b e = absurd (true≢false e)
or_right false b e = e

or_both : (a b : Bool) → a ≡ false → b ≡ false → (a || b) ≡ false
or_both a b p q = rw (p, q)

module _ {A : Type 0} (p : A → Bool) where
  pub any_false : (l : List A) → ((a : A) → Memᴰ a l → p a ≡ false) → any p l ≡ false
  unfolding any
  any_false [] h = refl
  any_false (a ∷ l) h = or_both (p a) (any p l) (h a (Memᴰ.head refl)) (any_false l (λ b m. h b (Memᴰ.tail m)))

  false_in : (a : A) (l : List A) → any p l ≡ false → Memᴰ a l → p a ≡ false
  unfolding any
  false_in a l e (Memᴰ.head {x} {xs} q) = ap p q ∙ or_left (p x) (any p xs) e
  false_in a l e (Memᴰ.tail {x} {xs} m) = false_in a xs (or_right (p x) (any p xs) e) m

  pub false_at : (l : List A) → any p l ≡ false → (a : A) → Memᴰ a l → p a ≡ false
  false_at l e a m = false_in a l e m

  pub witness : (l : List A) → any p l ≡ true → (a : A) × Memᴰ a l × (p a ≡ true)
  unfolding any
  witness [] e = absurd (false≢true e)
  witness (a ∷ l) e = go (p a) refl e (witness l)
    where
      go : (t : Bool) → p a ≡ t → (t || any p l) ≡ true → (any p l ≡ true → (b : A) × Memᴰ b l × (p b ≡ true))
          → (b : A) × Memᴰ b (a ∷ l) × (p b ≡ true)
      go true q f below = (a, Memᴰ.head refl, q)
      go false q f below = let w = below f in (w.0, Memᴰ.tail w.1, w.2)

-- ---- no fault

pub record Faultless (vs : List Variable) (known : Valuation) (es : List Effect) : Type 0 where
  pub failure : (m : Manner) → any (is_failure m) es ≡ false
  pub outside : any (is_outside vs) es ≡ false
  pub conflict : any (conflicts_with known es) es ≡ false

-- none of the tests found one
none_found : {A : Type 0} (a : A) (t : Bool) (o : Option A) → cond t (some a) o ≡ none → (t ≡ false) × (o ≡ none)
none_found a true o e = absurd (some-ne-none a e)
none_found a false o e = (refl, e)

module _ (vs : List Variable) where
  pub faultless : (known : Valuation) (es : List Effect) → fault_of vs known es ≡ none → Faultless vs known es
  unfolding fault_of
  faultless known es e =
      let z = none_found (failure ZeroDivisor) (any (is_failure ZeroDivisor) es) _ e in
      let l = none_found (failure TooLarge) (any (is_failure TooLarge) es) _ z.1 in
      let o = none_found outside (any (is_outside vs) es) _ l.1 in
      let c = none_found conflict (any (conflicts_with known es) es) none o.1 in
      record { failure = failed z.0 l.0; outside = o.0; conflict = c.0 }
    where
      failed : any (is_failure ZeroDivisor) es ≡ false → any (is_failure TooLarge) es ≡ false → (m : Manner) → any (is_failure m) es ≡ false
      failed z l ZeroDivisor = z
      failed z l TooLarge = l

  pub no_fault_lem : (known : Valuation) (es : List Effect) → Faultless vs known es → fault_of vs known es ≡ none
  unfolding fault_of
  no_fault_lem known es f = rw (f.failure ZeroDivisor, f.failure TooLarge, f.outside, f.conflict)

  -- a value given is the one known
  pub given_known : (σ : Valuation) (es : List Effect) → fault_of vs σ es ≡ none → (x : ℕ) (v w : ℤ) → Memᴰ (gives x v) es
      → σ x ≡ some w → v ≡ w
  unfolding conflicts_with differs
  given_known σ es e x v w m k =
      let differ : not (eq_z v w) ≡ false =
      subst (λ o. differs v o ≡ false) k (or_left _ _ (false_at (conflicts_with σ es) es (faultless σ es e).conflict (gives x v) m)) in
      eq_z_true v w (not-false (eq_z v w) differ)

  -- where nothing is new either, every value given is known
  pub given_at_rest : (σ : Valuation) (es : List Effect) → fault_of vs σ es ≡ none → any (is_new σ) es ≡ false
      → (x : ℕ) (v : ℤ) → Memᴰ (gives x v) es → σ x ≡ some v
  unfolding is_new is_known
  given_at_rest σ es e r x v m = go (σ x) refl (false_at (is_new σ) es r (gives x v) m)
    where
      go : (o : Option ℤ) → σ x ≡ o → not (is_known o) ≡ false → σ x ≡ some v
      go none k n = absurd (true≢false n)
      go (some w) k n = k ∙ ap some (sym (given_known σ es e x v w m k))

  -- ---- a fault stays a fault: no fault where more is known, no fault where less is

  conflict_below : (σ τ : Valuation) (es fs : List Effect) → Extends σ τ → Includes es fs → (e : Effect) → conflicts_with τ fs e ≡ false
      → conflicts_with σ es e ≡ false
  unfolding conflicts_with differs
  conflict_below σ τ es fs h k (fails manner) c = refl
  conflict_below σ τ es fs h k (gives x v) c =
      or_both _ _ (known (σ x) refl)
      (any_false (λ e. differs v (given_by x e)) es
      (λ e m. false_at (λ e. differs v (given_by x e)) fs (or_right (differs v (τ x)) _ c) e (k e m)))
    where
      known : (o : Option ℤ) → σ x ≡ o → differs v o ≡ false
      known none q = refl
      known (some w) q = subst (λ o. differs v o ≡ false) (h x w q) (or_left (differs v (τ x)) _ c)

  pub no_fault_below : (σ τ : Valuation) (es fs : List Effect) → Extends σ τ → Includes es fs → fault_of vs τ fs ≡ none
      → fault_of vs σ es ≡ none
  no_fault_below σ τ es fs h k e =
      let f = faultless τ fs e in
      no_fault_lem σ es
      (record {
        failure = λ n. any_false (is_failure n) es (λ a m. false_at (is_failure n) fs (f.failure n) a (k a m));
        outside = any_false (is_outside vs) es (λ a m. false_at (is_outside vs) fs f.outside a (k a m));
        conflict =
            any_false (conflicts_with σ es) es
            (λ a m. conflict_below σ τ es fs h k a (false_at (conflicts_with τ fs) fs f.conflict a (k a m)));
      })

-- ---- the value given to a variable

pub given_member : (x : ℕ) (es : List Effect) (v : ℤ) → given_to x es ≡ some v → Memᴰ (gives x v) es
unfolding given_to first_of given_by
given_member x [] v e = let z : true ≡ false = cc in absurd (true≢false z)
given_member x (fails manner ∷ es) v e = Memᴰ.tail (given_member x es v e)
given_member x (gives y w ∷ es) v e = go (eqb x y) refl e (given_member x es v)
  where
    go : (t : Bool) → eqb x y ≡ t → first_of (cond t (some w) none) (given_to x es) ≡ some v
        → (given_to x es ≡ some v → Memᴰ (gives x v) es) → Memᴰ (gives x v) (gives y w ∷ es)
    go true q f below = let p : gives x v ≡ gives y w = cc (eqb-true x y q) in Memᴰ.head p
    go false q f below = Memᴰ.tail (below f)

pub member_given : (x : ℕ) (v : ℤ) (es : List Effect) → Memᴰ (gives x v) es → (w : ℤ) × (given_to x es ≡ some w)
unfolding given_to first_of given_by
member_given x v es (Memᴰ.head {x = e} {xs} q) = (v, rw (← q, eq-eqb x x refl))
member_given x v es (Memᴰ.tail {x = e} {xs} m) = go (given_by x e) (member_given x v xs m)
  where
    go : (o : Option ℤ) → (w : ℤ) × (given_to x xs ≡ some w) → (w : ℤ) × (first_of o (given_to x xs) ≡ some w)
    go none g = g
    go (some w) g = (w, refl)

-- ---- targets

assigned_target : (y : ℕ) (a : Evaluation) (x : ℕ) (v : ℤ) → Memᴰ (gives x v) (assigned y a) → x ≡ y
unfolding assigned
assigned_target y Unknown x v m = absurd (Memᴰ.not-nil m)
assigned_target y (Failed manner) x v m = let q = Memᴰ.eq_of_singleton m in cc q
assigned_target y (Value w) x v m = let q = Memᴰ.eq_of_singleton m in cc q

under_target : (c : Evaluation) (es : List Effect) (x : ℕ) (v : ℤ) → Memᴰ (gives x v) (under c es) → Memᴰ (gives x v) es
unfolding under
under_target Unknown es x v m = absurd (Memᴰ.not-nil m)
under_target (Failed manner) es x v m = let z : true ≡ false = cc (Memᴰ.eq_of_singleton m) in absurd (true≢false z)
under_target (Value w) es x v m = go (eq_z w (boolean true)) m
  where
    go : (t : Bool) → Memᴰ (gives x v) (cond t es []) → Memᴰ (gives x v) es
    go true n = n
    go false n = absurd (Memᴰ.not-nil n)

mutual
  unfolding effects effects_of_all Scoped AllScoped

  pub target : (i : Instruction) (s : Scope) (σ : Valuation) → Scoped i s → (x : ℕ) (v : ℤ) → Memᴰ (gives x v) (effects i σ)
      → (s.from ≤ x) × (x < s.past)
  target skip s σ h x v m = absurd (Memᴰ.not-nil m)
  target (assign y e) s σ h x v m = rw (assigned_target y (evaluate e σ) x v m) (h.0, h.1)
  target (if_then c i) s σ h x v m = target i s σ h.1 x v (under_target (evaluate c σ) (effects i σ) x v m)
  target (block is) s σ h x v m = target_of_all is s σ h x v m

  target_of_all : (is : Instructions) (s : Scope) (σ : Valuation) → AllScoped is s → (x : ℕ) (v : ℤ)
      → Memᴰ (gives x v) (effects_of_all is σ) → (s.from ≤ x) × (x < s.past)
  target_of_all no_branch s σ h x v m = absurd (Memᴰ.not-nil m)
  target_of_all (more i is) s σ h x v m =
      ⊎_elim (λ n. target i s σ h.0 x v n) (λ n. target_of_all is s σ h.1 x v n) (Memᴰ.append_cases (effects i σ) m)
