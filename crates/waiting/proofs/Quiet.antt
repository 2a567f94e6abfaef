-- Effects whose values are all known, within their ends, bring no fault and nothing new beside others.
use mathlib.Core.Path.{◌≡◌, refl, sym, ap, subst, fun_ext, ◌∙◌}
use mathlib.Core.Bool.{Bool, true, false, true≢false, false≢true, cond, not, ◌||◌, or-true}
use mathlib.Core.List.{List, [], ◌∷◌, ◌++◌, Memᴰ}
use mathlib.Core.Option.{Option, some, none}
use Prim.Native.Nat.{ℕ}
use borrow.Author.Tests.{eqb-true, eq-eqb, not-false}
use lib.Dec.{eqb}
use lib.IntN.{ℤ}
use Rattle.evaluation.specs.declared.Manner.{Manner}
use Rattle.evaluation.specs.declared.Manner.TheVariants.{ZeroDivisor, TooLarge}
use Rattle.evaluation.specs.Numbers.{eq_z}
use Rattle.evaluation.proofs.Laws.{eq_z_refl, eq_z_true, eq_z_comm}
use Rattle.model.specs.Trees.{Variable, Instruction}
use Rattle.expressions.specs.Expressions.{Valuation}
use Rattle.interpreter.specs.Instructions.{Effect, any, effects, is_failure, is_outside, differs, given_by, conflicts_with, fault_of, first_of, given_to}
use Rattle.interpreter.specs.Instructions.Effect.{fails, gives}
use Rattle.semantics.specs.Propagation.{is_known, is_new, extended}
use Rattle.semantics.proofs.Effects.{any_false, false_at, witness, faultless, given_member, member_given, given_known}
use Rattle.semantics.proofs.Alike.{Alike, any_append, any_mono, faults_alike, given_alike}
use Rattle.waiting.specs.Waiting.{waiting, effects_of_each}
use Rattle.waiting.proofs.Waiting.{resumes}

-- nothing failed or lies outside its ends, and every value given is the one known
pub record Known (vs : List Variable) (τ : Valuation) (es : List Effect) : Type 0 where
  pub failure : (m : Manner) → any (is_failure m) es ≡ false
  pub outside : any (is_outside vs) es ≡ false
  pub values : (x : ℕ) (v : ℤ) → Memᴰ (gives x v) es → τ x ≡ some v

-- both are true or neither
pub both_ways : (a b : Bool) → (a ≡ true → b ≡ true) → (b ≡ true → a ≡ true) → a ≡ b
both_ways true b f g = sym (f refl)
both_ways false true f g = g refl
both_ways false false f g = refl

or_cases : {A : Type 0} (a b : Bool) → (a || b) ≡ true → (a ≡ true → A) → (b ≡ true → A) → A
or_cases true b h f g = f refl
or_cases false b h f g = g h

differs_own : (v : ℤ) → differs v (some v) ≡ false
unfolding differs
differs_own v = rw (eq_z_refl v)

differs_turned : (v w : ℤ) → differs v (some w) ≡ true → differs w (some v) ≡ true
unfolding differs
differs_turned v w h = ap not (eq_z_comm w v) ∙ h

pub any_true : {A : Type 0} (p : A → Bool) (l : List A) (a : A) → Memᴰ a l → p a ≡ true → any p l ≡ true
any_true p l a m h = go (any p l) refl
  where
    go : (t : Bool) → any p l ≡ t → t ≡ true
    go true e = refl
    go false e = absurd (true≢false (sym h ∙ false_at p l e a m))

or_second : (a b : Bool) → b ≡ true → (a || b) ≡ true
or_second a b e = rw e (or-true a)

or_right : (a b : Bool) → (a || b) ≡ false → b ≡ false
or_right true b e = absurd (true≢false e)
or_right false b e = e

fails_apart : (m : Manner) (τ : Valuation) (l : List Effect) → conflicts_with τ l (fails m) ≡ true → false ≡ true
unfolding conflicts_with
fails_apart m τ l h = h

fails_old : (m : Manner) (τ : Valuation) → is_new τ (fails m) ≡ false
unfolding is_new
fails_old m τ = refl

known_old : (τ : Valuation) (x : ℕ) (v w : ℤ) → τ x ≡ some w → is_new τ (gives x v) ≡ false
unfolding is_new is_known
known_old τ x v w q = rw q

given_append : (x : ℕ) (l m : List Effect) → given_to x (l ++ m) ≡ first_of (given_to x l) (given_to x m)
unfolding given_to first_of
given_append x [] m = refl
given_append x (e ∷ l) m = go (given_by x e) (given_append x l m)
  where
    go : (o : Option ℤ) → given_to x (l ++ m) ≡ first_of (given_to x l) (given_to x m)
        → first_of o (given_to x (l ++ m)) ≡ first_of (first_of o (given_to x l)) (given_to x m)
    go none h = h
    go (some v) h = refl

module _ (vs : List Variable) (τ : Valuation) (es : List Effect) (k : Known vs τ es) where
  -- what differs from a value given by `es` differs from the one known
  given_differs : (x : ℕ) (v : ℤ) (e : Effect) → Memᴰ e es → differs v (given_by x e) ≡ true → differs v (τ x) ≡ true
  unfolding given_by differs
  given_differs x v (fails manner) m d = absurd (false≢true d)
  given_differs x v (gives y w) m d = go (eqb x y) refl d
    where
      go : (t : Bool) → eqb x y ≡ t → differs v (cond t (some w) none) ≡ true → differs v (τ x) ≡ true
      go true q d = subst (λ o. differs v o ≡ true) (sym (ap τ (eqb-true x y q) ∙ k.values y w m)) d
      go false q d = absurd (false≢true d)

  -- a conflict of another effect with `es` is one with what is known
  beside : (l : List Effect) (e : Effect) → conflicts_with τ (es ++ l) e ≡ true → conflicts_with τ l e ≡ true
  unfolding conflicts_with
  beside l (fails manner) h = h
  beside l (gives x v) h =
      or_cases (differs v (τ x)) _ h (λ d. rw d)
      (λ a. or_cases _ (any (λ e. differs v (given_by x e)) l) (sym (any_append (λ e. differs v (given_by x e)) es l) ∙ a)
      (λ b. let w = witness (λ e. differs v (given_by x e)) es b in rw (given_differs x v w.0 w.1 w.2))
      (λ c. rw c (or-true (differs v (τ x)))))

  within : (l : List Effect) (e : Effect) → conflicts_with τ l e ≡ true → conflicts_with τ (es ++ l) e ≡ true
  unfolding conflicts_with
  within l (fails manner) h = h
  within l (gives x v) h =
      or_cases (differs v (τ x)) _ h (λ d. rw d)
      (λ c. rw (any_append (λ e. differs v (given_by x e)) es l, c, or-true (any (λ e. differs v (given_by x e)) es)) (or-true (differs v (τ x))))

  -- a conflict of an effect of `es` is one of the effect that it is in conflict with
  turned : (l : List Effect) (x : ℕ) (v : ℤ) → τ x ≡ some v → (e : Effect) → Memᴰ e l → differs v (given_by x e) ≡ true → conflicts_with τ l e ≡ true
  unfolding conflicts_with given_by differs
  turned l x v q (fails manner) m d = absurd (false≢true d)
  turned l x v q (gives y w) m d = go (eqb x y) refl d
    where
      go : (t : Bool) → eqb x y ≡ t → differs v (cond t (some w) none) ≡ true → (differs w (τ y) || any (λ e. differs w (given_by y e)) l) ≡ true
      go true p d = rw (← eqb-true x y p, q, differs_turned v w d)
      go false p d = absurd (false≢true d)

  own_conflict : (l : List Effect) (x : ℕ) (v : ℤ) → Memᴰ (gives x v) es → conflicts_with τ (es ++ l) (gives x v) ≡ true → any (conflicts_with τ l) l ≡ true
  unfolding conflicts_with
  own_conflict l x v m h =
      or_cases (differs v (τ x)) _ h known
      (λ a. or_cases _ (any (λ e. differs v (given_by x e)) l) (sym (any_append (λ e. differs v (given_by x e)) es l) ∙ a)
      (λ b. let w = witness (λ e. differs v (given_by x e)) es b in known (given_differs x v w.0 w.1 w.2))
      (λ c. let w = witness (λ e. differs v (given_by x e)) l c in any_true (conflicts_with τ l) l w.0 w.1 (turned l x v (k.values x v m) w.0 w.1 w.2)))
    where
      known : differs v (τ x) ≡ true → any (conflicts_with τ l) l ≡ true
      known d = absurd (true≢false (sym d ∙ ap (differs v) (k.values x v m) ∙ differs_own v))

  conflict_same : (l : List Effect) → any (conflicts_with τ (es ++ l)) (es ++ l) ≡ any (conflicts_with τ l) l
  conflict_same l =
      both_ways _ _
      (λ h. or_cases _ _ (sym (any_append (conflicts_with τ (es ++ l)) es l) ∙ h)
      (λ a. let w = witness (conflicts_with τ (es ++ l)) es a in of_own w.0 w.1 w.2)
      (λ b. any_mono _ _ (beside l) l b))
      (λ h. any_append (conflicts_with τ (es ++ l)) es l ∙ or_second (any (conflicts_with τ (es ++ l)) es) (any (conflicts_with τ (es ++ l)) l) (any_mono _ _ (within l) l h))
    where
      of_own : (e : Effect) → Memᴰ e es → conflicts_with τ (es ++ l) e ≡ true → any (conflicts_with τ l) l ≡ true
      of_own (fails manner) m h = absurd (false≢true (fails_apart manner τ (es ++ l) h))
      of_own (gives x v) m h = own_conflict l x v m h

  pub quiet_fault : (l : List Effect) → fault_of vs τ (es ++ l) ≡ fault_of vs τ l
  unfolding fault_of
  quiet_fault l =
      rw (any_append (is_failure ZeroDivisor) es l, k.failure ZeroDivisor, any_append (is_failure TooLarge) es l, k.failure TooLarge, any_append (is_outside vs) es l, k.outside, conflict_same l)

  pub quiet_new : (l : List Effect) → any (is_new τ) (es ++ l) ≡ any (is_new τ) l
  quiet_new l = any_append (is_new τ) es l ∙ ap (λ t. t || any (is_new τ) l) (any_false (is_new τ) es old)
    where
      old : (e : Effect) → Memᴰ e es → is_new τ e ≡ false
      old (fails manner) m = fails_old manner τ
      old (gives x v) m = known_old τ x v v (k.values x v m)

  -- where a variable is unknown `es` gives it nothing
  pub quiet_extended : (l : List Effect) (x : ℕ) → extended (es ++ l) τ x ≡ extended l τ x
  unfolding first_of
  quiet_extended l x = go (τ x) (given_to x es) refl refl
    where
      go : (o g : Option ℤ) → τ x ≡ o → given_to x es ≡ g → first_of (τ x) (given_to x (es ++ l)) ≡ first_of (τ x) (given_to x l)
      go (some v) g p q = rw p
      go none none p q = rw (p, given_append x es l, q)
      go none (some w) p q =
          let known : τ x ≡ some w = k.values x w (given_member x es w q) in
          let z : none ≡ some w = sym p ∙ known in
          let y : true ≡ false = cc z in absurd (true≢false y)

first_none : (o : Option ℤ) → first_of none o ≡ o
unfolding first_of
first_none o = refl

first_some : (v : ℤ) (o : Option ℤ) → first_of (some v) o ≡ some v
unfolding first_of
first_some v o = refl

-- two values given to one variable without a fault are the same
equal_given : (vs : List Variable) (σ : Valuation) (es : List Effect) → fault_of vs σ es ≡ none → (x : ℕ) (v w : ℤ)
    → Memᴰ (gives x v) es → Memᴰ (gives x w) es → v ≡ w
unfolding conflicts_with given_by differs
equal_given vs σ es n x v w m m' =
    let c = false_at (conflicts_with σ es) es (faultless vs σ es n).conflict (gives x v) m in
    let d : differs v (cond (eqb x x) (some w) none) ≡ false = false_at (λ e. differs v (given_by x e)) es (or_right (differs v (σ x)) _ c) (gives x w) m' in
    let e : differs v (some w) ≡ false = subst (λ t. differs v (cond t (some w) none) ≡ false) (eq-eqb x x refl) d in
    eq_z_true v w (not-false (eq_z v w) e)

-- the values that a round without a fault gives are those known at the next
pub known_after : (vs : List Variable) (σ : Valuation) (es : List Effect) → fault_of vs σ es ≡ none → Known vs (extended es σ) es
known_after vs σ es n =
    let f = faultless vs σ es n in
    record { failure = f.failure; outside = f.outside; values = λ x v m. after x v m (σ x) refl }
  where
    same : (x : ℕ) (v w : ℤ) → Memᴰ (gives x v) es → given_to x es ≡ some w → v ≡ w
    same x v w m g = equal_given vs σ es n x v w m (given_member x es w g)

    after : (x : ℕ) (v : ℤ) → Memᴰ (gives x v) es → (o : Option ℤ) → σ x ≡ o → extended es σ x ≡ some v
    after x v m none p =
        let g = member_given x v es m in
        ap (λ o. first_of o (given_to x es)) p ∙ first_none (given_to x es) ∙ g.1 ∙ ap some (sym (same x v g.0 m g.1))
    after x v m (some w) p = ap (λ o. first_of o (given_to x es)) p ∙ first_some w (given_to x es) ∙ ap some (sym (given_known vs σ es n x v w m p))

-- ---- a round over what waits

module _ (vs : List Variable) (i : Instruction) (σ : Valuation) (n : fault_of vs σ (effects i σ) ≡ none) where
  abbrev pub next : Valuation
  next = extended (effects i σ) σ

  abbrev pub new : List Effect
  new = effects_of_each (waiting i σ) next

  k : Known vs next (effects i σ)
  k = known_after vs σ (effects i σ) n

  pub alike : Alike (effects i next) (effects i σ ++ new)
  alike = record { tests = λ p. resumes σ next (λ x v e. ap (λ o. first_of o (given_to x (effects i σ))) e ∙ first_some v (given_to x (effects i σ))) i p }

  pub fault_same : fault_of vs next (effects i next) ≡ fault_of vs next new
  fault_same = faults_alike alike vs next ∙ quiet_fault vs next (effects i σ) k new

  pub new_same : any (is_new next) (effects i next) ≡ any (is_new next) new
  new_same = alike.tests (is_new next) ∙ quiet_new vs next (effects i σ) k new

  pub extended_same : fault_of vs next (effects i next) ≡ none → extended (effects i next) next ≡ extended new next
  extended_same f =
      fun_ext
      (λ x. ap (first_of (next x)) (given_alike alike next (faultless vs next (effects i next) f).conflict x) ∙ quiet_extended vs next (effects i σ) k new x)
