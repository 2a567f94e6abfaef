-- Lists of effects compared by tests: where every test is met in both or in neither they have the same fault, and, where
-- there is no conflict, give every variable the same value. Order and repetition do not count.
use mathlib.Core.Path.{◌≡◌, refl, sym, ap, fun_ext, ◌∙◌}
use mathlib.Core.Bool.{Bool, true, false, true≢false, false≢true, cond, ◌||◌, or-true, or_assoc, or_comm}
use mathlib.Core.List.{List, [], ◌∷◌, ◌++◌}
use mathlib.Core.Option.{Option, some, none}
use Prim.Native.Nat.{ℕ}
use borrow.Author.Tests.{eqb-true}
use lib.Dec.{eqb}
use lib.IntN.{ℤ}
use Rattle.evaluation.specs.declared.Manner.TheVariants.{ZeroDivisor, TooLarge}
use Rattle.evaluation.specs.Numbers.{eq_z}
use Rattle.evaluation.proofs.Laws.{eq_z_refl, eq_z_true}
use Rattle.model.specs.Trees.{Variable}
use Rattle.expressions.specs.Expressions.{Valuation}
use Rattle.interpreter.specs.Instructions.{Effect, any, is_failure, is_outside, differs, given_by, conflicts_with, fault_of, first_of, given_to}
use Rattle.interpreter.specs.Instructions.Effect.{fails, gives}
use Rattle.semantics.specs.Propagation.{is_known}

-- ---- tests

or_mono : (a b c d : Bool) → (a ≡ true → c ≡ true) → (b ≡ true → d ≡ true) → (a || b) ≡ true → (c || d) ≡ true
or_mono true b c d f g h = rw (f refl)
or_mono false b true d f g h = refl
or_mono false b false d f g h = g h

module _ {A : Type 0} where
  pub any_append : (p : A → Bool) (l m : List A) → any p (l ++ m) ≡ (any p l || any p m)
  unfolding any
  any_append p [] m = refl
  any_append p (a ∷ l) m = ap (λ t. p a || t) (any_append p l m) ∙ sym (or_assoc (p a) (any p l) (any p m))

  pub any_mono : (p q : A → Bool) → ((a : A) → p a ≡ true → q a ≡ true) → (l : List A) → any p l ≡ true → any q l ≡ true
  unfolding any
  any_mono p q f [] h = h
  any_mono p q f (a ∷ l) h = or_mono (p a) (any p l) (q a) (any q l) (f a) (any_mono p q f l) h

pub or_exchange : (a b c : Bool) → (a || (b || c)) ≡ (b || (a || c))
or_exchange a b c = sym (or_assoc a b c) ∙ ap (λ t. t || c) (or_comm a b) ∙ or_assoc b a c

-- every test that some effect of one list meets, some effect of the other meets too
pub record Alike (l m : List Effect) : Type 0 where
  pub tests : (p : Effect → Bool) → any p l ≡ any p m

-- ---- faults

module _ {l m : List Effect} (h : Alike l m) where
  conflicts_alike : (known : Valuation) (e : Effect) → conflicts_with known l e ≡ conflicts_with known m e
  unfolding conflicts_with
  conflicts_alike known (fails manner) = refl
  conflicts_alike known (gives x v) = ap (λ t. differs v (known x) || t) (h.tests _)

  pub faults_alike : (vs : List Variable) (known : Valuation) → fault_of vs known l ≡ fault_of vs known m
  unfolding fault_of
  faults_alike vs known =
      rw (h.tests (is_failure ZeroDivisor), h.tests (is_failure TooLarge), h.tests (is_outside vs), h.tests (conflicts_with known l), fun_ext (conflicts_alike known))

-- ---- values given

-- the value is v
is_value : ℤ → Option ℤ → Bool
is_value v none = false
is_value v (some w) = eq_z v w

pub known_first : (a b : Option ℤ) → is_known (first_of a b) ≡ (is_known a || is_known b)
unfolding is_known first_of
known_first none b = refl
known_first (some v) b = refl

pub given_known : (x : ℕ) (l : List Effect) → is_known (given_to x l) ≡ any (λ e. is_known (given_by x e)) l
unfolding given_to any is_known
given_known x [] = refl
given_known x (e ∷ l) = known_first (given_by x e) (given_to x l) ∙ ap (λ t. is_known (given_by x e) || t) (given_known x l)

value_first : (a b : Option ℤ) (v : ℤ) (t : Bool) → (b ≡ some v → t ≡ true) → first_of a b ≡ some v → (is_value v a || t) ≡ true
unfolding first_of is_value
value_first none b v t f h = f h
value_first (some w) b v t f h = let s : eq_z v w ≡ true = cc (eq_z_refl v) in rw s

given_value : (x : ℕ) (l : List Effect) (v : ℤ) → given_to x l ≡ some v → any (λ e. is_value v (given_by x e)) l ≡ true
unfolding given_to any
given_value x [] v h = let z : true ≡ false = cc in absurd (true≢false z)
given_value x (e ∷ l) v h = value_first (given_by x e) (given_to x l) v _ (given_value x l v) h

value_differs : (v w : ℤ) (a : Option ℤ) → eq_z v w ≡ false → is_value w a ≡ true → differs v a ≡ true
unfolding is_value differs
value_differs v w none n h = h
value_differs v w (some u) n h = rw (← eq_z_true w u h, n)

value_of : (t : Bool) (u v : ℤ) → is_value v (cond t (some u) none) ≡ true → (t ≡ true) × (v ≡ u)
unfolding is_value
value_of true u v h = (refl, eq_z_true v u h)
value_of false u v h = absurd (false≢true h)

module _ (known : Valuation) (l : List Effect) (x : ℕ) (v : ℤ) (d : any (λ e. differs v (given_by x e)) l ≡ true) where
  conflict_at : (e : Effect) → is_value v (given_by x e) ≡ true → conflicts_with known l e ≡ true
  unfolding conflicts_with given_by is_value
  conflict_at (fails manner) h = h
  conflict_at (gives y u) h = go (value_of (eqb x y) u v h)
    where
      go : (eqb x y ≡ true) × (v ≡ u) → (differs u (known y) || any (λ e. differs u (given_by y e)) l) ≡ true
      go p = rw (← eqb-true x y p.0, ← p.1, d) (or-true (differs v (known x)))

-- two different values for one variable are a conflict
two_values : (known : Valuation) (l : List Effect) (x : ℕ) (v w : ℤ) → eq_z v w ≡ false
    → any (λ e. is_value v (given_by x e)) l ≡ true → any (λ e. is_value w (given_by x e)) l ≡ true → any (conflicts_with known l) l ≡ true
two_values known l x v w n h k =
    any_mono _ _ (conflict_at known l x v (any_mono _ _ (λ e. value_differs v w (given_by x e) n) l k)) l h

module _ {l m : List Effect} (h : Alike l m) (known : Valuation) (n : any (conflicts_with known l) l ≡ false) where
  pub given_alike : (x : ℕ) → given_to x l ≡ given_to x m
  unfolding is_known
  given_alike x = go (given_to x l) (given_to x m) refl refl
    where
      same : is_known (given_to x l) ≡ is_known (given_to x m)
      same = given_known x l ∙ h.tests (λ e. is_known (given_by x e)) ∙ sym (given_known x m)

      equal : (v w : ℤ) → given_to x l ≡ some v → given_to x m ≡ some w → (t : Bool) → eq_z v w ≡ t → v ≡ w
      equal v w p q true e = eq_z_true v w e
      equal v w p q false e =
          absurd (false≢true (sym n ∙ two_values known l x v w e (given_value x l v p) (h.tests (λ e. is_value w (given_by x e)) ∙ given_value x m w q)))

      go : (a b : Option ℤ) → given_to x l ≡ a → given_to x m ≡ b → a ≡ b
      go none none p q = refl
      go none (some w) p q = absurd (false≢true (sym (ap is_known p) ∙ same ∙ ap is_known q))
      go (some v) none p q = absurd (true≢false (sym (ap is_known p) ∙ same ∙ ap is_known q))
      go (some v) (some w) p q = ap some (equal v w p q (eq_z v w) refl)
