-- Expressions that stand among nodes: what a call of `evaluate` and of `conditional` asks, and what it gives.
use mathlib.Core.Path.{◌≡◌, refl, sym, ap, ap₂, subst, ◌∙◌}
use mathlib.Core.Bool.{true, false, false≢true}
use mathlib.Core.List.{List}
use Prim.Native.Nat.{ℕ, ◌+◌, ◌^◌, ◌<◌, ◌≤◌}
use native.Mathlib.Omega.{arith}
use lib.IntN.{ℤ, pos, nat_abs}
use lib.Signed.{mag}
use lib.ListN.{length, get_or}
use mir.Syntax.{w32}
use mir.Val.{to_z, of_z}
use Rattle.evaluation.proofs.Laws.{eq_z_true}
use Rattle.evaluation.proofs.Signed.{read_back}
use Rattle.evaluation.specs.declared.Evaluation.{Evaluation}
use Rattle.evaluation.specs.declared.Evaluation.TheVariants.{Unknown, Failed, Value}
use Rattle.evaluation.specs.declared.Operator.{Operator}
use Rattle.evaluation.specs.declared.Operator.TheVariants.{Conjunction, Disjunction, Equality, Less, LessOrEqual, Sum, Difference, Product, Quotient, Remainder, Equivalence}
use Rattle.evaluation.specs.Meaning.{decisive, decision, decides, operated, negated, chosen, is_true}
use Rattle.kinds.specs.Kinds.{kind_of, operator_of}
use Rattle.model.specs.Trees.{Expression}
use Rattle.model.specs.Trees.Expression.{numeral, truth, variable, negation, binary, if_then_else}
use Rattle.model.specs.Standing.{ExpressionAt, size_of_expression}
use Rattle.expressions.specs.declared.Evaluated.{Evaluated}
use Rattle.expressions.specs.Expressions.{Valuation, evaluation_of, evaluate}
use Rattle.expressions.specs.Cells.{evaluated_as, ExpressionStands, BranchesStand}

-- ---- kinds

-- no operator with two operands has the kind of a leaf, of a negation or of a conditional
kind_of_binary : (op : Operator) → (35 < kind_of op) × (kind_of op ≡ 46 → ⊥)
unfolding kind_of
kind_of_binary Conjunction = (omega arith, λ p. omega arith)
kind_of_binary Disjunction = (omega arith, λ p. omega arith)
kind_of_binary Equality = (omega arith, λ p. omega arith)
kind_of_binary Less = (omega arith, λ p. omega arith)
kind_of_binary LessOrEqual = (omega arith, λ p. omega arith)
kind_of_binary Sum = (omega arith, λ p. omega arith)
kind_of_binary Difference = (omega arith, λ p. omega arith)
kind_of_binary Product = (omega arith, λ p. omega arith)
kind_of_binary Quotient = (omega arith, λ p. omega arith)
kind_of_binary Remainder = (omega arith, λ p. omega arith)
kind_of_binary Equivalence = (omega arith, λ p. omega arith)

operator_of_kind : (op : Operator) → operator_of (kind_of op) ≡ op
unfolding operator_of kind_of
operator_of_kind Conjunction = refl
operator_of_kind Disjunction = refl
operator_of_kind Equality = refl
operator_of_kind Less = refl
operator_of_kind LessOrEqual = refl
operator_of_kind Sum = refl
operator_of_kind Difference = refl
operator_of_kind Product = refl
operator_of_kind Quotient = refl
operator_of_kind Remainder = refl
operator_of_kind Equivalence = refl

-- ---- an operand that decides

decision_is : (op : Operator) (v : ℤ) → decisive op v ≡ true → v ≡ decision op
unfolding decisive decision
decision_is Conjunction v e = eq_z_true v (pos 0) e
decision_is Disjunction v e = eq_z_true v (pos 1) e
decision_is Equality v e = absurd (false≢true e)
decision_is Less v e = absurd (false≢true e)
decision_is LessOrEqual v e = absurd (false≢true e)
decision_is Sum v e = absurd (false≢true e)
decision_is Difference v e = absurd (false≢true e)
decision_is Product v e = absurd (false≢true e)
decision_is Quotient v e = absurd (false≢true e)
decision_is Remainder v e = absurd (false≢true e)
decision_is Equivalence v e = absurd (false≢true e)

-- it is the answer, whatever the other one is
decided_alone : (op : Operator) (a b : Evaluation) → decides op a ≡ true → a ≡ operated op a b
unfolding decides operated
decided_alone op Unknown b e = absurd (false≢true e)
decided_alone op (Failed m) b e = absurd (false≢true e)
decided_alone op (Value v) b e = rw e (ap Value (decision_is op v e))

module _ (ks : List ℕ) (ps : List ℤ) where
  -- ---- places

  pub expression_within : (e : Expression) (at : ℕ) → ExpressionAt ks ps e at → (at < length ks) × (at < length ps)
  unfolding ExpressionAt
  expression_within (numeral v) at h = (h.within, h.within_parameters)
  expression_within (truth v) at h = (h.within, h.within_parameters)
  expression_within (variable x) at h = (h.within, h.within_parameters)
  expression_within (negation a) at h = (h.0.within, h.0.within_parameters)
  expression_within (binary op a b) at h = (h.0.within, h.0.within_parameters)
  expression_within (if_then_else c a b) at h = (h.0.within, h.0.within_parameters)

  moved : (e : Expression) {m n : ℕ} → m ≡ n → ExpressionAt ks ps e m → ExpressionAt ks ps e n
  moved e p h = subst (λ n. ExpressionAt ks ps e n) p h

  -- ---- what a call told

  -- `past`
  abbrev pub ToldPlace : ℕ → ℕ → Type 0
  ToldPlace m at = (ps : List ℤ) (e : Expression) → ExpressionAt ks ps e at → m ≡ at + size_of_expression e

  module _ (σ : Valuation) where
    abbrev pub Told : Evaluated → ℕ → Type 0
    Told r at = (e : Expression) → ExpressionAt ks ps e at → r ≡ evaluated_as (evaluate e σ) (at + size_of_expression e)

    abbrev pub ToldBranches : Evaluated → Evaluation → ℕ → Type 0
    ToldBranches r condition at = (a b : Expression) → ExpressionAt ks ps a at → ExpressionAt ks ps b (at + size_of_expression a)
        → r ≡ evaluated_as (chosen condition (evaluate a σ) (evaluate b σ)) (at + size_of_expression a + size_of_expression b)

    module _ (at : ℕ) where
      -- ---- no child, one, three, two

      module _ (f : mag (get_or ps at (pos 0)) < 2 ^ 31) where
        pub variable_given : (e : Expression) → ExpressionAt ks ps e at → get_or ks at 0 ≡ 34
            → {x : ℕ} → x ≡ nat_abs (to_z w32 (of_z w32 (get_or ps at (pos 0)))) → {r : Evaluation} → r ≡ evaluation_of (σ x)
            → evaluated_as r (at + 1) ≡ evaluated_as (evaluate e σ) (at + size_of_expression e)
        unfolding ExpressionAt evaluate size_of_expression
        variable_given (numeral v) h q p r = absurd (omega (arith, h.kind))
        variable_given (truth v) h q p r = absurd (omega (arith, h.kind))
        variable_given (variable y) h q {x} p r =
            let m : x ≡ y = p ∙ ap nat_abs (read_back (get_or ps at (pos 0)) f ∙ h.parameter) in
            ap (λ v. evaluated_as v (at + 1)) (r ∙ ap (λ x. evaluation_of (σ x)) m)
        variable_given (negation a) h q p r = absurd (omega (arith, h.0.kind))
        variable_given (binary op a b) h q p r = absurd (omega (arith, h.0.kind, (kind_of_binary op).0))
        variable_given (if_then_else c a b) h q p r = absurd (omega (arith, h.0.kind))

        pub value_given : (e : Expression) → ExpressionAt ks ps e at → get_or ks at 0 < 35 → (get_or ks at 0 ≡ 34 → ⊥)
            → evaluated_as (Value (to_z w32 (of_z w32 (get_or ps at (pos 0))))) (at + 1) ≡ evaluated_as (evaluate e σ) (at + size_of_expression e)
        unfolding ExpressionAt evaluate size_of_expression
        value_given (numeral v) h q n = ap (λ v. evaluated_as (Value v) (at + 1)) (read_back (get_or ps at (pos 0)) f ∙ h.parameter)
        value_given (truth v) h q n = ap (λ v. evaluated_as (Value v) (at + 1)) (read_back (get_or ps at (pos 0)) f ∙ h.parameter)
        value_given (variable x) h q n = absurd (n h.kind)
        value_given (negation a) h q n = absurd (omega (arith, h.0.kind))
        value_given (binary op a b) h q n = absurd (omega (arith, h.0.kind, (kind_of_binary op).0))
        value_given (if_then_else c a b) h q n = absurd (omega (arith, h.0.kind))

      module _ {first : Evaluated} (told : Told first (at + 1)) where
        pub negation_given : (e : Expression) → ExpressionAt ks ps e at → get_or ks at 0 ≡ 35 → {r : Evaluation} → r ≡ negated first.evaluation
            → evaluated_as r first.next.at ≡ evaluated_as (evaluate e σ) (at + size_of_expression e)
        unfolding ExpressionAt evaluate size_of_expression
        negation_given (numeral v) h q r = absurd (omega (arith, h.kind))
        negation_given (truth v) h q r = absurd (omega (arith, h.kind))
        negation_given (variable x) h q r = absurd (omega (arith, h.kind))
        negation_given (negation a) h q r =
            let s = told a h.1 in
            ap₂ evaluated_as (r ∙ ap (λ x. negated x.evaluation) s) (ap (λ x. x.next.at) s ∙ omega arith)
        negation_given (binary op a b) h q r = absurd (omega (arith, h.0.kind, (kind_of_binary op).0))
        negation_given (if_then_else c a b) h q r = absurd (omega (arith, h.0.kind))

        pub conditional_given : (e : Expression) → ExpressionAt ks ps e at → get_or ks at 0 ≡ 46 → {r : Evaluated}
            → ToldBranches r first.evaluation first.next.at
            → r ≡ evaluated_as (evaluate e σ) (at + size_of_expression e)
        unfolding ExpressionAt evaluate size_of_expression
        conditional_given (numeral v) h q r = absurd (omega (arith, h.kind))
        conditional_given (truth v) h q r = absurd (omega (arith, h.kind))
        conditional_given (variable x) h q r = absurd (omega (arith, h.kind))
        conditional_given (negation a) h q r = absurd (omega (arith, h.0.kind))
        conditional_given (binary op a b) h q r = absurd ((kind_of_binary op).1 (sym h.0.kind ∙ q))
        conditional_given (if_then_else c a b) h q r =
            let s = told c h.1 in
            let m : first.next.at ≡ at + 1 + size_of_expression c = ap (λ x. x.next.at) s in
            r a b (moved a (sym m) h.2) (moved b (omega arith) h.3)
            ∙ ap₂ evaluated_as (ap (λ x. chosen x.evaluation (evaluate a σ) (evaluate b σ)) s) (omega arith)

        pub binary_given : {second : Evaluated} → Told second first.next.at
            → (e : Expression) → ExpressionAt ks ps e at → 35 ≤ get_or ks at 0 → (get_or ks at 0 ≡ 35 → ⊥) → (get_or ks at 0 ≡ 46 → ⊥) → {op : Operator} → op ≡ operator_of (get_or ks at 0)
            → {r : Evaluation} → r ≡ operated op first.evaluation second.evaluation
            → evaluated_as r second.next.at ≡ evaluated_as (evaluate e σ) (at + size_of_expression e)
        unfolding ExpressionAt evaluate size_of_expression
        binary_given told₂ (numeral v) h q₀ q₁ q₃ o r = absurd (omega (arith, h.kind))
        binary_given told₂ (truth v) h q₀ q₁ q₃ o r = absurd (omega (arith, h.kind))
        binary_given told₂ (variable x) h q₀ q₁ q₃ o r = absurd (omega (arith, h.kind))
        binary_given told₂ (negation a) h q₀ q₁ q₃ o r = absurd (q₁ h.0.kind)
        binary_given told₂ (binary f a b) h q₀ q₁ q₃ {op} o r =
            let s = told a h.1 in
            let m : first.next.at ≡ at + 1 + size_of_expression a = ap (λ x. x.next.at) s in
            let s₂ = told₂ b (moved b (sym m) h.2) in
            let k : op ≡ f = o ∙ ap operator_of h.0.kind ∙ operator_of_kind f in
            ap₂ evaluated_as
            (r ∙ rw (k) (ap₂ (λ x y. operated f x.evaluation y.evaluation) s s₂))
            (ap (λ x. x.next.at) s₂ ∙ omega arith)
        binary_given told₂ (if_then_else c a b) h q₀ q₁ q₃ o r = absurd (q₃ h.0.kind)

        -- the first operand decides: the second is passed over
        pub decided_given : (e : Expression) → ExpressionAt ks ps e at → 35 ≤ get_or ks at 0 → (get_or ks at 0 ≡ 35 → ⊥) → (get_or ks at 0 ≡ 46 → ⊥) → {op : Operator} → op ≡ operator_of (get_or ks at 0)
            → decides op first.evaluation ≡ true → {n : ℕ} → ToldPlace n first.next.at
            → evaluated_as first.evaluation n ≡ evaluated_as (evaluate e σ) (at + size_of_expression e)
        unfolding ExpressionAt evaluate size_of_expression
        decided_given (numeral v) h q₀ q₁ q₃ o d t = absurd (omega (arith, h.kind))
        decided_given (truth v) h q₀ q₁ q₃ o d t = absurd (omega (arith, h.kind))
        decided_given (variable x) h q₀ q₁ q₃ o d t = absurd (omega (arith, h.kind))
        decided_given (negation a) h q₀ q₁ q₃ o d t = absurd (q₁ h.0.kind)
        decided_given (binary f a b) h q₀ q₁ q₃ {op} o d t =
            let s = told a h.1 in
            let m : first.next.at ≡ at + 1 + size_of_expression a = ap (λ x. x.next.at) s in
            let k : op ≡ f = o ∙ ap operator_of h.0.kind ∙ operator_of_kind f in
            let e : decides f (evaluate a σ) ≡ true = ap₂ decides (sym k) (sym (ap (λ x. x.evaluation) s)) ∙ d in
            ap₂ evaluated_as
            (ap (λ x. x.evaluation) s ∙ decided_alone f (evaluate a σ) (evaluate b σ) e)
            (t ps b (moved b (sym m) h.2) ∙ omega (arith, m))
        decided_given (if_then_else c a b) h q₀ q₁ q₃ o d t = absurd (q₃ h.0.kind)

  -- ---- what a call asks

  module _ (at : ℕ) where
    pub first_stands_lem : (e : Expression) → ExpressionAt ks ps e at → 35 ≤ get_or ks at 0 → ExpressionStands ks ps (at + 1)
    unfolding ExpressionAt
    first_stands_lem (numeral v) h q = absurd (omega (arith, h.kind))
    first_stands_lem (truth v) h q = absurd (omega (arith, h.kind))
    first_stands_lem (variable x) h q = absurd (omega (arith, h.kind))
    first_stands_lem (negation a) h q = record { expression = a; stands = h.1 }
    first_stands_lem (binary op a b) h q = record { expression = a; stands = h.1 }
    first_stands_lem (if_then_else c a b) h q = record { expression = c; stands = h.1 }

    module _ (σ : Valuation) {first : Evaluated} (told : Told σ first (at + 1)) where
      pub second_stands_lem : (e : Expression) → ExpressionAt ks ps e at → 35 ≤ get_or ks at 0 → (get_or ks at 0 ≡ 35 → ⊥) → (get_or ks at 0 ≡ 46 → ⊥)
          → ExpressionStands ks ps first.next.at × (at < first.next.at)
      unfolding ExpressionAt
      second_stands_lem (numeral v) h q₀ q₁ q₃ = absurd (omega (arith, h.kind))
      second_stands_lem (truth v) h q₀ q₁ q₃ = absurd (omega (arith, h.kind))
      second_stands_lem (variable x) h q₀ q₁ q₃ = absurd (omega (arith, h.kind))
      second_stands_lem (negation a) h q₀ q₁ q₃ = absurd (q₁ h.0.kind)
      second_stands_lem (binary op a b) h q₀ q₁ q₃ =
          let m : first.next.at ≡ at + 1 + size_of_expression a = ap (λ x. x.next.at) (told a h.1) in
          (record { expression = b; stands = moved b (sym m) h.2 }, omega arith)
      second_stands_lem (if_then_else c a b) h q₀ q₁ q₃ = absurd (q₃ h.0.kind)

      pub branches_stand : (e : Expression) → ExpressionAt ks ps e at → get_or ks at 0 ≡ 46
          → BranchesStand ks ps first.next.at × (at < first.next.at)
      unfolding ExpressionAt
      branches_stand (numeral v) h q = absurd (omega (arith, h.kind))
      branches_stand (truth v) h q = absurd (omega (arith, h.kind))
      branches_stand (variable x) h q = absurd (omega (arith, h.kind))
      branches_stand (negation a) h q = absurd (omega (arith, h.0.kind))
      branches_stand (binary op a b) h q = absurd ((kind_of_binary op).1 (sym h.0.kind ∙ q))
      branches_stand (if_then_else c a b) h q =
          let m : first.next.at ≡ at + 1 + size_of_expression c = ap (λ x. x.next.at) (told c h.1) in (
            record {
              first = a;
              second = b;
              first_stands = moved a (sym m) h.2;
              second_stands = moved b (omega arith) h.3;
            },
            omega arith,
          )

  -- ---- the branches of a conditional

  -- the second branch stands where the first, evaluated, has ended
  pub evaluated_stands : (at : ℕ) (s : BranchesStand ks ps at) (σ : Valuation) {r : Evaluated} → Told σ r at
      → ExpressionStands ks ps r.next.at × (at ≤ r.next.at)
  evaluated_stands at s σ {r} told =
      let m : r.next.at ≡ at + size_of_expression s.first = ap (λ x. x.next.at) (told s.first s.first_stands) in
      (record { expression = s.second; stands = moved s.second (sym m) s.second_stands }, omega arith)

  module _ (at : ℕ) (a b : Expression) (k : ExpressionAt ks ps b (at + size_of_expression a)) where
    -- the place after the second, from the place after the first
    after_second : {m n : ℕ} → m ≡ at + size_of_expression a → ToldPlace n m → n ≡ at + size_of_expression a + size_of_expression b
    after_second p t = t ps b (moved b (sym p) k) ∙ ap (λ m. m + size_of_expression b) p

  -- both branches were evaluated
  module _ (at : ℕ) (σ : Valuation) (condition : Evaluation) where
    pub both_given : {first second : Evaluated} → Told σ first at → Told σ second first.next.at
        → {r : Evaluation} → r ≡ chosen condition first.evaluation second.evaluation
        → ToldBranches σ (evaluated_as r second.next.at) condition at
    both_given {first} told told₂ e a b h k =
        let s = told a h in
        let m : first.next.at ≡ at + size_of_expression a = ap (λ x. x.next.at) s in
        let s₂ = told₂ b (moved b (sym m) k) in
        ap₂ evaluated_as
        (e ∙ ap₂ (λ x y. chosen condition x.evaluation y.evaluation) s s₂)
        (ap (λ x. x.next.at) s₂ ∙ omega arith)

  -- one branch was evaluated
  module _ (at : ℕ) (σ : Valuation) {condition : Evaluation} {v : ℤ} (p : condition ≡ Value v) {r : Evaluated} where
    pub then_given : is_true condition ≡ true → Told σ r at → {n : ℕ} → ToldPlace n r.next.at
        → ToldBranches σ (evaluated_as r.evaluation n) condition at
    unfolding chosen is_true
    then_given e told u a b h k =
        let q = told a h in
        rw (p, rw p at e) (ap₂ evaluated_as (ap (λ x. x.evaluation) q) (after_second at a b k (ap (λ x. x.next.at) q) u))

    pub else_given : is_true condition ≡ false → {m : ℕ} → ToldPlace m at → Told σ r m → ToldBranches σ r condition at
    unfolding chosen is_true
    else_given e t told a b h k =
        let q = t ps a h in
        rw (p, rw p at e) (told b (moved b (sym q) k) ∙ ap (λ m. evaluated_as (evaluate b σ) (m + size_of_expression b)) q)
