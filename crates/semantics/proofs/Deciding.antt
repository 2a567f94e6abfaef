-- A Boolean expression, over values within their ends, comes to no value but true and false.
use mathlib.Core.Path.{◌≡◌, refl, sym, ap, ◌∙◌, subst}
use mathlib.Core.Logic.{◌⊎◌, ⊎_elim}
use mathlib.Core.Logic.◌⊎◌.{inl, inr}
use mathlib.Core.Bool.{Bool, true, false, true≢false, ◌&&◌, ◌||◌}
use mathlib.Core.List.{List, [], ◌∷◌}
use mathlib.Core.Option.{some}
use Rattle.std.specs.Prelude.{Some, slice_get}
use Prim.Native.Nat.{ℕ, zero, suc, ◌<◌}
use native.Mathlib.Nat.{not-suc-le-zero, le_of_suc-le-suc}
use native.Mathlib.Omega.{arith}
use borrow.Author.Tests.{leb-true}
use lib.Dec.{T}
use lib.IntN.{ℤ, pos, negsuc}
use lib.Signed.{le_z, lt_z}
use lib.ListN.{length, get_or, get_elem?, length-map}
use Rattle.evaluation.specs.declared.Evaluation.{Evaluation}
use Rattle.evaluation.specs.declared.Evaluation.TheVariants.{Unknown, Failed, Value}
use Rattle.evaluation.specs.declared.Operator.{Operator}
use Rattle.evaluation.specs.declared.Operator.TheVariants.{Conjunction, Disjunction, Equality, Less, LessOrEqual, Sum, Difference, Product, Quotient, Remainder, Equivalence}
use Rattle.evaluation.specs.declared.Manner.{Manner}
use Rattle.evaluation.specs.declared.Manner.TheVariants.{ZeroDivisor, TooLarge}
use Rattle.evaluation.specs.Numbers.{eq_z, boolean}
use Rattle.evaluation.specs.Meaning.{operated, negated, calculated, decides, decision, is_unknown, failed_in, number}
use Rattle.evaluation.proofs.Laws.{eq_z_true, cond_keeps, chosen_keeps}
use Rattle.kinds.specs.declared.Sort.{Sort}
use Rattle.kinds.specs.Kinds.{boolean_sort, kind_of, result_of}
use Rattle.syntax.specs.Readings.{is_truth}
use Rattle.model.specs.declared.Sizes.{Sizes}
use Rattle.model.specs.Trees.{Expression, Variable, System, variables, sorts_of}
use Rattle.model.specs.Trees.Expression.{numeral, truth, variable, negation, binary, if_then_else}
use Rattle.model.specs.Check.{verdict}
use Rattle.model.specs.Check.Verdict.{accepted}
use Rattle.model.specs.WellFormed.{WellFormed, Sorted, Declared}
use Rattle.model.specs.Theorems.{Bytes}
use Rattle.model.proofs.CheckExact.{check_exact}
use Rattle.expressions.specs.Expressions.{Valuation, evaluation_of, evaluate, known_from}
use Rattle.interpreter.specs.Instructions.{is_within}
use Rattle.semantics.specs.Meanings.{guard_in, meaning_of}
use Rattle.semantics.specs.Theorems.{VariableValues, GuardsDecide}
use Rattle.semantics.proofs.Knowing.{element_below, element_all, all_known, known_evaluates}

-- ---- evaluations

-- a value is 0 or 1
unfoldable Truthful : Evaluation → Type 0
Truthful Unknown = Unit {0}
Truthful (Failed manner) = Unit {0}
Truthful (Value v) = T (is_truth v)

truthful_boolean : (t : Bool) → Truthful (Value (boolean t))
unfolding Truthful eq_z
truthful_boolean true = tt
truthful_boolean false = tt

truthful_calculated : (op : Operator) → boolean_sort ≡ result_of (kind_of op) → (a b : ℤ) → Truthful (calculated op a b)
unfolding calculated result_of kind_of
truthful_calculated Conjunction e a b = truthful_boolean true
truthful_calculated Disjunction e a b = truthful_boolean false
truthful_calculated Equality e a b = truthful_boolean (eq_z a b)
truthful_calculated Less e a b = truthful_boolean (lt_z a b)
truthful_calculated LessOrEqual e a b = truthful_boolean (le_z a b)
truthful_calculated Sum e a b = cc
truthful_calculated Difference e a b = cc
truthful_calculated Product e a b = cc
truthful_calculated Quotient e a b = cc
truthful_calculated Remainder e a b = cc
truthful_calculated Equivalence e a b = truthful_boolean (eq_z a b)

truthful_decision : (op : Operator) → Truthful (Value (decision op))
unfolding decision
truthful_decision Conjunction = truthful_boolean false
truthful_decision Disjunction = truthful_boolean true
truthful_decision Equality = truthful_boolean false
truthful_decision Less = truthful_boolean false
truthful_decision LessOrEqual = truthful_boolean false
truthful_decision Sum = truthful_boolean false
truthful_decision Difference = truthful_boolean false
truthful_decision Product = truthful_boolean false
truthful_decision Quotient = truthful_boolean false
truthful_decision Remainder = truthful_boolean false
truthful_decision Equivalence = truthful_boolean false

truthful_operated : (op : Operator) → boolean_sort ≡ result_of (kind_of op) → (a b : Evaluation) → Truthful (operated op a b)
unfolding operated Truthful
truthful_operated op e a b =
    cond_keeps Truthful (decides op a || decides op b) (Value (decision op)) _ (truthful_decision op)
    (cond_keeps Truthful (is_unknown a || is_unknown b) Unknown _ tt
    (cond_keeps Truthful (failed_in ZeroDivisor a || failed_in ZeroDivisor b) (Failed ZeroDivisor) _ tt
    (cond_keeps Truthful (failed_in TooLarge a || failed_in TooLarge b) (Failed TooLarge) _ tt (truthful_calculated op e (number a) (number b)))))

truthful_negated : (a : Evaluation) → Truthful (negated a)
unfolding negated Truthful
truthful_negated Unknown = tt
truthful_negated (Failed manner) = tt
truthful_negated (Value v) = truthful_boolean (eq_z v (boolean false))

module _ (sorts : List Sort) (σ : Valuation) (booleans : (x : ℕ) → x < length sorts → slice_get sorts x ≡ boolean_sort → Truthful (evaluation_of (σ x))) where
  truthful_expression : (e : Expression) → Sorted sorts boolean_sort e → Truthful (evaluate e σ)
  unfolding evaluate Sorted Truthful
  truthful_expression (numeral v) h = cc h.0
  truthful_expression (truth v) h = h.1
  truthful_expression (variable x) h = booleans x h.0 h.1
  truthful_expression (negation a) h = truthful_negated (evaluate a σ)
  truthful_expression (binary op a b) h = truthful_operated op h.0 (evaluate a σ) (evaluate b σ)
  truthful_expression (if_then_else c a b) h =
      chosen_keeps Truthful tt (λ f. tt) (evaluate c σ) (evaluate a σ) (evaluate b σ) (truthful_expression a h.1) (truthful_expression b h.2)

-- ---- values within their ends

sort_there : (vs : List Variable) (x : ℕ) (d : Variable) → get_elem? vs x ≡ some d → slice_get (sorts_of vs) x ≡ Some d.sort
sort_there [] x d e = let z : ◌≡◌ {A = ℕ} 0 1 = cc in absurd (omega arith)
sort_there (v ∷ vs) zero d e = let z : v ≡ d = cc in ap (λ v. Some v.sort) z
sort_there (v ∷ vs) (suc x) d e = sort_there vs x d e

value_there : (values : List ℤ) (x : ℕ) → x < length values → get_elem? values x ≡ some (get_or values x (pos 0))
value_there [] x h = absurd (not-suc-le-zero h)
value_there (v ∷ values) zero h = refl
value_there (v ∷ values) (suc x) h = value_there values x (le_of_suc-le-suc h)

second_holds : (s t : Bool) → T (s && t) → t ≡ true
second_holds true true h = refl
second_holds true false h = absurd h
second_holds false t h = absurd h

between_ends : (v : ℤ) → T (le_z (pos 0) v && le_z v (pos 1)) → T (is_truth v)
unfolding eq_z
between_ends (pos zero) h = tt
between_ends (pos (suc zero)) h = tt
between_ends (pos (suc (suc n))) h = absurd (omega (arith, leb-true (suc (suc n)) 1 (second_holds (le_z (pos 0) (pos (suc (suc n)))) (le_z (pos (suc (suc n))) (pos 1)) h)))
between_ends (negsuc n) h = absurd h

within_boolean : (d : Variable) → Declared d → Some d.sort ≡ boolean_sort → (v : ℤ) → T (is_within (some d) v) → T (is_truth v)
unfolding Declared is_within
within_boolean d declared b v h =
    ⊎_elim
    (λ w. between_ends v (subst (λ l. T (le_z l v && le_z v (pos 1))) w.1 (subst (λ u. T (le_z d.low v && le_z v u)) w.2 h)))
    (λ w. cc (b, w.0))
    declared

booleans_within : (t : System) → WellFormed t → (values : List ℤ) → VariableValues t values
    → (x : ℕ) → x < length (sorts_of (variables t)) → slice_get (sorts_of (variables t)) x ≡ boolean_sort → Truthful (evaluation_of (known_from values x))
unfolding evaluation_of Truthful
booleans_within t w values inside x l b =
    let d = element_below (variables t) x (omega (arith, length-map (variables t) (λ v. v.sort))) in
    let short : x < length values = omega (arith, inside.long, length-map (variables t) (λ v. v.sort)) in
    rw (value_there values x short)
    (within_boolean d.0 (element_all Declared (variables t) x d.0 w.declared d.1) (sym (sort_there (variables t) x d.0 d.1) ∙ b)
    (get_or values x (pos 0)) (subst (λ o. T (is_within o (get_or values x (pos 0)))) d.1 (inside.within x short)))

-- ---- guards

decided : (g : Evaluation) → is_unknown g ≡ false → Truthful g → ((f : Manner) × (g ≡ Failed f)) ⊎ ((g ≡ Value (boolean false)) ⊎ (g ≡ Value (boolean true)))
unfolding is_unknown Truthful
decided Unknown u h = absurd (true≢false u)
decided (Failed manner) u h = inl (manner, refl)
decided (Value v) u h = by (eq_z v (pos 0)) (eq_z v (pos 1)) refl refl h
  where
    by : (s t : Bool) → eq_z v (pos 0) ≡ s → eq_z v (pos 1) ≡ t → T (s || t)
        → ((f : Manner) × (Value v ≡ Failed f)) ⊎ ((Value v ≡ Value (boolean false)) ⊎ (Value v ≡ Value (boolean true)))
    by true t p q k = inr (inl (ap Value (eq_z_true v (pos 0) p)))
    by false true p q k = inr (inr (ap Value (eq_z_true v (pos 1) q)))
    by false false p q k = absurd k

-- any Boolean expression over the variables
module _ (m : List ℕ) (s : Sizes) (t : System) (b : Bytes m) (e : verdict m ≡ accepted s t) (values : List ℤ) (inside : VariableValues t values) where
  pub expression_decides : (g : Expression) → Sorted (sorts_of (variables t)) boolean_sort g
      → ((f : Manner) × (evaluate g (known_from values) ≡ Failed f))
      ⊎ ((evaluate g (known_from values) ≡ Value (boolean false)) ⊎ (evaluate g (known_from values) ≡ Value (boolean true)))
  expression_decides g h =
      let w = ((check_exact m b s t).0 e).2 in
      decided _ ((known_evaluates m s t b e).expressions g boolean_sort h (known_from values) (all_known (variables t) values inside.long))
      (truthful_expression (sorts_of (variables t)) (known_from values) (booleans_within t w values inside) g h)

pub guards_decide : GuardsDecide
unfolding meaning_of guard_in
guards_decide m s t b e k l values inside =
    let w = ((check_exact m b s t).0 e).2 in
    let u = element_below t.transitions k l in
    rw u.1 (expression_decides m s t b e values inside u.0.guard (element_all _ t.transitions k u.0 w.guarded u.1).guard)
