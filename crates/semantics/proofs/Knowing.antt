-- Where every variable is known, no expression that has its sort is unknown, and no instruction waits.
use mathlib.Core.Path.{◌≡◌, refl, sym, subst}
use mathlib.Core.Bool.{Bool, true, false, cond, ◌||◌}
use mathlib.Core.List.{List, [], ◌∷◌}
use mathlib.Core.Option.{Option, some, none}
use Prim.Native.Nat.{ℕ, zero, suc, ◌<◌}
use native.Mathlib.Omega.{arith}
use native.Mathlib.Nat.{not-suc-le-zero, le_of_suc-le-suc}
use lib.IntN.{ℤ, pos}
use lib.ListN.{length, get_elem?, length-map}
use Rattle.std.specs.Prelude.{Option as Optional, slice_get}
use Rattle.evaluation.specs.declared.Evaluation.{Evaluation}
use Rattle.evaluation.specs.declared.Evaluation.TheVariants.{Unknown, Failed, Value}
use Rattle.evaluation.specs.declared.Operator.{Operator}
use Rattle.evaluation.specs.declared.Operator.TheVariants.{Conjunction, Disjunction, Equality, Less, LessOrEqual, Sum, Difference, Product, Quotient, Remainder, Equivalence}
use Rattle.evaluation.specs.declared.Manner.TheVariants.{ZeroDivisor, TooLarge}
use Rattle.evaluation.specs.Numbers.{representable, checked, eq_z, boolean}
use Rattle.evaluation.specs.Meaning.{operated, negated, agree, chosen, calculated, decides, decision, divided, is_unknown, failed_in, number}
use Rattle.evaluation.proofs.Laws.{cond_keeps}
use Rattle.kinds.specs.declared.Sort.{Sort}
use Rattle.kinds.specs.Kinds.{boolean_sort}
use Rattle.model.specs.Trees.{Expression, Instruction, Instructions, Variable, Transition, System, variables, sorts_of}
use Rattle.model.specs.Trees.Expression.{numeral, truth, variable, negation, binary, if_then_else}
use Rattle.model.specs.Trees.Instruction.{skip, assign, if_then, block}
use Rattle.model.specs.Trees.Instructions.{none as no_branch, more}
use Rattle.model.specs.Walk.{Scope}
use Rattle.model.specs.Check.{action_scope, assertion_scope}
use Rattle.model.specs.WellFormed.{WellFormed, Sorted, Scoped, AllScoped, GuardedBy, All, sizes_of}
use Rattle.model.proofs.CheckExact.{check_exact}
use Rattle.expressions.specs.Expressions.{Valuation, evaluation_of, evaluate, known_from}
use Rattle.interpreter.specs.Instructions.{first_of}
use Rattle.semantics.specs.Propagation.{is_known, first_value, reset_by}
use Rattle.semantics.specs.Meanings.{guard_in, meaning_of}
use Rattle.semantics.specs.Theorems.{AllKnown, waits_under, waits, any_waits, NothingUnknown, KnownEvaluates}

-- ---- lists

pub element_below : {A : Type 0} (l : List A) (k : ℕ) → k < length l → (a : A) × (get_elem? l k ≡ some a)
element_below [] k h = absurd (not-suc-le-zero h)
element_below (a ∷ l) zero h = (a, refl)
element_below (a ∷ l) (suc k) h = element_below l k (le_of_suc-le-suc h)

pub element_all : {A : Type 0} (P : A → Type 0) (l : List A) (k : ℕ) (a : A) → All P l → get_elem? l k ≡ some a → P a
unfolding All
element_all P [] k a h e = let z : ◌≡◌ {A = ℕ} 0 1 = cc in absurd (omega arith)
element_all P (b ∷ l) zero a h e = let z : b ≡ a = cc in subst P z h.0
element_all P (b ∷ l) (suc k) a h e = element_all P l k a h.1 e

-- ---- evaluations

abbrev Known : Evaluation → Type 0
Known a = is_unknown a ≡ false

known_checked : (z : ℤ) → Known (checked z)
unfolding checked is_unknown
known_checked z = cond_keeps Known (representable z) (Value z) (Failed TooLarge) refl refl

known_divided : (f : ℤ → ℤ → ℤ) (a b : ℤ) → Known (divided f a b)
unfolding divided is_unknown
known_divided f a b = cond_keeps Known (eq_z b (pos 0)) (Failed ZeroDivisor) (checked (f a b)) refl (known_checked (f a b))

known_calculated : (op : Operator) (a b : ℤ) → Known (calculated op a b)
unfolding calculated is_unknown
known_calculated Conjunction a b = refl
known_calculated Disjunction a b = refl
known_calculated Equality a b = refl
known_calculated Less a b = refl
known_calculated LessOrEqual a b = refl
known_calculated Sum a b = known_checked _
known_calculated Difference a b = known_checked _
known_calculated Product a b = known_checked _
known_calculated Quotient a b = known_divided _ a b
known_calculated Remainder a b = known_divided _ a b
known_calculated Equivalence a b = refl

known_operated : (op : Operator) (a b : Evaluation) → Known a → Known b → Known (operated op a b)
unfolding operated is_unknown
known_operated op a b h k =
    rw (h, k)
    (cond_keeps Known (decides op a || decides op b) (Value (decision op)) _ refl
    (cond_keeps Known (failed_in ZeroDivisor a || failed_in ZeroDivisor b) (Failed ZeroDivisor) _ refl
    (cond_keeps Known (failed_in TooLarge a || failed_in TooLarge b) (Failed TooLarge) _ refl (known_calculated op (number a) (number b)))))

known_negated : (a : Evaluation) → Known a → Known (negated a)
unfolding negated is_unknown
known_negated Unknown h = h
known_negated (Failed manner) h = refl
known_negated (Value v) h = refl

known_chosen : (c a b : Evaluation) → Known c → Known a → Known b → Known (chosen c a b)
unfolding chosen is_unknown
known_chosen Unknown a b h k l = cond_keeps Known (agree a b) a Unknown k h
known_chosen (Failed manner) a b h k l = rw (k, l) (cond_keeps Known (agree a b) a (Failed manner) k refl)
known_chosen (Value v) a b h k l = cond_keeps Known (eq_z v (boolean true)) a b k l

known_variable : (o : Option ℤ) → is_known o ≡ true → is_unknown (evaluation_of o) ≡ false
unfolding is_known evaluation_of is_unknown
known_variable none h = sym h
known_variable (some v) h = refl

module _ (vs : List Variable) (σ : Valuation) (known : AllKnown vs σ) where
  pub known_expression : (e : Expression) (sort : Optional Sort) → Sorted (sorts_of vs) sort e → is_unknown (evaluate e σ) ≡ false
  unfolding evaluate Sorted is_unknown
  known_expression (numeral v) sort h = refl
  known_expression (truth v) sort h = refl
  known_expression (variable x) sort h = known_variable (σ x) (known x (omega (arith, h.0, length-map vs (λ v. v.sort))))
  known_expression (negation a) sort h = known_negated (evaluate a σ) (known_expression a _ h.1)
  known_expression (binary op a b) sort h =
      known_operated op (evaluate a σ) (evaluate b σ) (known_expression a _ h.1) (known_expression b _ h.2)
  known_expression (if_then_else c a b) sort h =
      known_chosen (evaluate c σ) (evaluate a σ) (evaluate b σ) (known_expression c _ h.0) (known_expression a _ h.1) (known_expression b _ h.2)

  -- ---- instructions

  known_under : (v : Evaluation) (body : Bool) → is_unknown v ≡ false → body ≡ false → waits_under v body ≡ false
  unfolding waits_under is_unknown
  known_under Unknown body h k = h
  known_under (Failed manner) body h k = refl
  known_under (Value v) body h k = rw k (by (eq_z v (boolean true)))
    where
      by : (t : Bool) → cond t false false ≡ false
      by true = refl
      by false = refl

  module _ (s : Scope) (same : s.sorts ≡ sorts_of vs) where
    mutual
      unfolding waits Scoped

      pub nothing_waits : (i : Instruction) → Scoped i s → waits i σ ≡ false
      nothing_waits skip h = refl
      nothing_waits (assign x e) h = known_expression e _ (subst (λ l. Sorted l (slice_get s.sorts x) e) same h.2)
      nothing_waits (if_then c i) h =
          known_under (evaluate c σ) (waits i σ) (known_expression c _ (subst (λ l. Sorted l boolean_sort c) same h.0)) (nothing_waits i h.1)
      nothing_waits (block is) h = none_waits is h

      pub none_waits : (is : Instructions) → AllScoped is s → any_waits is σ ≡ false
      none_waits no_branch h = refl
      none_waits (more i is) h = rw (nothing_waits i h.0, none_waits is h.1)

-- ---- valuations that know every variable

pub all_known : (vs : List Variable) (values : List ℤ) → length values ≡ length vs → AllKnown vs (known_from values)
unfolding is_known
all_known vs values e x l = rw (element_below values x (omega arith)).1

reset_known : (vs : List Variable) (σ : Valuation) → AllKnown vs (reset_by vs σ)
unfolding is_known first_value first_of
reset_known vs σ x l = rw (element_below vs x l).1 (by (σ x))
  where
    by : (o : Option ℤ) → is_known (first_of o (some (element_below vs x l).0.first)) ≡ true
    by none = refl
    by (some v) = refl

-- ---- well-formed systems, accepted files

nothing_unknown : (t : System) → WellFormed t → NothingUnknown t
unfolding meaning_of guard_in
nothing_unknown t w =
    record {
      expressions = λ e sort h σ known. known_expression (variables t) σ known e sort h;
      guards = λ k l values e. let u = element_below t.transitions k l in
          rw u.1 (known_expression (variables t) (known_from values) (all_known (variables t) values e) u.0.guard _ (guarded k u.0 u.1).guard);
      actions = λ k u is values e.
          nothing_waits (variables t) (known_from values) (all_known (variables t) values e) (action_scope (sizes_of t) (variables t)) refl u.action (guarded k u is).action;
      last_reading = λ σ.
          nothing_waits (variables t) (reset_by (variables t) σ) (reset_known (variables t) σ) (assertion_scope (sizes_of t) (variables t)) refl t.assertion w.assertion;
    }
  where
    guarded : (k : ℕ) (u : Transition) → get_elem? t.transitions k ≡ some u → GuardedBy t.events (action_scope (sizes_of t) (variables t)) u
    guarded k u is = element_all _ t.transitions k u w.guarded is

pub known_evaluates : KnownEvaluates
known_evaluates m s t b e = nothing_unknown t ((check_exact m b s t).0 e).2
