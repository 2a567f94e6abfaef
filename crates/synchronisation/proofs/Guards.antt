-- GuardJoined, and with it GuardTogether.
use mathlib.Core.Path.{◌≡◌, refl, ap, ap₂, ◌∙◌}
use mathlib.Core.Logic.{◌⊎◌}
use mathlib.Core.Logic.◌⊎◌.{inl, inr}
use mathlib.Core.Bool.{Bool, true, false, true≢false, cond, ◌||◌, or-true}
use mathlib.Core.List.{List, [], ◌∷◌}
use mathlib.Core.Option.{some}
use Prim.Native.Nat.{ℕ}
use lib.Dec.{eqb}
use lib.IntN.{ℤ, pos}
use Rattle.evaluation.specs.declared.Evaluation.{Evaluation}
use Rattle.evaluation.specs.declared.Evaluation.TheVariants.{Failed, Value}
use Rattle.evaluation.specs.declared.Manner.{Manner}
use Rattle.evaluation.specs.declared.Manner.TheVariants.{ZeroDivisor, TooLarge}
use Rattle.evaluation.specs.declared.Operator.{Operator}
use Rattle.evaluation.specs.declared.Operator.TheVariants.{Conjunction, Disjunction}
use Rattle.evaluation.specs.Numbers.{eq_z, boolean}
use Rattle.evaluation.specs.Meaning.{operated, calculated, decides, decisive, decision, is_unknown, same_manner, failed_in, number, negated}
use Rattle.kinds.specs.Kinds.{boolean_sort}
use Rattle.model.specs.Theorems.{Bytes}
use Rattle.model.specs.Trees.{Expression, Transition, System, variables, sorts_of}
use Rattle.model.specs.WellFormed.{Sorted, All}
use Rattle.expressions.specs.Expressions.{evaluate, known_from}
use Rattle.interpreter.specs.Instructions.{any}
use Rattle.semantics.specs.Theorems.{VariableValues}
use Rattle.semantics.proofs.Deciding.{expression_decides}
use Rattle.marking.specs.Marks.{mark_of}
use Rattle.synchronisation.specs.Synchronisations.{nested, guard_of, together, is_empty}
use Rattle.synchronisation.specs.Theorems.{SynchronisedFile, all_mark, any_mark, member_marks, together_mark, joined_guard, member_guards, together_guard, GuardJoined, GuardTogether}
use Rattle.synchronisation.proofs.Listed.{no_members}
use Rattle.synchronisation.proofs.Firing.{new_guard}
use Rattle.synchronisation.proofs.Accepted.{MembersGuarded, mandatory_guarded, optional_guarded}

-- what a guard comes to over known values
data Three : Evaluation → Type 0 where
  failed : (m : Manner) → Three (Failed m)
  no : Three (Value (pos 0))
  yes : Three (Value (pos 1))

-- a guard that failed, is false or is true is one of the three
three : {a : Evaluation} → ((m : Manner) × (a ≡ Failed m)) ⊎ ((a ≡ Value (boolean false)) ⊎ (a ≡ Value (boolean true))) → Three a
three (inl e) = rw e.1 (failed e.0)
three (inr (inl e)) = rw e no
three (inr (inr e)) = rw e yes

-- ---- one guard joined with several

-- what not makes of the value that decides
abbrev other : Operator → ℤ
other op = boolean (eq_z (decision op) (boolean false))

-- what and, or have in common
record Joins (op : Operator) : Type 0 where
  decided : decisive op (decision op) ≡ true
  left_open : decisive op (other op) ≡ false
  calculated_so : (x y : ℤ) → calculated op x y ≡ Value (other op)
  of_one : {a : Evaluation} → Three a → a ≡ joined_guard op (a ∷ [])

one_by_and : {a : Evaluation} → Three a → a ≡ joined_guard Conjunction (a ∷ [])
unfolding joined_guard any decides decisive decision failed_in same_manner negated eq_z
one_by_and (failed ZeroDivisor) = refl
one_by_and (failed TooLarge) = refl
one_by_and no = refl
one_by_and yes = refl

one_by_or : {a : Evaluation} → Three a → a ≡ joined_guard Disjunction (a ∷ [])
unfolding joined_guard any decides decisive decision failed_in same_manner negated eq_z
one_by_or (failed ZeroDivisor) = refl
one_by_or (failed TooLarge) = refl
one_by_or no = refl
one_by_or yes = refl

conjunction : Joins Conjunction
unfolding decisive decision calculated eq_z
conjunction = record { decided = refl; left_open = refl; calculated_so = λ x y. refl; of_one = one_by_and }

disjunction : Joins Disjunction
unfolding decisive decision calculated eq_z
disjunction = record { decided = refl; left_open = refl; calculated_so = λ x y. refl; of_one = one_by_or }

not_unknown : {a : Evaluation} → Three a → is_unknown a ≡ false
unfolding is_unknown
not_unknown (failed m) = refl
not_unknown no = refl
not_unknown yes = refl

-- by whether one of the others decides, and in which manners they failed
one_more : (op : Operator) → Joins op → (a : Evaluation) → is_unknown a ≡ false → (x z l : Bool)
    → operated op a (cond x (Value (decision op)) (cond z (Failed ZeroDivisor) (cond l (Failed TooLarge) (negated (Value (decision op))))))
    ≡ cond (decides op a || x) (Value (decision op))
    (cond (failed_in ZeroDivisor a || z) (Failed ZeroDivisor)
    (cond (failed_in TooLarge a || l) (Failed TooLarge)
    (negated (Value (decision op)))))
unfolding operated decides is_unknown failed_in same_manner number negated
one_more op j a u true z l = rw (j.decided, or-true (decides op a))
one_more op j a u false true l = rw (u, or-true (failed_in ZeroDivisor a))
one_more op j a u false false true = rw (u, or-true (failed_in TooLarge a))
one_more op j a u false false false = rw (j.left_open, u, j.calculated_so (number a) (other op))

-- ---- the marks

-- a mark is 0, 1 or 2 by what the guard is
mark_decides_and : (a : Evaluation) → Three a → eqb (mark_of a) 0 ≡ decides Conjunction a
unfolding mark_of decides decisive eq_z
mark_decides_and _ (failed m) = refl
mark_decides_and _ no = refl
mark_decides_and _ yes = refl

mark_decides_or : (a : Evaluation) → Three a → eqb (mark_of a) 1 ≡ decides Disjunction a
unfolding mark_of decides decisive eq_z
mark_decides_or _ (failed m) = refl
mark_decides_or _ no = refl
mark_decides_or _ yes = refl

mark_failed : (a : Evaluation) → Three a → eqb (mark_of a) 2 ≡ (failed_in ZeroDivisor a || failed_in TooLarge a)
unfolding mark_of failed_in same_manner eq_z
mark_failed _ (failed ZeroDivisor) = refl
mark_failed _ (failed TooLarge) = refl
mark_failed _ no = refl
mark_failed _ yes = refl

joined_marked : (op : Operator) (x z l : Bool)
    → mark_of (cond x (Value (decision op)) (cond z (Failed ZeroDivisor) (cond l (Failed TooLarge) (negated (Value (decision op))))))
    ≡ cond x (mark_of (Value (decision op))) (cond (z || l) 2 (mark_of (negated (Value (decision op)))))
unfolding mark_of
joined_marked op true z l = refl
joined_marked op false true l = refl
joined_marked op false false true = refl
joined_marked op false false false = refl

any_either : {A : Type 0} (p q : A → Bool) (l : List A) → any (λ a. p a || q a) l ≡ (any p l || any q l)
unfolding any
any_either p q [] = refl
any_either p q (a ∷ l) = ap (λ t. p a || q a || t) (any_either p q l) ∙ by (p a) (q a) (any p l) (any q l)
  where
    by : (s t u v : Bool) → ((s || t) || (u || v)) ≡ ((s || u) || (t || v))
    by true t u v = refl
    by false true true v = refl
    by false true false v = refl
    by false false u v = refl

-- ---- guards of members

module _ (t : System) (values : List ℤ)
    (known : (e : Expression) → Sorted (sorts_of (variables t)) boolean_sort e → Three (evaluate e (known_from values))) where
  -- nested by such an operator
  nested_guard : (op : Operator) → Joins op → (u : Transition) (us : List Transition) → MembersGuarded t (u ∷ us)
      → evaluate (nested op u us) (known_from values) ≡ joined_guard op (member_guards (u ∷ us) values)
  unfolding nested evaluate All joined_guard any
  nested_guard op j u [] h = j.of_one (known u.guard h.0.guard)
  nested_guard op j u (v ∷ us) h =
      ap (operated op (evaluate u.guard (known_from values))) (nested_guard op j v us h.1)
      ∙ one_more op j _ (not_unknown (known u.guard h.0.guard)) _ _ _

  -- the new guard
  guard_joined_lem : (ts os : List Transition) → MembersGuarded t ts → MembersGuarded t os → (ts ≡ [] → os ≡ [] → ⊥)
      → evaluate (guard_of ts os) (known_from values) ≡ together_guard ts os values
  unfolding guard_of together_guard
  guard_joined_lem (u ∷ us) os h k n = nested_guard Conjunction conjunction u us h
  guard_joined_lem [] (o ∷ os) h k n = nested_guard Disjunction disjunction o os k
  guard_joined_lem [] [] h k n = absurd (n refl refl)

  -- a test of marks is one of the guards
  marks_tested : (p : ℕ → Bool) (q : Evaluation → Bool) → ((a : Evaluation) → Three a → p (mark_of a) ≡ q a)
      → (us : List Transition) → MembersGuarded t us → any p (member_marks us values) ≡ any q (member_guards us values)
  unfolding any All
  marks_tested p q same [] h = refl
  marks_tested p q same (u ∷ us) h = ap₂ (λ s t. s || t) (same _ (known u.guard h.0.guard)) (marks_tested p q same us h.1)

  failures_tested : (us : List Transition) → MembersGuarded t us
      → any (λ k. eqb k 2) (member_marks us values)
      ≡ (any (failed_in ZeroDivisor) (member_guards us values) || any (failed_in TooLarge) (member_guards us values))
  failures_tested us h =
      marks_tested (λ k. eqb k 2) (λ a. failed_in ZeroDivisor a || failed_in TooLarge a) mark_failed us h
      ∙ any_either (failed_in ZeroDivisor) (failed_in TooLarge) (member_guards us values)

  -- the mark of the new guard
  together_marked : (ts os : List Transition) → MembersGuarded t ts → MembersGuarded t os
      → mark_of (together_guard ts os values) ≡ together_mark ts os values
  unfolding together_guard together_mark joined_guard all_mark any_mark mark_of decision negated eq_z
  together_marked (u ∷ us) os h k =
      rw (marks_tested (λ k. eqb k 0) (decides Conjunction) mark_decides_and (u ∷ us) h, failures_tested (u ∷ us) h) (joined_marked Conjunction _ _ _)
  together_marked [] os h k =
      rw (marks_tested (λ k. eqb k 1) (decides Disjunction) mark_decides_or os k, failures_tested os k) (joined_marked Disjunction _ _ _)

-- a file has a member
some_member : {m ms os m' : List ℕ} (f : SynchronisedFile m ms os m') → f.mandatory ≡ [] → f.optional ≡ [] → ⊥
unfolding is_empty
some_member {ms = ms} {os = os} f p q =
    true≢false (rw (no_members _ ms (f.mandatory_found ∙ ap some p), no_members _ os (f.optional_found ∙ ap some q)) at f.given)

module _ {m ms os m' : List ℕ} (b : Bytes m) (f : SynchronisedFile m ms os m') {values : List ℤ} (within : VariableValues f.before values) where
  known : (e : Expression) → Sorted (sorts_of (variables f.before)) boolean_sort e → Three (evaluate e (known_from values))
  known e h = three (expression_decides m f.sizes f.before b f.read values within e h)

pub guard_joined : GuardJoined
guard_joined m ms os m' b f values within =
    new_guard f.before (together f.before.events f.mandatory f.optional) values
    ∙ guard_joined_lem f.before values (known b f within) f.mandatory f.optional (mandatory_guarded b f) (optional_guarded b f) (some_member f)

pub guard_together : GuardTogether
guard_together m ms os m' b f values within =
    ap mark_of (guard_joined m ms os m' b f values within)
    ∙ together_marked f.before values (known b f within) f.mandatory f.optional (mandatory_guarded b f) (optional_guarded b f)
