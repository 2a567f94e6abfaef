-- The check refuses by 1 to 8 and 37 alone: by 1, 2, 37, 3 at the header, by 4 to 7 at a node, by 8 at the end.
use mathlib.Core.Path.{◌≡◌, refl, subst}
use mathlib.Core.Logic.{◌⊎◌, inl, inr}
use mathlib.Core.Bool.{Bool, true, false, cond, not}
use mathlib.Core.List.{List}
use Prim.Native.Nat.{ℕ, zero, suc, ◌+◌, ◌*◌, ◌≤◌}
use native.Mathlib.Omega.{arith}
use lib.Dec.{eqb, ltb, leb}
use lib.IntN.{ℤ, nat_abs}
use lib.ListN.{length}
use Rattle.std.specs.Prelude.{slice_get, Option, Some, None, Ok, Err}
use Rattle.results.specs.declared.refusal.Refusal.{Refusal}
use Rattle.results.specs.declared.refusal.Refusal.TheVariants.{ShortFile, TooManyNodes, TooManyVariables, WrongLength, MissingNode, TooDeep, KindNotAllowed, ParameterNotAllowed, NodesLeftOver}
use Rattle.results.specs.Refusals.{number_of}
use Rattle.kinds.specs.declared.Sort.{Sort}
use Rattle.kinds.specs.Kinds.{children_of}
use Rattle.syntax.specs.Readings.{refusal_at, kind_at, parameter_at, expression_refusal, instruction_refusal, variable_refusal, end_refusal, transition_refusal}
use Rattle.model.specs.declared.Layout.{Layout}
use Rattle.model.specs.declared.Sizes.{Sizes}
use Rattle.model.specs.Trees.{Expression, Instruction, System}
use Rattle.model.specs.Trees.Instruction.{block}
use Rattle.model.specs.Sizes.{file_layout, header_of, node_width, sizes_in, sized as sized_in}
use Rattle.model.specs.Walk.{Walk, Scope, and_then, unless_refused, operands_at, expression_at, branches_at, parts_at, instruction_at, range_at, variable_at, transition_at, row_at}
use Rattle.model.specs.Walk.Walk.{refused, found}
use Rattle.model.specs.Check.{Verdict, complete, rest_at, system_at, verdict_of, verdict_in, verdict_of_layout}
use Rattle.model.specs.Check.Verdict.{refusal, accepted}
use Rattle.model.specs.Theorems.{CheckRefusals}

-- ---- walks

-- a refusal with one of the numbers 1 to 8
abbrev pub Low : Refusal → Type 0
Low r = (1 ≤ number_of r) × (number_of r ≤ 8)

-- whatever refuses this walk has one of these numbers
unfoldable Refusing : {A : Type 0} → Walk A → Type 0
Refusing (refused r) = Low r
Refusing (found a next) = Unit {0}

then_refusing : {A B : Type 0} (w : Walk A) (k : A → ℕ → Walk B) → Refusing w → ((a : A) (next : ℕ) → Refusing (k a next)) → Refusing (and_then w k)
unfolding Refusing and_then
then_refusing (refused n) k h f = h
then_refusing (found a next) k h f = f a next

found_refusing : {A B : Type 0} (w : Walk A) (f : A → B) → Refusing w → Refusing (and_then w (λ a next. found (f a) next))
unfolding Refusing
found_refusing w f h = then_refusing w _ h (λ a next. tt)

-- nothing, or a refusal with one of these numbers
unfoldable LowIfAny : Option Refusal → Type 0
LowIfAny None = Unit {0}
LowIfAny (Some r) = Low r

unless_refusing : {A : Type 0} (o : Option Refusal) (w : Walk A) → LowIfAny o → Refusing w → Refusing (unless_refused o w)
unfolding Refusing LowIfAny unless_refused
unless_refusing None w l h = h
unless_refusing (Some r) w l h = l

choice_refusing : {A : Type 0} (t : Bool) (w v : Walk A) → Refusing w → Refusing v → Refusing (cond t w v)
choice_refusing true w v h l = h
choice_refusing false w v h l = l

-- ---- the node that is due

refusal_low : (ks : List ℕ) (ps : List ℤ) (allowed : ℕ → Bool) (fits : ℕ → ℤ → Bool) (left at : ℕ) → LowIfAny (refusal_at ks ps allowed fits left at)
unfolding refusal_at LowIfAny number_of
refusal_low ks ps allowed fits left at = by (leb (length ks) at) (eqb left 0) (not (allowed (kind_at ks ps at))) (not (fits (kind_at ks ps at) (parameter_at ks ps at)))
  where
    by : (a b c d : Bool) → LowIfAny (cond a (Some MissingNode) (cond b (Some TooDeep) (cond c (Some KindNotAllowed) (cond d (Some ParameterNotAllowed) None))))
    by true b c d = (omega arith, omega arith)
    by false true c d = (omega arith, omega arith)
    by false false true d = (omega arith, omega arith)
    by false false false true = (omega arith, omega arith)
    by false false false false = tt

too_deep : Low TooDeep
unfolding number_of
too_deep = (omega arith, omega arith)

-- ---- expressions, instructions, variables, transitions

module _ (ks : List ℕ) (ps : List ℤ) where
  operands_refusing : (child : Option Sort → ℕ → Walk Expression) → ((w : Option Sort) (at : ℕ) → Refusing (child w at)) → (wanted : Option Sort) (k : ℕ) (p : ℤ) (at n : ℕ)
      → Refusing (operands_at ks ps child wanted k p at n)
  unfolding Refusing operands_at
  operands_refusing child h wanted k p at zero = tt
  operands_refusing child h wanted k p at (suc zero) = found_refusing _ _ (h _ at)
  operands_refusing child h wanted k p at (suc (suc zero)) = then_refusing _ _ (h _ at) (λ a second. found_refusing _ _ (h _ second))
  operands_refusing child h wanted k p at (suc (suc (suc n))) =
      then_refusing _ _ (h _ at) (λ c second. then_refusing _ _ (h _ second) (λ a third. found_refusing _ _ (h _ third)))

  expression_refusing : (sorts : List Sort) (left : ℕ) (wanted : Option Sort) (at : ℕ) → Refusing (expression_at ks ps sorts left wanted at)
  unfolding Refusing expression_at expression_refusal
  expression_refusing sorts zero wanted at = unless_refusing _ _ (refusal_low ks ps _ _ zero at) too_deep
  expression_refusing sorts (suc left) wanted at =
      unless_refusing _ _ (refusal_low ks ps _ _ (suc left) at) (operands_refusing _ (expression_refusing sorts left) _ _ _ _ _)

  branches_refusing : (child : ℕ → Walk Instruction) → ((at : ℕ) → Refusing (child at)) → (n at : ℕ) → Refusing (branches_at ks ps child n at)
  unfolding Refusing branches_at
  branches_refusing child h zero at = tt
  branches_refusing child h (suc n) at = then_refusing _ _ (h at) (λ i next. found_refusing _ _ (branches_refusing child h n next))

  parts_refusing : (expression : Option Sort → ℕ → Walk Expression) (child : ℕ → Walk Instruction) → ((w : Option Sort) (at : ℕ) → Refusing (expression w at)) → ((at : ℕ) → Refusing (child at))
      → (sort : Option Sort) (p : ℤ) (at n : ℕ) → Refusing (parts_at ks ps expression child sort p at n)
  unfolding Refusing parts_at
  parts_refusing expression child h l sort p at zero = tt
  parts_refusing expression child h l sort p at (suc zero) = found_refusing _ _ (h sort at)
  parts_refusing expression child h l sort p at (suc (suc n)) = then_refusing _ _ (h _ at) (λ c second. found_refusing _ _ (l second))

  instruction_refusing : (s : Scope) (left at : ℕ) → Refusing (instruction_at ks ps s left at)
  unfolding Refusing instruction_at instruction_refusal
  instruction_refusing s zero at = unless_refusing _ _ (refusal_low ks ps _ _ zero at) too_deep
  instruction_refusing s (suc left) at =
      let k = kind_at ks ps at in
      let p = parameter_at ks ps at in
      let blocks : Walk Instruction = and_then (branches_at ks ps (λ next. instruction_at ks ps s left next) (nat_abs p) (at + 1)) (λ is next. found (block is) next) in
      let others : Walk Instruction =
      parts_at ks ps (λ w next. expression_at ks ps s.sorts left w next) (λ next. instruction_at ks ps s left next) (slice_get s.sorts (nat_abs p)) p (at + 1) (children_of k) in
      unless_refusing _ (cond (eqb k 19) blocks others) (refusal_low ks ps _ _ (suc left) at)
      (choice_refusing (eqb k 19) blocks others
      (found_refusing _ block (branches_refusing _ (instruction_refusing s left) _ _))
      (parts_refusing _ _ (expression_refusing s.sorts left) (instruction_refusing s left) _ _ _ _))

  range_refusing : (low : ℤ) (at : ℕ) → Refusing (range_at ks ps low at)
  unfolding Refusing range_at end_refusal
  range_refusing low at =
      unless_refusing _ _ (refusal_low ks ps _ _ 1 _) (unless_refusing _ _ (refusal_low ks ps _ _ 1 _) tt)

  variable_refusing : (at : ℕ) → Refusing (variable_at ks ps at)
  unfolding Refusing variable_at variable_refusal
  variable_refusing at =
      unless_refusing _ _ (refusal_low ks ps _ _ 1 at)
      (choice_refusing (eqb (kind_at ks ps at) 1) (found _ (at + 1)) (range_at ks ps (parameter_at ks ps at) (at + 1)) tt (range_refusing _ _))

  transition_refusing : (events : ℕ) (s : Scope) (depth at : ℕ) → Refusing (transition_at ks ps events s depth at)
  unfolding transition_at transition_refusal
  transition_refusing events s depth at =
      unless_refusing _ _ (refusal_low ks ps _ _ 1 at)
      (then_refusing _ _ (expression_refusing s.sorts depth _ _) (λ g second. found_refusing _ _ (instruction_refusing s depth second)))

row_refusing : {A : Type 0} (item : ℕ → Walk A) → ((at : ℕ) → Refusing (item at)) → (n at : ℕ) → Refusing (row_at item n at)
unfolding Refusing row_at
row_refusing item h zero at = tt
row_refusing item h (suc n) at = then_refusing _ _ (h at) (λ a next. found_refusing _ _ (row_refusing item h n next))

-- ---- the whole

complete_refusing : {A : Type 0} (n : ℕ) (w : Walk A) → Refusing w → Refusing (complete n w)
unfolding Refusing complete number_of
complete_refusing n w h = then_refusing w _ h (λ a next. choice_refusing (ltb next n) (refused NodesLeftOver) (found a next) (omega arith, omega arith) tt)

system_refusing : (ks : List ℕ) (ps : List ℤ) (s : Sizes) → Refusing (system_at ks ps s)
unfolding system_at rest_at
system_refusing ks ps s =
    then_refusing _ _ (row_refusing _ (variable_refusing ks ps) _ 0)
    (λ vs second.
    found_refusing _ _
    (then_refusing _ _ (row_refusing _ (transition_refusing ks ps _ _ _) _ second)
    (λ ts third. found_refusing _ _ (instruction_refusing ks ps _ _ third))))

-- what refuses has one of these numbers, or is one of those in P
unfoldable pub Refused : (Refusal → Type 0) → Verdict → Type 0
Refused P (refusal r) = Low r ⊎ P r
Refused P (accepted s t) = Unit {0}

of_walk : (P : Refusal → Type 0) (s : Sizes) (w : Walk System) → Refusing w → Refused P (verdict_of s w)
unfolding Refusing Refused verdict_of
of_walk P s (refused n) h = inl h
of_walk P s (found t next) h = tt

-- where there are too many variables, that refusal must be in P
pub of_sizes : (l : Layout) (m : List ℕ) (P : Refusal → Type 0)
    → (ltb l.max_variables ((sizes_in l m).states + (sizes_in l m).flows) ≡ true → P TooManyVariables) → Refused P (verdict_of_layout l m)
unfolding Refused verdict_of_layout verdict_in sized_in number_of
of_sizes l m P many =
    by (ltb (length m) (header_of l)) (ltb l.max_nodes s.nodes) (ltb l.max_variables (s.states + s.flows))
    (not (eqb (length m) (header_of l + node_width * s.nodes))) many
  where
    s : Sizes
    s = sizes_in l m

    by : (a b c d : Bool) → (c ≡ true → P TooManyVariables)
        → Refused P (verdict_in l m (cond a (Err ShortFile) (cond b (Err TooManyNodes) (cond c (Err TooManyVariables) (cond d (Err WrongLength) (Ok s))))))
    by true b c d h = inl (omega arith, omega arith)
    by false true c d h = inl (omega arith, omega arith)
    by false false true d h = inr (h refl)
    by false false false true h = inl (omega arith, omega arith)
    by false false false false h = of_walk P s _ (complete_refusing _ _ (system_refusing _ _ s))

pub check_refusals : CheckRefusals
unfolding Refused
check_refusals m r e = subst (Refused (λ k. k ≡ TooManyVariables)) e (of_sizes file_layout m (λ k. k ≡ TooManyVariables) (λ h. refl))
