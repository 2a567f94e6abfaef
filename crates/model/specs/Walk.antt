-- The walk over the nodes. 01: "the walk, where the first offending node ends it and 4 to 7 are tried in that order".
-- Its fuel is the depth that is left: 32 at a guard, an action or the assertion, one less at each child. Where a kind may
-- stand and what it yields is its row in 01's list (`row_of`); how many children it has is `children_of`, of the same row.
use Rattle.std.specs.Prelude.{cond, List, [], ◌∷◌, ℕ, zero, suc, ◌+◌, eqb, ℤ, pos, nat_abs, slice_get, Option, Some, None, Result, Ok, Err}
use Rattle.evaluation.specs.Numbers.{greatest}
use Rattle.results.specs.declared.refusal.Refusal.{Refusal}
use Rattle.results.specs.declared.refusal.Refusal.TheVariants.{TooDeep}
use Rattle.syntax.specs.declared.Cursor.{Cursor}
use Rattle.model.specs.declared.Declaration.{Declaration}
use Rattle.kinds.specs.declared.Sort.{Sort}
use Rattle.kinds.specs.declared.Sort.TheVariants.{Boolean, Number}
use Rattle.kinds.specs.declared.Place.TheVariants.{HighEnd, FirstValue}
use Rattle.kinds.specs.Kinds.{children_of, operand_sort, operator_of, boolean_sort}
use Rattle.syntax.specs.Readings.{kind_at, parameter_at, expression_refusal, instruction_refusal, variable_refusal, end_refusal, transition_refusal}
use Rattle.model.specs.Trees.{Expression, Instruction, Instructions, Variable, Transition}
use Rattle.model.specs.Trees.Expression.{numeral, truth, variable, negation, binary, if_then_else}
use Rattle.model.specs.Trees.Instruction.{skip, assign, if_then, block}
use Rattle.model.specs.Trees.Instructions.{none, more}

-- a refusal, or what was read and the place of the next node
pub data Walk (A : Type 0) : Type 0 where
  refused : Refusal → Walk A
  found : A → ℕ → Walk A

unfoldable pub and_then : {A B : Type 0} → Walk A → (A → ℕ → Walk B) → Walk B
and_then (refused r) k = refused r
and_then (found a next) k = k a next

-- what refuses a node, if anything does, before anything else
unfoldable pub unless_refused : {A : Type 0} → Option Refusal → Walk A → Walk A
unless_refused None w = w
unless_refused (Some r) w = refused r

-- what the check's functions answer of a walk: the refusal, or the place of the next node
unfoldable pub outcome : {A : Type 0} → Walk A → Result Cursor Refusal
outcome (refused r) = Err r
outcome (found a next) = Ok (record { at = next })

unfoldable pub declaration_of : Walk Variable → Result Declaration Refusal
declaration_of (refused r) = Err r
declaration_of (found v next) =
    Ok (record { sort = v.sort; low = v.low; high = v.high; first = v.first; next = record { at = next } })

-- what instructions may name: the variables' sorts, and the variables from `from` up to `past` as targets
pub record Scope : Type 0 where
  pub sorts : List Sort
  pub from : ℕ
  pub past : ℕ

abbrev pub scope_of : List Sort → ℕ → ℕ → Scope
scope_of sorts from past = record { sorts = sorts; from = from; past = past }

-- an expression without children
unfoldable pub leaf : ℕ → ℤ → Expression
leaf k p = cond (eqb k 32) (numeral p) (cond (eqb k 33) (truth p) (variable (nat_abs p)))

module _ (ks : List ℕ) (ps : List ℤ) where
  -- the children of an expression node with kind k, by their number, from place `at` on; `child` reads one
  unfoldable pub operands_at : (Option Sort → ℕ → Walk Expression) → Option Sort → ℕ → ℤ → ℕ → ℕ → Walk Expression
  operands_at child wanted k p at zero = found (leaf k p) at
  operands_at child wanted k p at (suc zero) = and_then (child (Some (operand_sort k)) at) (λ a next. found (negation a) next)
  operands_at child wanted k p at (suc (suc zero)) =
      and_then (child (Some (operand_sort k)) at) (λ a second.
      and_then (child (Some (operand_sort k)) second) (λ b next.
      found (binary (operator_of k) a b) next))
  operands_at child wanted k p at (suc (suc (suc n))) =
      and_then (child boolean_sort at) (λ c second.
      and_then (child wanted second) (λ a third.
      and_then (child wanted third) (λ b next.
      found (if_then_else c a b) next)))

  -- an expression of the wanted sort at place `at`
  unfoldable pub expression_at : List Sort → ℕ → Option Sort → ℕ → Walk Expression
  expression_at sorts zero wanted at = unless_refused (expression_refusal ks ps sorts zero wanted at) (refused TooDeep)
  expression_at sorts (suc left) wanted at =
      unless_refused (expression_refusal ks ps sorts (suc left) wanted at)
      (operands_at (λ w next. expression_at sorts left w next) wanted (kind_at ks ps at) (parameter_at ks ps at) (at + 1) (children_of (kind_at ks ps at)))

  -- so many branches from place `at` on; `child` reads one
  unfoldable pub branches_at : (ℕ → Walk Instruction) → ℕ → ℕ → Walk Instructions
  branches_at child zero at = found none at
  branches_at child (suc n) at =
      and_then (child at) (λ i next.
      and_then (branches_at child n next) (λ is last.
      found (more i is) last))

  -- what follows an instruction node other than a block, by the number of its children
  unfoldable pub parts_at : (Option Sort → ℕ → Walk Expression) → (ℕ → Walk Instruction) → Option Sort → ℤ → ℕ → ℕ → Walk Instruction
  parts_at expression child sort p at zero = found skip at
  parts_at expression child sort p at (suc zero) =
      and_then (expression sort at) (λ e next. found (assign (nat_abs p) e) next)
  parts_at expression child sort p at (suc (suc n)) =
      and_then (expression boolean_sort at) (λ c second.
      and_then (child second) (λ i next.
      found (if_then c i) next))

  -- an instruction at place `at`; 19 alone has as many children as its parameter says
  unfoldable pub instruction_at : Scope → ℕ → ℕ → Walk Instruction
  instruction_at s zero at = unless_refused (instruction_refusal ks ps s.from s.past zero at) (refused TooDeep)
  instruction_at s (suc left) at =
      unless_refused (instruction_refusal ks ps s.from s.past (suc left) at)
      (cond (eqb (kind_at ks ps at) 19)
      (and_then (branches_at (λ next. instruction_at s left next) (nat_abs (parameter_at ks ps at)) (at + 1)) (λ is next. found (block is) next))
      (parts_at (λ w next. expression_at s.sorts left w next) (λ next. instruction_at s left next)
      (slice_get s.sorts (nat_abs (parameter_at ks ps at))) (parameter_at ks ps at) (at + 1) (children_of (kind_at ks ps at))))

  -- 01: "kind 1, Boolean, P its first value, 0 or 1; or three nodes: 2 (P low end), 3 (P high end, not below low), 4 (P
  -- first value, within the ends)". No 32-bit number is above `greatest`.
  unfoldable pub range_at : ℤ → ℕ → Walk Variable
  range_at low at =
      unless_refused (end_refusal ks ps HighEnd low greatest at)
      (unless_refused (end_refusal ks ps FirstValue low (parameter_at ks ps at) (at + 1))
      (found (record { sort = Number; low = low; high = parameter_at ks ps at; first = parameter_at ks ps (at + 1) }) (at + 2)))

  unfoldable pub variable_at : ℕ → Walk Variable
  variable_at at =
      unless_refused (variable_refusal ks ps at)
      (cond (eqb (kind_at ks ps at) 1)
      (found (record { sort = Boolean; low = pos 0; high = pos 1; first = parameter_at ks ps at }) (at + 1))
      (range_at (parameter_at ks ps at) (at + 1)))

  -- 01: "Transition: 5, P an event below E; then a Boolean guard and an instruction, its action."
  unfoldable pub transition_at : ℕ → Scope → ℕ → ℕ → Walk Transition
  transition_at events s depth at =
      unless_refused (transition_refusal ks ps events at)
      (and_then (expression_at s.sorts depth boolean_sort (at + 1)) (λ g second.
      and_then (instruction_at s depth second) (λ a next.
      found (record { event = nat_abs (parameter_at ks ps at); guard = g; action = a }) next)))

-- so many in a row; `item` reads one
unfoldable pub row_at : {A : Type 0} → (ℕ → Walk A) → ℕ → ℕ → Walk (List A)
row_at item zero at = found [] at
row_at item (suc n) at =
    and_then (item at) (λ a next.
    and_then (row_at item n next) (λ rest last.
    found (a ∷ rest) last))
