-- What the functions that walk over an instruction answer: a law for each, step by step as they go.
use mathlib.Core.Path.{◌≡◌, refl}
use mathlib.Core.Bool.{Bool, true, false, cond}
use mathlib.Core.List.{List}
use Prim.Native.Nat.{ℕ, zero, suc, ◌-◌, ◌<◌}
use native.Mathlib.Omega.{arith}
use borrow.Author.Tests.{ne_eqb}
use lib.Dec.{eqb}
use lib.IntN.{ℤ, nat_abs}
use Rattle.std.specs.Prelude.{Option, Ok, slice_get}
use Rattle.kinds.specs.declared.Sort.{Sort}
use Rattle.kinds.specs.declared.Place.TheVariants.{Instruction as InstructionPlace}
use Rattle.kinds.specs.Kinds.{boolean_sort, children_of}
use Rattle.model.specs.Trees.{Expression, Instruction, Instructions}
use Rattle.model.specs.Trees.Instruction.{block}
use Rattle.model.specs.Walk.{Walk, Scope, and_then, outcome, expression_at, branches_at, parts_at, instruction_at}
use Rattle.syntax.specs.Readings.{kind_at, stands_at, instruction_fits, instruction_refusal, instruction_reading}
use Rattle.model.specs.Walk.Walk.{found}
use Rattle.model.proofs.Walking.{and_step, outcome_next, outcome_last, outcome_due, no_depth, one_less, not_zero}

module _ (ks : List ℕ) (ps : List ℤ) where
  pub instruction_outcome : (s : Scope) (left at : ℕ) → outcome (instruction_at ks ps s left at)
      ≡ and_step (instruction_reading ks ps s.from s.past left at) (λ node. cond (eqb node.kind 19)
      (outcome (branches_at ks ps (instruction_at ks ps s (left - 1)) (nat_abs node.parameter) node.next.at))
      (outcome (parts_at ks ps (expression_at ks ps s.sorts (left - 1)) (instruction_at ks ps s (left - 1))
      (slice_get s.sorts (nat_abs node.parameter)) node.parameter node.next.at (children_of node.kind))))
  unfolding instruction_at instruction_refusal
  instruction_outcome s zero at =
      outcome_due ks ps (instruction_refusal ks ps s.from s.past 0 at) at _ _ (λ e. absurd (no_depth ks ps (stands_at InstructionPlace) (instruction_fits s.from s.past) at e))
  instruction_outcome s (suc left) at =
      rw (one_less left) (outcome_due ks ps (instruction_refusal ks ps s.from s.past (suc left) at) at _ _ (λ e. by (eqb (kind_at ks ps at) 19) _ _))
    where
      by : (t : Bool) (w : Walk Instructions) (v : Walk Instruction) → outcome (cond t (and_then w (λ is next. found (block is) next)) v) ≡ cond t (outcome w) (outcome v)
      by true w v = outcome_last w block
      by false w v = refl

  -- the branches of a block
  pub branches_none : (child : ℕ → Walk Instruction) (n at : ℕ) → n ≡ 0 → outcome (branches_at ks ps child n at) ≡ Ok (record { at = at })
  unfolding branches_at outcome
  branches_none child n at e = rw e

  pub branches_more : (child : ℕ → Walk Instruction) (n at : ℕ) → 0 < n
      → outcome (branches_at ks ps child n at) ≡ and_step (outcome (child at)) (λ c. outcome (branches_at ks ps child (n - 1) c.at))
  unfolding branches_at
  branches_more child zero at l = absurd (omega arith)
  branches_more child (suc n) at l = rw (one_less n) (outcome_next _ _ _ (λ a m. outcome_last _ _))

  -- what follows a node other than a block, by the number of its children
  pub parts_outcome : (expression : Option Sort → ℕ → Walk Expression) (child : ℕ → Walk Instruction) (sort : Option Sort) (p : ℤ) (at n : ℕ)
      → outcome (parts_at ks ps expression child sort p at n)
      ≡ cond (eqb n 0) (Ok (record { at = at })) (cond (eqb n 1) (outcome (expression sort at))
      (and_step (outcome (expression boolean_sort at)) (λ c. outcome (child c.at))))
  unfolding parts_at outcome
  parts_outcome expression child sort p at zero = refl
  parts_outcome expression child sort p at (suc zero) = outcome_last _ _
  parts_outcome expression child sort p at (suc (suc n)) =
      rw (not_zero (suc n), ne_eqb (suc (suc n)) 1 (λ e. omega arith)) (outcome_next _ _ _ (λ a m. outcome_last _ _))
