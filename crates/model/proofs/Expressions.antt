-- What the functions that walk over an expression answer: a law for each, step by step as they go.
use mathlib.Core.Path.{◌≡◌, refl}
use mathlib.Core.Bool.{Bool, true, false, cond, ◌||◌}
use mathlib.Core.List.{List}
use Prim.Native.Nat.{ℕ, zero, suc, ◌-◌, ◌≤◌}
use native.Mathlib.Omega.{arith}
use borrow.Author.Tests.{le-leb}
use lib.Dec.{eqb, leb}
use lib.IntN.{ℤ}
use Rattle.std.specs.Prelude.{Option, Some, Ok}
use Rattle.kinds.specs.declared.Sort.{Sort}
use Rattle.kinds.specs.Kinds.{between, boolean_sort, children_of, operand_sort}
use Rattle.model.specs.Trees.{Expression}
use Rattle.model.specs.Walk.{Walk, outcome, operands_at, expression_at}
use Rattle.syntax.specs.Readings.{expression_allowed, expression_fits, expression_refusal, expression_reading}
use Rattle.model.proofs.Walking.{and_step, outcome_next, outcome_last, outcome_due, no_depth, one_less, not_zero}

module _ (ks : List ℕ) (ps : List ℤ) where
  pub expression_outcome : (sorts : List Sort) (left : ℕ) (wanted : Option Sort) (at : ℕ)
      → outcome (expression_at ks ps sorts left wanted at)
      ≡ and_step (expression_reading ks ps sorts left wanted at)
      (λ node. outcome (operands_at ks ps (expression_at ks ps sorts (left - 1)) wanted node.kind node.parameter node.next.at (children_of node.kind)))
  unfolding expression_at expression_refusal
  expression_outcome sorts zero wanted at =
      outcome_due ks ps (expression_refusal ks ps sorts 0 wanted at) at _ _ (λ e. absurd (no_depth ks ps (expression_allowed wanted) (expression_fits sorts wanted) at e))
  expression_outcome sorts (suc left) wanted at =
      rw (one_less left) (outcome_due ks ps (expression_refusal ks ps sorts (suc left) wanted at) at _ _ (λ e. refl))

-- ---- the children of an expression node

pub children_most : (k : ℕ) → children_of k ≤ 3
unfolding children_of
children_most k = by (eqb k 17 || eqb k 35) (eqb k 5 || eqb k 18 || between 36 45 k || eqb k 47) (eqb k 46)
  where
    by : (s t u : Bool) → cond s 1 (cond t 2 (cond u 3 0)) ≤ 3
    by true t u = omega arith
    by false true u = omega arith
    by false false true = omega arith
    by false false false = omega arith

module _ (ks : List ℕ) (ps : List ℤ) (child : Option Sort → ℕ → Walk Expression) (wanted : Option Sort) (k : ℕ) (p : ℤ) (at : ℕ) where
  -- by the number of children: none, an if-then-else's three, one or two
  pub operands_outcome : (n : ℕ) → outcome (operands_at ks ps child wanted k p at n)
      ≡ cond (eqb n 0) (Ok (record { at = at })) (cond (leb 3 n) (outcome (operands_at ks ps child wanted k p at 3))
      (and_step (outcome (child (Some (operand_sort k)) at)) (λ c. cond (eqb n 1) (Ok c) (outcome (child (Some (operand_sort k)) c.at)))))
  unfolding operands_at outcome
  operands_outcome zero = refl
  operands_outcome (suc zero) = outcome_next _ _ _ (λ a n. refl)
  operands_outcome (suc (suc zero)) = outcome_next _ _ _ (λ a n. outcome_last _ _)
  operands_outcome (suc (suc (suc n))) = rw (not_zero (suc (suc n)), le-leb 3 (suc (suc (suc n))) (omega arith))

  pub conditional_outcome : outcome (operands_at ks ps child wanted k p at 3)
      ≡ and_step (outcome (child boolean_sort at)) (λ c. and_step (outcome (child wanted c.at)) (λ d. outcome (child wanted d.at)))
  unfolding operands_at
  conditional_outcome = outcome_next _ _ _ (λ a n. outcome_next _ _ _ (λ b m. outcome_last _ _))
