-- The effects of an instruction that is in scope are to variables of the scope.
use mathlib.Core.Bool.{Bool, true, false, cond}
use mathlib.Core.List.{List, [], ◌∷◌, ◌++◌}
use Rattle.std.specs.Prelude.{Option as Optional}
use Prim.Native.Nat.{ℕ, ◌≤◌, ◌<◌}
use native.Mathlib.Omega.{arith}
use lib.IntN.{ℤ}
use Rattle.evaluation.specs.declared.Evaluation.{Evaluation}
use Rattle.evaluation.specs.declared.Evaluation.TheVariants.{Unknown, Failed, Value}
use Rattle.evaluation.specs.Numbers.{eq_z, boolean}
use Rattle.model.specs.Trees.{Instruction, Instructions}
use Rattle.model.specs.Trees.Instruction.{skip, assign, if_then, block}
use Rattle.model.specs.Trees.Instructions.{none as no_branch, more}
use Rattle.model.specs.Walk.{Scope}
use Rattle.model.specs.WellFormed.{Scoped, AllScoped, All}
use Rattle.expressions.specs.Expressions.{Valuation, evaluate}
use Rattle.interpreter.specs.Instructions.{Effect, assigned, under, effects, effects_of_all}
use Rattle.interpreter.specs.Instructions.Effect.{fails, gives}
use Rattle.expressions.specs.Cells.{valuation_of}
use Rattle.interpreter.specs.Cells.{TargetsBelow, AllTargetsBelow}
use Rattle.waiting.proofs.Gathering.{Admissible}

-- ---- effects

-- to a variable of the scope
unfoldable pub InScope : Scope → Effect → Type 0
InScope s (fails manner) = Unit {0}
InScope s (gives x v) = (s.from ≤ x) × (x < s.past)

all_append : {A : Type 0} (P : A → Type 0) (l m : List A) → All P l → All P m → All P (l ++ m)
unfolding All
all_append P [] m h k = k
all_append P (a ∷ l) m h k = (h.0, all_append P l m h.1 k)

assigned_in_scope : (s : Scope) (x : ℕ) → s.from ≤ x → x < s.past → (v : Evaluation) → All (InScope s) (assigned x v)
unfolding assigned All InScope
assigned_in_scope s x l u Unknown = tt
assigned_in_scope s x l u (Failed manner) = (tt, tt)
assigned_in_scope s x l u (Value v) = ((l, u), tt)

under_in_scope : (s : Scope) (v : Evaluation) (es : List Effect) → All (InScope s) es → All (InScope s) (under v es)
unfolding under All InScope
under_in_scope s Unknown es h = tt
under_in_scope s (Failed manner) es h = (tt, tt)
under_in_scope s (Value v) es h = by (eq_z v (boolean true))
  where
    by : (t : Bool) → All (InScope s) (cond t es [])
    by true = h
    by false = tt

module _ (σ : Valuation) where
  mutual
    unfolding effects Scoped All

    pub effects_in_scope : (i : Instruction) (s : Scope) → Scoped i s → All (InScope s) (effects i σ)
    effects_in_scope skip s h = tt
    effects_in_scope (assign x e) s h = assigned_in_scope s x h.0 h.1 (evaluate e σ)
    effects_in_scope (if_then c i) s h = under_in_scope s (evaluate c σ) (effects i σ) (effects_in_scope i s h.1)
    effects_in_scope (block is) s h = all_effects_in_scope is s h

    pub all_effects_in_scope : (is : Instructions) (s : Scope) → AllScoped is s → All (InScope s) (effects_of_all is σ)
    all_effects_in_scope no_branch s h = tt
    all_effects_in_scope (more i is) s h =
        all_append (InScope s) (effects i σ) (effects_of_all is σ) (effects_in_scope i s h.0) (all_effects_in_scope is s h.1)

-- a scope that ends within the cells and the variables
pub admissible_effects : (s : Scope) {cells variables : ℕ} → s.past ≤ cells → s.past ≤ variables
    → (es : List Effect) → All (InScope s) es → All (Admissible cells variables) es
unfolding All InScope Admissible
admissible_effects s p q [] h = tt
admissible_effects s p q (fails manner ∷ es) h = (tt, admissible_effects s p q es h.1)
admissible_effects s p q (gives x v ∷ es) h =
    ((omega (arith, h.0.1), omega (arith, h.0.1)), admissible_effects s p q es h.1)

-- over cells, whatever they hold
pub scoped_effects : (cells : List (Optional ℤ)) (i : Instruction) (s : Scope) → Scoped i s → {n m : ℕ} → s.past ≤ n → s.past ≤ m
    → All (Admissible n m) (effects i (valuation_of cells))
scoped_effects cells i s h p q =
    admissible_effects s p q (effects i (valuation_of cells)) (effects_in_scope (valuation_of cells) i s h)

-- ---- targets

mutual
  unfolding Scoped TargetsBelow

  pub targets_below : (i : Instruction) (s : Scope) {n : ℕ} → Scoped i s → s.past ≤ n → TargetsBelow i n
  targets_below skip s h p = tt
  targets_below (assign x e) s h p = omega (arith, h.1)
  targets_below (if_then c i) s h p = targets_below i s h.1 p
  targets_below (block is) s h p = all_targets_below is s h p

  pub all_targets_below : (is : Instructions) (s : Scope) {n : ℕ} → AllScoped is s → s.past ≤ n → AllTargetsBelow is n
  all_targets_below no_branch s h p = tt
  all_targets_below (more i is) s h p = (targets_below i s h.0 p, all_targets_below is s h.1 p)
