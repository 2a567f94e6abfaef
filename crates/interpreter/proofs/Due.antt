-- The instructions that are due after a node: where they stand, their effects, their targets.
use mathlib.Core.Path.{◌≡◌, refl, sym, ap, subst, ◌∙◌}
use mathlib.Core.Bool.{Bool, true, false, cond}
use mathlib.Core.List.{List, [], ◌∷◌, ◌++◌, append_assoc}
use Prim.Native.Nat.{ℕ, suc, ◌+◌, ◌-◌, ◌≤◌, ◌<◌}
use native.Mathlib.Omega.{arith}
use lib.IntN.{ℤ}
use lib.ListN.{length}
use Rattle.evaluation.specs.declared.Evaluation.{Evaluation}
use Rattle.evaluation.specs.declared.Evaluation.TheVariants.{Unknown, Failed, Value}
use Rattle.evaluation.specs.Numbers.{eq_z, boolean}
use Rattle.model.specs.Trees.{Instruction, Instructions, count}
use Rattle.model.specs.Trees.Instruction.{skip, assign, if_then, block}
use Rattle.model.specs.Trees.Instructions.{none, more}
use Rattle.model.specs.Standing.{InstructionAt, InstructionsAt, size_of_expression, size_of, size_of_all}
use Rattle.expressions.specs.Expressions.{Valuation, evaluate}
use Rattle.interpreter.specs.Instructions.{Effect, effects, effects_of_all}
use Rattle.interpreter.specs.Cells.{TargetsBelow, AllTargetsBelow}
use Rattle.interpreter.specs.Gathering.{Gathering, gather, gather_all, due_after, chosen_branch}

-- ---- two runs of instructions, one after the other

unfoldable pub joined : Instructions → Instructions → Instructions
joined none b = b
joined (more i a) b = more i (joined a b)

pub count_joined : (a b : Instructions) → count (joined a b) ≡ count a + count b
unfolding joined count
count_joined none b = omega arith
count_joined (more i a) b = omega (arith, count_joined a b)

pub targets_joined : (a b : Instructions) (n : ℕ) → AllTargetsBelow a n → AllTargetsBelow b n → AllTargetsBelow (joined a b) n
unfolding joined AllTargetsBelow
targets_joined none b n h k = k
targets_joined (more i a) b n h k = (h.0, targets_joined a b n h.1 k)

pub effects_joined : (a b : Instructions) (σ : Valuation) → effects_of_all (joined a b) σ ≡ effects_of_all a σ ++ effects_of_all b σ
unfolding joined effects_of_all
effects_joined none b σ = refl
effects_joined (more i a) b σ =
    ap (λ l. effects i σ ++ l) (effects_joined a b σ) ∙ sym (append_assoc (effects i σ) (effects_of_all a σ) (effects_of_all b σ))

pub gather_append : (lows highs : List ℤ) (es fs : List Effect) (g : Gathering)
    → gather_all lows highs (es ++ fs) g ≡ gather_all lows highs fs (gather_all lows highs es g)
unfolding gather_all
gather_append lows highs [] fs g = refl
gather_append lows highs (e ∷ es) fs g = gather_append lows highs es fs (gather lows highs e g)

-- ---- what is due after a node

pub size_positive : (i : Instruction) → 0 < size_of i
unfolding size_of
size_positive skip = omega arith
size_positive (assign x e) = omega arith
size_positive (if_then c i) = omega arith
size_positive (block is) = omega arith

branch_size : (v : Evaluation) (i : Instruction) → size_of_all (chosen_branch v i) ≤ size_of i
unfolding chosen_branch size_of_all
branch_size Unknown i = omega arith
branch_size (Failed m) i = omega arith
branch_size (Value v) i = by (eq_z v (boolean true))
  where
    by : (t : Bool) → size_of_all (cond t (more i none) none) ≤ size_of i
    by true = omega arith
    by false = omega arith

-- a node is left behind
pub due_size : (σ : Valuation) (i : Instruction) → size_of_all (due_after i σ) < size_of i
unfolding due_after size_of size_of_all
due_size σ skip = omega arith
due_size σ (assign x e) = omega arith
due_size σ (if_then c i) = omega (arith, branch_size (evaluate c σ) i)
due_size σ (block is) = omega arith

pub due_targets : (σ : Valuation) (i : Instruction) (n : ℕ) → TargetsBelow i n → AllTargetsBelow (due_after i σ) n
unfolding due_after chosen_branch TargetsBelow AllTargetsBelow
due_targets σ skip n h = tt
due_targets σ (assign x e) n h = tt
due_targets σ (if_then c i) n h = by (evaluate c σ)
  where
    chosen : (t : Bool) → AllTargetsBelow (cond t (more i none) none) n
    chosen true = (h, tt)
    chosen false = tt

    by : (v : Evaluation) → AllTargetsBelow (chosen_branch v i) n
    by Unknown = tt
    by (Failed m) = tt
    by (Value v) = chosen (eq_z v (boolean true))
due_targets σ (block is) n h = h

module _ (ks : List ℕ) (ps : List ℤ) where
  pub instruction_within : (i : Instruction) (at : ℕ) → InstructionAt ks ps i at → (at < length ks) × (at < length ps)
  unfolding InstructionAt
  instruction_within skip at h = (h.within, h.within_parameters)
  instruction_within (assign x e) at h = (h.0.within, h.0.within_parameters)
  instruction_within (if_then c i) at h = (h.0.within, h.0.within_parameters)
  instruction_within (block is) at h = (h.0.within, h.0.within_parameters)

  pub moved : (is : Instructions) {m n : ℕ} → m ≡ n → InstructionsAt ks ps is m → InstructionsAt ks ps is n
  moved is p h = subst (λ n. InstructionsAt ks ps is n) p h

  pub joined_stand : (a b : Instructions) (at : ℕ) → InstructionsAt ks ps a at → InstructionsAt ks ps b (at + size_of_all a) → InstructionsAt ks ps (joined a b) at
  unfolding joined InstructionsAt size_of_all
  joined_stand none b at h k = moved b (omega arith) k
  joined_stand (more i a) b at h k = (h.0, joined_stand a b (at + size_of i) h.1 (moved b (omega arith) k))

  -- no more instructions than nodes
  pub count_within : (is : Instructions) (at : ℕ) → InstructionsAt ks ps is at → count is ≤ length ks - at
  unfolding InstructionsAt count
  count_within none at h = omega arith
  count_within (more i is) at h =
      omega (arith, instruction_within i at h.0, size_positive i, count_within is (at + size_of i) h.1)

  pub due_stand : (σ : Valuation) (i : Instruction) (at : ℕ) → InstructionAt ks ps i at
      → InstructionsAt ks ps (due_after i σ) (at + size_of i - size_of_all (due_after i σ))
  unfolding InstructionAt InstructionsAt due_after chosen_branch size_of size_of_all
  due_stand σ skip at h = tt
  due_stand σ (assign x e) at h = tt
  due_stand σ (if_then c i) at h = by (evaluate c σ)
    where
      chosen : (t : Bool)
          → InstructionsAt ks ps (cond t (more i none) none) (at + suc (size_of_expression c + size_of i) - size_of_all (cond t (more i none) none))
      chosen true = (subst (λ n. InstructionAt ks ps i n) (omega arith) h.2, tt)
      chosen false = tt

      by : (v : Evaluation)
          → InstructionsAt ks ps (chosen_branch v i) (at + suc (size_of_expression c + size_of i) - size_of_all (chosen_branch v i))
      by Unknown = tt
      by (Failed m) = tt
      by (Value v) = chosen (eq_z v (boolean true))
  due_stand σ (block is) at h = moved is (omega arith) h.1
