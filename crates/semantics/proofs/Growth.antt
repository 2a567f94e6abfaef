-- As more variables become known, evaluations that are not unknown stay, and every effect stays an effect.
use mathlib.Core.Path.{◌≡◌, refl}
use mathlib.Core.Logic.{⊎_elim}
use mathlib.Core.Bool.{Bool, true, false, cond}
use mathlib.Core.List.Memᴰ
use mathlib.Core.List.{List, [], ◌++◌, Memᴰ}
use mathlib.Core.Option.{Option, some, none}
use Prim.Native.Nat.{ℕ}
use lib.IntN.{ℤ}
use Rattle.evaluation.specs.declared.Evaluation.{Evaluation}
use Rattle.evaluation.specs.declared.Evaluation.TheVariants.{Unknown, Failed, Value}
use Rattle.evaluation.specs.Numbers.{eq_z, boolean}
use Rattle.evaluation.specs.Laws.{Grows}
use Rattle.evaluation.specs.Laws.Grows.{stays, known}
use Rattle.evaluation.proofs.Laws.{operators_grow}
use Rattle.model.specs.Trees.{Instruction, Instructions}
use Rattle.model.specs.Trees.Expression.{numeral, truth, variable, negation, binary, if_then_else}
use Rattle.model.specs.Trees.Instruction.{skip, assign, if_then, block}
use Rattle.model.specs.Trees.Instructions.{none as no_branch, more}
use Rattle.expressions.specs.Expressions.{Valuation, evaluation_of, evaluate}
use Rattle.interpreter.specs.Instructions.{Effect, assigned, under, effects, effects_of_all}
use Rattle.semantics.specs.Theorems.{Extends, EvaluationGrows}

variable_grows : (a b : Option ℤ) → ((v : ℤ) → a ≡ some v → b ≡ some v) → Grows (evaluation_of a) (evaluation_of b)
unfolding evaluation_of
variable_grows none b h = known
variable_grows (some v) b h = rw (h v refl) stays

pub growth : EvaluationGrows
unfolding evaluate
growth (numeral v) σ τ h = stays
growth (truth v) σ τ h = stays
growth (variable x) σ τ h = variable_grows (σ x) (τ x) (h x)
growth (negation a) σ τ h = operators_grow.1 (evaluate a σ) (evaluate a τ) (growth a σ τ h)
growth (binary op a b) σ τ h =
    operators_grow.0 op (evaluate a σ) (evaluate a τ) (evaluate b σ) (evaluate b τ) (growth a σ τ h) (growth b σ τ h)
growth (if_then_else c a b) σ τ h =
    operators_grow.2 (evaluate c σ) (evaluate c τ) (evaluate a σ) (evaluate a τ) (evaluate b σ) (evaluate b τ)
    (growth c σ τ h) (growth a σ τ h) (growth b σ τ h)

-- every element of one list is an element of the other
abbrev pub Includes : List Effect → List Effect → Type 0
Includes es fs = (e : Effect) → Memᴰ e es → Memᴰ e fs

assigned_grows : (x : ℕ) (a b : Evaluation) → Grows a b → Includes (assigned x a) (assigned x b)
unfolding assigned
assigned_grows x a b stays e m = m
assigned_grows x a b known e m = absurd (Memᴰ.not-nil m)

cond_includes : (t : Bool) (es fs : List Effect) → Includes es fs → Includes (cond t es []) (cond t fs [])
cond_includes true es fs h e m = h e m
cond_includes false es fs h e m = m

under_includes : (c : Evaluation) (es fs : List Effect) → Includes es fs → Includes (under c es) (under c fs)
unfolding under
under_includes Unknown es fs h e m = m
under_includes (Failed manner) es fs h e m = m
under_includes (Value v) es fs h e m = cond_includes (eq_z v (boolean true)) es fs h e m

under_grows : (c d : Evaluation) (es fs : List Effect) → Grows c d → Includes es fs → Includes (under c es) (under d fs)
unfolding under
under_grows c d es fs stays h e m = under_includes c es fs h e m
under_grows c d es fs known h e m = absurd (Memᴰ.not-nil m)

append_includes : (es es' fs fs' : List Effect) → Includes es es' → Includes fs fs' → Includes (es ++ fs) (es' ++ fs')
append_includes es es' fs fs' h k e m =
    ⊎_elim (λ n. Memᴰ.append_left fs' (h e n)) (λ n. Memᴰ.append_right es' (k e n)) (Memᴰ.append_cases es m)

mutual
  unfolding effects effects_of_all

  pub effects_grow : (i : Instruction) (σ τ : Valuation) → Extends σ τ → Includes (effects i σ) (effects i τ)
  effects_grow skip σ τ h e m = m
  effects_grow (assign x a) σ τ h e m = assigned_grows x (evaluate a σ) (evaluate a τ) (growth a σ τ h) e m
  effects_grow (if_then c i) σ τ h e m =
      under_grows (evaluate c σ) (evaluate c τ) (effects i σ) (effects i τ) (growth c σ τ h)
      (λ f n. effects_grow i σ τ h f n) e m
  effects_grow (block is) σ τ h e m = all_effects_grow is σ τ h e m

  all_effects_grow : (is : Instructions) (σ τ : Valuation) → Extends σ τ → Includes (effects_of_all is σ) (effects_of_all is τ)
  all_effects_grow no_branch σ τ h e m = m
  all_effects_grow (more i is) σ τ h e m =
      append_includes (effects i σ) (effects i τ) (effects_of_all is σ) (effects_of_all is τ)
      (λ f n. effects_grow i σ τ h f n) (λ f n. all_effects_grow is σ τ h f n) e m
