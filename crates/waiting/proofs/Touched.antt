-- Of the instructions that wait only those need be read that mention what became known; order and repetition do not count.
use mathlib.Core.Path.{refl, subst}
use mathlib.Core.Logic.{◌⊎◌, ⊎_elim}
use mathlib.Core.List.Memᴰ
use mathlib.Core.List.{List, [], ◌∷◌, Memᴰ}
use Rattle.model.specs.Trees.{Instruction}
use Rattle.expressions.specs.Expressions.{Valuation}
use Rattle.interpreter.specs.Instructions.{Effect, any, effects}
use Rattle.semantics.proofs.Effects.{witness}
use Rattle.semantics.proofs.Alike.{Alike}
use Rattle.waiting.specs.Waiting.{effects_of_each, Waits, Untouched}
use Rattle.waiting.proofs.Waiting.{still_silent}
use Rattle.waiting.proofs.Quiet.{any_true, both_ways}

-- an effect of several instructions is one of an instruction among them
pub record Source (is : List Instruction) (τ : Valuation) (e : Effect) : Type 0 where
  pub from : Instruction
  pub among : Memᴰ from is
  pub gives : Memᴰ e (effects from τ)

source : (is : List Instruction) (τ : Valuation) (e : Effect) → Memᴰ e (effects_of_each is τ) → Source is τ e
unfolding effects_of_each
source [] τ e m = absurd (Memᴰ.not-nil m)
source (i ∷ is) τ e m =
    ⊎_elim (λ n. record { from = i; among = Memᴰ.head refl; gives = n })
    (λ n. let s = source is τ e n in record { from = s.from; among = Memᴰ.tail s.among; gives = s.gives })
    (Memᴰ.append_cases (effects i τ) m)

effect_of : (τ : Valuation) (i : Instruction) (e : Effect) (is : List Instruction) → Memᴰ i is → Memᴰ e (effects i τ)
    → Memᴰ e (effects_of_each is τ)
unfolding effects_of_each
effect_of τ i e is (Memᴰ.head {x} {xs} q) n =
    Memᴰ.append_left (effects_of_each xs τ) (subst (λ j. Memᴰ e (effects j τ)) q n)
effect_of τ i e is (Memᴰ.tail {x} {xs} m) n = Memᴰ.append_right (effects x τ) (effect_of τ i e xs m n)

-- `read` are some of those that wait, and each that waits is among them or is untouched
pub record Enough (waiting read : List Instruction) (σ τ : Valuation) : Type 0 where
  pub some : (i : Instruction) → Memᴰ i read → Memᴰ i waiting
  pub waits : (i : Instruction) → Memᴰ i waiting → Waits i σ
  pub rest : (i : Instruction) → Memᴰ i waiting → Memᴰ i read ⊎ Untouched i σ τ

pub enough : (waiting read : List Instruction) (σ τ : Valuation) → Enough waiting read σ τ
    → Alike (effects_of_each waiting τ) (effects_of_each read τ)
enough waiting read σ τ h =
    record {
      tests =
          λ p. both_ways (any p (effects_of_each waiting τ)) (any p (effects_of_each read τ))
          (λ a. let w = witness p (effects_of_each waiting τ) a in
          let s = source waiting τ w.0 w.1 in
          ⊎_elim (λ r. any_true p (effects_of_each read τ) w.0 (effect_of τ s.from w.0 read r s.gives) w.2)
          (λ u. absurd (Memᴰ.not-nil (subst (λ l. Memᴰ w.0 l) (still_silent s.from σ τ (h.waits s.from s.among) u) s.gives)))
          (h.rest s.from s.among))
          (λ b. let w = witness p (effects_of_each read τ) b in
          let s = source read τ w.0 w.1 in
          any_true p (effects_of_each waiting τ) w.0 (effect_of τ s.from w.0 waiting (h.some s.from s.among) s.gives) w.2);
    }
