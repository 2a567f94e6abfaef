-- EffectsTogether.
use mathlib.Core.Path.{◌≡◌, refl, ap}
use mathlib.Core.List.{List, [], ◌∷◌, ◌++◌, flat_map, append_assoc}
use Rattle.model.specs.Trees.{Transition}
use Rattle.expressions.specs.Expressions.{Valuation, evaluate}
use Rattle.interpreter.specs.Instructions.{Effect, under, effects, effects_of_all}
use Rattle.synchronisation.specs.Synchronisations.{optional_branches, branches_of}
use Rattle.synchronisation.specs.Theorems.{EffectsTogether}

-- of the optional branches
optional_effects : (os : List Transition) (σ : Valuation)
    → effects_of_all (optional_branches os) σ ≡ flat_map (λ o. under (evaluate o.guard σ) (effects o.action σ)) os
unfolding optional_branches effects flat_map
optional_effects [] σ = refl
optional_effects (o ∷ os) σ = ap (λ (es : List Effect). under (evaluate o.guard σ) (effects o.action σ) ++ es) (optional_effects os σ)

pub effects_together : EffectsTogether
unfolding branches_of effects flat_map
effects_together [] os σ = optional_effects os σ
effects_together (t ∷ ts) os σ = rw append_assoc (ap (λ (es : List Effect). effects t.action σ ++ es) (effects_together ts os σ))
