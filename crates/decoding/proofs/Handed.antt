-- An expression handed outside a model, from what `sorts_of` answers and leaves.
use mathlib.Core.Path.{◌≡◌, sym, ap, ◌∙◌}
use mathlib.Core.List.{List}
use Prim.Native.Nat.{ℕ, ◌+◌}
use lib.IntN.{ℤ}
use lib.ListN.{take}
use Rattle.std.specs.Prelude.{Option, Result, Err}
use Rattle.results.specs.declared.refusal.Refusal.{Refusal}
use Rattle.kinds.specs.declared.Sort.{Sort}
use Rattle.results.specs.Results.{answered}
use Rattle.model.specs.declared.Sizes.{Sizes}
use Rattle.model.specs.Check.{verdict, expression_given, given_answer}
use Rattle.decoding.specs.Decoding.{sorts_after}
use Rattle.decoding.specs.Outside.{given_after}
use Rattle.decoding.proofs.VariablesInUse.{SortsInUse, sorts_refused}

module _ (m : List ℕ) (ks : List ℕ) (ps : List ℤ) (wanted : Option Sort) (left : List Sort) where
  pub refused_given : (old : List Sort) (r : Result Sizes Refusal) (n : Refusal) → answered r left ≡ sorts_after (verdict m) old → r ≡ Err n
      → Err n ≡ given_after (verdict m) ks ps wanted
  unfolding given_after
  refused_given old r n e h = ap (λ v. given_after v ks ps wanted) (sym (sorts_refused old left r n (verdict m) e h))

  pub ready_given : (s : Sizes) (g : Result (Unit {0}) Refusal) → SortsInUse m s left
      → g ≡ given_answer (expression_given ks ps (take (s.states + s.flows) left) wanted) → g ≡ given_after (verdict m) ks ps wanted
  unfolding given_after
  ready_given s g u f =
      f
      ∙ ap (λ sorts. given_answer (expression_given ks ps sorts wanted)) u.decoded
      ∙ ap (λ v. given_after v ks ps wanted) (sym u.checked)
