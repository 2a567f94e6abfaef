-- What `write_nodes` gives, from what `sorts_of` answers and leaves.
use mathlib.Core.Path.{◌≡◌, sym, ap, ◌∙◌}
use mathlib.Core.List.{List}
use Prim.Native.Nat.{ℕ, ◌+◌}
use lib.ListN.{take}
use Rattle.results.specs.Results.{Answered, answered}
use Rattle.model.specs.declared.Sizes.{Sizes}
use Rattle.std.proofs.Common.{Result, Ok}
use Rattle.results.specs.declared.refusal.Refusal.{Refusal}
use Rattle.kinds.specs.declared.Sort.{Sort}
use Rattle.model.specs.Check.{verdict}
use Rattle.decoding.specs.Decoding.{sorts_after}
use Rattle.decoding.proofs.VariablesInUse.{SortsInUse, sorts_in_use}
use Rattle.texts.specs.Texts.{Slices, typed_over, typed_in}

-- the sorts of an accepted model's variables
pub sorts_found : {m : List ℕ} (old : List Sort) {left : List Sort} {r : Result Sizes Refusal} {s : Sizes} → answered r left ≡ sorts_after (verdict m) old → r ≡ Ok s
    → SortsInUse m s left
sorts_found {m} old {left} {r} {s} e q = sorts_in_use m old left s r e q

module _ (m text : List ℕ) (left : List Sort) (s : Slices) where
  -- over the variables of an accepted one
  pub model_accepted : (z : Sizes) (a : Answered (Result ℕ Refusal) Slices) → SortsInUse m z left → a ≡ typed_over (take (z.states + z.flows) left) text s
      → a ≡ typed_in (verdict m) text s
  unfolding typed_in
  model_accepted z a u e =
      e ∙ ap (λ (vs : List Sort). typed_over vs text s) u.decoded ∙ ap (λ v. typed_in v text s) (sym u.checked)
