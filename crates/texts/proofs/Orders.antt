-- No order in which a model is written changes what a text becomes.
use mathlib.Core.Path.{◌≡◌, refl, ap, ap₂, ◌∙◌}
use mathlib.Core.List.{List, [], ◌∷◌}
use Prim.Native.Nat.{ℕ}
use Rattle.model.specs.Trees.{Variable, sorts_of}
use Rattle.model.specs.Check.{verdict}
use Rattle.model.specs.Theorems.{Bytes, ShuffledFile}
use Rattle.model.proofs.Shuffling.{shuffled_accepted, shuffled_variables}
use Rattle.results.specs.Results.{Answered}
use Rattle.results.specs.declared.refusal.Refusal.{Refusal}
use Rattle.std.proofs.Common.{Result}
use Rattle.texts.specs.Texts.{Slices, typed_in, typed_over}
use Rattle.texts.specs.Theorems.{typed_all, TextsOrderIndependent}

-- one text: its sorts are those of the variables, which no exchange touches
typed_alike : (m m' : List ℕ) → Bytes m → ShuffledFile m m' → (text : List ℕ) (s : Slices) → typed_in (verdict m) text s ≡ typed_in (verdict m') text s
unfolding typed_in
typed_alike m m' b f text s =
    rw (f.read, shuffled_accepted m m' b f) (ap (λ (vs : List Variable). typed_over (sorts_of vs) text s) (shuffled_variables f.shuffled))

-- text by text, into the slices as they are left
pub texts_order_independent : TextsOrderIndependent
unfolding typed_all
texts_order_independent m m' b f [] s = refl
texts_order_independent m m' b f (text ∷ texts) s =
    let e = typed_alike m m' b f text s in
    ap₂ (λ (r : Answered (Result ℕ Refusal) Slices) (rs : List (Answered (Result ℕ Refusal) Slices)). r ∷ rs) e
    (texts_order_independent m m' b f texts (typed_in (verdict m) text s).left ∙ ap (λ (r : Answered (Result ℕ Refusal) Slices). typed_all m' texts r.left) e)
