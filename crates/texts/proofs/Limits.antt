-- The tests that come before a text is read.
use mathlib.Core.Path.{◌≡◌, refl}
use mathlib.Core.Bool.{Bool, true, false, cond, ◌||◌}
use mathlib.Core.List.{List}
use Prim.Native.Nat.{ℕ, ◌≤◌}
use borrow.Author.Tests.{ltb-false, le-ltb}
use lib.Dec.{ltb}
use lib.ListN.{length}
use Rattle.results.specs.Results.{answered}
use Rattle.grammar.specs.Reading.{phrase_of}
use Rattle.results.specs.declared.refusal.Refusal.{Refusal}
use Rattle.results.specs.declared.refusal.Refusal.TheVariants.{TextTooLarge, ShortSlice}
use Rattle.kinds.specs.declared.Sort.{Sort}
use Rattle.std.proofs.Common.{Result, Err}
use Rattle.texts.specs.Texts.{meant_by, Slices, written_into, typed_over, max_text, min_nodes}

-- neither 34 nor 10 is due
pub record Within (text : List ℕ) (s : Slices) : Type 0 where
  pub short : length text ≤ max_text
  pub kinds : min_nodes ≤ length s.kinds
  pub parameters : min_nodes ≤ length s.parameters

module _ (vs : List Sort) (text : List ℕ) (s : Slices) where
  -- then the text is read
  pub within_read : Within text s → typed_over vs text s ≡ written_into s (meant_by vs (phrase_of text))
  unfolding typed_over
  within_read w =
      rw (
        le-ltb max_text (length text) w.short,
        le-ltb (length s.kinds) min_nodes w.kinds,
        le-ltb (length s.parameters) min_nodes w.parameters,
      )

  -- any other answer than these two
  pub answer_within : (r : Result ℕ Refusal) → (Err TextTooLarge ≡ r → ⊥) → (Err ShortSlice ≡ r → ⊥) → (typed_over vs text s).answer ≡ r → Within text s
  unfolding typed_over
  answer_within r f g =
      by (ltb max_text (length text)) (ltb (length s.kinds) min_nodes) (ltb (length s.parameters) min_nodes) refl refl refl
    where
      by : (t u v : Bool) → ltb max_text (length text) ≡ t → ltb (length s.kinds) min_nodes ≡ u → ltb (length s.parameters) min_nodes ≡ v
          → (cond t (answered (Err TextTooLarge) s) (cond (u || v) (answered (Err ShortSlice) s) (written_into s (meant_by vs (phrase_of text))))).answer ≡ r → Within text s
      by true u v a b c h = absurd (f h)
      by false true v a b c h = absurd (g h)
      by false false true a b c h = absurd (g h)
      by false false false a b c h =
          record {
            short = ltb-false max_text (length text) a;
            kinds = ltb-false (length s.kinds) min_nodes b;
            parameters = ltb-false (length s.parameters) min_nodes c;
          }
