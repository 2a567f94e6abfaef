-- What is meant by a phrase that is accepted.
use mathlib.Core.Path.{◌≡◌, refl}
use mathlib.Core.Bool.{Bool, true, false, cond, not, true≢false}
use mathlib.Core.List.{List}
use mathlib.Core.Option.{Option, some, none}
use Prim.Native.Nat.{◌≤◌}
use borrow.Author.Tests.{ltb-false, not-false}
use lib.Dec.{T, ltb}
use lib.ListN.{length}
use Rattle.std.proofs.Common.{is_some}
use Rattle.results.specs.declared.refusal.Refusal.{Refusal}
use Rattle.results.specs.declared.refusal.Refusal.TheVariants.{NoSuchVariable, TypesDoNotFit, TextTooLarge}
use Rattle.kinds.specs.declared.Sort.{Sort}
use Rattle.model.specs.Trees.{Expression, depth_of_expression}
use Rattle.model.specs.Check.{max_depth}
use Rattle.grammar.specs.Phrases.{Phrase}
use Rattle.grammar.proofs.Tests.{passes}
use Rattle.composition.specs.Typing.{sort_in, variables_below, expression_of}
use Rattle.texts.specs.Texts.{meant_by}
use Rattle.texts.specs.Texts.Meant.{refused, meant}

-- the phrase has passed 12, 33 and 34, and this is its expression
pub record MeantAs (vs : List Sort) (p : Phrase) (e : Expression) : Type 0 where
  pub is : expression_of vs p ≡ e
  pub below : T (variables_below (length vs) p)
  pub sorted : T (is_some (sort_in vs p))
  pub deep : depth_of_expression (expression_of vs p) ≤ max_depth

-- a refusal means nothing
not_refused : {A : Type 0} {n : Refusal} {e : Expression} → refused n ≡ meant e → A
not_refused h = let z : true ≡ false = cc in absurd (true≢false z)

-- by the tests in their order
meant_as : (vs : List Sort) (p : Phrase) (e : Expression) → meant_by vs (some p) ≡ meant e → MeantAs vs p e
unfolding meant_by
meant_as vs p e =
    by (not (variables_below (length vs) p)) (is_some (sort_in vs p)) (ltb max_depth (depth_of_expression (expression_of vs p))) refl refl refl
  where
    by : (t u v : Bool) → not (variables_below (length vs) p) ≡ t → is_some (sort_in vs p) ≡ u → ltb max_depth (depth_of_expression (expression_of vs p)) ≡ v
        → cond t (refused NoSuchVariable) (cond (not u) (refused TypesDoNotFit) (cond v (refused TextTooLarge) (meant (expression_of vs p)))) ≡ meant e → MeantAs vs p e
    by true u v f g h r = not_refused r
    by false false v f g h r = not_refused r
    by false true true f g h r = not_refused r
    by false true false f g h r =
        record {
          is = cc;
          below = passes (variables_below (length vs) p) (not-false (variables_below (length vs) p) f);
          sorted = passes (is_some (sort_in vs p)) g;
          deep = ltb-false max_depth (depth_of_expression (expression_of vs p)) h;
        }

-- only a phrase is meant
pub meant_phrase : (vs : List Sort) (o : Option Phrase) (e : Expression) → meant_by vs o ≡ meant e → (p : Phrase) × (o ≡ some p) × MeantAs vs p e
unfolding meant_by
meant_phrase vs none e h = not_refused h
meant_phrase vs (some p) e h = (p, refl, meant_as vs p e h)
