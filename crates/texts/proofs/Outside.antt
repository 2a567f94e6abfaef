-- A text is refused by 32 exactly where no derivation of it exists and no refusal comes before.
use mathlib.Core.Path.{◌≡◌, refl, sym, ap, ◌∙◌}
use mathlib.Core.Bool.{Bool, true, false, cond, not, true≢false}
use mathlib.Core.List.{List}
use mathlib.Core.Option.{Option, some, none}
use Prim.Native.Nat.{ℕ}
use lib.Dec.{ltb}
use lib.ListN.{length}
use Rattle.model.specs.Trees.{Expression, depth_of_expression}
use Rattle.model.specs.Check.{max_depth}
use Rattle.grammar.specs.Phrases.{Phrase}
use Rattle.grammar.specs.Reading.{phrase_of}
use Rattle.grammar.specs.Theorems.{Reads}
use Rattle.grammar.proofs.Readings.{reading_exact}
use Rattle.composition.specs.Typing.{sort_in, variables_below, expression_of}
use Rattle.results.specs.declared.refusal.Refusal.TheVariants.{NoSuchVariable, NotInGrammar, TypesDoNotFit, TextTooLarge}
use Rattle.kinds.specs.declared.Sort.{Sort}
use Rattle.std.proofs.Common.{is_some, Err}
use Rattle.texts.specs.Texts.{meant_by, Slices, written_into, typed_over}
use Rattle.texts.specs.Texts.Meant.{refused, meant}
use Rattle.texts.specs.Theorems.{OutsideGrammar, TextOutside}
use Rattle.texts.proofs.Limits.{within_read, answer_within}

module _ (vs : List Sort) (s : Slices) where
  -- no phrase is refused by 32: the tests of a phrase have other numbers
  phrase_other : (p : Phrase) → (written_into s (meant_by vs (some p))).answer ≡ Err NotInGrammar → ⊥
  unfolding meant_by written_into
  phrase_other p =
      by (not (variables_below (length vs) p)) (is_some (sort_in vs p)) (ltb max_depth (depth_of_expression (expression_of vs p))) (expression_of vs p)
    where
      by : (t u v : Bool) (e : Expression) → (written_into s (cond t (refused NoSuchVariable) (cond (not u) (refused TypesDoNotFit) (cond v (refused TextTooLarge) (meant e))))).answer ≡ Err NotInGrammar → ⊥
      by true u v e h = cc
      by false false v e h = cc
      by false true true e h = cc
      by false true false e h = cc

  -- so there is none
  refused_none : (o : Option Phrase) → (written_into s (meant_by vs o)).answer ≡ Err NotInGrammar → o ≡ none
  refused_none none h = refl
  refused_none (some p) h = absurd (phrase_other p h)

-- nothing is no phrase
none_some : {p : Phrase} → none ≡ some p → ⊥
none_some h = let z : true ≡ false = cc in true≢false z

-- a text without a derivation has no phrase
underived_none : (text : List ℕ) → ((p : Phrase) → Reads text p → ⊥) → phrase_of text ≡ none
underived_none text f = by (phrase_of text) refl
  where
    by : (o : Option Phrase) → phrase_of text ≡ o → o ≡ none
    by none e = refl
    by (some p) e = absurd (f p ((reading_exact text p).0 e))

module _ (vs : List Sort) (text : List ℕ) (s : Slices) where
  -- from the answer
  outside_grammar : (typed_over vs text s).answer ≡ Err NotInGrammar → OutsideGrammar text s
  outside_grammar h =
      let b = answer_within vs text s (Err NotInGrammar) (λ e. cc) (λ e. cc) h in
      let o = refused_none vs s (phrase_of text) (sym (ap (λ a. a.answer) (within_read vs text s b)) ∙ h) in
      record {
        short = b.short;
        kinds = b.kinds;
        parameters = b.parameters;
        underived = λ p r. none_some (sym o ∙ (reading_exact text p).1 r);
      }

  -- to the answer
  grammar_outside : OutsideGrammar text s → (typed_over vs text s).answer ≡ Err NotInGrammar
  unfolding meant_by written_into
  grammar_outside a =
      rw (
        within_read vs text s (record { short = a.short; kinds = a.kinds; parameters = a.parameters }),
        underived_none text a.underived,
      )

-- both ways
pub text_outside : TextOutside
text_outside vs text s = (outside_grammar vs text s, grammar_outside vs text s)
