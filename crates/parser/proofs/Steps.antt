-- How each level goes on from the words at a place.
use mathlib.Core.Path.{◌≡◌, refl, sym, ap, ◌∙◌}
use mathlib.Core.Bool.{true, false, true≢false}
use mathlib.Core.List.{List, [], ◌∷◌}
use Prim.Native.Nat.{ℕ, suc, ◌+◌, ◌*◌, ◌≤◌, ◌<◌}
use native.Mathlib.Omega.{arith}
use lib.Dec.{lit≤}
use lib.ListN.{length, drop}
use Rattle.grammar.specs.declared.Token.{Token}
use Rattle.grammar.specs.declared.Token.TheVariants.{Not, Plus, Minus, Equal, Unequal, Less, LessOrEqual, Greater, GreaterOrEqual}
use Rattle.grammar.specs.declared.Word.{Word}
use Rattle.grammar.specs.Tokens.{ordinal, alike, tokens_of}
use Rattle.grammar.specs.Phrases.{Phrase, call_level, sum_level, sign_level, relation_level, negation_level, whole_level, is_sign, is_relation}
use Rattle.grammar.specs.Reading.{Parse, and_then, is_next, call_by, prefix_by, related_by, whole_by, level_by, read_level}
use Rattle.grammar.specs.Reading.Parse.{failed, parsed}
use Rattle.grammar.specs.Held.{held, FirstWord}
use Rattle.grammar.proofs.Ordinals.{other_alike, held_ordinal, held_same}
use Rattle.grammar.proofs.Found.{Sound}
use Rattle.grammar.proofs.Found.Sound.{none, found}
use Rattle.grammar.proofs.Sound.{read_sound}
use Rattle.grammar.proofs.Fuel.{shorter, level_step}
use Rattle.parser.specs.Levels.{Next}

-- a level with fuel enough, as a reader
abbrev pub reader : ℕ → List Token → Parse
reader k us = read_level k us

-- ---- tokens

pub sign_ordinal : (t : Token) → is_sign t ≡ true → 2 < ordinal t
sign_ordinal Plus h = omega arith
sign_ordinal Minus h = omega arith
sign_ordinal _ h = absurd (true≢false (sym h))

pub relation_ordinal : (t : Token) → is_relation t ≡ true → 2 < ordinal t
relation_ordinal Equal h = omega arith
relation_ordinal Unequal h = omega arith
relation_ordinal Less h = omega arith
relation_ordinal LessOrEqual h = omega arith
relation_ordinal Greater h = omega arith
relation_ordinal GreaterOrEqual h = omega arith
relation_ordinal _ h = absurd (true≢false (sym h))

-- ---- readings one after another

pub then_failed : (x : Parse) (k : Phrase → List Token → Parse) → x ≡ failed → and_then x k ≡ failed
unfolding and_then
then_failed x k e = rw e

pub then_parsed : (x : Parse) (k : Phrase → List Token → Parse) (p : Phrase) (us : List Token) → x ≡ parsed p us → and_then x k ≡ k p us
unfolding and_then
then_parsed x k p us e = rw e

-- a word that is no number and no variable is held as itself
pub held_word : (t : Token) → 2 < ordinal (held t) → held t ≡ t
held_word t h = held_same t (omega (arith, held_ordinal t))

-- nothing is read where no word is left
level_none : (l : ℕ) → l ≤ whole_level → read_level l [] ≡ failed
level_none l h = by (read_sound (9 * length {A = Token} [] + suc l) l [] h)
  where
    by : {x : Parse} → Sound l [] x → x ≡ failed
    by none = refl
    by (found p us f) = absurd (omega (arith, shorter f))

module _ (text : List ℕ) where
  -- the words from a place on
  abbrev pub words_at : ℕ → List Token
  words_at at = tokens_of (drop at text)

  -- ---- the word at a place

  -- it is held as it is, but for numbers and variables
  pub next_word : {at : ℕ} {w : Word} → FirstWord text at w → 2 < ordinal w.token → Next text w.token at w.next
  next_word {w = w} f h =
      let low : 2 < ordinal f.token = omega (arith, held_ordinal f.token, ap ordinal f.is_held, h) in
      let same : w.token ≡ f.token = f.is_held ∙ held_same f.token low in
      record { first = f.first ∙ ap (λ (t : Token). t ∷ words_at w.next) (sym same); after = f.after; within = f.within }

  pub next_other : {at : ℕ} {w : Word} (c : Token) → 2 < ordinal c → FirstWord text at w → (w.token ≡ c → ⊥) → is_next c (words_at at) ≡ false
  unfolding is_next
  next_other c h f n = rw (f.first, other_alike f.token c h (λ e. n (f.is_held ∙ ap held e ∙ held_same c h)))

  -- ---- each level from the levels that it calls

  pub level_at : (l at : ℕ) → l ≤ whole_level → read_level l (words_at at) ≡ level_by reader l (words_at at)
  level_at l at h = level_step l (words_at at) h

  -- the same, level by level
  pub level_call : (at : ℕ) → read_level call_level (words_at at) ≡ call_by reader (words_at at)
  unfolding level_by
  level_call at = level_at call_level at (lit≤ tt)

  pub level_sign : (at : ℕ) → read_level sign_level (words_at at) ≡ prefix_by reader is_sign sign_level sum_level (words_at at)
  unfolding level_by
  level_sign at = level_at sign_level at (lit≤ tt)

  pub level_negation : (at : ℕ) → read_level negation_level (words_at at) ≡ prefix_by reader (λ c. alike c Not) negation_level relation_level (words_at at)
  unfolding level_by
  level_negation at = level_at negation_level at (lit≤ tt)

  pub level_whole : (at : ℕ) → read_level whole_level (words_at at) ≡ whole_by reader (words_at at)
  unfolding level_by
  level_whole at = level_at whole_level at (lit≤ tt)

  -- no `not`
  pub not_none : (at : ℕ) → is_next Not (words_at at) ≡ false
      → read_level negation_level (words_at at) ≡ and_then (read_level sign_level (words_at at)) (λ p us. related_by reader p us)
  unfolding level_by prefix_by is_next
  not_none at e = level_at negation_level at (lit≤ tt) ∙ by (words_at at) e ∙ level_at relation_level at (lit≤ tt)
    where
      by : (ts : List Token) → is_next Not ts ≡ false
          → prefix_by reader (λ c. alike c Not) negation_level relation_level ts ≡ read_level relation_level ts
      by [] h = sym (level_none relation_level (lit≤ tt))
      by (t ∷ ts) h = rw h
      -- no `if`
