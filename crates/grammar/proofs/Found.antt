-- Phrases found at the beginning of words.
use mathlib.Core.Path.{◌≡◌, refl, sym, ap, ◌∙◌}
use mathlib.Core.Bool.{Bool, true, false, cond}
use mathlib.Core.List.{List, [], ◌∷◌, ◌++◌, append_assoc}
use Prim.Native.Nat.{ℕ, suc, ◌<◌}
use lib.Dec.{T}
use Rattle.grammar.specs.declared.Token.{Token}
use Rattle.grammar.specs.Tokens.{ordinal, alike}
use Rattle.grammar.specs.Phrases.{Phrase, Derives, call_level, whole_level}
use Rattle.grammar.specs.Phrases.Derives.{by_tighter}
use Rattle.grammar.specs.Reading.{Parse, and_then, is_next, after_next, expecting}
use Rattle.grammar.specs.Reading.Parse.{failed, parsed}
use Rattle.grammar.proofs.Ordinals.{alike_same}

-- a phrase of this level, and the words that follow it
pub record Found (l : ℕ) (ts : List Token) (p : Phrase) (rest : List Token) : Type 0 where
  pub used : List Token
  pub parts : ts ≡ used ++ rest
  pub derived : Derives l used p

-- what was read from these words, if anything, was found there
pub data Sound (l : ℕ) (ts : List Token) : Parse → Type 0 where
  none : Sound l ts failed
  found : (p : Phrase) (rest : List Token) → Found l ts p rest → Sound l ts (parsed p rest)

module _ {m : ℕ} {us : List Token} where
  pub then_sound : {l : ℕ} {ts : List Token} {r : Parse} {k : Phrase → List Token → Parse} → Sound l ts r
      → ((p : Phrase) (rest : List Token) → Found l ts p rest → Sound m us (k p rest)) → Sound m us (and_then r k)
  unfolding and_then
  then_sound none f = none
  then_sound (found p rest h) f = f p rest h

  -- in either case
  pub cond_sound : (t : Bool) {r s : Parse} → (T t → Sound m us r) → Sound m us s → Sound m us (cond t r s)
  cond_sound true g h = g tt
  cond_sound false g h = h

  -- this word follows
  pub expecting_sound : (c : Token) (ts : List Token) {k : List Token → Parse} → 2 < ordinal c
      → ((rest : List Token) → ts ≡ c ∷ rest → Sound m us (k rest)) → Sound m us (expecting c ts k)
  unfolding is_next after_next
  expecting_sound c [] g f = none
  expecting_sound c (t ∷ ts) g f = cond_sound (alike t c) (λ e. f ts (ap (λ (u : Token). u ∷ ts) (alike_same t c g e))) none

-- a phrase of the level below
pub tighter_sound : {l : ℕ} {ts : List Token} {r : Parse} → l < whole_level → Sound l ts r → Sound (suc l) ts r
tighter_sound g none = none
tighter_sound g (found p rest f) = found p rest (record { used = f.used; parts = f.parts; derived = by_tighter g f.derived })

-- the first word said in another way
pub same_first : {l : ℕ} {ts : List Token} {r : Parse} {t u : Token} → t ≡ u → Sound l (u ∷ ts) r → Sound l (t ∷ ts) r
same_first e h = rw e h

-- one word alone
pub one_word : (t : Token) (ts : List Token) (p : Phrase) → Derives call_level (t ∷ []) p → Sound call_level (t ∷ ts) (parsed p ts)
one_word t ts p d = found p ts (record { used = t ∷ []; parts = refl; derived = d })

-- an operator and its right operand after what was used
pub joined_parts : (us : List Token) (c : Token) (vs rest : List Token) {whole ts : List Token} → whole ≡ us ++ (c ∷ ts) → ts ≡ vs ++ rest
    → whole ≡ us ++ (c ∷ vs) ++ rest
joined_parts us c vs rest e f = e ∙ ap (λ xs. us ++ (c ∷ xs)) f ∙ sym (append_assoc us (c ∷ vs) rest)
