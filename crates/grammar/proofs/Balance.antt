-- A text that is read has as many opening as closing parentheses.
use mathlib.Core.Path.{◌≡◌, refl, sym, ◌∙◌}
use mathlib.Core.Bool.{Bool, true, false, cond, not, ◌&&◌, ◌||◌, true≢false, and-true}
use mathlib.Core.Logic.{◌⊎◌, inl, inr}
use mathlib.Core.Option.{Option, some, none}
use mathlib.Core.List.{List, [], ◌∷◌, ◌++◌, map}
use Prim.Native.Nat.{ℕ, suc, ◌+◌, ◌<◌}
use native.Mathlib.Omega.{arith}
use borrow.Author.Tests.{ne_eqb}
use lib.Dec.{T, eqb, leb, eqb→eq}
use lib.ListN.{take, drop}
use Rattle.std.specs.Prelude.{Option as Optional, Some, None, unwrap_or}
use Rattle.std.proofs.lemmas.Slice.Eq.{bytes_eq-Decides}
use Rattle.ascii.specs.Ascii.{same, value_of}
use Rattle.ascii.proofs.Sameness.{same_bytes}
use Rattle.grammar.specs.declared.Token.{Token}
use Rattle.grammar.specs.declared.Token.TheVariants.{Number, Variable, Unknown, Div, Mod, Open, Close, Comma, Then, Else}
use Rattle.grammar.specs.Words.{Spelled, is_word, is_run, is_letter_or_digit, times_in}
use Rattle.grammar.specs.Words.Spelled.{nothing, space, word as spelt}
use Rattle.grammar.specs.Tokens.{alike, token_of, token_among, fixed_words, other_token, is_numeral}
use Rattle.grammar.specs.Phrases.{Phrase, Derives, is_call}
use Rattle.grammar.specs.Phrases.Derives.{by_tighter, by_number, by_variable, by_true, by_false, by_parentheses, by_call, by_chain, by_sign, by_relation, by_negation, by_conditional}
use Rattle.grammar.specs.Reading.{phrase_of}
use Rattle.grammar.specs.Theorems.{ParenthesesBalanced}
use Rattle.grammar.proofs.Tests.{or_either, and_left, and_right, is_true, is_false}
use Rattle.grammar.proofs.Bounds.{binds_at, sign_binds, chained_binds, chained_low, relation_binds}
use Rattle.grammar.proofs.Readings.{reading_exact}
use Rattle.grammar.proofs.Scanning.{run_or_sign, Sign, sign_bytes}

-- ---- words

-- 1 where the two are of one sort
abbrev counted : Token → Token → ℕ
counted t u = cond (alike t u) 1 0

-- how many words are of this sort
tokens_in : Token → List Token → ℕ
tokens_in u [] = 0
tokens_in u (t ∷ ts) = counted t u + tokens_in u ts

-- of words one after another
tokens_append : (u : Token) (ts us : List Token) → tokens_in u (ts ++ us) ≡ tokens_in u ts + tokens_in u us
unfolding tokens_in
tokens_append u [] us = omega arith
tokens_append u (t ∷ ts) us = omega (arith, tokens_append u ts us)

-- neither parenthesis
record Other (c : Token) : Type 0 where
  opening : counted c Open ≡ 0
  closing : counted c Close ≡ 0

-- no operator is a parenthesis
operator_other : (c : Token) → binds_at c < 9 → Other c
unfolding binds_at
operator_other Open h = absurd (omega arith)
operator_other Close h = absurd (omega arith)
operator_other _ h = record { opening = refl; closing = refl }

-- div and mod are none
call_other : (c : Token) → T (is_call c) → Other c
call_other Div t = record { opening = refl; closing = refl }
call_other Mod t = record { opening = refl; closing = refl }
call_other _ t = absurd t

-- every derivation has as many of both
balanced : {l : ℕ} {ts : List Token} {p : Phrase} → Derives l ts p → tokens_in Open ts ≡ tokens_in Close ts
unfolding tokens_in
balanced (by_tighter m d) = balanced d
balanced by_number = refl
balanced by_variable = refl
balanced by_true = refl
balanced by_false = refl
balanced (by_parentheses ts p d) =
    omega (arith, balanced d, tokens_append Open ts (Close ∷ []), tokens_append Close ts (Close ∷ []))
balanced (by_call c ts us p q t d e) =
    let o = call_other c t in
    let rest = Comma ∷ us ++ (Close ∷ []) in
    omega (
      arith,
      balanced d,
      balanced e,
      o.opening,
      o.closing,
      tokens_append Open ts rest,
      tokens_append Close ts rest,
      tokens_append Open us (Close ∷ []),
      tokens_append Close us (Close ∷ []),
    )
balanced (by_chain l c ts us p q t d e) =
    let o = operator_other c (omega (arith, chained_binds (suc l) c t, chained_low (suc l) c t)) in
    omega (arith, balanced d, balanced e, o.opening, o.closing, tokens_append Open ts (c ∷ us), tokens_append Close ts (c ∷ us))
balanced (by_sign c ts p t d) =
    let o = operator_other c (omega (arith, sign_binds c t)) in
    omega (arith, balanced d, o.opening, o.closing)
balanced (by_relation c ts us p q t d e) =
    let o = operator_other c (omega (arith, relation_binds c t)) in
    omega (arith, balanced d, balanced e, o.opening, o.closing, tokens_append Open ts (c ∷ us), tokens_append Close ts (c ∷ us))
balanced (by_negation ts p d) = omega (arith, balanced d)
balanced (by_conditional ts us vs p q r d e f) =
    let rest = Then ∷ us ++ (Else ∷ vs) in
    omega (
      arith,
      balanced d,
      balanced e,
      balanced f,
      tokens_append Open ts rest,
      tokens_append Close ts rest,
      tokens_append Open us (Else ∷ vs),
      tokens_append Close us (Else ∷ vs),
    )

-- ---- bytes

-- bytes of texts one after another
times_append : (k : ℕ) (u v : List ℕ) → times_in k (u ++ v) ≡ times_in k u + times_in k v
unfolding times_in
times_append k [] v = omega arith
times_append k (b ∷ u) v = by (eqb k b) (times_append k u v)
  where
    by : (t : Bool) → times_in k (u ++ v) ≡ times_in k u + times_in k v
        → cond t (suc (times_in k (u ++ v))) (times_in k (u ++ v)) ≡ cond t (suc (times_in k u)) (times_in k u) + times_in k v
    by true e = omega arith
    by false e = e

-- a byte that is no letter or digit stands in no run
run_times : (k : ℕ) (w : List ℕ) → (T (is_letter_or_digit k) → ⊥) → T (is_run w) → times_in k w ≡ 0
unfolding times_in is_run
run_times k [] n h = refl
run_times k (b ∷ w) n h =
    rw (is_false (eqb k b) (λ e. n (rw (eqb→eq k b e) (and_left (is_letter_or_digit b) (is_run w) h)))) (run_times k w n (and_right (is_letter_or_digit b) (is_run w) h))

-- the same bytes are one list
one_list : (u v : List ℕ) → same u v ≡ true → u ≡ v
one_list u v h = (bytes_eq-Decides u v).0 (same_bytes u v ∙ h)

-- no word of a table but this one has a token of this sort
only : List (List ℕ × Token) → List ℕ → Token → Bool
only [] w u = true
only ((s, t) ∷ ss) w u = (not (alike t u) || same s w) && only ss w u

-- a token of another sort, or none
abbrev Unlike : Token → Optional Token → Type 0
Unlike u None = Unit {0}
Unlike u (Some t) = alike t u ≡ false

-- so the tokens of other words are of other sorts
among_unlike : (ss : List (List ℕ × Token)) (w v : List ℕ) (u : Token) → T (only ss w u) → same w v ≡ false → Unlike u (token_among ss v)
unfolding only token_among
among_unlike [] w v u h e = tt
among_unlike ((s, t) ∷ ss) w v u h e =
    by (same s v) refl (or_either (not (alike t u)) (same s w) (and_left (not (alike t u) || same s w) (only ss w u) h))
    (among_unlike ss w v u (and_right (not (alike t u) || same s w) (only ss w u) h) e)
  where
    by : (b : Bool) → same s v ≡ b → T (not (alike t u)) ⊎ T (same s w) → Unlike u (token_among ss v) → Unlike u (cond b (Some t) (token_among ss v))
    by true f (inl n) ih = is_false (alike t u) (λ a. rw (is_true (alike t u) a) at n)
    by true f (inr g) ih = absurd (true≢false (sym f ∙ rw (one_list s w (is_true (same s w) g)) e))
    by false f g ih = ih

-- a byte that is by itself the one word of a sort, and stands in no other word
record Alone (k : ℕ) (u : Token) : Type 0 where
  spelling : T (only fixed_words (k ∷ []) u)
  others : (n : ℕ) → (alike (Number n) u ≡ false) × (alike (Variable n) u ≡ false) × (alike Unknown u ≡ false)
  letter : T (is_letter_or_digit k) → ⊥
  sign : {a x : ℕ} {t : List ℕ} → Sign a x t → k ≡ a → ⊥
  equals : k ≡ 61 → ⊥
  blank : k ≡ 32 → ⊥
  once : times_in k (k ∷ []) ≡ counted (token_of (k ∷ [])) u

module _ (k : ℕ) (u : Token) (alone : Alone k u) where
  in_no_other : (w : List ℕ) → T (is_word w) → same (k ∷ []) w ≡ false → times_in k w ≡ 0
  unfolding times_in same
  in_no_other [] h e = refl
  in_no_other (a ∷ []) h e = rw (sym (and-true (eqb k a)) ∙ e)
  in_no_other (a ∷ x ∷ t) h e =
      run_or_sign a x t (run_times k (a ∷ x ∷ t) alone.letter)
      (λ s. let g = sign_bytes a x t s in rw (ne_eqb k a (alone.sign g), ne_eqb k x (λ q. alone.equals (q ∙ g.second)), g.last)) h

  -- the token of another word
  other_unlike : (w : List ℕ) → alike (other_token w) u ≡ false
  unfolding other_token
  other_unlike w =
      by (is_numeral w && leb (value_of w) 2147483647) (same (take 1 w) (118 ∷ []) && is_numeral (drop 1 w)) (value_of w) (value_of (drop 1 w))
    where
      by : (b c : Bool) (n x : ℕ) → alike (cond b (Number n) (cond c (Variable x) Unknown)) u ≡ false
      by true c n x = (alone.others n).0
      by false true n x = (alone.others x).1
      by false false n x = (alone.others n).2

  token_unlike : (w : List ℕ) → same (k ∷ []) w ≡ false → alike (token_of w) u ≡ false
  unfolding token_of
  token_unlike w e = by (token_among fixed_words w) (among_unlike fixed_words (k ∷ []) w u alone.spelling e)
    where
      by : (o : Optional Token) → Unlike u o → alike (unwrap_or o (other_token w)) u ≡ false
      by None n = other_unlike w
      by (Some t) n = n

  -- in one word
  word_times : (w : List ℕ) → T (is_word w) → times_in k w ≡ counted (token_of w) u
  word_times w h = by (same (k ∷ []) w) refl
    where
      by : (t : Bool) → same (k ∷ []) w ≡ t → times_in k w ≡ counted (token_of w) u
      by true e = rw (← (one_list (k ∷ []) w e)) alone.once
      by false e = in_no_other w h e ∙ sym (rw (token_unlike w e))

  -- in a text, by its words
  spelled_times : {text : List ℕ} {ws : List (List ℕ)} → Spelled text ws → times_in k text ≡ tokens_in u (map token_of ws)
  unfolding times_in tokens_in
  spelled_times nothing = refl
  spelled_times (space s) = rw (ne_eqb k 32 alone.blank) (spelled_times s)
  spelled_times (spelt w text ws h s) = omega (arith, times_append k w text, word_times w h.is_one, spelled_times s)

-- `(`
opening_alone : Alone 40 Open
unfolding fixed_words times_in token_of other_token token_among same is_numeral Rattle.ascii.specs.Ascii.are_digits only
opening_alone =
    record {
      spelling = tt;
      others = λ n. (refl, refl, refl);
      letter = λ h. h;
      sign = λ s e. s.apart.0 (sym e);
      equals = λ e. omega arith;
      blank = λ e. omega arith;
      once = refl;
    }

-- `)`
closing_alone : Alone 41 Close
unfolding fixed_words times_in token_of other_token token_among same is_numeral Rattle.ascii.specs.Ascii.are_digits only
closing_alone =
    record {
      spelling = tt;
      others = λ n. (refl, refl, refl);
      letter = λ h. h;
      sign = λ s e. s.apart.1 (sym e);
      equals = λ e. omega arith;
      blank = λ e. omega arith;
      once = refl;
    }

-- the bytes of a text that is read
pub parentheses_balanced : ParenthesesBalanced
parentheses_balanced text p r = spelled_times 40 Open opening_alone r.spelled ∙ balanced r.derived ∙ sym (spelled_times 41 Close closing_alone r.spelled)

-- such a text is not in the grammar, before a word of it is read
pub unbalanced_none : (text : List ℕ) → (times_in 40 text ≡ times_in 41 text → ⊥) → phrase_of text ≡ none
unbalanced_none text h = by (phrase_of text) refl
  where
    by : (o : Option Phrase) → phrase_of text ≡ o → o ≡ none
    by none e = refl
    by (some p) e = absurd (h (parentheses_balanced text p ((reading_exact text p).0 e)))
