-- What a word means, by its first byte.
use mathlib.Core.Path.{◌≡◌, refl, sym, ap, ◌∙◌}
use mathlib.Core.Bool.{Bool, true, false, cond, ◌&&◌}
use mathlib.Core.List.{List, [], ◌∷◌}
use Prim.Native.Nat.{ℕ, ◌-◌, ◌≤◌, ◌<◌}
use native.Mathlib.Omega.{arith}
use borrow.Author.Tests.{leb-true, le-leb, lt-leb, ne_eqb}
use lib.Dec.{T, leb, ltb, ltb→lt}
use lib.ListN.{length, take, drop, length-drop, get_or}
use lib.Seq.{take_all}
use Rattle.std.specs.Prelude.{Option, Some, None, MatchOption, unwrap_or}
use Rattle.std.proofs.lemmas.Option.{MatchOption-at_some, MatchOption-at_none}
use Rattle.ascii.specs.Ascii.{same, is_digit, are_digits, value_of}
use Rattle.grammar.specs.declared.Token.{Token}
use Rattle.grammar.specs.declared.Token.TheVariants.{Unknown, Number, Variable}
use Rattle.grammar.specs.Tokens.{ordinal, token_among, fixed_words, is_numeral, other_token, token_of}
use Rattle.grammar.specs.Held.{capped, held}
use Rattle.grammar.proofs.Tests.{and_left, and_right, is_true, passes}
use Rattle.grammar.proofs.Ordinals.{held_same}
use Rattle.scanner.specs.Scanning.{numeral_of}

-- no byte
pub empty_meaning : (w : List ℕ) → length w ≡ 0 → Unknown ≡ held (token_of w)
unfolding held token_of other_token token_among fixed_words is_numeral are_digits same
empty_meaning [] e = refl
empty_meaning (b ∷ t) e = absurd (omega arith)

-- a first byte and the rest
pub first_rest : (w : List ℕ) → 0 < length w → w ≡ get_or w 0 0 ∷ drop 1 w
first_rest [] h = absurd (omega arith)
first_rest (b ∷ t) h = refl

pub digit_byte : (b : ℕ) → 48 ≤ b → b ≤ 57 → is_digit b ≡ true
digit_byte b h k = rw (le-leb 48 b h, le-leb b 57 k)

pub other_byte : (b : ℕ) → (48 ≤ b → b ≤ 57 → ⊥) → is_digit b ≡ false
other_byte b n = by (leb 48 b) (leb b 57) refl refl
  where
    by : (s t : Bool) → leb 48 b ≡ s → leb b 57 ≡ t → (s && t) ≡ false
    by true true e f = absurd (n (leb-true 48 b e) (leb-true b 57 f))
    by true false e f = refl
    by false t e f = refl

-- ---- `v`, 118

v_token : (t : List ℕ) → token_of (118 ∷ t) ≡ cond (is_numeral t) (Variable (value_of t)) Unknown
unfolding token_of other_token token_among fixed_words is_numeral are_digits same
v_token t = refl

variable_token : {w : List ℕ} {b : ℕ} {t : List ℕ} → w ≡ b ∷ t → b ≡ 118 → {o : Option ℕ} {r : Token} → o ≡ numeral_of t
    → MatchOption o (r ≡ Unknown) (λ x. r ≡ Variable x) → r ≡ held (token_of w)
unfolding held numeral_of
variable_token {t = t} is v {o} {r} e m = rw (is, v, v_token t) (by (is_numeral t) e)
  where
    by : (b : Bool) → o ≡ cond b (Some (capped (value_of t))) None → r ≡ held (cond b (Variable (value_of t)) Unknown)
    by true f = MatchOption-at_some (r ≡ Unknown) (λ x. r ≡ Variable x) (capped (value_of t)) f m
    by false f = MatchOption-at_none (r ≡ Unknown) (λ x. r ≡ Variable x) f m

-- the bytes after it, as a part of the slice
pub variable_meaning : (w : List ℕ) → 0 < length w → get_or w 0 0 ≡ 118 → {o : Option ℕ} {r : Token} → o ≡ numeral_of (take (length w - 1) (drop 1 w))
    → MatchOption o (r ≡ Unknown) (λ x. r ≡ Variable x) → r ≡ held (token_of w)
variable_meaning w h v e m =
    variable_token (first_rest w h) v (e ∙ ap numeral_of (take_all (length w - 1) (drop 1 w) (omega (arith, length-drop 1 w)))) m

-- ---- a digit

module _ (b : ℕ) (t : List ℕ) (d : is_digit b ≡ true) where
  least : 48 ≤ b
  least = leb-true 48 b (is_true (leb 48 b) (and_left (leb 48 b) (leb b 57) (passes (is_digit b) d)))

  most : b ≤ 57
  most = leb-true b 57 (is_true (leb b 57) (and_right (leb 48 b) (leb b 57) (passes (is_digit b) d)))

  -- no word with a meaning of its own begins with it
  digit_first : token_among fixed_words (b ∷ t) ≡ None
  unfolding fixed_words token_among same
  digit_first =
      rw (
        ne_eqb 116 b (λ e. omega (arith, e, most)),
        ne_eqb 102 b (λ e. omega (arith, e, most)),
        ne_eqb 100 b (λ e. omega (arith, e, most)),
        ne_eqb 109 b (λ e. omega (arith, e, most)),
        ne_eqb 105 b (λ e. omega (arith, e, most)),
        ne_eqb 101 b (λ e. omega (arith, e, most)),
        ne_eqb 110 b (λ e. omega (arith, e, most)),
        ne_eqb 97 b (λ e. omega (arith, e, most)),
        ne_eqb 111 b (λ e. omega (arith, e, most)),
        ne_eqb 40 b (λ e. omega (arith, e, least)),
        ne_eqb 41 b (λ e. omega (arith, e, least)),
        ne_eqb 44 b (λ e. omega (arith, e, least)),
        ne_eqb 43 b (λ e. omega (arith, e, least)),
        ne_eqb 45 b (λ e. omega (arith, e, least)),
        ne_eqb 42 b (λ e. omega (arith, e, least)),
        ne_eqb 61 b (λ e. omega (arith, e, most)),
        ne_eqb 33 b (λ e. omega (arith, e, least)),
        ne_eqb 60 b (λ e. omega (arith, e, most)),
        ne_eqb 62 b (λ e. omega (arith, e, most)),
      )

  -- so it is a number or nothing
  digit_token : token_of (b ∷ t) ≡ cond (is_numeral (b ∷ t) && leb (value_of (b ∷ t)) 2147483647) (Number (value_of (b ∷ t))) Unknown
  unfolding token_of other_token same
  digit_token = rw (digit_first, ne_eqb b 118 (λ e. omega (arith, e, most)))

module _ {w : List ℕ} {b : ℕ} {t : List ℕ} (is : w ≡ b ∷ t) (d : is_digit b ≡ true) {o : Option ℕ} (e : o ≡ numeral_of w) where
  number_or_nothing : token_of w ≡ cond (is_numeral w && leb (value_of w) 2147483647) (Number (value_of w)) Unknown
  number_or_nothing = rw is (digit_token b t d)

  pub number_meaning : (n : ℕ) → o ≡ Some n → n ≤ 2147483647 → Number n ≡ held (token_of w)
  unfolding held numeral_of
  number_meaning n f h = rw number_or_nothing (by (is_numeral w) (sym f ∙ e))
    where
      by : (s : Bool) → Some n ≡ cond s (Some (capped (value_of w))) None → Number n ≡ held (cond (s && leb (value_of w) 2147483647) (Number (value_of w)) Unknown)
      by true g =
          let same : n ≡ capped (value_of w) = cc in
          let small : value_of w ≤ 2147483647 = omega (arith, same) in
          rw (le-leb (value_of w) 2147483647 small, same)
      by false g = cc

  -- above the greatest
  pub great_meaning : (n : ℕ) → o ≡ Some n → 2147483647 < n → Unknown ≡ held (token_of w)
  unfolding held numeral_of
  great_meaning n f h = rw number_or_nothing (by (is_numeral w) (sym f ∙ e))
    where
      by : (s : Bool) → Some n ≡ cond s (Some (capped (value_of w))) None → Unknown ≡ held (cond (s && leb (value_of w) 2147483647) (Number (value_of w)) Unknown)
      by true g =
          let same : n ≡ capped (value_of w) = cc in
          let great : 2147483647 < value_of w = omega (arith, same) in
          rw (lt-leb (value_of w) 2147483647 great)
      by false g = cc

  -- no numeral
  pub no_meaning : o ≡ None → Unknown ≡ held (token_of w)
  unfolding held numeral_of
  no_meaning f = rw number_or_nothing (by (is_numeral w) (sym f ∙ e))
    where
      by : (s : Bool) → None ≡ cond s (Some (capped (value_of w))) None → Unknown ≡ held (cond (s && leb (value_of w) 2147483647) (Number (value_of w)) Unknown)
      by true g = cc
      by false g = refl

-- ---- any other byte

-- a table without numbers and variables
plain : List (List ℕ × Token) → Bool
plain [] = true
plain ((s, t) ∷ ss) = ltb 2 (ordinal t) && plain ss

-- its tokens are held as they are
among_held : (ss : List (List ℕ × Token)) (w : List ℕ) → T (plain ss) → unwrap_or (token_among ss w) Unknown ≡ held (unwrap_or (token_among ss w) Unknown)
unfolding plain token_among held
among_held [] w h = refl
among_held ((s, t) ∷ ss) w h = by (same s w) (among_held ss w (and_right (ltb 2 (ordinal t)) (plain ss) h))
  where
    by : (b : Bool) → unwrap_or (token_among ss w) Unknown ≡ held (unwrap_or (token_among ss w) Unknown)
        → unwrap_or (cond b (Some t) (token_among ss w)) Unknown ≡ held (unwrap_or (cond b (Some t) (token_among ss w)) Unknown)
    by true e = sym (held_same t (ltb→lt 2 (ordinal t) (and_left (ltb 2 (ordinal t)) (plain ss) h)))
    by false e = e

module _ {w : List ℕ} {b : ℕ} {t : List ℕ} (is : w ≡ b ∷ t) (n : b ≡ 118 → ⊥) (d : is_digit b ≡ false) where
  no_other : other_token w ≡ Unknown
  unfolding other_token is_numeral are_digits same
  no_other = rw (is, d, ne_eqb b 118 n)

  fixed_only : token_of w ≡ unwrap_or (token_among fixed_words w) Unknown
  unfolding token_of
  fixed_only = ap (unwrap_or (token_among fixed_words w)) no_other

  pub fixed_meaning : {o : Option Token} {r : Token} → o ≡ token_among fixed_words w → r ≡ unwrap_or o Unknown → r ≡ held (token_of w)
  unfolding plain fixed_words
  fixed_meaning e f = f ∙ ap (λ u. unwrap_or u Unknown) e ∙ among_held fixed_words w tt ∙ ap held (sym fixed_only)
