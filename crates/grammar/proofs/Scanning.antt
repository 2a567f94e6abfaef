-- Where a word ends, byte by byte, and the words from a place of a text on: what the code that reads a word follows.
use mathlib.Core.Path.{◌≡◌, refl, sym, ap, subst, ◌∙◌}
use mathlib.Core.Bool.{true, false, ◌&&◌}
use mathlib.Core.List.{List, [], ◌∷◌, ◌++◌, map, cons≢nil}
use Prim.Native.Nat.{ℕ}
use native.Mathlib.Omega.{arith}
use lib.Dec.{T, eqb, ltb, eqb→eq, lt→ltb}
use lib.ListN.{length, take, drop, take-append-drop}
use Rattle.ascii.specs.Ascii.{same}
use Rattle.grammar.specs.Words.{is_letter_or_digit, is_run, is_among, two_byte_signs, is_word, words_after, words_of, Longest}
use Rattle.grammar.specs.Tokens.{token_of, tokens_of}
use Rattle.grammar.proofs.Tests.{or_case, or_left, or_right, and_left, and_right, both}
use Rattle.grammar.proofs.Words.{one_byte, along, after_word, first_byte}

-- ---- words of two bytes or more

-- a run, or a sign
pub run_or_sign : {A : Type 0} (a x : ℕ) (t : List ℕ) → (T (is_run (a ∷ x ∷ t)) → A) → (T (is_among two_byte_signs (a ∷ x ∷ t)) → A) → T (is_word (a ∷ x ∷ t)) → A
unfolding is_word
run_or_sign {A} a x t f g =
    or_case (ltb 0 (length (a ∷ x ∷ t)) && is_run (a ∷ x ∷ t)) _ (λ h. f (and_right (ltb 0 (length (a ∷ x ∷ t))) _ h))
    (or_case (is_among two_byte_signs (a ∷ x ∷ t)) _ g (λ h. longer (and_left (eqb (length (a ∷ x ∷ t)) 1) _ h)))
  where
    longer : T (eqb (length (a ∷ x ∷ t)) 1) → A
    longer h = absurd (omega (arith, eqb→eq))

-- a sign: no letter or digit and no parenthesis, an equals sign, and nothing more
pub record Sign (a x : ℕ) (t : List ℕ) : Type 0 where
  pub first : T (is_letter_or_digit a) → ⊥
  pub apart : (a ≡ 40 → ⊥) × (a ≡ 41 → ⊥)
  pub second : x ≡ 61
  pub last : t ≡ []

-- one of the four
one_sign : (k a x : ℕ) (t : List ℕ) → (T (is_letter_or_digit k) → ⊥) → (k ≡ 40 → ⊥) × (k ≡ 41 → ⊥) → T (eqb k a && (eqb 61 x && same [] t)) → Sign a x t
unfolding same
one_sign k a x (b ∷ t) n m h = absurd (and_right (eqb 61 x) false (and_right (eqb k a) _ h))
one_sign k a x [] n m h =
    let e : k ≡ a = eqb→eq k a (and_left (eqb k a) _ h) in
    record {
      first = subst (λ (b : ℕ). T (is_letter_or_digit b) → ⊥) e n;
      apart = (λ g. m.0 (e ∙ g), λ g. m.1 (e ∙ g));
      second = sym (eqb→eq 61 x (and_left (eqb 61 x) true (and_right (eqb k a) _ h)));
      last = refl;
    }

-- all four
pub sign_bytes : (a x : ℕ) (t : List ℕ) → T (is_among two_byte_signs (a ∷ x ∷ t)) → Sign a x t
unfolding is_among two_byte_signs same
sign_bytes a x t =
    or_case (eqb 61 a && (eqb 61 x && same [] t)) _ (one_sign 61 a x t (λ h. h) (omega arith))
    (or_case (eqb 33 a && (eqb 61 x && same [] t)) _ (one_sign 33 a x t (λ h. h) (omega arith))
    (or_case (eqb 60 a && (eqb 61 x && same [] t)) _ (one_sign 60 a x t (λ h. h) (omega arith))
    (or_case (eqb 62 a && (eqb 61 x && same [] t)) false (one_sign 62 a x t (λ h. h) (omega arith)) (λ h. absurd h))))

-- ---- where a word ends

-- the last byte of a run
run_last : (w : List ℕ) (b : ℕ) → T (is_run (w ++ (b ∷ []))) → T (is_letter_or_digit b)
unfolding is_run
run_last [] b h = and_left (is_letter_or_digit b) true h
run_last (a ∷ w) b h = run_last w b (and_right (is_letter_or_digit a) _ h)

-- a run before a byte that is no letter or digit, or at the end
pub run_longest : (a : ℕ) (u rest : List ℕ) → T (is_run (a ∷ u)) → ((b : ℕ) (t : List ℕ) → rest ≡ b ∷ t → T (is_letter_or_digit b) → ⊥) → Longest (a ∷ u) rest
unfolding is_word is_run
run_longest a u rest r n =
    record {
      is_one = or_left (ltb 0 (length (a ∷ u)) && is_run (a ∷ u)) _ (both (ltb 0 (length (a ∷ u))) (is_run (a ∷ u)) (lt→ltb 0 (length (a ∷ u)) (omega arith)) r);
      ends = λ b t e. by u b (n b t e);
    }
  where
    by : (v : List ℕ) (b : ℕ) → (T (is_letter_or_digit b) → ⊥) → T (is_word (a ∷ v ++ (b ∷ []))) → ⊥
    by [] b m = run_or_sign a b [] (λ h. m (run_last (a ∷ []) b h)) (λ h. (sign_bytes a b [] h).first (and_left (is_letter_or_digit a) _ r))
    by (x ∷ v) b m =
        run_or_sign a x (v ++ (b ∷ [])) (λ h. m (run_last (a ∷ x ∷ v) b h)) (λ h. (sign_bytes a x (v ++ (b ∷ [])) h).first (and_left (is_letter_or_digit a) _ r))

-- `==` `!=` `<=` `>=`, whatever follows
pub sign_longest : (a : ℕ) (rest : List ℕ) → T (is_among two_byte_signs (a ∷ 61 ∷ [])) → Longest (a ∷ 61 ∷ []) rest
unfolding is_word is_run
sign_longest a rest s =
    record {
      is_one = or_right (ltb 0 2 && is_run (a ∷ 61 ∷ [])) _ (or_left (is_among two_byte_signs (a ∷ 61 ∷ [])) _ s);
      ends = λ b t e. run_or_sign a 61 (b ∷ []) (λ h. and_right (is_letter_or_digit a) _ h) (λ h. cons≢nil (sign_bytes a 61 (b ∷ []) h).last);
    }

-- any other byte but a space, unless it begins such a sign
pub byte_longest : (a : ℕ) (rest : List ℕ) → (T (is_letter_or_digit a) → ⊥) → (a ≡ 32 → ⊥)
    → ((t : List ℕ) → rest ≡ 61 ∷ t → T (is_among two_byte_signs (a ∷ 61 ∷ [])) → ⊥) → Longest (a ∷ []) rest
unfolding is_run
byte_longest a rest n m s =
    record {
      is_one = one_byte a m;
      ends = λ b t e.
          run_or_sign a b [] (λ h. n (and_left (is_letter_or_digit a) _ h))
          (λ h.
          let q : b ≡ 61 = (sign_bytes a b [] h).second in s t (e ∙ ap (λ (c : ℕ). c ∷ t) q) (subst (λ (c : ℕ). T (is_among two_byte_signs (a ∷ c ∷ []))) q h));
    }

-- ---- the words from a place on

-- the first word, and the words of what follows it
pub first_word : (w rest : List ℕ) → Longest w rest → words_of (w ++ rest) ≡ w ∷ words_of rest
first_word w rest h = along w [] rest h.is_one ∙ after_word w rest h

-- a space is passed over
pub space_first : (rest : List ℕ) → words_of (32 ∷ rest) ≡ words_of rest
space_first rest = first_byte 32 rest

-- no word is left where no byte is
pub no_words : (l : List ℕ) → length l ≡ 0 → tokens_of l ≡ []
unfolding words_after
no_words [] h = refl
no_words (b ∷ l) h = absurd (omega arith)

-- the token of a word, and those of what follows it
pub token_first : (l : List ℕ) (n : ℕ) → Longest (take n l) (drop n l) → tokens_of l ≡ token_of (take n l) ∷ tokens_of (drop n l)
token_first l n h =
    ap (λ (t : List ℕ). tokens_of t) (sym (take-append-drop n l)) ∙ ap (λ (ws : List (List ℕ)). map token_of ws) (first_word (take n l) (drop n l) h)
