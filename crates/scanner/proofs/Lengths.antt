-- How long the word is that a text begins with: letters and digits, or a sign.
use mathlib.Core.Path.{◌≡◌, refl, sym, subst, ◌∙◌}
use mathlib.Core.Bool.{Bool, true, false, cond, and-true}
use mathlib.Core.List.{List, [], ◌∷◌, head-eq_of_cons-eq, nil≢cons}
use Prim.Native.Nat.{ℕ, suc, ◌+◌, ◌<◌}
use native.Mathlib.Omega.{arith}
use borrow.Author.Tests.{eqb-false}
use lib.Dec.{T, eqb}
use lib.ListN.{length, take, drop, get_or}
use Rattle.std.specs.List.{prefix_len, list_any}
use Rattle.std.proofs.lemmas.List.Sums.{prefix_len-le-length}
use Rattle.ascii.specs.Ascii.{same}
use Rattle.grammar.specs.Words.{is_letter_or_digit, is_run, is_among, two_byte_signs}
use Rattle.grammar.proofs.Tests.{is_true, fails, passes}
use Rattle.grammar.proofs.Scanning.{run_longest, sign_longest, byte_longest}
use Rattle.scanner.specs.Scanning.{is_space, WordLength}

-- ---- letters and digits

pub one_more : (n : ℕ) → 1 + n ≡ suc n
one_more n = omega arith

-- the byte after the bytes that pass does not
pub after_prefix : (p : ℕ → Bool) (l : List ℕ) (b : ℕ) (t : List ℕ) → drop (prefix_len p l) l ≡ b ∷ t → p b ≡ false
after_prefix p [] b t e = absurd (nil≢cons e)
after_prefix p (a ∷ l) b t e = by (p a) refl e (after_prefix p l b t)
  where
    by : (s : Bool) → p a ≡ s → drop (cond s (1 + prefix_len p l) 0) (a ∷ l) ≡ b ∷ t → (drop (prefix_len p l) l ≡ b ∷ t → p b ≡ false) → p b ≡ false
    by true q n ih = ih (rw (one_more (prefix_len p l)) at n)
    by false q n ih = subst (λ c. p c ≡ false) (head-eq_of_cons-eq n) q

-- letters and digits up to there
are_run : (l : List ℕ) → T (is_run (take (prefix_len is_letter_or_digit l) l))
unfolding is_run
are_run [] = tt
are_run (b ∷ l) = by (is_letter_or_digit b) refl (are_run l)
  where
    by : (t : Bool) → is_letter_or_digit b ≡ t → T (is_run (take (prefix_len is_letter_or_digit l) l))
        → T (is_run (take (cond t (1 + prefix_len is_letter_or_digit l) 0) (b ∷ l)))
    by true e h = rw (one_more (prefix_len is_letter_or_digit l), e) h
    by false e h = tt

-- they are a word
pub run_length : (l : List ℕ) {n : ℕ} → n ≡ prefix_len is_letter_or_digit l → 0 < n → WordLength l n
unfolding is_run
run_length [] e h = absurd (omega arith)
run_length (b ∷ l) {n} e h = by (is_letter_or_digit b) refl e (are_run (b ∷ l))
  where
    by : (t : Bool) → is_letter_or_digit b ≡ t → n ≡ cond t (1 + prefix_len is_letter_or_digit l) 0
        → T (is_run (take (cond t (1 + prefix_len is_letter_or_digit l) 0) (b ∷ l))) → WordLength (b ∷ l) n
    by true f g r =
        let size : n ≡ suc (prefix_len is_letter_or_digit l) = omega arith in
        rw size
        (record {
          some = omega arith;
          within = omega (arith, prefix_len-le-length is_letter_or_digit l);
          longest =
              run_longest b (take (prefix_len is_letter_or_digit l) l) (drop (prefix_len is_letter_or_digit l) l)
              (subst (λ k. T (is_run (take k (b ∷ l)))) (sym g ∙ size) r)
              (λ c t q. fails (is_letter_or_digit c) (after_prefix is_letter_or_digit l c t q));
        })
    by false f g r = absurd (omega arith)

-- a text that begins with none
pub no_run : (l : List ℕ) → prefix_len is_letter_or_digit l ≡ 0 → 0 < length l → is_letter_or_digit (get_or l 0 0) ≡ false
no_run [] e h = absurd (omega arith)
no_run (b ∷ l) e h = after_prefix is_letter_or_digit (b ∷ l) b l (rw e)

-- ---- signs

-- this byte and an equals sign are one word
abbrev pub begins_sign : ℕ → Bool
begins_sign b = list_any (λ y. eqb y b) (61 ∷ 33 ∷ 60 ∷ 62 ∷ [])

sign_among : (b : ℕ) → begins_sign b ≡ is_among two_byte_signs (b ∷ 61 ∷ [])
unfolding is_among two_byte_signs same
sign_among b = simp and-true

-- two bytes
pub pair_length : (l : List ℕ) → 1 < length l → get_or l 1 0 ≡ 61 → begins_sign (get_or l 0 0) ≡ true → WordLength l 2
pair_length [] h e s = absurd (omega arith)
pair_length (a ∷ []) h e s = absurd (omega arith)
pair_length (a ∷ b ∷ l) h e s =
    record {
      some = omega arith;
      within = omega arith;
      longest = rw e (sign_longest a l (passes (is_among two_byte_signs (a ∷ 61 ∷ [])) (sym (sign_among a) ∙ s)));
    }

module _ (b : ℕ) (l : List ℕ) (n : is_letter_or_digit b ≡ false) (m : is_space b ≡ false) where
  -- one byte, unless a sign goes on
  one_byte : ((t : List ℕ) → l ≡ 61 ∷ t → begins_sign b ≡ true → ⊥) → WordLength (b ∷ l) 1
  one_byte s =
      record {
        some = omega arith;
        within = omega arith;
        longest = byte_longest b l (fails _ n) (eqb-false b 32 m) (λ t e h. s t e (sign_among b ∙ is_true (is_among two_byte_signs (b ∷ 61 ∷ [])) h));
      }

-- the same of a text
module _ (l : List ℕ) (n : is_letter_or_digit (get_or l 0 0) ≡ false) (m : is_space (get_or l 0 0) ≡ false) (some : 0 < length l) where
  pub byte_length : ((t : List ℕ) → drop 1 l ≡ 61 ∷ t → begins_sign (get_or l 0 0) ≡ true → ⊥) → WordLength l 1
  byte_length s = by l n m some s
    where
      by : (l : List ℕ) → is_letter_or_digit (get_or l 0 0) ≡ false → is_space (get_or l 0 0) ≡ false → 0 < length l
          → ((t : List ℕ) → drop 1 l ≡ 61 ∷ t → begins_sign (get_or l 0 0) ≡ true → ⊥) → WordLength l 1
      by [] n m h s = absurd (omega arith)
      by (b ∷ l) n m h s = one_byte b l n m s
