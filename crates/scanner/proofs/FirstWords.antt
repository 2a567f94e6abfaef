-- The first word from a place of a text on, after the spaces there.
use mathlib.Core.Path.{◌≡◌, refl, sym, ap, ◌∙◌}
use mathlib.Core.Bool.{Bool, true, false, cond}
use mathlib.Core.List.{List, [], ◌∷◌, map}
use Prim.Native.Nat.{ℕ, ◌+◌, ◌-◌, ◌≤◌, ◌<◌}
use native.Mathlib.Omega.{arith}
use borrow.Author.Tests.{eqb-true}
use lib.Dec.{eqb}
use lib.ListN.{length, take, drop, length-drop, get_or}
use lib.Seq.{drop-drop, take_all}
use Rattle.std.specs.List.{prefix_len}
use Rattle.grammar.specs.declared.Token.{Token}
use Rattle.grammar.specs.Tokens.{token_of, tokens_of}
use Rattle.grammar.specs.Held.{held, FirstWord}
use Rattle.grammar.proofs.Scanning.{space_first, no_words, token_first}
use Rattle.scanner.specs.Scanning.{is_space, WordLength}
use Rattle.scanner.proofs.Lengths.{one_more, after_prefix}

-- the words after spaces are all
spaces_first : (l : List ℕ) → tokens_of l ≡ tokens_of (drop (prefix_len is_space l) l)
spaces_first [] = refl
spaces_first (b ∷ l) = by (eqb b 32) refl (spaces_first l)
  where
    by : (t : Bool) → eqb b 32 ≡ t → tokens_of l ≡ tokens_of (drop (prefix_len is_space l) l)
        → tokens_of (b ∷ l) ≡ tokens_of (drop (cond t (1 + prefix_len is_space l) 0) (b ∷ l))
    by true e ih =
        ap (λ c. tokens_of (c ∷ l)) (eqb-true b 32 e) ∙ ap (λ ws. map token_of ws) (space_first l) ∙ ih
        ∙ ap (λ n. tokens_of (drop n (b ∷ l))) (sym (one_more (prefix_len is_space l)))
    by false e ih = refl

-- a slice without an end
abbrev pub slice_from : List ℕ → ℕ → List ℕ
slice_from l n = take (length l - n) (drop n l)

whole : (l : List ℕ) (n : ℕ) → slice_from l n ≡ drop n l
whole l n = take_all (length l - n) (drop n l) (omega (arith, length-drop n l))

module _ (text : List ℕ) (at : ℕ) {from start : ℕ} (f : from ≡ at) (e : start ≡ prefix_len is_space (slice_from text from)) where
  -- the word there, as the code slices it
  abbrev pub word : List ℕ
  word = slice_from (slice_from text from) start

  rest : slice_from text from ≡ drop at text
  rest = whole text from ∙ ap (λ n. drop n text) f

  parts : word ≡ drop start (drop at text)
  parts = whole (slice_from text from) start ∙ ap (drop start) rest

  -- the words from there on are all
  after_spaces : tokens_of (drop at text) ≡ tokens_of word
  after_spaces =
      spaces_first (drop at text) ∙ ap (λ l. tokens_of (drop (prefix_len is_space l) (drop at text))) (sym rest)
      ∙ ap (λ n. tokens_of (drop n (drop at text))) (sym e) ∙ ap (λ l. tokens_of l) (sym parts)

  pub none_left : length word ≡ 0 → tokens_of (drop at text) ≡ []
  none_left h = after_spaces ∙ no_words word h

  -- no space is left before it
  pub no_space_left : 0 < length word → is_space (get_or word 0 0) ≡ false
  no_space_left h = by word h (ap (λ n. drop n (slice_from text from)) (sym e) ∙ sym (whole (slice_from text from) start))
    where
      by : (l : List ℕ) → 0 < length l → drop (prefix_len is_space (slice_from text from)) (slice_from text from) ≡ l → is_space (get_or l 0 0) ≡ false
      by [] g d = absurd (omega arith)
      by (b ∷ l) g d = after_prefix is_space (slice_from text from) b l d

  pub word_found : at ≤ length text → {n : ℕ} → WordLength word n → {t : Token} → t ≡ held (token_of (take n word)) → FirstWord text at (record { token = t; next = at + (start + n) })
  word_found within {n} l {t} h =
      record {
        token = token_of (take n word);
        is_held = h;
        first =
            after_spaces ∙ token_first word n l.longest
            ∙ ap (λ k. token_of (take n word) ∷ tokens_of k)
            (ap (drop n) parts ∙ drop-drop n start (drop at text) ∙ drop-drop (start + n) at text);
        after = omega (arith, l.some);
        within = omega (arith, l.within, ap length parts, length-drop at text, length-drop start (drop at text));
      }
