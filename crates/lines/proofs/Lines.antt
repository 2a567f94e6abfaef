-- Whole lines: their parts one after another, and that they have room.
use Rattle.std.proofs.Common.{◌≡◌, ℕ, ◌+◌, ◌≤◌, ◌<◌, ◌^◌, Bool, true, false, Option, Some, None, List, [], ◌∷◌, ◌++◌, length, map, refl, sym, ap, ◌∙◌, append_assoc, append-nil, arith}
use Rattle.std.specs.Prelude.{option_to_list}
use borrow.Author.Tests.{ltb-false, le-ltb}
use lib.Dec.{ltb}
use lib.ListN.{length-append}
use Rattle.std.specs.Fmt.{decimal as printed}
use Rattle.results.specs.Results.{over}
use Rattle.tapes.specs.Tapes.{Tape, tape, put, put_all}
use Rattle.tapes.proofs.Tapes.{put_append, put_over}
use Rattle.lines.specs.Lines.{ok_word, refusal_word, decimal, spaced, line, written_into, line_into}
use Rattle.lines.proofs.Decimal.{printed_decimal}
use Rattle.lines.proofs.Room.{count_length, byte_length}

-- ---- the test for room

module _ (old text : List ℕ) (asked : ℕ) {short : Bool} (e : short ≡ ltb (length old) asked) where
  pub too_short_lem : short ≡ true → written_into None old ≡ line_into asked text old
  unfolding line_into
  too_short_lem t = rw (sym e ∙ t)

  pub has_room : short ≡ false → asked ≤ length old
  has_room t = ltb-false (length old) asked (sym e ∙ t)

-- ---- a number, if there is one

module _ {number : Option ℕ} where
  pub some_put : {n : ℕ} (old : Tape ℕ) {new : Tape ℕ} → n < 2 ^ 64 → number ≡ Some n → new ≡ put_all (32 ∷ printed n) old → new ≡ put_all (spaced (map decimal (option_to_list number))) old
  unfolding spaced
  some_put {n} old h e p = rw (e, append-nil (decimal n), ← printed_decimal n h) p

  pub nothing_put : {old : Tape ℕ} → number ≡ None → old ≡ put_all (spaced (map decimal (option_to_list number))) old
  unfolding spaced put_all
  nothing_put e = rw e

-- ---- the parts of a line

spaced_append : (l k : List (List ℕ)) → spaced (l ++ k) ≡ spaced l ++ spaced k
unfolding spaced
spaced_append [] k = refl
spaced_append (field ∷ l) k = ap (λ r. (32 ∷ field) ++ r) (spaced_append l k) ∙ sym (append_assoc (32 ∷ field) (spaced l) (spaced k))

-- a number, if there is one, and the other fields
module _ (word : List ℕ) (number : Option ℕ) (others : List (List ℕ)) (old : List ℕ) where
  abbrev pub first : List ℕ
  first = spaced (map decimal (option_to_list number))

  abbrev pub text : List ℕ
  text = line word (map decimal (option_to_list number) ++ others)

  parts : text ≡ word ++ (first ++ (spaced others ++ (10 ∷ [])))
  unfolding line
  parts =
      ap (λ s. word ++ (s ++ (10 ∷ []))) (spaced_append (map decimal (option_to_list number)) others)
      ∙ ap (λ s. word ++ s) (append_assoc first (spaced others) (10 ∷ []))

  -- the word, the number, the other fields and the line feed
  pub text_put : {a b c d : Tape ℕ} → a ≡ put_all word (tape old 0) → b ≡ put_all first a → c ≡ put_all (spaced others) b → d ≡ put 10 c
      → d ≡ put_all text (tape old 0)
  unfolding put_all
  text_put {a} {b} {c} e f g h =
      h ∙ ap (put 10) g ∙ sym (put_append (spaced others) (10 ∷ []) b)
      ∙ ap (put_all (spaced others ++ (10 ∷ []))) f ∙ sym (put_append first (spaced others ++ (10 ∷ [])) a)
      ∙ ap (put_all (first ++ (spaced others ++ (10 ∷ [])))) e ∙ sym (put_append word (first ++ (spaced others ++ (10 ∷ []))) (tape old 0))
      ∙ ap (λ l. put_all l (tape old 0)) (sym parts)

  text_size : length text ≡ length word + (length first + (length (spaced others) + 1))
  text_size = ap length parts ∙ simp length-append

  pub line_written : {asked past : ℕ} {cells : List ℕ} → asked ≤ length old → tape cells past ≡ put_all text (tape old 0)
      → length word + (length first + (length (spaced others) + 1)) ≤ asked → written_into (Some past) cells ≡ line_into asked text old
  unfolding line_into
  line_written {asked} {past} {cells} r p w =
      let whole : tape cells past ≡ tape (over text old) (length text) = p ∙ put_over text old (omega (arith, text_size)) in
      rw (le-ltb (length old) asked r, ap (λ (t : Tape ℕ). t.at) whole, ap (λ (t : Tape ℕ). t.cells) whole)

-- ---- what stands beside the fields fits the room

module _ (n : ℕ) where
  pub ok_fits : n < 2 ^ 64 → length ok_word + length (spaced (map decimal (option_to_list (Some n)))) < 24
  unfolding spaced
  ok_fits h = rw (append-nil (decimal n)) (omega (arith, count_length n h))

  pub refusal_fits : {k : ℕ} → k ≡ n → n < 2 ^ 8 → length refusal_word + length (spaced (map decimal (option_to_list (Some k)))) < 24
  unfolding spaced
  refusal_fits e h = rw (e, append-nil (decimal n)) (omega (arith, byte_length n h))
