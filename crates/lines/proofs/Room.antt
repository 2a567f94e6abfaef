-- Every line fits its room, and the test for room.
use mathlib.Core.Path.{◌≡◌, refl, sym}
use mathlib.Core.Bool.{Bool, true, false, true≢false, ◌&&◌}
use mathlib.Core.List.{List, [], ◌∷◌, map}
use Prim.Native.Nat.{ℕ, suc, ◌+◌, ◌*◌, ◌-◌, ◌/◌, ◌≤◌, ◌<◌, ◌^◌, suc-le-suc}
use native.Mathlib.Nat.{div-lt_iff_lt-mul, le-div_iff_mul-le}
use native.Mathlib.Omega.{arith}
use borrow.Author.Tests.{leb-true, ltb-true, ltb-false, lt-ltb, le-ltb}
use lib.Dec.{leb, ltb}
use lib.IntN.{ℤ, pos, negsuc}
use lib.ListN.{length, get_or, length-append}
use lib.Signed.{mag}
use Rattle.evaluation.specs.Numbers.{representable}
use Rattle.lines.specs.Lines.{decimal, signed_decimal, spaced, line, ok_text, back_text, marks_text, refusal_text, room}
use Rattle.model.specs.Theorems.{Bytes}
use Rattle.lines.specs.Theorems.{Numbers, LinesFit}
use Rattle.lines.proofs.Decimal.{decimal_length}

pub signed_length : (v : ℤ) → mag v < 2 ^ 31 → length (signed_decimal v) < 12
unfolding signed_decimal
signed_length (pos n) h = omega (arith, decimal_length 9 n (omega arith) (omega arith))
signed_length (negsuc n) h = omega (arith, decimal_length 9 (suc n) (omega arith) (omega arith))

representable_mag : (v : ℤ) → representable v ≡ true → mag v < 2 ^ 31
representable_mag (pos n) h = omega (arith, leb-true n 2147483647 h)
representable_mag (negsuc n) h = by (leb n 2147483647) refl h
  where
    by : (t : Bool) → leb n 2147483647 ≡ t → t && true ≡ true → n < 2 ^ 31
    by true e h = omega (arith, leb-true n 2147483647 e)
    by false e h = absurd (true≢false (sym h))

-- fields of a width less the space
module _ {A : Type 0} (text : A → List ℕ) (other : A) (width : ℕ) where
  spaced_length : (l : List A) → ((i : ℕ) → i < length l → length (text (get_or l i other)) < width)
      → length (spaced (map text l)) ≤ width * length l
  unfolding spaced
  spaced_length [] h = omega arith
  spaced_length (x ∷ l) h =
      let rest : length (spaced (map text l)) ≤ width * length l = spaced_length l (λ i b. h (suc i) (suc-le-suc b)) in
      let first : length (text x) < width = h 0 (omega arith) in
      simp length-append (omega arith)

line_length : (word : List ℕ) (fields : List (List ℕ)) → length (line word fields) ≡ length word + (length (spaced fields) + 1)
unfolding line
line_length word fields = simp length-append

-- the digits of a byte, and of a number of 64 bits
pub byte_length : (n : ℕ) → n < 2 ^ 8 → length (decimal n) < 4
byte_length n h = omega (arith, decimal_length 2 n (omega arith) (omega arith))

pub count_length : (n : ℕ) → n < 2 ^ 64 → length (decimal n) < 21
count_length n h = omega (arith, decimal_length 19 n (omega arith) (omega arith))

values_length : (values : List ℤ) → Numbers values → length (spaced (map signed_decimal values)) ≤ 12 * length values
values_length values h =
    spaced_length signed_decimal (pos 0) 12 values
    (λ i b. signed_length (get_or values i (pos 0)) (representable_mag (get_or values i (pos 0)) (h i b)))

marks_length : (marks : List ℕ) → Bytes marks → length (spaced (map decimal marks)) ≤ 4 * length marks
marks_length marks h = spaced_length decimal 0 4 marks (λ i b. byte_length (get_or marks i 0) (h i b))

pub lines_fit : LinesFit
unfolding ok_text back_text marks_text refusal_text spaced
lines_fit =
    record {
      ok = λ count values c h.
          rw line_length (simp length-append (omega (arith, count_length count c, values_length values h)));
      back = λ values h. rw line_length (omega (arith, values_length values h));
      marks = λ marks h. rw line_length (omega (arith, marks_length marks h));
      refusal = λ number h. rw line_length (simp length-append (omega (arith, byte_length number h)));
    }

-- ---- the test for room

module _ (size width number : ℕ) where
  pub short_of_header : size < 24 → true ≡ ltb size (room width number)
  short_of_header h = sym (lt-ltb size (room width number) (omega arith))

  pub enough_for_none : 24 ≤ size → width ≡ 0 → false ≡ ltb size (room width number)
  enough_for_none h w = sym (le-ltb size (room width number) (rw w (omega arith)))

  pub short_of_numbers : 24 ≤ size → 0 < width → ltb ((size - 24) / width) number ≡ ltb size (room width number)
  short_of_numbers h w = by (ltb ((size - 24) / width) number) refl
    where
      by : (t : Bool) → ltb ((size - 24) / width) number ≡ t → t ≡ ltb size (room width number)
      by true e =
          let less : size - 24 < number * width = (div-lt_iff_lt-mul w).0 (ltb-true ((size - 24) / width) number e) in
          sym (lt-ltb size (room width number) (omega arith))
      by false e =
          let more : number * width ≤ size - 24 = (le-div_iff_mul-le w).0 (ltb-false ((size - 24) / width) number e) in
          sym (le-ltb size (room width number) (omega arith))
