-- The statements on numbers and lines. Proved in proofs/.
use Rattle.std.specs.Prelude.{◌≡◌, true, List, [], ◌∷◌, ℕ, ◌≤◌, ◌<◌, ◌^◌, ℤ, pos, length, get_or}
use Rattle.evaluation.specs.Numbers.{representable}
use Rattle.model.specs.Theorems.{Bytes}
use Rattle.ascii.specs.Ascii.{first_digit, are_digits, value_of}
use Rattle.lines.specs.Lines.{decimal, ok_text, back_text, marks_text, refusal_text, room, value_width, mark_width}

-- `decimal` is right: digits that read as the number, as a command's number is read, with no zero in front but for 0 itself
pub record IsDecimal (n : ℕ) (text : List ℕ) : Type 0 where
  pub value : value_of text ≡ n
  pub digits : are_digits text ≡ true
  pub leading : 0 < n → first_digit < get_or text 0 0
  pub zero : n ≡ 0 → text ≡ first_digit ∷ []

abbrev pub DecimalRight : Type 0
DecimalRight = (n : ℕ) → IsDecimal n (decimal n)

-- every entry is a number of 32 bits, as in every slice of them
abbrev pub Numbers : List ℤ → Type 0
Numbers values = (i : ℕ) → i < length values → representable (get_or values i (pos 0)) ≡ true

-- every line fits its room
pub record LinesFit : Type 0 where
  pub ok : (count : ℕ) (values : List ℤ) → count < 2 ^ 64 → Numbers values
      → length (ok_text count values) ≤ room value_width (length values)
  pub back : (values : List ℤ) → Numbers values → length (back_text values) ≤ room value_width (length values)
  pub marks : (marks : List ℕ) → Bytes marks → length (marks_text marks) ≤ room mark_width (length marks)
  pub refusal : (number : ℕ) → number < 256 → length (refusal_text number) ≤ room mark_width 0
