-- 01: "It prints a line for the start, then one per command: `ok`, round count, values; `back`, values; `m`, marks; or `no`,
-- number." The bytes of these lines, and what the functions that write them leave.
use Rattle.std.specs.Prelude.{Option, Some, None, cond, List, [], ◌∷◌, ◌++◌, map, ℕ, zero, suc, ◌+◌, ◌*◌, ◌/◌, ◌%◌, ltb, ℤ, pos, negsuc, length}
use Rattle.results.specs.Results.{Answered, answered, over}
use Rattle.ascii.specs.Ascii.{space_byte, first_digit}

-- ---- bytes

-- `-` and the line feed
abbrev pub minus_byte : ℕ
minus_byte = 45

abbrev pub feed_byte : ℕ
feed_byte = 10

-- `ok`, `back`, `m`, `no`
abbrev pub ok_word : List ℕ
ok_word = 111 ∷ 107 ∷ []

abbrev pub back_word : List ℕ
back_word = 98 ∷ 97 ∷ 99 ∷ 107 ∷ []

abbrev pub marks_word : List ℕ
marks_word = 109 ∷ []

abbrev pub refusal_word : List ℕ
refusal_word = 110 ∷ 111 ∷ []

-- ---- numbers

-- the byte of the last digit of n
abbrev pub digit : ℕ → ℕ
digit n = first_digit + n % 10

-- the digits of n, most significant first; n itself bounds how many there are
unfoldable pub digits : ℕ → ℕ → List ℕ
digits zero n = digit n ∷ []
digits (suc bound) n =
    let leading = digits bound (n / 10) in
    cond (ltb n 10) [] leading ++ (digit n ∷ [])

unfoldable pub decimal : ℕ → List ℕ
decimal n = digits n n

-- a negative number has `-` in front
unfoldable pub signed_decimal : ℤ → List ℕ
signed_decimal (pos n) = decimal n
signed_decimal (negsuc n) = minus_byte ∷ decimal (suc n)

-- ---- lines

-- each field after one space
unfoldable pub spaced : List (List ℕ) → List ℕ
spaced [] = []
spaced (field ∷ fields) = (space_byte ∷ field) ++ spaced fields

-- a word, its fields and a line feed
unfoldable pub line : List ℕ → List (List ℕ) → List ℕ
line word fields = word ++ (spaced fields ++ (feed_byte ∷ []))

-- `ok`, the round count, the values
unfoldable pub ok_text : ℕ → List ℤ → List ℕ
ok_text count values = line ok_word (decimal count ∷ map signed_decimal values)

-- `back`, the values
unfoldable pub back_text : List ℤ → List ℕ
back_text values = line back_word (map signed_decimal values)

-- `m`, the marks
unfoldable pub marks_text : List ℕ → List ℕ
marks_text marks = line marks_word (map decimal marks)

-- `no`, the number
unfoldable pub refusal_text : ℕ → List ℕ
refusal_text number = line refusal_word (decimal number ∷ [])

-- ---- room

-- The room asked for a line: `ok`, a space, 20 digits and the line feed are 24 bytes; a value takes 12 (a space, a sign, 10
-- digits), a mark 4.
abbrev pub base_width : ℕ
base_width = 24

abbrev pub value_width : ℕ
value_width = 12

abbrev pub mark_width : ℕ
mark_width = 4

abbrev pub room : ℕ → ℕ → ℕ
room width number = base_width + width * number

-- ---- what is written

-- how many bytes were written, or none, with the cells as they are left
abbrev pub Output : Type 0
Output = Answered (Option ℕ) (List ℕ)

abbrev pub written_into : Option ℕ → List ℕ → Output
written_into r cells = answered r cells

-- too short, with nothing changed; or the text, the cells from there on staying
unfoldable pub line_into : ℕ → List ℕ → List ℕ → Output
line_into asked text old =
    cond (ltb (length old) asked) (written_into None old) (written_into (Some (length text)) (over text old))
