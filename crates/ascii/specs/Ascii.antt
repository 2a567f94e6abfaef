-- Bytes that stand for characters.
use Rattle.std.specs.Prelude.{Bool, true, false, cond, ◌&&◌, ◌||◌, List, [], ◌∷◌, ℕ, ◌+◌, ◌*◌, ◌-◌, eqb, leb, min, Option, Some, None}

-- the bytes space, `0` and `9`
abbrev pub space_byte : ℕ
space_byte = 32

abbrev pub first_digit : ℕ
first_digit = 48

abbrev pub last_digit : ℕ
last_digit = 57

-- are these the same bytes?
unfoldable pub same : List ℕ → List ℕ → Bool
same [] [] = true
same [] (b ∷ t) = false
same (a ∷ s) [] = false
same (a ∷ s) (b ∷ t) = eqb a b && same s t

-- `0` to `9`
abbrev pub is_digit : ℕ → Bool
is_digit b = leb first_digit b && leb b last_digit

-- `A` to `Z`, `a` to `z`
abbrev pub is_letter : ℕ → Bool
is_letter b = (leb 65 b && leb b 90) || (leb 97 b && leb b 122)

unfoldable pub are_digits : List ℕ → Bool
are_digits [] = true
are_digits (b ∷ l) = is_digit b && are_digits l

-- digits read left to right, after those that gave n
unfoldable pub value_after : ℕ → List ℕ → ℕ
value_after n [] = n
value_after n (b ∷ l) = value_after (10 * n + (b - first_digit)) l

abbrev pub value_of : List ℕ → ℕ
value_of l = value_after 0 l

-- a number in 32 bits: the greatest stands for all from there on
abbrev pub capped : ℕ → ℕ
capped n = min n 4294967295

-- the number of these digits in 32 bits, if they are digits
abbrev pub number_of : List ℕ → Option ℕ
number_of l = cond (are_digits l) (Some (capped (value_of l))) None
