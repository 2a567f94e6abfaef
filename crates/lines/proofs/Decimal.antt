-- `decimal` is right: its digits read as the number, with no zero in front. How many digits it has.
use mathlib.Core.Path.{◌≡◌, refl, ◌∙◌}
use mathlib.Core.Bool.{Bool, true, false, cond}
use mathlib.Core.List.{List, [], ◌∷◌, ◌++◌}
use Prim.Native.Nat.{ℕ, zero, suc, ◌+◌, ◌*◌, ◌-◌, ◌/◌, ◌^◌, ◌≤◌, ◌<◌}
use native.Mathlib.Nat.{le_refl}
use native.Mathlib.Omega.{arith}
use borrow.Author.Tests.{ltb-true, ltb-false, lt-ltb, le-ltb, le-leb}
use lib.Dec.{ltb}
use lib.IntN.{ℤ, pos, negsuc}
use lib.ListN.{length, get_or}
use lib.Signed.{mag}
use Rattle.std.specs.Fmt.{decimal as printed, signed_decimal as printed_z}
use Rattle.std.proofs.lemmas.Fmt.{decimal_by_steps, length-decimal-le}
use Rattle.ascii.specs.Ascii.{is_digit, are_digits, value_after}
use Rattle.lines.specs.Lines.{digit, digits, decimal, signed_decimal}
use Rattle.lines.specs.Theorems.{IsDecimal, DecimalRight}

-- ---- a number of one digit, and one of more

enough : (k j n : ℕ) → n ≤ k → n ≤ j → digits k n ≡ digits j n
unfolding digits
enough zero zero n h l = refl
enough zero (suc j) n h l = rw (lt-ltb n 10 (omega arith))
enough (suc k) zero n h l = rw (lt-ltb n 10 (omega arith))
enough (suc k) (suc j) n h l = by (ltb n 10) refl (enough k j (n / 10))
  where
    by : (t : Bool) → ltb n 10 ≡ t → (n / 10 ≤ k → n / 10 ≤ j → digits k (n / 10) ≡ digits j (n / 10))
        → cond t [] (digits k (n / 10)) ++ (digit n ∷ []) ≡ cond t [] (digits j (n / 10)) ++ (digit n ∷ [])
    by true e same = refl
    by false e same =
        let more : 10 ≤ n = ltb-false n 10 e in
        rw (same (omega arith) (omega arith))

pub decimal_small : (n : ℕ) → n < 10 → decimal n ≡ digit n ∷ []
unfolding decimal digits
decimal_small zero h = refl
decimal_small (suc n) h = rw (lt-ltb (suc n) 10 h)

pub decimal_large : (n : ℕ) → 10 ≤ n → decimal n ≡ decimal (n / 10) ++ (digit n ∷ [])
unfolding decimal digits
decimal_large zero h = absurd (omega arith)
decimal_large (suc n) h =
    rw (le-ltb (suc n) 10 h, enough n (suc n / 10) (suc n / 10) (omega arith) (le_refl (suc n / 10)))

-- ---- the library's text

pub printed_decimal : (n : ℕ) → n < 2 ^ 64 → printed n ≡ decimal n
printed_decimal =
    decimal_by_steps (λ n text. text ≡ decimal n)
    (λ n h. let last : 48 + n ≡ digit n = omega arith in rw (decimal_small n h, last))
    (λ n text h e. rw (decimal_large n h, e))

pub printed_signed : (v : ℤ) → mag v < 2 ^ 31 → printed_z v ≡ signed_decimal v
unfolding signed_decimal
printed_signed (pos n) h = printed_decimal n (omega arith)
printed_signed (negsuc n) h = rw (printed_decimal (suc n) (omega arith))

-- induction on the digits
module _ (P : ℕ → Type 0) (small : (n : ℕ) → n < 10 → P n) (large : (n : ℕ) → 10 ≤ n → P (n / 10) → P n) where
  bounded : (bound n : ℕ) → n ≤ bound → P n
  bounded zero n h = small n (omega arith)
  bounded (suc bound) n h = by (ltb n 10) refl (bounded bound (n / 10))
    where
      by : (t : Bool) → ltb n 10 ≡ t → (n / 10 ≤ bound → P (n / 10)) → P n
      by true e shorter = small n (ltb-true n 10 e)
      by false e shorter =
          let more : 10 ≤ n = ltb-false n 10 e in
          large n more (shorter (omega arith))

  pub by_digits : (n : ℕ) → P n
  by_digits n = bounded n n (le_refl n)

-- ---- the value

value_snoc : (n : ℕ) (l : List ℕ) (b : ℕ) → value_after n (l ++ (b ∷ [])) ≡ 10 * value_after n l + (b - 48)
unfolding value_after
value_snoc n [] b = refl
value_snoc n (a ∷ l) b = value_snoc (10 * n + (a - 48)) l b

digits_snoc : (l : List ℕ) (b : ℕ) → is_digit b ≡ true → are_digits (l ++ (b ∷ [])) ≡ are_digits l
unfolding are_digits
digits_snoc [] b h = rw h
digits_snoc (a ∷ l) b h = rw (digits_snoc l b h)

head_append : (l t : List ℕ) → 48 < get_or l 0 0 → get_or (l ++ t) 0 0 ≡ get_or l 0 0
head_append [] t h = absurd (omega arith)
head_append (a ∷ l) t h = refl

is_digit_lem : (n : ℕ) → is_digit (digit n) ≡ true
is_digit_lem n = rw (le-leb 48 (digit n) (omega arith), le-leb (digit n) 57 (omega arith))

one_digit : (n : ℕ) → n < 10 → IsDecimal n (digit n ∷ [])
unfolding value_after are_digits
one_digit n h =
    record {
      value = omega arith;
      digits = rw (is_digit_lem n);
      leading = omega arith;
      zero = λ e. rw e;
    }

one_more : (n : ℕ) (l : List ℕ) → 10 ≤ n → IsDecimal (n / 10) l → IsDecimal n (l ++ (digit n ∷ []))
one_more n l h d =
    let first : 48 < get_or l 0 0 = d.leading (omega arith) in
    record {
      value = value_snoc 0 l (digit n) ∙ omega (arith, d.value);
      digits = digits_snoc l (digit n) (is_digit_lem n) ∙ d.digits;
      leading = λ _. rw (head_append l (digit n ∷ []) first) first;
      zero = λ e. absurd (omega arith);
    }

pub decimal_right : DecimalRight
decimal_right =
    by_digits (λ n. IsDecimal n (decimal n)) (λ n h. rw (decimal_small n h) (one_digit n h))
    (λ n h d. rw (decimal_large n h) (one_more n (decimal (n / 10)) h d))

-- ---- the length

pub decimal_length : (k n : ℕ) → n < 10 ^ suc k → n < 2 ^ 64 → length (decimal n) ≤ suc k
decimal_length k n h fits = rw (← printed_decimal n fits) (length-decimal-le (suc k) n (omega arith) h fits)
