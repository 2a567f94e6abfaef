-- Digits read from the left, their number capped at each.
use mathlib.Core.Path.{◌≡◌, sym, ap, ◌∙◌}
use mathlib.Core.Bool.{true, false, cond}
use mathlib.Core.List.{List, [], ◌∷◌}
use Prim.Native.Nat.{ℕ, suc, ◌+◌, ◌*◌, ◌-◌, ◌≤◌, ◌<◌}
use native.Mathlib.Numerals.{add-one}
use native.Mathlib.Omega.{arith}
use lib.ListN.{length, drop, get_or, drop_of_length-le}
use lib.Seq.{drop-cons}
use Rattle.std.specs.Prelude.{Option, Some, None}
use Rattle.ascii.specs.Ascii.{is_digit, are_digits, value_after, capped}

-- the number of these digits after those that gave n
abbrev pub number_after : ℕ → List ℕ → Option ℕ
number_after n l = cond (are_digits l) (Some (capped (value_after n l))) None

-- a number capped before it grows
cap_grows : (n d : ℕ) → capped (10 * n + d) ≡ capped (10 * capped n + d)
cap_grows n d = omega arith

-- so at each digit
cap_after : (n : ℕ) (l : List ℕ) → capped (value_after n l) ≡ capped (value_after (capped n) l)
unfolding value_after
cap_after n [] = omega arith
cap_after n (b ∷ l) =
    let d = b - 48 in
    cap_after (10 * n + d) l ∙ ap (λ k. capped (value_after k l)) (cap_grows n d) ∙ sym (cap_after (10 * capped n + d) l)

module _ (l : List ℕ) (n i : ℕ) where
  -- a byte that is no digit
  pub other_byte : i < length l → is_digit (get_or l i 0) ≡ false → None ≡ number_after n (drop i l)
  unfolding are_digits
  other_byte h e = rw (drop-cons l i 0 h, e)

  -- a digit
  pub digit_read : {m : ℕ} → i < length l → is_digit (get_or l i 0) ≡ true → m ≡ capped (10 * n + (get_or l i 0 - 48))
      → number_after n (drop i l) ≡ number_after m (drop (i + 1) l)
  unfolding are_digits value_after
  digit_read {m} h d e =
      rw (drop-cons l i 0 h, d, add-one i, e) (ap (λ v. cond (are_digits (drop (suc i) l)) (Some v) None) (cap_after (10 * n + (get_or l i 0 - 48)) (drop (suc i) l)))

  -- all are read
  pub digits_end : length l ≤ i → n ≤ 4294967295 → Some n ≡ number_after n (drop i l)
  unfolding are_digits value_after
  digits_end h b = let e : n ≡ capped n = omega arith in rw (drop_of_length-le l h) (ap Some e)
