-- The command of a line, by its length and its first bytes.
use mathlib.Core.Path.{◌≡◌, refl, sym, ap, ◌∙◌}
use mathlib.Core.Bool.{Bool, true, false, cond, ◌&&◌, and-false}
use mathlib.Core.Logic.{◌⊎◌, inl, inr}
use mathlib.Core.List.{List, [], ◌∷◌}
use Prim.Native.Nat.{ℕ, ◌-◌, ◌≤◌, ◌<◌}
use native.Mathlib.Omega.{arith}
use borrow.Author.Tests.{ltb-true, ltb-false, le-leb, lt-leb, ne_eqb, eqb-true, eqb-false}
use lib.Dec.{ltb, leb, eqb}
use lib.ListN.{length, take, drop, get_or, length-drop}
use lib.Seq.{take_all, length-take-le}
use Rattle.std.proofs.lemmas.List.{take_rest}
use Rattle.std.proofs.lemmas.Option.{none-some, cond_some}
use Rattle.std.specs.Prelude.{Option, Some, None}
use Rattle.commands.specs.declared.Command.{Command}
use Rattle.commands.specs.declared.Command.TheVariants.{Fire, Undo, Marks}
use Rattle.ascii.specs.Ascii.{same, are_digits, value_after, value_of, capped, number_of}
use Rattle.ascii.proofs.Sameness.{other_length}
use Rattle.commands.specs.Commands.{is_number, fire_within, fire_of, command_within, command_of}
use Rattle.commands.specs.Theorems.{LongLineUnknown, CommandOfFirst}

-- ---- lines that are no command

-- no digits, or too many
pub many_digits : (l : List ℕ) → 5 < length l → None ≡ fire_of l
unfolding fire_within is_number
many_digits l h = rw (lt-leb (length l) 5 h, and-false (leb 1 (length l)))

pub none_or_many : (l : List ℕ) {r : Bool} → r ≡ eqb (length l) 0 → (r ≡ true) ⊎ ((r ≡ false) × (5 < length l)) → None ≡ fire_of l
unfolding fire_within is_number
none_or_many l e (inl t) = let none : length l ≡ 0 = eqb-true (length l) 0 (sym e ∙ t) in rw none
none_or_many l e (inr t) = many_digits l t.1

-- a line of other than one byte is neither `u` nor `m`
not_a_letter : (l : List ℕ) → (length l ≡ 1 → ⊥) → command_of l ≡ cond (same (take 2 l) (102 ∷ 32 ∷ [])) (fire_of (drop 2 l)) None
unfolding command_within
not_a_letter l h = rw (other_length l (117 ∷ []) h, other_length l (109 ∷ []) h)

same_branches : {A : Type 0} (b : Bool) (x : A) → cond b x x ≡ x
same_branches true x = refl
same_branches false x = refl

pub long_line_unknown : LongLineUnknown
long_line_unknown l h =
    not_a_letter l (omega arith)
    ∙ rw (sym (many_digits (drop 2 l) (rw length-drop (omega arith)))) (same_branches (same (take 2 l) (102 ∷ 32 ∷ [])) None)

pub command_of_first : CommandOfFirst
command_of_first l = by (ltb 8 (length l)) refl
  where
    by : (t : Bool) → ltb 8 (length l) ≡ t → command_of l ≡ command_of (take 8 l)
    by true e =
        let long : 8 < length l = ltb-true 8 (length l) e in
        long_line_unknown l (omega arith) ∙ sym (long_line_unknown (take 8 l) (rw (length-take-le 8 l (omega arith)) (omega arith)))
    by false e = ap command_of (sym (take_all 8 l (ltb-false 8 (length l) e)))

-- ---- the digits after `f` and a space

-- at most 5 digits are a number below the greatest of 32 bits
few_digits : (l : List ℕ) → ((i : ℕ) → get_or l i 0 < 256) → length l ≤ 5 → capped (value_of l) ≡ value_of l
unfolding value_after
few_digits [] b k = omega arith
few_digits (v ∷ []) b k = omega (arith, b 0)
few_digits (v ∷ w ∷ []) b k = omega (arith, b 0, b 1)
few_digits (v ∷ w ∷ x ∷ []) b k = omega (arith, b 0, b 1, b 2)
few_digits (v ∷ w ∷ x ∷ y ∷ []) b k = omega (arith, b 0, b 1, b 2, b 3)
few_digits (v ∷ w ∷ x ∷ y ∷ z ∷ []) b k = omega (arith, b 0, b 1, b 2, b 3, b 4)
few_digits (u ∷ v ∷ w ∷ x ∷ y ∷ z ∷ l) b k = absurd (omega arith)

-- 1 to 5 bytes
module _ (l : List ℕ) {r : Bool} (e : r ≡ eqb (length l) 0) (f : r ≡ false) (k : length l ≤ 5) where
  number_fires : fire_of l ≡ cond (are_digits l) (Some (Fire (value_of l))) None
  unfolding fire_within is_number
  number_fires =
      let some : (length l ≡ 0 → ⊥) = eqb-false (length l) 0 (sym e ∙ f) in
      rw (le-leb 1 (length l) (omega arith), le-leb (length l) 5 k)

  -- not all are digits
  pub no_number : number_of l ≡ None → None ≡ fire_of l
  no_number h = by (are_digits l) h ∙ sym number_fires
    where
      by : (t : Bool) → cond t (Some (capped (value_of l))) None ≡ None → None ≡ cond t (Some (Fire (value_of l))) None
      by true g = absurd (none-some _ (sym g))
      by false g = refl

  -- digits
  pub number_read : ((i : ℕ) → get_or l i 0 < 256) → {v : ℕ} → number_of l ≡ Some v → Some (Fire v) ≡ fire_of l
  number_read b {v} h =
      let n = cond_some (are_digits l) (capped (value_of l)) v h in
      let same : value_of l ≡ v = sym (few_digits l b k) ∙ n.1 in
      sym (number_fires ∙ rw (n.0, same))

-- ---- lines of one byte

pub undo_line : (l : List ℕ) → length l ≡ 1 → get_or l 0 0 ≡ 117 → Some Undo ≡ command_of l
unfolding command_within same
undo_line [] h e = absurd (omega arith)
undo_line (b ∷ []) h e = rw e
undo_line (a ∷ b ∷ l) h e = absurd (omega arith)

pub marks_line : (l : List ℕ) → length l ≡ 1 → get_or l 0 0 ≡ 109 → Some Marks ≡ command_of l
unfolding command_within same
marks_line [] h e = absurd (omega arith)
marks_line (b ∷ []) h e = rw e
marks_line (a ∷ b ∷ l) h e = absurd (omega arith)

pub other_letter : (l : List ℕ) → length l ≡ 1 → (get_or l 0 0 ≡ 117 → ⊥) → (get_or l 0 0 ≡ 109 → ⊥) → None ≡ command_of l
unfolding command_within same
other_letter [] h u m = absurd (omega arith)
other_letter (b ∷ []) h u m = rw (ne_eqb b 117 u, ne_eqb b 109 m, and-false (eqb b 102))
other_letter (a ∷ b ∷ l) h u m = absurd (omega arith)

pub empty_line : (l : List ℕ) → length l ≡ 0 → None ≡ command_of l
unfolding command_within same
empty_line [] h = refl
empty_line (b ∷ l) h = absurd (omega arith)

-- ---- lines of several bytes

first_two : (l : List ℕ) → 2 ≤ length l → same (take 2 l) (102 ∷ 32 ∷ []) ≡ eqb (get_or l 0 0) 102 && (eqb (get_or l 1 0) 32 && true)
unfolding same
first_two [] h = absurd (omega arith)
first_two (a ∷ []) h = absurd (omega arith)
first_two (a ∷ b ∷ l) h = refl

module _ (l : List ℕ) (h : 2 ≤ length l) where
  other_start : same (take 2 l) (102 ∷ 32 ∷ []) ≡ false → None ≡ command_of l
  other_start e = sym (not_a_letter l (omega arith) ∙ rw e)

  pub other_word : (get_or l 0 0 ≡ 102 → ⊥) → None ≡ command_of l
  other_word n = other_start (first_two l h ∙ rw (ne_eqb (get_or l 0 0) 102 n))

  pub no_space : (get_or l 1 0 ≡ 32 → ⊥) → None ≡ command_of l
  no_space n = other_start (first_two l h ∙ rw (ne_eqb (get_or l 1 0) 32 n) (and-false (eqb (get_or l 0 0) 102)))

  -- the bytes from the third on, as a part of the slice
  pub fire_line : get_or l 0 0 ≡ 102 → get_or l 1 0 ≡ 32 → {c : Option Command} → c ≡ fire_of (take (length l - 2) (drop 2 l)) → c ≡ command_of l
  fire_line f s e =
      let start : same (take 2 l) (102 ∷ 32 ∷ []) ≡ true = first_two l h ∙ rw (f, s) in
      e ∙ ap fire_of (take_rest l 2) ∙ sym (not_a_letter l (omega arith) ∙ rw start)
