-- The check of the values, and whether a run holds: values within their ends, recorded entries below the number of transitions, marks held
-- below 3.
use mathlib.Core.Path.{◌≡◌, refl, sym, ap, ◌∙◌}
use mathlib.Core.Bool.{Bool, true, false, cond, not, ◌&&◌}
use mathlib.Core.List.{List, [], ◌∷◌, map}
use Prim.Native.Nat.{ℕ, zero, suc, ◌+◌, ◌≤◌, ◌<◌}
use native.Mathlib.Numerals.{add-one}
use native.Mathlib.Omega.{arith}
use borrow.Author.Tests.{not-true, not-false}
use lib.IntN.{ℤ, pos}
use lib.Signed.{le_z}
use lib.ListN.{length, get_or, drop}
use Rattle.std.specs.Prelude.{Option, Some, None}
use Rattle.std.specs.Borrow.{Bor}
use Rattle.std.specs.Slice.{IsItemAt}
use Rattle.std.proofs.lemmas.List.{map-id}
use Rattle.model.specs.Trees.{Variable}
use Rattle.variables.specs.declared.VariableRow.{VariableRow}
use Rattle.variables.specs.Rows.{variable_rows, within_row}
use Rattle.variables.proofs.Columns.{blank}
use Rattle.standing.specs.Holding.{ends_of, first_outside, looked_at, all_below}

-- ---- the values

-- the value at a place lies within the ends there
abbrev is_in_ends : List VariableRow → List ℤ → ℕ → Bool
is_in_ends rows values i = within_row (get_or rows i blank) (get_or values i (pos 0))

nil : (i : ℕ) → ◌≡◌ {A = List ℤ} (drop i []) []
nil zero = refl
nil (suc i) = refl

-- what is left to look at from place i on, counted from x: its value is missing, it decides, or nothing is left
missing : (rows : List VariableRow) (values : List ℤ) (i x : ℕ) → i < length rows → length values ≤ i
    → first_outside (drop i (map ends_of rows)) (drop i values) x ≡ Some x
unfolding first_outside
missing [] values i x h l = absurd (omega arith)
missing (r ∷ rs) [] zero x h l = refl
missing (r ∷ rs) (c ∷ cs) zero x h l = absurd (omega arith)
missing (r ∷ rs) [] (suc i) x h l = ap (λ k. first_outside (drop i (map ends_of rs)) k x) (sym (nil i)) ∙ missing rs [] i x (omega arith) (omega arith)
missing (r ∷ rs) (c ∷ cs) (suc i) x h l = missing rs cs i x (omega arith) (omega arith)

step : (rows : List VariableRow) (values : List ℤ) (i x : ℕ) → i < length rows → i < length values
    → first_outside (drop i (map ends_of rows)) (drop i values) x
    ≡ cond (is_in_ends rows values i) (first_outside (drop (suc i) (map ends_of rows)) (drop (suc i) values) (suc x)) (Some x)
unfolding first_outside
step [] values i x h l = absurd (omega arith)
step (r ∷ rs) [] i x h l = absurd (omega arith)
step (r ∷ rs) (c ∷ cs) zero x h l = refl
step (r ∷ rs) (c ∷ cs) (suc i) x h l = step rs cs i x (omega arith) (omega arith)

ended : (rows : List VariableRow) (values : List ℤ) (i x : ℕ) → length rows ≤ i → first_outside (drop i (map ends_of rows)) (drop i values) x ≡ None
unfolding first_outside
ended [] values zero x h = refl
ended [] values (suc i) x h = refl
ended (r ∷ rs) values zero x h = absurd (omega arith)
ended (r ∷ rs) [] (suc i) x h = ap (λ k. first_outside (drop i (map ends_of rs)) k x) (sym (nil i)) ∙ ended rs [] i x (omega arith)
ended (r ∷ rs) (c ∷ cs) (suc i) x h = ended rs cs i x (omega arith)

module _ (rows : List VariableRow) (values : List ℤ) where
  abbrev whole : Option ℕ
  whole = first_outside (map ends_of rows) values 0

  -- what is left to look at decides
  abbrev pub Left : ℕ → Type 0
  Left i = whole ≡ first_outside (drop i (map ends_of rows)) (drop i values) i

  pub begins : Left 0
  begins = refl

  module _ (i : ℕ) (left : Left i) where
    pub all_within : i ≤ length rows → length rows ≤ i → None ≡ whole
    all_within below past = sym (left ∙ ended rows values i i past)

    pub all_looked : i ≤ length rows → length rows ≤ i → looked_at (length rows) whole ≡ length rows
    unfolding looked_at
    all_looked below past = rw (← all_within below past)

    -- the value is there and within, or not
    module _ (h : i < length rows) (given : Option (Bor ℤ)) (got : IsItemAt values i given) (b : Bool)
        (none : given ≡ None → b ≡ false) (some : (value : Bor ℤ) → given ≡ Some value → b ≡ within_row (get_or rows i blank) value.now) where
      pub decided : whole ≡ cond b (first_outside (drop (suc i) (map ends_of rows)) (drop (suc i) values) (suc i)) (Some i)
      decided = left ∙ go given got none some
        where
          go : (given : Option (Bor ℤ)) → IsItemAt values i given → (given ≡ None → b ≡ false)
              → ((value : Bor ℤ) → given ≡ Some value → b ≡ within_row (get_or rows i blank) value.now)
              → first_outside (drop i (map ends_of rows)) (drop i values) i ≡ cond b (first_outside (drop (suc i) (map ends_of rows)) (drop (suc i) values) (suc i)) (Some i)
          go None got none some = rw (none refl) (missing rows values i i h got.3)
          go (Some value) got none some =
              let same : value.now ≡ get_or values i (pos 0) = got.4 (omega arith) (pos 0) in
              rw (some value refl, same) (step rows values i i h got.3.0)

      pub outside_there : not b ≡ true → Some i ≡ whole
      outside_there e = let o : b ≡ false = not-true b e in sym (rw o at decided)

      pub looked_there : not b ≡ true → looked_at (length rows) whole ≡ suc i
      unfolding looked_at
      looked_there e = rw (← outside_there e)

      pub goes_on : not b ≡ false → Left (i + 1)
      goes_on e = let o : b ≡ true = not-false b e in rw (add-one i) (rw o at decided)

-- the ends of the rows of a model are those of its variables
pub outside_rows : (vs : List Variable) (values : List ℤ) (x : ℕ) → first_outside (map ends_of (variable_rows vs)) values x ≡ first_outside vs values x
unfolding first_outside
outside_rows [] values x = refl
outside_rows (v ∷ vs) [] x = refl
outside_rows (v ∷ vs) (c ∷ cs) x = ap (λ o. cond (le_z v.low c && le_z c v.high) o (Some x)) (outside_rows vs cs (suc x))

-- ---- numbers below a bound

-- what all_below answers of numbers, each of which stands for itself
pub below_itself : (bound : ℕ) (cells : List ℕ) (r : Bool)
    → ((number : ℕ → ℕ) → ((cell n : ℕ) → n ≡ cell → n ≡ number cell) → r ≡ all_below bound (map number cells)) → r ≡ all_below bound cells
below_itself bound cells r answers = answers (λ n. n) (λ cell n e. e) ∙ ap (all_below bound) (map-id cells)
