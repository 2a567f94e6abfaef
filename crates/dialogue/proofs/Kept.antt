-- The bytes that a line keeps.
use Rattle.std.proofs.Common.{◌≡◌, ◌≤◌, ◌<◌, ◌+◌, ◌-◌, ◌++◌, ℕ, zero, suc, Bool, true, false, List, [], ◌∷◌, length, take, min, refl, sym, ap, ◌∙◌, arith, length-take, take_all}
use Rattle.std.proofs.lemmas.Slice.{take-put_mid}
use borrow.Author.Tests.{ltb-true, ltb-false}
use borrow.Rule.Slice.PartMut.{put_mid}
use lib.Dec.{ltb}

-- where there is room for so many more, as many are kept
put_on : {A : Type 0} (n room : ℕ) (kept bytes : List A) → room + length kept ≡ n → kept ++ take room bytes ≡ take n (kept ++ bytes)
put_on n room [] bytes e = ap (λ i. take i bytes) (omega (arith, e))
put_on zero room (a ∷ kept) bytes e = absurd (omega (arith, e))
put_on (suc n) room (a ∷ kept) bytes e = ap (λ r. a ∷ r) (put_on n room kept bytes (omega (arith, e)))

-- of more cells than there are, all are taken
take_min : {A : Type 0} (count n : ℕ) (cells : List A) → length cells ≡ n → take (min count n) cells ≡ take count cells
take_min count n cells e = by (ltb count n) refl
  where
    by : (t : Bool) → ltb count n ≡ t → take (min count n) cells ≡ take count cells
    by true h = let few : count < n = ltb-true count n h in ap (λ i. take i cells) (omega arith)
    by false h =
        let many : n ≤ count = ltb-false count n h in
        take_all (min count n) cells (omega (arith, e)) ∙ sym (take_all count cells (omega (arith, e)))

-- where no more bytes are put after those kept than there are cells for
pub kept_after : {A : Type 0} (n count at width : ℕ) (cells bytes : List A) {more put : List A} → length cells ≡ n → at ≡ min count n → more ≡ take (n - at) bytes → put ≡ more
    → take (at + length more) (put_mid at width cells put) ≡ take n (take count cells ++ bytes)
kept_after n count at width cells bytes {more} {put} long e f g =
    take-put_mid at width cells put (at + length more) (ap (λ l. at + length l) (sym g)) (omega (arith, long, e))
    ∙ ap (λ l. take at cells ++ l) (g ∙ f)
    ∙ put_on n (n - at) (take at cells) bytes (omega (arith, length-take at cells, long, e))
    ∙ ap (λ l. take n (l ++ bytes)) (ap (λ i. take i cells) e ∙ take_min count n cells long)
