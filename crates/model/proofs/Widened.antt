-- Numbers in bytes, low byte first, as they are widened to eight bytes.
use Rattle.std.proofs.Common.{◌≡◌, ℕ, zero, suc, ◌+◌, ◌-◌, ◌<◌, ◌≤◌, true, false, Bool, List, length, get_or, take, drop, refl, sym, ap, ◌∙◌, add-zero, arith, replicate, ◌++◌, length-take, length-drop, w64}
use Rattle.std.proofs.Math.ListN.{get_or-append, get_or-replicate, get_or-eq_default}
use Rattle.std.proofs.lemmas.List.{get_or-append-add, get_or-take, get_or-drop}
use Rattle.std.specs.Int.{from_le_bytes}
use borrow.Author.Tests.{ltb-true, ltb-false}
use lib.Dec.{ltb}
use Rattle.model.specs.Sizes.{little_at}

pub eight_bytes : (m : List ℕ) → from_le_bytes w64 m ≡ little_at m 0 8
unfolding little_at
eight_bytes m = omega arith

-- a number with zeros above it
nothing : (m : List ℕ) (at width : ℕ) → ((i : ℕ) → get_or m (at + i) 0 ≡ 0) → little_at m at width ≡ 0
unfolding little_at
nothing m at zero z = refl
nothing m at (suc width) z =
    let first : get_or m (at + 0) 0 ≡ 0 = z 0 in
    let first' : get_or m at 0 ≡ 0 = rw add-zero at first in
    let rest : little_at m (at + 1) width ≡ 0 = nothing m (at + 1) width (λ i. let e : at + 1 + i ≡ at + (i + 1) = omega arith in rw e (z (i + 1))) in
    omega arith

-- the same bytes, and zeros above them
pub widened : (m n : List ℕ) (at to width above : ℕ) → ((i : ℕ) → i < width → get_or m (at + i) 0 ≡ get_or n (to + i) 0)
    → ((i : ℕ) → get_or n (to + width + i) 0 ≡ 0) → little_at n to (width + above) ≡ little_at m at width
unfolding little_at
widened m n at to zero above same z =
    let e : to + 0 ≡ to = omega arith in
    let a : 0 + above ≡ above = omega arith in
    rw a (nothing n to above (λ i. rw e at (z i)))
widened m n at to (suc width) above same z =
    let a : suc width + above ≡ suc (width + above) = omega arith in
    let first : get_or m (at + 0) 0 ≡ get_or n (to + 0) 0 = same 0 (omega arith) in
    let first' : get_or m at 0 ≡ get_or n to 0 = simp add-zero at first in
    let rest : little_at n (to + 1) (width + above) ≡ little_at m (at + 1) width = widened m n (at + 1) (to + 1) width above
    (λ i h. let e : at + 1 + i ≡ at + (i + 1) = omega arith in let f : to + 1 + i ≡ to + (i + 1) = omega arith in rw (e, f) (same (i + 1) (omega arith)))
    (λ i. let e : to + 1 + width + i ≡ to + suc width + i = omega arith in rw e (z i)) in
    rw a (omega arith)

-- eight zeros
abbrev blank : List ℕ
blank = replicate 8 0

blank_at : (i : ℕ) → get_or blank i 0 ≡ 0
blank_at i = by (ltb i 8) refl
  where
    by : (t : Bool) → ltb i 8 ≡ t → get_or blank i 0 ≡ 0
    by true e = get_or-replicate 8 i 0 0 (ltb-true i 8 e)
    by false e = get_or-eq_default blank 0 (ltb-false i 8 e)

-- the number of the bytes copied into eight zeros
pub copied : (m : List ℕ) (at width : ℕ) → width ≤ 8 → at + width ≤ length m → {w : List ℕ} {n : ℕ}
    → n ≡ from_le_bytes w64 (w ++ drop width blank) → w ≡ take (at + width - at) (drop at m) → n ≡ little_at m at width
copied m at width h k {w} {n} e f =
    let l : length w ≡ width = ap length f ∙ simp (length-take, length-drop) (omega arith) in
    let size : width + (8 - width) ≡ 8 = omega arith in
    let all = w ++ drop width blank in
    e ∙ eight_bytes all ∙ ap (little_at all 0) (sym size) ∙ widened m all at 0 width (8 - width) (λ i b. below i b l) (λ i. above i l)
  where
    below : (i : ℕ) → i < width → length w ≡ width → get_or m (at + i) 0 ≡ get_or (w ++ drop width blank) (0 + i) 0
    below i b l =
        let e : 0 + i ≡ i = omega arith in
        rw e (sym (get_or-append w (drop width blank) 0 i (omega arith) ∙ ap (λ x. get_or x i 0) f
        ∙ get_or-take (at + width - at) (drop at m) i 0 (omega arith) ∙ get_or-drop at m i 0))

    above : (i : ℕ) → length w ≡ width → get_or (w ++ drop width blank) (0 + width + i) 0 ≡ 0
    above i l =
        let e : 0 + width + i ≡ length w + i = omega arith in
        rw e (get_or-append-add w (drop width blank) i 0 ∙ get_or-drop width blank i 0 ∙ blank_at (width + i))
