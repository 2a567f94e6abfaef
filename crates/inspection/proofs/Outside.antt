-- Theorems FirstOutsideExact, LookedOnly and HoldsByRangeCheck.
use mathlib.Core.Path.{◌≡◌, refl, sym, ap, ◌∙◌, subst}
use mathlib.Core.Bool.{Bool, true, false, cond, ◌&&◌}
use mathlib.Core.List.{List, [], ◌∷◌}
use Rattle.std.specs.Prelude.{Option, Some, None, is_none}
use Prim.Native.Nat.{ℕ, suc, ◌-◌, ◌≤◌}
use native.Mathlib.Omega.{arith}
use borrow.Author.Tests.{ltb-false}
use lib.Dec.{T}
use lib.IntN.{ℤ}
use lib.Signed.{le_z}
use lib.ListN.{length, take}
use Rattle.model.specs.Trees.{Variable}
use Rattle.model.proofs.KindCases.{both as both_true}
use Rattle.semantics.specs.Meanings.{Meaning}
use Rattle.standing.specs.Runs.{Answer}
use Rattle.standing.specs.Runs.Answer.{outside}
use Rattle.standing.specs.Holding.{too_short, first_outside, looked_at}
use Rattle.replaying.proofs.Tests.{clash, by_test, both, each}
use Rattle.inspection.specs.Queries.{range_check}
use Rattle.inspection.specs.Theorems.{InRangeOver as In, FirstOutsideExact, LookedOnly, HoldsByRangeCheck}
use Rattle.inspection.proofs.First.{IsFirst, nowhere, here, later, counted_from, first_is, none_is}

-- ---- which variable is the first

-- the value of a variable lies outside its ends
abbrev Out : List Variable → List ℤ → ℕ → Type 0
Out vs values x = In vs values x → ⊥

finds : (vs : List Variable) (values : List ℤ) (x : ℕ) → length vs ≤ length values
    → IsFirst (Out vs values) (In vs values) (length vs) x (first_outside vs values x)
unfolding first_outside
finds [] values x h = nowhere (Out [] values) (In [] values) x
finds (v ∷ vs) [] x h = absurd (omega arith)
finds (v ∷ vs) (c ∷ cs) x h = go (le_z v.low c && le_z c v.high) refl (finds vs cs (suc x) (omega arith))
  where
    go : (b : Bool) → (le_z v.low c && le_z c v.high) ≡ b → IsFirst (Out vs cs) (In vs cs) (length vs) (suc x) (first_outside vs cs (suc x))
        → IsFirst (Out (v ∷ vs) (c ∷ cs)) (In (v ∷ vs) (c ∷ cs)) (suc (length vs)) x (cond b (first_outside vs cs (suc x)) (Some x))
    go true e f =
        later (Out (v ∷ vs) (c ∷ cs)) (In (v ∷ vs) (c ∷ cs)) (length vs) x (each (le_z v.low c) (le_z c v.high) (subst T (sym e) tt))
        (first_outside vs cs (suc x)) f
    go false e f =
        here (Out (v ∷ vs) (c ∷ cs)) (In (v ∷ vs) (c ∷ cs)) (length vs) x
        (λ q. subst T e (both (le_z v.low c) (le_z c v.high) q.0 q.1))

-- ---- the answer

module _ (m : Meaning) (values : List ℤ) (long : too_short m values ≡ false) where
  abbrev first : Option ℕ
  first = first_outside m.declarations values 0

  abbrev looked : ℕ
  looked = looked_at (length m.declarations) first

  answer : range_check m values ≡ outside first looked
  unfolding range_check
  answer = rw long

  -- the answer tells both
  tells : (o : Option ℕ) (n : ℕ) → range_check m values ≡ outside o n → (first ≡ o) × (n ≡ looked_at (length m.declarations) o)
  tells o n e =
      let same : outside first looked ≡ outside o n = sym answer ∙ e in
      let f : first ≡ o = cc in
      let k : looked ≡ n = cc in
      (f, sym k ∙ ap (looked_at (length m.declarations)) f)

  told : (o : Option ℕ) → first ≡ o → range_check m values ≡ outside o (looked_at (length m.declarations) o)
  told o e = answer ∙ ap (λ p. outside p (looked_at (length m.declarations) p)) e

pub first_outside_exact : FirstOutsideExact
unfolding looked_at
first_outside_exact m values long =
    let vs = m.declarations in
    let f = finds vs values 0 (ltb-false (length values) (length vs) long) in
    let lowest = first_is (Out vs values) (In vs values) (λ k o i. o i) (length vs) (first_outside vs values 0) f in
    let all = none_is (Out vs values) (In vs values) (λ k o i. o i) (length vs) (first_outside vs values 0) f in (
      λ x n. (
        λ e. let t = tells m values long (Some x) n e in let l = (lowest x).0 t.0 in (t.1, l.0, l.1, l.2),
        λ h. told m values long (Some x) ((lowest x).1 (h.1, h.2, h.3)) ∙ ap (outside (Some x)) (sym h.0),
      ),
      λ n. (
        λ e. let t = tells m values long None n e in (t.1, all.0 t.0),
        λ h. told m values long None (all.1 h.1) ∙ ap (outside None) (sym h.0),
      ),
    )

-- ---- the values that decide

-- how many values are looked at from variable x on
from : ℕ → ℕ → Option ℕ → ℕ
from x total None = total
from x total (Some y) = suc y - x

one_more : (vs : List Variable) (cs : List ℤ) (x : ℕ) (o : Option ℕ) → IsFirst (Out vs cs) (In vs cs) (length vs) (suc x) o
    → from x (suc (length vs)) o ≡ suc (from (suc x) (length vs) o)
unfolding from
one_more vs cs x None f = refl
one_more vs cs x (Some y) f = omega (arith, counted_from (Out vs cs) (In vs cs) (length vs) (suc x) y f)

module _ (c d : ℤ) (cs ds : List ℤ) (n : ℕ) (e : take (suc n) (d ∷ ds) ≡ take (suc n) (c ∷ cs)) where
  same_head : d ≡ c
  same_head = cc

  same_tail : take n ds ≡ take n cs
  same_tail = cc

only : (vs : List Variable) (values other : List ℤ) (x : ℕ) → length vs ≤ length values → length vs ≤ length other
    → take (from x (length vs) (first_outside vs values x)) other ≡ take (from x (length vs) (first_outside vs values x)) values
    → first_outside vs other x ≡ first_outside vs values x
unfolding first_outside from
only [] values other x h k q = refl
only (v ∷ vs) [] other x h k q = absurd (omega arith)
only (v ∷ vs) (c ∷ cs) [] x h k q = absurd (omega arith)
only (v ∷ vs) (c ∷ cs) (d ∷ ds) x h k q =
    go (le_z v.low c && le_z c v.high) refl q (λ w. only vs cs ds (suc x) (omega arith) (omega arith) w)
  where
    go : (b : Bool) → (le_z v.low c && le_z c v.high) ≡ b
        → take (from x (suc (length vs)) (cond b (first_outside vs cs (suc x)) (Some x))) (d ∷ ds)
        ≡ take (from x (suc (length vs)) (cond b (first_outside vs cs (suc x)) (Some x))) (c ∷ cs)
        → (take (from (suc x) (length vs) (first_outside vs cs (suc x))) ds ≡ take (from (suc x) (length vs) (first_outside vs cs (suc x))) cs
        → first_outside vs ds (suc x) ≡ first_outside vs cs (suc x))
        → cond (le_z v.low d && le_z d v.high) (first_outside vs ds (suc x)) (Some x) ≡ cond b (first_outside vs cs (suc x)) (Some x)
    go true e w f =
        let n = from (suc x) (length vs) (first_outside vs cs (suc x)) in
        let l : length vs ≤ length cs = omega arith in
        let w' : take (suc n) (d ∷ ds) ≡ take (suc n) (c ∷ cs) = rw (one_more vs cs x (first_outside vs cs (suc x)) (finds vs cs (suc x) l)) at w in
        rw (same_head c d cs ds n w', e) (f (same_tail c d cs ds n w'))
    go false e w f =
        let z : suc x - x ≡ 1 = omega arith in
        let w' : take 1 (d ∷ ds) ≡ take 1 (c ∷ cs) = rw z at w in
        rw (same_head c d cs ds 0 w', e)

from_0 : (total : ℕ) (o : Option ℕ) → looked_at total o ≡ from 0 total o
unfolding from looked_at
from_0 total None = refl
from_0 total (Some y) = omega arith

-- 9 gives another answer
long_enough : (m : Meaning) (values : List ℤ) (o : Option ℕ) (n : ℕ) → range_check m values ≡ outside o n → too_short m values ≡ false
unfolding range_check
long_enough m values o n e = by_test P (too_short m values) _ _ (λ s q. clash cc) (λ l q. l) e
  where
    P : Answer → Type 0
    P a = a ≡ outside o n → too_short m values ≡ false

pub looked_only : LookedOnly
looked_only m values other long o n e same =
    let vs = m.declarations in
    let enough = long_enough m values o n e in
    let t = tells m values enough o n e in
    let w : take (from 0 (length vs) (first_outside vs values 0)) other ≡ take (from 0 (length vs) (first_outside vs values 0)) values =
    rw (t.0, ← from_0 (length vs) o, ← t.1) same in
    let f : first_outside vs other 0 ≡ first_outside vs values 0 =
    only vs values other 0 (ltb-false (length values) (length vs) enough) (ltb-false (length other) (length vs) long) w in
    told m other long o (f ∙ t.0) ∙ ap (outside o) (sym t.1)

-- ---- 20

none_of : (o : Option ℕ) → is_none o ≡ true → o ≡ None
none_of None e = refl
none_of (Some x) e = clash (sym e)

pub holds_by_range_check : HoldsByRangeCheck
unfolding looked_at
holds_by_range_check m r long = (
  λ h. let b = both_true _ _ h in let c = both_true _ _ b.1 in (b.0, c.0, told m r.values long None (none_of _ c.1)),
  λ h. rw (h.0, h.1, (tells m r.values long None _ h.2).0),
)
