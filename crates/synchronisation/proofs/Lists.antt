-- Tests on the lists of members.
use mathlib.Core.Path.{◌≡◌, refl, sym, ◌∙◌}
use mathlib.Core.Bool.{Bool, true, false, true≢false, ◌&&◌}
use mathlib.Core.List.{List, [], ◌∷◌}
use Prim.Native.Nat.{ℕ, zero, suc, ◌+◌, ◌≤◌, ◌<◌}
use native.Mathlib.Omega.{arith}
use borrow.Author.Tests.{ne_eqb, ltb-true, leb-true}
use lib.Dec.{eqb, leb, ltb}
use lib.ListN.{length}
use Rattle.model.specs.declared.Sizes.{Sizes}
use Rattle.model.specs.Sizes.{max_nodes, size_bound}
use Rattle.synchronisation.specs.Synchronisations.{is_empty}
use Rattle.synchronisation.specs.Members.{may_fit}

-- ---- both empty

pub is_empty_lem : (l : List ℕ) → eqb (length l) 0 ≡ is_empty l
unfolding is_empty
is_empty_lem [] = refl
is_empty_lem (k ∷ l) = ne_eqb (suc (length l)) 0 (λ e. omega (arith, e))

-- one of them is, or is not
pub none_left : {n : ℕ} → eqb n 0 ≡ true → n ≡ 0
none_left {n = zero} e = refl
none_left {n = suc n} e = absurd (true≢false (sym e ∙ ne_eqb (suc n) 0 (λ z. omega (arith, z))))

pub some_left : {n : ℕ} → eqb n 0 ≡ false → 0 < n
some_left {n = zero} e = absurd (true≢false e)
some_left {n = suc n} e = omega arith

-- where they are not, there is a member
pub a_member : (ms os : List ℕ) → (is_empty ms && is_empty os) ≡ false → 0 < length ms + length os
unfolding is_empty
a_member [] [] e = absurd (true≢false e)
a_member [] (k ∷ os) e = omega arith
a_member (k ∷ ms) os e = omega arith

-- ---- what the new model may keep

all_four : (a b c d : Bool) → ((a && b) && (c && d)) ≡ true → (a ≡ true) × (b ≡ true) × (c ≡ true) × (d ≡ true)
all_four false b c d e = absurd (true≢false (sym e))
all_four true false c d e = absurd (true≢false (sym e))
all_four true true false d e = absurd (true≢false (sym e))
all_four true true true d e = (refl, refl, refl, e)

module _ (s : Sizes) (m o : ℕ) where
  -- what is told where all tests pass
  pub record MayFit : Type 0 where
    pub events : suc s.events < size_bound
    pub transitions : suc s.transitions < size_bound
    pub mandatory : m ≤ max_nodes
    pub optional : o ≤ max_nodes

  pub may_fit_lem : may_fit s m o ≡ true → MayFit
  unfolding may_fit
  may_fit_lem e =
      let h = all_four (ltb (suc s.events) size_bound) (ltb (suc s.transitions) size_bound) (leb m max_nodes) (leb o max_nodes) e in
      record {
        events = ltb-true (suc s.events) size_bound h.0;
        transitions = ltb-true (suc s.transitions) size_bound h.1;
        mandatory = leb-true m max_nodes h.2;
        optional = leb-true o max_nodes h.3;
      }
