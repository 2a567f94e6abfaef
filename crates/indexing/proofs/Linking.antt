-- The loop that builds the index, from the last node to the first.
use mathlib.Core.Path.{◌≡◌, refl, sym, ap, subst, ◌∙◌}
use mathlib.Core.Logic.{⊎_elim}
use mathlib.Core.Bool.{Bool, true, false}
use mathlib.Core.List.{List}
use Prim.Native.Nat.{ℕ, ◌+◌, ◌≤◌, ◌<◌, ◌^◌}
use native.Mathlib.Omega.{arith}
use native.Mathlib.Nat.{eq-or-lt_of_le}
use borrow.Author.Tests.{eqb-true, eqb-false}
use lib.Dec.{eqb}
use lib.IntN.{ℤ, pos, nat_abs}
use lib.Signed.{mag}
use lib.ListN.{length, get_or, set, length-set}
use lib.Seq.{get_or-set_same, get_or-set_other}
use mir.Syntax.{w32}
use mir.Val.{to_z, of_z}
use mir.ValLaws.{to_z-of_z}
use Rattle.waiting.specs.Index.{Mention, First, Linked}

module _ (ks : List ℕ) (ps : List ℤ) where
  module _ (at : ℕ) (heads mentions : List ℕ) (linked : Linked ks ps (at + 1) heads mentions) where
    -- the node mentions no variable that has a head
    lower : (x : ℕ) → (Mention ks ps x at → ⊥) → {q : ℕ} → First ks ps x (at + 1) q → First ks ps x at q
    lower x n {q} f =
        record {
          after = omega (arith, f.after);
          bounded = f.bounded;
          least = λ p a b m. ⊎_elim (λ e. n (subst (λ k. Mention ks ps x k) (sym e) m)) (λ k. f.least p (omega (arith, k)) b m) (eq-or-lt_of_le {n = at} {m = p} a);
          found = f.found;
        }

    higher : (x : ℕ) → (Mention ks ps x at → ⊥) → (p : ℕ) → at ≤ p → Mention ks ps x p → at + 1 ≤ p
    higher x n p l m = ⊎_elim (λ e. absurd (n (subst (λ k. Mention ks ps x k) (sym e) m))) (λ k. omega (arith, k)) (eq-or-lt_of_le {n = at} {m = p} l)

    linked_past : ((x : ℕ) → x < length heads → Mention ks ps x at → ⊥) → Linked ks ps at heads mentions
    linked_past n =
        record {
          first = λ x h. lower x (n x h) (linked.first x h);
          later = λ x p h l m. linked.later x p h (higher x (n x h) p l m) m;
        }

    module _ (f : mag (get_or ps at (pos 0)) < 2 ^ 31) {y : ℕ} (read : y ≡ nat_abs (to_z w32 (of_z w32 (get_or ps at (pos 0))))) where
      named : y ≡ nat_abs (get_or ps at (pos 0))
      named = read ∙ ap nat_abs (to_z-of_z w32 (get_or ps at (pos 0)) (record { sfits = f }))

      pub linked_unknown : length heads ≤ y → Linked ks ps at heads mentions
      linked_unknown l = linked_past (λ x h m. omega (arith, named, m.parameter, h, l))

      module _ (k : get_or ks at 0 ≡ 34) (h : y < length heads) (w : at < length ks) (v : at < length mentions) where
        here : Mention ks ps y at
        here = record { within = w; kind = k; parameter = sym named }

        pub linked_here : Linked ks ps at (set heads y at) (set mentions at (get_or heads y 0))
        linked_here =
            record {
              first = λ x g. by x (subst (λ n. x < n) (length-set heads y at) g) (eqb x y) refl;
              later = λ x p g l m. after x p (subst (λ n. x < n) (length-set heads y at) g) l m;
            }
          where
            by : (x : ℕ) → x < length heads → (t : Bool) → eqb x y ≡ t → First ks ps x at (get_or (set heads y at) x 0)
            by x g true e =
                let z = eqb-true x y e in
                subst (λ q. First ks ps x at q) (sym (ap (λ k. get_or (set heads y at) k 0) z ∙ get_or-set_same heads y at 0 h))
                (record { after = omega arith; bounded = omega arith; least = λ p a b m. omega (arith, a, b); found = λ g. subst (λ n. Mention ks ps n at) (sym z) here })
            by x g false e =
                subst (λ q. First ks ps x at q) (sym (get_or-set_other heads y x at 0 (eqb-false x y e)))
                (lower x (λ m. eqb-false x y e (sym m.parameter ∙ sym named)) (linked.first x g))

            after : (x p : ℕ) → x < length heads → at ≤ p → Mention ks ps x p → First ks ps x (p + 1) (get_or (set mentions at (get_or heads y 0)) p 0)
            after x p g l m =
                ⊎_elim
                (λ e. let z : x ≡ y = sym m.parameter ∙ ap (λ q. nat_abs (get_or ps q (pos 0))) (sym e) ∙ sym named in
                subst (λ q. First ks ps x (q + 1) (get_or (set mentions at (get_or heads y 0)) q 0)) e
                (subst (λ q. First ks ps x (at + 1) q) (sym (get_or-set_same mentions at (get_or heads y 0) 0 v ∙ ap (λ q. get_or heads q 0) (sym z))) (linked.first x g)))
                (λ u. subst (λ q. First ks ps x (p + 1) q) (sym (get_or-set_other mentions at p (get_or heads y 0) 0 (λ e. omega (arith, u, e)))) (linked.later x p g (omega (arith, u)) m))
                (eq-or-lt_of_le {n = at} {m = p} l)
