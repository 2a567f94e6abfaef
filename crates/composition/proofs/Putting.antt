-- Nodes put in before those of a part.
use mathlib.Core.Path.{◌≡◌, sym, ap, ◌∙◌}
use mathlib.Core.List.{List, [], ◌∷◌, ◌++◌}
use Prim.Native.Nat.{ℕ, suc, ◌+◌, ◌≤◌, ◌<◌}
use native.Mathlib.Numerals.{add-one}
use native.Mathlib.Omega.{arith}
use lib.ListN.{length, take, drop, set, get_or, length-drop, drop_of_length-le}
use lib.Seq.{take_at, drop_at, length-take-le, take-suc, take-suc-set, drop-cons, drop-drop}
use Rattle.std.proofs.lemmas.List.{get_or-drop, drop-set-lt}
use Rattle.std.proofs.Common.{Option}
use Rattle.kinds.specs.declared.kind.Kind.TheVariants as kind
use Rattle.kinds.specs.declared.Sort.{Sort}
use Rattle.grammar.specs.declared.Token.{Token}
use Rattle.grammar.specs.declared.Token.TheVariants.{Unequal}
use Rattle.composition.specs.declared.Node.{Node}
use Rattle.composition.specs.Arranging.{plain, operator_kind, operator_cells}
use Rattle.composition.proofs.Operators.{one_cell}

module _ (before : List Node) (from : ℕ) (starts : length before ≡ from) where
  -- the nodes before a part, and its own
  pub front : (l own : List Node) → l ≡ before ++ own → take from l ≡ before
  front l own e = ap (take from) e ∙ take_at before own from starts

  pub back : (l own : List Node) → l ≡ before ++ own → drop from l ≡ own
  back l own e = ap (drop from) e ∙ drop_at before own from starts

  -- nodes put in before a part's own
  pub put_before : (l own new cells : List Node) → l ≡ before ++ own → new ≡ take from l ++ (cells ++ drop from l) → new ≡ before ++ (cells ++ own)
  put_before l own new cells e put =
      put ∙ ap (λ f. f ++ (cells ++ drop from l)) (front l own e) ∙ ap (λ b. before ++ (cells ++ b)) (back l own e)

-- ---- the nodes of an operator

module _ (old : List Node) (c : Token) (sort : Option Sort) (from : ℕ) where
  pub one_put : (new : List Node) → (c ≡ Unequal → ⊥) → new ≡ take from old ++ (plain (operator_kind c sort) ∷ drop from old)
      → new ≡ take from old ++ (operator_cells c sort ++ drop from old)
  one_put new h put = put ∙ ap (λ l. take from old ++ (l ++ drop from old)) (one_cell c sort h)

  pub two_put : (middle new : List Node) → from ≤ length old → c ≡ Unequal
      → middle ≡ take from old ++ (plain (operator_kind c sort) ∷ drop from old)
      → new ≡ take from middle ++ (plain kind.Negation ∷ drop from middle)
      → new ≡ take from old ++ (operator_cells c sort ++ drop from old)
  unfolding operator_cells
  two_put middle new h e first second =
      let own = drop from old in
      let cells : plain kind.Negation ∷ plain (operator_kind c sort) ∷ [] ≡ operator_cells c sort = rw e in
      put_before (take from old) from (length-take-le from old h) middle (plain (operator_kind c sort) ∷ own) new (plain kind.Negation ∷ []) first second
      ∙ ap (λ l. take from old ++ (l ++ own)) cells

-- ---- nodes that move up by one place, before which the last one comes

module _ {A : Type 0} (l old : List A) (first carried : A) (i : ℕ) (h : i < length l) (moved : take i l ≡ take i (first ∷ old))
    (next : carried ∷ drop i l ≡ drop i (first ∷ old)) where
  below : i < length (first ∷ old)
  below = omega (arith, ap length next, length-drop i (first ∷ old))

  here : carried ≡ get_or (first ∷ old) i carried
  here = ap (λ m. get_or m 0 carried) next ∙ get_or-drop i (first ∷ old) 0 carried ∙ ap (λ n. get_or (first ∷ old) n carried) (omega arith)

  pub one_more_moved : take (i + 1) (set l i carried) ≡ take (i + 1) (first ∷ old)
  one_more_moved =
      rw (add-one i) (take-suc-set l i carried h ∙ ap (λ m. m ++ (carried ∷ [])) moved
      ∙ ap (λ a. take i (first ∷ old) ++ (a ∷ [])) here ∙ sym (take-suc (first ∷ old) i carried below))

  rest : drop i l ≡ drop (suc i) (first ∷ old)
  rest = ap (drop 1) next ∙ drop-drop 1 i (first ∷ old) ∙ ap (λ n. drop n (first ∷ old)) (add-one i)

  pub next_carried : (d : A) → get_or l i d ∷ drop (i + 1) (set l i carried) ≡ drop (i + 1) (first ∷ old)
  next_carried d =
      rw (add-one i) (ap (λ m. get_or l i d ∷ m) (drop-set-lt (suc i) l i carried (omega arith)) ∙ sym (drop-cons l i d h) ∙ rest)

pub all_moved : {A : Type 0} (old : List A) (last : ℕ) (d : A) → last + 1 ≡ length old
    → take (last + 1) (get_or old last d ∷ old) ≡ drop last old ++ take last old
all_moved old last d e =
    let ended : length old ≤ suc last = omega arith in
    let none : drop (suc last) old ≡ [] = drop_of_length-le old ended in
    rw (add-one last) (sym (ap (λ m. m ++ take last old) (drop-cons old last d (omega arith) ∙ ap (λ m. get_or old last d ∷ m) none)))
