-- Cells beside the stored ones, and the fill past them.
use Rattle.std.proofs.Common.{◌≡◌, Bool, true, false, ◌&&◌, List, [], ◌∷◌, length, take, drop, replicate, refl, sym, ap, ◌∙◌}
use Rattle.std.proofs.Math.Bool.{and_assoc}
use Rattle.std.specs.List.{list_all}
use Rattle.std.specs.Cmp.Lexicographic.{pointwise}
use Rattle.cases.specs.Cases.{same_cells}

module _ {A : Type 0} (equal : A → A → Bool) (fill : A) where
  all_fill : (cells : List A) → pointwise equal cells (replicate (length cells) fill) ≡ list_all (λ c. equal c fill) cells
  all_fill [] = refl
  all_fill (c ∷ cells) = ap (λ b. equal c fill && b) (all_fill cells)

  -- the first cells are the stored ones, and all past them are the fill
  first_and_rest : (cells stored : List A)
      → same_cells equal cells stored fill ≡ (pointwise equal (take (length stored) cells) stored && list_all (λ c. equal c fill) (drop (length stored) cells))
  unfolding same_cells
  first_and_rest cells [] = all_fill cells
  first_and_rest [] (s ∷ stored) = refl
  first_and_rest (c ∷ cells) (s ∷ stored) =
      ap (λ b. equal c s && b) (first_and_rest cells stored)
      ∙ sym (and_assoc (equal c s) (pointwise equal (take (length stored) cells) stored) (list_all (λ c. equal c fill) (drop (length stored) cells)))

  module _ (cells stored : List A) where
    pub first_differs : pointwise equal (take (length stored) cells) stored ≡ false → false ≡ same_cells equal cells stored fill
    first_differs e = sym (first_and_rest cells stored ∙ rw e)

    pub first_agrees : {rest : List A} {q : Bool} → pointwise equal (take (length stored) cells) stored ≡ true → rest ≡ drop (length stored) cells
        → q ≡ list_all (λ c. equal c fill) rest → q ≡ same_cells equal cells stored fill
    first_agrees e r f = f ∙ ap (list_all (λ c. equal c fill)) r ∙ sym (first_and_rest cells stored ∙ rw e)
