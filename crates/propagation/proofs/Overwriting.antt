-- A loop that goes over a list from the front, and makes each element that of another list, in place. After i turns the list is
-- `partly new old i`. Then the lists that the loops of this crate make: values over cells, and `filled`.
use mathlib.Core.Path.{◌≡◌, refl, sym, ap, ◌∙◌}
use mathlib.Core.List.{List, [], ◌∷◌, ◌++◌}
use Prim.Native.Nat.{ℕ, zero, suc, ◌+◌, ◌≤◌, ◌<◌}
use native.Mathlib.Nat.{not-suc-le-zero, le_of_suc-le-suc}
use native.Mathlib.Numerals.{add-one}
use native.Mathlib.Omega.{arith}
use lib.IntN.{ℤ, pos}
use lib.ListN.{length, take, drop, get_or, set, take-append-drop, length-append, length-take, length-drop, get_or-append, drop_of_length-le}
use lib.Seq.{take-suc, drop-cons, set_at, get_or_at, append_snoc, drop-append_seam}
use Rattle.results.specs.Results.{over}
use Rattle.propagation.specs.Cells.{cells_of, held_or}
use Rattle.std.specs.Prelude.{Option, Some, None, unwrap_or}
use Rattle.std.proofs.lemmas.List.{get_or-map, length-map}

module _ {A : Type 0} (new old : List A) where
  abbrev pub partly : ℕ → List A
  partly i = take i new ++ drop i old

  -- where one is longer too
  module _ (i : ℕ) (d : A) (below : i < length new) (within : i < length old) where
    length_front : length (take i new) ≡ i
    length_front = simp length-take (omega arith)

    pub partly_put : (a : A) → a ≡ get_or new i d → set (partly i) i a ≡ partly (i + 1)
    partly_put a e =
        rw (add-one i, drop-cons old i d within, take-suc new i d below, e)
        (set_at (take i new) (get_or old i d) (drop (suc i) old) (get_or new i d) i length_front
        ∙ sym (append_snoc (take i new) (get_or new i d) (drop (suc i) old)))

module _ {A : Type 0} (new old : List A) (long : length new ≡ length old) where
  module _ (i : ℕ) (d : A) (within : i < length old) where
    below : i < length new
    below = omega arith

    pub partly_here : get_or (partly new old i) i d ≡ get_or old i d
    partly_here = rw (drop-cons old i d within) (get_or_at (take i new) (get_or old i d) (drop (suc i) old) d i (length_front new old i d below within))

    pub partly_set : (a : A) → a ≡ get_or new i d → set (partly new old i) i a ≡ partly new old (i + 1)
    partly_set = partly_put new old i d below within

  pub partly_done : (i : ℕ) → drop i new ≡ drop i old → partly new old i ≡ new
  partly_done i e = rw (← e) (take-append-drop i new)

-- ---- values over the first cells

module _ {A : Type 0} (values cells : List A) (fits : length values ≤ length cells) where
  pub length_over : length (over values cells) ≡ length cells
  length_over = simp (length-append, length-drop) (omega arith)

  drop_over : (i : ℕ) → length values ≤ i → i ≤ length values → drop i (over values cells) ≡ drop i cells
  drop_over i l u = rw e (drop-append_seam values (drop (length values) cells))
    where
      e : i ≡ length values
      e = omega arith

module _ {A : Type 0} (values cells₀ cells : List A) (i : ℕ) (fits : length values ≤ length cells₀) (is : cells ≡ partly (over values cells₀) cells₀ i) where
  pub over_done : length values ≤ i → i ≤ length values → cells ≡ over values cells₀
  over_done l u =
      is ∙ partly_done (over values cells₀) cells₀ (length_over values cells₀ fits) i (drop_over values cells₀ fits i l u)

  module _ (h : i < length values) (d : A) where
    -- the cell is as it was
    pub over_here : get_or cells i d ≡ get_or cells₀ i d
    over_here = rw is (partly_here (over values cells₀) cells₀ (length_over values cells₀ fits) i d (omega arith))

    over_there : get_or (over values cells₀) i d ≡ get_or values i d
    over_there = get_or-append values (drop (length values) cells₀) d i h

    pub over_set : (x : A) → x ≡ get_or values i d → set cells i x ≡ partly (over values cells₀) cells₀ (i + 1)
    over_set x e = rw is (partly_set (over values cells₀) cells₀ (length_over values cells₀ fits) i d (omega arith) x (e ∙ sym over_there))

-- ---- cells that hold values

pub cell_of : (values : List ℤ) (i : ℕ) → i < length values → get_or (cells_of values) i None ≡ Some (get_or values i (pos 0))
cell_of values i h = get_or-map Some values i (pos 0) None h

pub cell_count : (values : List ℤ) → length (cells_of values) ≡ length values
cell_count values = length-map values Some

-- ---- what cells hold, in place of values

pub length_held_or : (cells : List (Option ℤ)) (values : List ℤ) → length (held_or cells values) ≡ length values
unfolding held_or
length_held_or [] values = refl
length_held_or (c ∷ cells) [] = refl
length_held_or (c ∷ cells) (v ∷ values) = ap suc (length_held_or cells values)

pub get_held_or : (cells : List (Option ℤ)) (values : List ℤ) (i : ℕ) → i < length values
    → get_or (held_or cells values) i (pos 0) ≡ unwrap_or (get_or cells i None) (get_or values i (pos 0))
unfolding held_or
get_held_or [] values i h = refl
get_held_or (c ∷ cells) [] i h = absurd (not-suc-le-zero h)
get_held_or (c ∷ cells) (v ∷ values) zero h = refl
get_held_or (c ∷ cells) (v ∷ values) (suc i) h = get_held_or cells values i (le_of_suc-le-suc h)

module _ (cells : List (Option ℤ)) (values₀ values : List ℤ) (i : ℕ) (is : values ≡ partly (held_or cells values₀) values₀ i) where
  pub held_done : length values₀ ≤ i → values ≡ held_or cells values₀
  held_done l =
      is ∙ partly_done (held_or cells values₀) values₀ (length_held_or cells values₀) i
      (drop_of_length-le (held_or cells values₀) (omega (arith, length_held_or cells values₀)) ∙ sym (drop_of_length-le values₀ l))

  module _ (h : i < length values₀) where
    -- the value is as it was
    held_here : get_or values i (pos 0) ≡ get_or values₀ i (pos 0)
    held_here = rw is (partly_here (held_or cells values₀) values₀ (length_held_or cells values₀) i (pos 0) h)

    pub held_set : (x : ℤ) → x ≡ unwrap_or (get_or cells i None) (get_or values i (pos 0)) → set values i x ≡ partly (held_or cells values₀) values₀ (i + 1)
    held_set x e =
        ap (λ l. set l i x) is ∙ partly_set (held_or cells values₀) values₀ (length_held_or cells values₀) i (pos 0) h x
        (e ∙ ap (unwrap_or (get_or cells i None)) held_here ∙ sym (get_held_or cells values₀ i h))

-- the loop that fills cells which hold nothing
module _ (values : List ℤ) (cells₀ cells : List (Option ℤ)) (i : ℕ) (fits : length values ≤ length cells₀)
    (is : cells ≡ partly (over (cells_of (held_or cells₀ values)) cells₀) cells₀ i) (h : i < length values) where
  enough : length (cells_of (held_or cells₀ values)) ≤ length cells₀
  enough = omega (arith, cell_count (held_or cells₀ values), length_held_or cells₀ values)

  below_end : i < length (cells_of (held_or cells₀ values))
  below_end = omega (arith, cell_count (held_or cells₀ values), length_held_or cells₀ values)

  same : get_or cells i None ≡ get_or cells₀ i None
  same = over_here (cells_of (held_or cells₀ values)) cells₀ cells i enough is below_end None

  wanted : get_or (cells_of (held_or cells₀ values)) i None ≡ Some (unwrap_or (get_or cells i None) (get_or values i (pos 0)))
  wanted =
      cell_of (held_or cells₀ values) i (omega (arith, length_held_or cells₀ values))
      ∙ ap Some (get_held_or cells₀ values i h ∙ ap (λ c. unwrap_or c (get_or values i (pos 0))) (sym same))

  pub filled_set : (x : ℤ) → x ≡ unwrap_or (get_or cells i None) (get_or values i (pos 0))
      → set cells i (Some x) ≡ partly (over (cells_of (held_or cells₀ values)) cells₀) cells₀ (i + 1)
  filled_set x e = over_set (cells_of (held_or cells₀ values)) cells₀ cells i enough is below_end None (Some x) (ap Some e ∙ sym wanted)
