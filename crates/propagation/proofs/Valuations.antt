-- What is known of cells: values over cells that hold none, cells filled with values, and the values of all variables as a list.
use mathlib.Core.Path.{◌≡◌, refl, sym, ap, ◌∙◌, fun_ext}
use mathlib.Core.List.{List, [], ◌∷◌, ◌++◌, map}
use mathlib.Core.Option.{Option, some, none}
use Prim.Native.Nat.{ℕ, zero, suc, ◌+◌, ◌≤◌, ◌<◌}
use native.Mathlib.Nat.{not-suc-le-zero, le_of_suc-le-suc}
use native.Mathlib.Omega.{arith}
use lib.IntN.{ℤ}
use lib.ListN.{length, drop, get_elem?, replicate}
use Rattle.std.specs.Prelude.{Option as Optional, Some, None, unwrap_or}
use Rattle.model.specs.Trees.{Variable}
use Rattle.expressions.specs.Expressions.{Valuation, known_from}
use Rattle.interpreter.specs.Instructions.{first_of}
use Rattle.semantics.specs.Actions.{cells, value_or0}
use Rattle.semantics.specs.Propagation.{first_value, reset_by}
use Rattle.results.specs.Results.{over}
use Rattle.scratch.specs.Blank.{unknown_cell}
use Rattle.expressions.specs.Cells.{cell_value, valuation_of}
use Rattle.propagation.specs.Cells.{cells_of, held_or}

first_none : (o : Option ℤ) → first_of o none ≡ o
unfolding first_of
first_none none = refl
first_none (some v) = refl

-- ---- cells that hold nothing

pub nothing_held : (n s x : ℕ) → valuation_of (drop s (replicate n unknown_cell)) x ≡ none
unfolding cell_value
nothing_held zero zero x = refl
nothing_held zero (suc s) x = refl
nothing_held (suc n) zero zero = refl
nothing_held (suc n) zero (suc x) = nothing_held n zero x
nothing_held (suc n) (suc s) x = nothing_held n s x

-- ---- values over such cells

module _ (rest : List (Optional ℤ)) (nothing : (x : ℕ) → valuation_of rest x ≡ none) where
  known_over : (values : List ℤ) (x : ℕ) → valuation_of (cells_of values ++ rest) x ≡ known_from values x
  unfolding cell_value
  known_over [] x = nothing x
  known_over (v ∷ values) zero = refl
  known_over (v ∷ values) (suc x) = known_over values x

pub over_known : (values : List ℤ) (n : ℕ) → valuation_of (over (cells_of values) (replicate n unknown_cell)) ≡ known_from values
over_known values n = fun_ext (known_over _ (nothing_held n (length (cells_of values))) values)

pub known_values : (values : List ℤ) → valuation_of (cells_of values) ≡ known_from values
unfolding cell_value
known_values values = fun_ext (λ x. go values x)
  where
    go : (values : List ℤ) (x : ℕ) → valuation_of (cells_of values) x ≡ known_from values x
    go [] x = refl
    go (v ∷ values) zero = refl
    go (v ∷ values) (suc x) = go values x

-- ---- cells filled with values

pub filled_known : (cs : List (Optional ℤ)) (values : List ℤ) → length values ≤ length cs
    → (x : ℕ) → valuation_of (over (cells_of (held_or cs values)) cs) x ≡ first_of (valuation_of cs x) (get_elem? values x)
unfolding held_or cell_value first_of
filled_known [] [] l x = refl
filled_known (c ∷ cs) [] l x = sym (first_none (valuation_of (c ∷ cs) x))
filled_known [] (v ∷ values) l x = absurd (not-suc-le-zero l)
filled_known (c ∷ cs) (v ∷ values) l zero = by c
  where
    by : (c : Optional ℤ) → some (unwrap_or c v) ≡ first_of (cell_value c) (some v)
    by None = refl
    by (Some z) = refl
filled_known (c ∷ cs) (v ∷ values) l (suc x) = filled_known cs values (le_of_suc-le-suc l) x

pub reset_first : (vs : List Variable) (σ : Valuation) (x : ℕ) → reset_by vs σ x ≡ first_of (σ x) (get_elem? (map (λ v. v.first) vs) x)
unfolding first_value
reset_first [] σ x = refl
reset_first (v ∷ vs) σ zero = refl
reset_first (v ∷ vs) σ (suc x) = reset_first vs (λ y. σ (suc y)) x

-- the values of the variables, where a list fills in what is unknown
pub held_cells : (τ : Valuation) (cs : List (Optional ℤ)) (values : List ℤ) (x : ℕ) → length values ≤ length cs
    → ((k : ℕ) → k < length values → τ (x + k) ≡ first_of (valuation_of cs k) (get_elem? values k))
    → cells τ (length values) x ≡ held_or cs values
unfolding cells held_or value_or0 cell_value first_of
held_cells τ [] [] x l h = refl
held_cells τ (c ∷ cs) [] x l h = refl
held_cells τ [] (v ∷ values) x l h = absurd (not-suc-le-zero l)
held_cells τ (c ∷ cs) (v ∷ values) x l h =
    rw (here, held_cells τ cs values (suc x) (le_of_suc-le-suc l) (λ k u. ap τ (omega arith) ∙ h (suc k) (omega arith)))
  where
    here : value_or0 (τ x) ≡ unwrap_or c v
    here = ap (λ o. value_or0 o) (ap τ (omega arith) ∙ h 0 (omega arith)) ∙ by c
      where
        by : (c : Optional ℤ) → value_or0 (first_of (cell_value c) (some v)) ≡ unwrap_or c v
        by None = refl
        by (Some z) = refl

-- where all cells hold values nothing is filled in
pub all_held : (values old : List ℤ) → length values ≡ length old → held_or (cells_of values) old ≡ values
unfolding held_or
all_held [] [] e = refl
all_held [] (o ∷ old) e = absurd (omega (arith, e))
all_held (v ∷ values) [] e = absurd (omega (arith, e))
all_held (v ∷ values) (o ∷ old) e = ap (λ l. v ∷ l) (all_held values old (omega (arith, e)))
