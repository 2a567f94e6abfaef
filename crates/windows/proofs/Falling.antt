-- Candidates fall from front to back: those at the back that a value reaches are all that it reaches.
use mathlib.Core.Path.{◌≡◌, refl, sym, ap, ◌∙◌}
use mathlib.Core.Bool.{Bool, true, false, cond, not, true≢false}
use mathlib.Core.List.{List, [], ◌∷◌}
use Prim.Native.Nat.{ℕ, suc}
use lib.IntN.{ℤ}
use lib.Signed.{le_z}
use Rattle.std.specs.Prelude.{Option, Some, None}
use Rattle.evaluation.specs.declared.Evaluation.{Evaluation}
use Rattle.windows.specs.declared.queue.Entry.{Entry}
use Rattle.windows.specs.Figures.{value_in, larger, largest}
use Rattle.windows.specs.Sliding.{entry, beats, kept_by, candidates, above}
use Rattle.windows.specs.Lent.{yielding, yielded}
use Rattle.windows.proofs.Orders.{le_total, le_trans}

-- is no value there above this one?
reached : ℤ → Option ℤ → Bool
reached v None = true
reached v (Some u) = le_z u v

module _ (v : ℤ) where
  -- where the larger of two is reached, both are
  larger_reached : (a b : Option ℤ) → reached v (larger a b) ≡ true → (reached v a ≡ true) × (reached v b ≡ true)
  unfolding larger reached
  larger_reached None b h = (refl, h)
  larger_reached (Some a) None h = (h, refl)
  larger_reached (Some a) (Some b) h = go (le_z a b) refl h
    where
      go : (t : Bool) → le_z a b ≡ t → le_z (cond t b a) v ≡ true → (le_z a v ≡ true) × (le_z b v ≡ true)
      go true e h = (le_trans a b v e h, h)
      go false e h = (h, le_trans b a v (le_total a b e) h)

  kept_reached : (row : ℕ) (x later : Option ℤ) (rest : List Entry) → reached v x ≡ true → above v rest ≡ [] → above v (kept_by row x later rest) ≡ []
  unfolding kept_by above reached
  kept_reached row None later rest h i = i
  kept_reached row (Some x) later rest h i = go (beats x later)
    where
      go : (b : Bool) → above v (cond b (entry row x ∷ rest) rest) ≡ []
      go true = rw h i
      go false = i

  none_above : (row : ℕ) (es : List Evaluation) → reached v (largest es) ≡ true → above v (candidates row es) ≡ []
  unfolding candidates above largest
  none_above row [] h = refl
  none_above row (e ∷ es) h =
      let b = larger_reached (value_in e) (largest es) h in
      kept_reached row (value_in e) (largest es) (candidates (suc row) es) b.0 (none_above (suc row) es b.1)

  -- a value above those of the later rows, and reached
  later_reached : (u : ℤ) (later : Option ℤ) → beats u later ≡ true → le_z u v ≡ true → reached v later ≡ true
  unfolding beats reached
  later_reached u None b h = refl
  later_reached u (Some l) b h = le_trans l u v (le_total u l (off (le_z u l) b)) h
    where
      off : (t : Bool) → not t ≡ true → t ≡ false
      off true e = absurd (true≢false (sym e))
      off false e = refl

  yielding_above : (c : Entry) (rest left : List Entry) → left ≡ above v rest → (le_z c.value v ≡ true → left ≡ []) → yielding v c left ≡ above v (c ∷ rest)
  unfolding yielding above
  yielding_above c rest [] e f = go (le_z c.value v)
    where
      go : (t : Bool) → cond t [] (c ∷ []) ≡ cond t (above v rest) (c ∷ above v rest)
      go true = e
      go false = ap (λ l. c ∷ l) e
  yielding_above c rest (d ∷ ds) e f = go (le_z c.value v) refl
    where
      go : (t : Bool) → le_z c.value v ≡ t → c ∷ d ∷ ds ≡ cond t (above v rest) (c ∷ above v rest)
      go true h = let z : d ∷ ds ≡ [] = f h in cc
      go false h = ap (λ l. c ∷ l) e

  kept_yielded : (row : ℕ) (x later : Option ℤ) (rest : List Entry) → yielded v rest ≡ above v rest → (reached v later ≡ true → above v rest ≡ [])
      → yielded v (kept_by row x later rest) ≡ above v (kept_by row x later rest)
  unfolding kept_by yielded
  kept_yielded row None later rest e f = e
  kept_yielded row (Some x) later rest e f = go (beats x later) refl
    where
      go : (b : Bool) → beats x later ≡ b → yielded v (cond b (entry row x ∷ rest) rest) ≡ above v (cond b (entry row x ∷ rest) rest)
      go true h = yielding_above (entry row x) rest (yielded v rest) e (λ r. e ∙ f (later_reached x later h r))
      go false h = e

  pub candidates_yielded : (row : ℕ) (es : List Evaluation) → yielded v (candidates row es) ≡ above v (candidates row es)
  unfolding candidates yielded above
  candidates_yielded row [] = refl
  candidates_yielded row (e ∷ es) =
      kept_yielded row (value_in e) (largest es) (candidates (suc row) es) (candidates_yielded (suc row) es) (none_above (suc row) es)
