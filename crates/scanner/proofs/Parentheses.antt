-- How often a byte stands in a text.
use mathlib.Core.Path.{◌≡◌, refl, ap}
use mathlib.Core.Bool.{Bool, true, false, cond}
use mathlib.Core.List.{List, [], ◌∷◌}
use Prim.Native.Nat.{ℕ, suc}
use lib.Dec.{eqb}
use lib.ListN.{length}
use Rattle.std.specs.List.{filter}
use Rattle.grammar.specs.Words.{times_in}

pub filtered : (k : ℕ) (text : List ℕ) → length (filter (eqb k) text) ≡ times_in k text
unfolding times_in
filtered k [] = refl
filtered k (b ∷ text) = by (eqb k b) (filtered k text)
  where
    by : (t : Bool) → length (filter (eqb k) text) ≡ times_in k text
        → length (cond t (b ∷ filter (eqb k) text) (filter (eqb k) text)) ≡ cond t (suc (times_in k text)) (times_in k text)
    by true e = ap suc e
    by false e = e
