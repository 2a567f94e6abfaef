-- The figures of a window, from the window alone. 02, A9: "how many of the last W rows (fewer at the beginning) make a Boolean expression
-- true, the largest value of a number expression there, and mark 1, or 0 and mark 0 if there is none".
use Rattle.std.specs.Prelude.{cond, List, [], ◌∷◌, ◌++◌, ℕ, zero, suc, ℤ, pos, Option, Some, None}
use Rattle.std.specs.List.{count_by}
use Rattle.std.specs.Int.Signed.{le_z}
use Rattle.evaluation.specs.declared.Evaluation.{Evaluation}
use Rattle.evaluation.specs.declared.Evaluation.TheVariants.{Unknown, Failed, Value}
use Rattle.evaluation.specs.Meaning.{is_true}
use Rattle.windows.specs.Logs.{last_of}

-- 02: "A row whose expression failed adds nothing to that figure": to each figure by its own expression
abbrev pub count_true : List Evaluation → ℕ
count_true es = count_by is_true es

unfoldable pub value_in : Evaluation → Option ℤ
value_in Unknown = None
value_in (Failed m) = None
value_in (Value v) = Some v

-- the larger of two values, where there are two
unfoldable pub larger : Option ℤ → Option ℤ → Option ℤ
larger None b = b
larger (Some v) None = Some v
larger (Some v) (Some w) = Some (cond (le_z v w) w v)

unfoldable pub largest : List Evaluation → Option ℤ
largest [] = None
largest (e ∷ es) = larger (value_in e) (largest es)

-- "the largest value [..] and mark 1, or 0 and mark 0 if there is none"
unfoldable pub marked : Option ℤ → List ℤ
marked None = pos 0 ∷ pos 0 ∷ []
marked (Some v) = v ∷ pos 1 ∷ []

-- "in three signed 32-bit cells": those of a row in whose window the two expressions come to this
abbrev pub row_figures : List Evaluation → List Evaluation → List ℤ
row_figures bs xs = pos (count_true bs) ∷ marked (largest xs)

-- "for every row": the cells of so many rows, before which there are `before`
unfoldable pub figures_from : ℕ → List Evaluation → List Evaluation → ℕ → ℕ → List ℤ
figures_from w bs xs before zero = []
figures_from w bs xs before (suc n) =
    row_figures (last_of w (suc before) bs) (last_of w (suc before) xs) ++ figures_from w bs xs (suc before) n
