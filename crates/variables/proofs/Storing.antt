-- The first values of variables, stored one after another.
use mathlib.Core.Path.{◌≡◌}
use mathlib.Core.List.{List, ◌++◌}
use Prim.Native.Nat.{ℕ, suc, ◌+◌, ◌≤◌, ◌<◌, ◌^◌}
use native.Mathlib.Numerals.{add-one}
use native.Mathlib.Omega.{arith}
use lib.IntN.{ℤ, pos}
use lib.Signed.{mag}
use lib.ListN.{length, get_or, take, drop, set}
use lib.Seq.{drop-cons, set_at, take-suc, append_snoc, length-take-le}
use mir.Syntax.{w32}
use mir.Val.{to_z, of_z}
use Rattle.evaluation.proofs.Signed.{read_back}

module _ (new old : List ℤ) where
  -- so many are stored
  abbrev pub Stored : List ℤ → ℕ → Type 0
  Stored cells i = cells ≡ take i new ++ drop i old

  pub store_one : length new ≤ length old → (cells : List ℤ) (i : ℕ) → i < length new → Stored cells i → (z : ℤ) → mag z < 2 ^ 31
      → z ≡ get_or new i (pos 0) → Stored (set cells i (to_z w32 (of_z w32 z))) (i + 1)
  store_one room cells i below e z fits is =
      rw (e, read_back z fits, is, add-one i, drop-cons old i (pos 0) (omega arith), take-suc new i (pos 0) below, append_snoc)
      (set_at (take i new) (get_or old i (pos 0)) (drop (suc i) old) (get_or new i (pos 0)) i (length-take-le i new (omega arith)))
