-- How the code's loops are counted: the number of unknown variables among so many, from variable x on.
use Rattle.std.proofs.Math.Option.{Option, some, none}
use Rattle.std.specs.Prelude.{ℕ, zero, suc, ◌+◌, ℤ}
use Rattle.expressions.specs.Expressions.{Valuation}

abbrev pub unknown_one : Option ℤ → ℕ
unknown_one none = 1
unknown_one (some v) = 0

unfoldable pub unknowns : Valuation → ℕ → ℕ → ℕ
unknowns σ zero x = 0
unknowns σ (suc n) x = unknown_one (σ x) + unknowns σ n (suc x)
