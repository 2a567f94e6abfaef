-- One mark: whether it is counted.
use mathlib.Core.Path.{◌≡◌, refl}
use mathlib.Core.Bool.{not}
use Prim.Native.Nat.{ℕ, zero, suc}
use native.Mathlib.Omega.{arith}
use borrow.Author.Tests.{ne_eqb}
use lib.Dec.{eqb}
use mir.Val.{bool_byte}
use Rattle.waiting.specs.Marks.{is_marked}

pub is_counted : (r : ℕ) → bool_byte (not (eqb r 0)) ≡ is_marked r
unfolding is_marked
is_counted zero = refl
is_counted (suc r) = rw (ne_eqb (suc r) 0 (λ e. omega (arith, e)))
