-- The digits are read from the left. The invariant: the number of all digits is that of what is left after the value so far.
use mathlib.Core.Path.{◌≡◌}
use Prim.Native.Nat.{◌≤◌}
use lib.ListN.{drop}
use Rattle.ascii.specs.Ascii.{number_of}
use Rattle.ascii.proofs.Numbers.{number_after}
use Rattle.ascii.proofs.number.Given as goal

abbrev pub invariant-loop-digit : goal.invariant-loop-digit
invariant-loop-digit l = (l.value ≤ 4294967295) × (number_of l.digits ≡ number_after l.value (drop l.digit-index l.digits))
