-- What is found by default is nothing.
use mathlib.Core.Path.{◌≡◌}
use mathlib.Core.Bool.{false}
use Rattle.interpreter.specs.declared.Gathered.{Gathered}
use Rattle.interpreter.specs.Gathering.{nothing_found}

pub nothing_by_default : (g : Gathered) → (g.zero_divisor ≡ false) × ((g.too_large ≡ false) × ((g.outside ≡ false) × ((g.conflict ≡ false) × (g.fresh ≡ false)))) → g ≡ nothing_found
nothing_by_default g d k = record { zero_divisor = d.0 k; too_large = d.1.0 k; outside = d.1.1.0 k; conflict = d.1.1.1.0 k; fresh = d.1.1.1.1 k }
