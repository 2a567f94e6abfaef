-- `follow` meets its contract: what is left to follow leads to the same place.
use mathlib.Core.Path.{◌≡◌}
use Prim.Native.Nat.{◌<◌, ◌-◌}
use lib.ListN.{length}
use Rattle.decoding.specs.NextPlaces.{following}
use Rattle.decoding.proofs.follow.Given as goal

abbrev pub invariant-loop : goal.invariant-loop
invariant-loop l =
    (following l.nexts (length l.nexts) (l.count - l.counter) l.here ≡ following l.nexts (length l.nexts) l.count l.from) × (l.here < 65536)
