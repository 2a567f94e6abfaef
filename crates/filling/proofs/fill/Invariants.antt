-- Each read fills some more of the slice.
use Rattle.std.proofs.Common.{◌-◌, ◌≤◌, ◌≡◌, length, take}
use Rattle.std.specs.Io.KnownBytes.{Consumes}
use Rattle.filling.proofs.fill.Given as goal

abbrev pub invariant-loop-filled : goal.invariant-loop-filled
invariant-loop-filled g l =
    (l.filled ≤ length l.bytes) × (length l.bytes ≡ length l.initial.bytes)
    × Consumes (g.R.Read.remaining l.initial.source) (g.R.Read.remaining l.source) (take l.filled l.bytes)

abbrev pub decreases-loop-filled : goal.decreases-loop-filled
decreases-loop-filled g l = length l.initial.bytes - l.filled
