-- `next_places` meets its contract: filling the entries that are left gives the same table.
use mathlib.Core.Path.{◌≡◌}
use lib.ListN.{length}
use Rattle.decoding.specs.NextPlaces.{filled}
use Rattle.decoding.proofs.next_places.Given as goal

abbrev pub invariant-loop-at : goal.invariant-loop-at
invariant-loop-at l =
    (filled l.tree.kinds.now l.tree.parameters.now l.at l.nexts ≡ filled l.tree.kinds.now l.tree.parameters.now (length l.tree.kinds.now) l.initial.nexts) × (length l.nexts ≡ length l.initial.nexts)
