-- No guard before this one is true.
use mathlib.Core.Path.{◌≡◌}
use lib.ListN.{length, take}
use Rattle.engine.specs.Lent.{LoadedIn}
use Rattle.engine.proofs.Counts.{meaning}
use Rattle.picking.proofs.Picking.{from_on}
use Rattle.picking.proofs.pick_loaded.Given as goal

abbrev pub invariant-loop-transition : goal.invariant-loop-transition
invariant-loop-transition l =
    (d : LoadedIn l.decoded.tables)
    → from_on (meaning d) (take (length l.decoded.tables.variables.now) l.run.values.now) (length l.decoded.tables.guards.now) 0
    ≡ from_on (meaning d) (take (length l.decoded.tables.variables.now) l.run.values.now) (length l.decoded.tables.guards.now) l.transition
