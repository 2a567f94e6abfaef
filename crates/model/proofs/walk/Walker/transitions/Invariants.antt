-- All transitions: the outcome of all is that of the transitions that are left.
use mathlib.Core.Path.{◌≡◌}
use Prim.Native.Nat.{◌-◌}
use Rattle.model.specs.Check.{max_depth}
use Rattle.model.specs.Walk.{outcome, transition_at, row_at, scope_of}
use Rattle.model.proofs.walk.Walker.transitions.Given as goal

abbrev pub invariant-loop : goal.invariant-loop
invariant-loop l =
    outcome (row_at (transition_at l.self.tree.kinds.now l.self.tree.parameters.now l.events (scope_of l.self.sorts.now l.self.targets.start l.self.targets.end) max_depth) l.count l.initial.here.at)
    ≡ outcome (row_at (transition_at l.self.tree.kinds.now l.self.tree.parameters.now l.events (scope_of l.self.sorts.now l.self.targets.start l.self.targets.end) max_depth) (l.count - l.counter) l.here.at)
