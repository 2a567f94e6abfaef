-- The cycle of an instruction, the branches of a block and the parts of the other instructions. The measure is twice the depth left.
use mathlib.Core.Path.{◌≡◌}
use Prim.Native.Nat.{◌+◌, ◌-◌, ◌*◌}
use Rattle.model.specs.Walk.{outcome, branches_at, instruction_at, scope_of}
use Rattle.model.proofs.walk.Walker.+branches_instruction_parts.Given as goal

abbrev pub decreases-branches : goal.decreases-branches
decreases-branches l = 2 * l.left + 1

abbrev pub decreases-instruction : goal.decreases-instruction
decreases-instruction l = 2 * l.left

abbrev pub decreases-parts : goal.decreases-parts
decreases-parts l = 2 * l.left + 1

-- the outcome of all branches is that of the branches that are left
abbrev pub invariant-branches-loop : goal.invariant-branches-loop
invariant-branches-loop l =
    outcome (branches_at l.self.tree.kinds.now l.self.tree.parameters.now (instruction_at l.self.tree.kinds.now l.self.tree.parameters.now (scope_of l.self.sorts.now l.self.targets.start l.self.targets.end) l.left) l.count l.initial.here.at)
    ≡ outcome (branches_at l.self.tree.kinds.now l.self.tree.parameters.now (instruction_at l.self.tree.kinds.now l.self.tree.parameters.now (scope_of l.self.sorts.now l.self.targets.start l.self.targets.end) l.left) (l.count - l.counter) l.here.at)
