-- The walk from a walker's nodes, sorts and targets.
use Rattle.std.specs.Prelude.{ℕ, ℤ, Option}
use Rattle.kinds.specs.declared.Sort.{Sort}
use Rattle.model.specs.declared.walk.Walker.{Walker}
use Rattle.model.specs.Trees.{Expression, Instruction, Instructions, Transition}
use Rattle.model.specs.Walk.{Walk, Scope, scope_of, operands_at, expression_at, branches_at, parts_at, instruction_at, transition_at}
use Rattle.model.specs.Check.{max_depth}

-- the variables that its instructions may assign
abbrev pub scope_in : Walker → Scope
scope_in w = scope_of w.sorts.now w.targets.start w.targets.end

module _ (w : Walker) where
  -- each of the walks, from this walker
  abbrev pub expression_in : ℕ → Option Sort → ℕ → Walk Expression
  expression_in left wanted at = expression_at w.tree.kinds.now w.tree.parameters.now w.sorts.now left wanted at

  abbrev pub operands_in : ℕ → Option Sort → ℕ → ℤ → ℕ → ℕ → Walk Expression
  operands_in left wanted k p at n =
      operands_at w.tree.kinds.now w.tree.parameters.now (expression_at w.tree.kinds.now w.tree.parameters.now w.sorts.now left) wanted k p at n

  abbrev pub instruction_in : ℕ → ℕ → Walk Instruction
  instruction_in left at = instruction_at w.tree.kinds.now w.tree.parameters.now (scope_in w) left at

  abbrev pub branches_in : ℕ → ℕ → ℕ → Walk Instructions
  branches_in left n at =
      branches_at w.tree.kinds.now w.tree.parameters.now (instruction_at w.tree.kinds.now w.tree.parameters.now (scope_in w) left) n at

  abbrev pub parts_in : ℕ → Option Sort → ℤ → ℕ → ℕ → Walk Instruction
  parts_in left sort p at n =
      parts_at w.tree.kinds.now w.tree.parameters.now (expression_at w.tree.kinds.now w.tree.parameters.now w.sorts.now left)
      (instruction_at w.tree.kinds.now w.tree.parameters.now (scope_in w) left) sort p at n

  abbrev pub transition_in : ℕ → ℕ → Walk Transition
  transition_in events at = transition_at w.tree.kinds.now w.tree.parameters.now events (scope_in w) max_depth at
