use mathlib.Core.Path.{◌∙◌}
use native.Mathlib.Omega.{arith}
use Rattle.model.proofs.Walking.{looked_up}
use Rattle.model.proofs.Instructions.{instruction_outcome}
use Rattle.model.proofs.walk.Walker.+branches_instruction_parts.Goals as goal

-- the sort of the variable that it assigns
pub instruction-returns : goal.instruction-returns
instruction-returns t c =
    let sort = c.copied-sort.ensures ∙ looked_up _ _ c.get.result c.get.ensures.lookup.0 c.get.ensures.lookup.1 in
    grind (arith, instruction_outcome)
