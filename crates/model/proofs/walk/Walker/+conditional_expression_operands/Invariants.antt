-- The cycle of an expression, its operands and the parts of an if-then-else. The measure is three times the depth left.
use Prim.Native.Nat.{◌+◌, ◌*◌}
use Rattle.model.proofs.walk.Walker.+conditional_expression_operands.Given as goal

abbrev pub decreases-conditional : goal.decreases-conditional
decreases-conditional l = 3 * l.left + 1

abbrev pub decreases-expression : goal.decreases-expression
decreases-expression l = 3 * l.left

abbrev pub decreases-operands : goal.decreases-operands
decreases-operands l = 3 * l.left + 2
