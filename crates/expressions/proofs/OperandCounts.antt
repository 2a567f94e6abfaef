-- The number of children of an expression's node is that of its row.
use mathlib.Core.Path.{ap}
use native.Mathlib.Omega.{arith}
use Rattle.kinds.specs.declared.Row.{Row}
use Rattle.kinds.specs.Kinds.{row_of}
use Rattle.kinds.proofs.Follows.{table_follows}
use Rattle.expressions.specs.Cells.{OperandCounts}

pub operand_counts : OperandCounts
unfolding row_of
operand_counts k l h = ap (λ (r : Row). r.children) (table_follows k (omega arith)).0
