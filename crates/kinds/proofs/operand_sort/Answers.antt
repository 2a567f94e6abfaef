use Rattle.kinds.specs.Kinds.{operand_sort}
use Rattle.kinds.proofs.Bytes.{no_operands, by_kind}
use Rattle.kinds.proofs.operand_sort.Goals as goal

pub returns : goal.returns
returns c = by_kind operand_sort _ c.args.kind (no_operands c.args.kind) c.try_from.result c.try_from.ensures c.map_or.ensures
