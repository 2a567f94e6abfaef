use Rattle.kinds.specs.Kinds.{operator_of}
use Rattle.kinds.proofs.Bytes.{no_operator, by_kind}
use Rattle.kinds.proofs.operator_of.Goals as goal

pub returns : goal.returns
returns c = by_kind operator_of _ c.args.kind (no_operator c.args.kind) c.try_from.result c.try_from.ensures c.map_or.ensures
