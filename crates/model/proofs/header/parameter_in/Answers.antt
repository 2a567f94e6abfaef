-- Four bytes, signed two's complement.
use mathlib.Core.Path.{ap, ◌∙◌}
use Rattle.evaluation.proofs.Signed.{read_back}
use Rattle.model.specs.Check.{signed}
use Rattle.model.proofs.Bytes.{signed_of, four_in}
use Rattle.model.proofs.header.parameter_in.Goals as goal

pub returns : goal.returns
returns c =
    read_back c.from_le_bytes.result c.from_le_bytes.type_inv
    ∙ (c.from_le_bytes.ensures ∙ (signed_of (four_in c.args.model.now c.args.at (λ i. (c.type_inv.model i).fits)).0 ∙ ap signed (four_in c.args.model.now c.args.at (λ i. (c.type_inv.model i).fits)).1))
