-- The bytes are copied into eight zeros.
use Rattle.std.proofs.Common.{◌≡◌}
use Rattle.model.specs.Sizes.{little_at}
use Rattle.model.proofs.LittleBytes.{little_bound}
use Rattle.model.proofs.Widened.{copied}
use Rattle.model.proofs.header.number.Goals as goal

pub returns-clause-value : goal.returns-clause-value
returns-clause-value c =
    copied c.args.bytes.now c.args.at c.args.width c.requires.width c.requires.within c.from_le_bytes.ensures c.copy_from_slice.ensures.after

pub returns-clause-upper_bound : goal.returns-clause-upper_bound
returns-clause-upper_bound c =
    let bytes = c.args.bytes.now in
    let e : c.from_le_bytes.result ≡ little_at bytes c.args.at c.args.width =
    copied bytes c.args.at c.args.width c.requires.width c.requires.within c.from_le_bytes.ensures c.copy_from_slice.ensures.after in
    rw e (little_bound bytes (λ i. (c.type_inv.bytes i).fits) c.args.width c.args.at)
