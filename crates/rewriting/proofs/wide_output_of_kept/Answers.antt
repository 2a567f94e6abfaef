-- The first bytes of the file are what was read, and there is room for all that is printed.
use Rattle.std.proofs.Common.{arith}
use Rattle.rewriting.proofs.Printing.{kept_printed}
use Rattle.rewriting.proofs.wide_output_of_kept.Goals as goal

pub returns-clause-printed : goal.returns-clause-printed
returns-clause-printed c =
    kept_printed c.args.file.now c.args.out.now c.args.bytes c.told-file c.min.ensures (omega (arith, c.told-out)) c.wide_output.ensures c.unwrap_or.ensures
