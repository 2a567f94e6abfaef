-- The new file, or a line with the old check's number.
use Rattle.std.proofs.Common.{rules}
use Rattle.rewriting.proofs.Printing.{file_printed, short_printed, refusal_printed}
use Rattle.rewriting.proofs.wide_output.Goals as goal

pub returns-in-Ok : goal.returns-in-Ok
returns-in-Ok c = file_printed c.args.old.now c.args.out.now c.rewrite.ensures c.in-Ok.is

pub returns-in-Err-ShortSlice : goal.returns-in-Err-ShortSlice
returns-in-Err-ShortSlice c = short_printed c.args.old.now c.args.out.now c.rewrite.ensures c.in-Err-ShortSlice.is c.in-Err-ShortSlice.field-0-is

pub returns-in-Err : goal.returns-in-Err
returns-in-Err c =
    refusal_printed c.args.old.now c.args.out.now c.rewrite.ensures c.in-Err.is (λ e. search rules) (rw (← c.number.ensures) c.refusal_line.ensures)
