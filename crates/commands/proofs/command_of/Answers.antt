-- The line's length and its first two bytes tell, then its digits.
use Rattle.std.proofs.Common.{arith}
use Rattle.commands.proofs.Commands.{undo_line, marks_line, other_letter, empty_line, other_word, no_space, fire_line}
use Rattle.commands.proofs.command_of.Goals as goal

pub returns-in-u : goal.returns-in-u
returns-in-u c = undo_line c.args.line.now (omega arith) (omega arith)

pub returns-in-m : goal.returns-in-m
returns-in-m c = marks_line c.args.line.now (omega arith) (omega arith)

pub returns-in-102 : goal.returns-in-102
returns-in-102 c = fire_line c.args.line.now c.in-102.len_at_least (omega arith) (omega arith) c.fire_of.ensures

pub returns-in_default : goal.returns-in_default
returns-in_default c = empty_line c.args.line.now (omega arith)

pub returns-in_default-2 : goal.returns-in_default-2
returns-in_default-2 c = other_letter c.args.line.now (omega arith) (λ e. omega arith) (λ e. omega arith)

pub returns-in_default-3 : goal.returns-in_default-3
returns-in_default-3 c = no_space c.args.line.now c.in_default.len_at_least (λ e. omega arith)

pub returns-in_default-4 : goal.returns-in_default-4
returns-in_default-4 c = other_word c.args.line.now c.in_default.len_at_least (λ e. omega arith)
