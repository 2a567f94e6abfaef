-- No digits or too many; a byte that is none; the number.
use Rattle.std.proofs.Common.{◌∙◌, sym}
use Rattle.commands.proofs.Commands.{none_or_many, no_number, number_read}
use Rattle.commands.proofs.fire_of.Goals as goal

pub returns-then-is_empty : goal.returns-then-is_empty
returns-then-is_empty c = none_or_many c.args.digits.now c.is_empty.ensures c.then-is_empty.either

pub returns-in_err-value : goal.returns-in_err-value
returns-in_err-value c =
    c.from_residual.ensures ∙ no_number c.args.digits.now c.is_empty.ensures c.if-is_empty.false c.if-digits-gt-MOST_DIGITS.false (sym c.number.ensures ∙ c.in_err-value.was)

pub returns : goal.returns
returns c =
    number_read c.args.digits.now c.is_empty.ensures c.if-is_empty.false c.if-digits-gt-MOST_DIGITS.false (λ i. (c.type_inv.digits i).fits) (sym c.number.ensures ∙ c.in_ok-value.was)
