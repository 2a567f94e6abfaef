-- No digits, a leading zero, or others.
use borrow.Author.Tests.{ltb-true, ltb-false, eqb-false}
use Rattle.std.proofs.Common.{sym, ◌∙◌, arith}
use Rattle.scanner.proofs.Numerals.{no_digits, leading_zero, no_leading_zero}
use Rattle.scanner.proofs.numeral.Goals.{in_default-via-then-digits-lt2, in_default-via-else-digits-lt2+in_default-1}
use Rattle.scanner.proofs.numeral.Goals as goal

pub returns-in-empty : goal.returns-in-empty
returns-in-empty c = no_digits c.args.digits.now (omega arith)

pub returns-in-empty-2 : goal.returns-in-empty-2
returns-in-empty-2 c = leading_zero c.args.digits.now c.in-empty.len_at_least (omega arith)

pub returns-in_default : goal.returns-in_default
returns-in_default c =
    c.number.ensures ∙ sym (elim c.in_default.branch [
      | in_default-via-then-digits-lt2 w ↦ no_leading_zero c.args.digits.now (omega (arith, ltb-true, ltb-false, eqb-false)) (λ p q. omega (arith, ltb-true, ltb-false, eqb-false))
      | in_default-via-else-digits-lt2+in_default-1 w ↦ no_leading_zero c.args.digits.now (omega (arith, ltb-true, ltb-false, eqb-false)) (λ p q. omega (arith, ltb-true, ltb-false, eqb-false))
    ])
