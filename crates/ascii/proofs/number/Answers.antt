-- Digit by digit.
use mathlib.Core.Path.{sym, ◌∙◌}
use native.Mathlib.Omega.{arith}
use Rattle.ascii.proofs.Numbers.{other_byte, digit_read, digits_end}
use Rattle.ascii.proofs.number.Goals as goal

pub returns-then-not-is_ascii_digit : goal.returns-then-not-is_ascii_digit
returns-then-not-is_ascii_digit c =
    let l = c.loop-digit in
    other_byte c.args.digits.now l.value l.digit-index c.loop-digit-test.true (sym c.is_ascii_digit.ensures.value ∙ c.if-not-is_ascii_digit.true)
    ∙ sym l.invariant.1

pub loop-digit-preserved : goal.loop-digit-preserved
loop-digit-preserved c =
    let l = c.loop-digit in (
      omega (arith, c.saturating_add-value.ensures),
      l.invariant.1
          ∙ digit_read c.args.digits.now l.value l.digit-index c.loop-digit-test.true (sym c.is_ascii_digit.ensures.value ∙ c.if-not-is_ascii_digit.false)
          (omega (arith, c.saturating_mul.ensures, c.from.ensures, c.saturating_add-value.ensures)),
    )

pub returns : goal.returns
returns c =
    digits_end c.args.digits.now c.loop-digit.value c.loop-digit.digit-index c.loop-digit-test.false c.loop-digit.invariant.0 ∙ sym c.loop-digit.invariant.1
