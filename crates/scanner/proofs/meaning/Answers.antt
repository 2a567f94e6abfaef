-- By the first byte.
use borrow.Author.Tests.{ltb-true, ltb-false, eqb-false}
use Rattle.std.proofs.Common.{arith, get_or}
use Rattle.scanner.proofs.Meanings.{first_rest, digit_byte, other_byte, empty_meaning, variable_meaning, number_meaning, great_meaning, no_meaning, fixed_meaning}
use Rattle.scanner.proofs.meaning.Goals.{in_default-via-then-word-lt48, in_default-via-else-word-lt48+else-word-lt58}
use Rattle.scanner.proofs.meaning.Goals as goal

pub returns-in-empty : goal.returns-in-empty
returns-in-empty c = empty_meaning c.args.word.now (omega arith)

pub returns-in-118 : goal.returns-in-118
returns-in-118 c = variable_meaning c.args.word.now c.in-118.len_at_least (omega arith) c.numeral.ensures c.map_or.ensures

pub returns-in-Some : goal.returns-in-Some
returns-in-Some c =
    number_meaning (first_rest c.args.word.now c.in-48-to-57.len_at_least) (digit_byte (get_or c.args.word.now 0 0) (omega arith) (omega arith))
    c.numeral-in-48-to-57.ensures c.in-Some.number c.in-Some.is c.if-number-le-GREATEST.true

pub returns-in_default-numeral : goal.returns-in_default-numeral
returns-in_default-numeral c =
    great_meaning (first_rest c.args.word.now c.in-48-to-57.len_at_least) (digit_byte (get_or c.args.word.now 0 0) (omega arith) (omega arith))
    c.numeral-in-48-to-57.ensures c.in-Some.number c.in-Some.is c.if-number-le-GREATEST.false

pub returns-in_default-numeral-2 : goal.returns-in_default-numeral-2
returns-in_default-numeral-2 c =
    no_meaning (first_rest c.args.word.now c.in-48-to-57.len_at_least) (digit_byte (get_or c.args.word.now 0 0) (omega arith) (omega arith))
    c.numeral-in-48-to-57.ensures c.in_default-numeral.is

pub returns-in_default : goal.returns-in_default
returns-in_default c =
    elim c.in_default.branch [
      | in_default-via-then-word-lt48 w ↦
          fixed_meaning (first_rest c.args.word.now (omega (arith, ltb-true, ltb-false, eqb-false))) (λ e. omega (arith, ltb-true, ltb-false, eqb-false)) (other_byte (get_or c.args.word.now 0 0) (λ p q. omega (arith, ltb-true, ltb-false, eqb-false)))
          c.fixed_token.ensures c.unwrap_or.ensures
      | in_default-via-else-word-lt48+else-word-lt58 w ↦
          fixed_meaning (first_rest c.args.word.now (omega (arith, ltb-true, ltb-false, eqb-false))) (λ e. omega (arith, ltb-true, ltb-false, eqb-false)) (other_byte (get_or c.args.word.now 0 0) (λ p q. omega (arith, ltb-true, ltb-false, eqb-false)))
          c.fixed_token.ensures c.unwrap_or.ensures
    ]
