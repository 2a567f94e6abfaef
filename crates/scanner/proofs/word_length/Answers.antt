-- Letters and digits, a sign of two bytes, or one byte.
use mathlib.Core.Path.{◌≡◌, sym, ◌∙◌}
use mathlib.Core.Bool.{true≢false}
use mathlib.Core.List.{nil≢cons, head-eq_of_cons-eq}
use native.Mathlib.Omega.{arith}
use lib.ListN.{get_or, drop_of_length-le}
use lib.Seq.{drop-cons}
use Rattle.scanner.proofs.Lengths.{run_length, no_run, pair_length, byte_length}
use Rattle.scanner.proofs.word_length.Goals as goal

pub returns-then-run-gt0 : goal.returns-then-run-gt0
returns-then-run-gt0 c = run_length c.args.text.now c.leading_run-run.ensures c.if-run-gt0.true

pub returns-in-61 : goal.returns-in-61
returns-in-61 c = pair_length c.args.text.now c.in-61.len_at_least (omega arith) (sym c.contains.ensures.value ∙ c.if-contains.true)

-- no equals sign goes on
pub returns-in_default : goal.returns-in_default
returns-in_default c =
    let text = c.args.text.now in
    byte_length text (no_run text (omega (arith, c.leading_run-run.ensures)) c.requires.0) c.requires.1 c.requires.0
    (λ t e s. nil≢cons (sym (drop_of_length-le text {i = 1} (omega (arith, c.in_default.len_below))) ∙ e))

pub returns-in_default-2 : goal.returns-in_default-2
returns-in_default-2 c =
    let text = c.args.text.now in
    byte_length text (no_run text (omega (arith, c.leading_run-run.ensures)) c.requires.0) c.requires.1 c.requires.0
    (λ t e s. true≢false (sym s ∙ sym c.contains.ensures.value ∙ c.if-contains.false))

pub returns-in_default-3 : goal.returns-in_default-3
returns-in_default-3 c =
    let text = c.args.text.now in
    byte_length text (no_run text (omega (arith, c.leading_run-run.ensures)) c.requires.0) c.requires.1 c.requires.0
    (λ t e s. let first : get_or text 1 0 ≡ 61 = head-eq_of_cons-eq (sym (drop-cons text 1 0 c.in_default.len_at_least) ∙ e) in absurd (omega arith))
