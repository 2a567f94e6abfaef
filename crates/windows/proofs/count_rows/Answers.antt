-- 41, or how many rows there are.
use Rattle.std.proofs.Common.{◌≡◌, true, false, length, arith}
use Rattle.std.proofs.lemmas.Bool.Decides.{nat_tests}
use Rattle.windows.specs.Logs.{no_windows}
use Rattle.windows.proofs.count_rows.Goals as goal

pub returns-then-window-eq0 : goal.returns-then-window-eq0
unfolding no_windows
returns-then-window-eq0 c =
    let h = c.then-window-eq0.either in
    let e : no_windows c.args.width c.args.question.now.window (length c.args.question.now.log.now) ≡ true = grind (arith, nat_tests) in
    rw e

pub returns-then-cells-width-ne0 : goal.returns-then-cells-width-ne0
unfolding no_windows
returns-then-cells-width-ne0 c =
    let e : no_windows c.args.width c.args.question.now.window (length c.args.question.now.log.now) ≡ true = grind (arith, nat_tests) in
    rw e

pub returns : goal.returns
unfolding no_windows
returns c =
    let e : no_windows c.args.width c.args.question.now.window (length c.args.question.now.log.now) ≡ false = grind (arith, nat_tests) in
    rw e
