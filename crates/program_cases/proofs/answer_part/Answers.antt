use Rattle.std.proofs.Common.{arith}
use Rattle.dialogue.proofs.Scanning.{line_taken}
use Rattle.program_cases.proofs.answer_part.Goals as goal

pub loop-at-smaller : goal.loop-at-smaller
loop-at-smaller c =
    let more = line_taken c.args.part.now c.loop-at.at c.loop-at-test.true in omega arith
