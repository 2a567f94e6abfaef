-- Each turn takes some bytes of the part.
use Rattle.std.proofs.Common.{◌-◌, length}
use Rattle.program_cases.proofs.answer_part.Given as goal

abbrev pub decreases-loop-at : goal.decreases-loop-at
decreases-loop-at l = length l.part - l.at
