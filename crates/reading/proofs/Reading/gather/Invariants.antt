-- One loop over the instructions that are due.
use Prim.Native.Nat.{◌-◌}
use lib.ListN.{length}
use Rattle.model.specs.Trees.{Instruction}
use Rattle.reading.specs.Readings.{held_in, Whole, SameCells, InstructionIn}
use Rattle.reading.proofs.Remaining.{LeftIn}
use Rattle.reading.proofs.Reading.gather.Given as goal

abbrev pub invariant-loop-due : goal.invariant-loop-due
invariant-loop-due l =
    SameCells l.initial.gathering l.gathering × Whole l.gathering
    × ((i : Instruction) → InstructionIn l.self i l.at → LeftIn l.self (held_in l.initial.gathering) l.at i (held_in l.gathering) l.here l.due)

abbrev pub decreases-loop-due : goal.decreases-loop-due
decreases-loop-due l = length l.self.tables.now.kinds.now - l.here
