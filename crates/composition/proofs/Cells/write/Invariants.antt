-- The nodes before the present one are written.
use Rattle.kinds.specs.Kinds.{code_of}
use Rattle.composition.specs.Parts.{SameCells}
use Rattle.composition.proofs.Unpacked.{TakenApart}
use Rattle.composition.proofs.Cells.write.Given as goal

abbrev pub invariant-loop-i : goal.invariant-loop-i
invariant-loop-i l =
    record {
      kinds : TakenApart (λ n. code_of n.kind) l.nodes l.initial.self.kinds.now l.i l.self.kinds.now;
      parameters : TakenApart (λ n. n.parameter) l.nodes l.initial.self.parameters.now l.i l.self.parameters.now;
      same : SameCells l.initial.self l.self;
    }
