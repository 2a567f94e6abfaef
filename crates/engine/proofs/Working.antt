-- What is worked in stays the same cells from call to call.
use mathlib.Core.Path.{◌∙◌}
use Rattle.reading.proofs.Cells.{same_then}
use Rattle.engine.specs.declared.Work.{Work}
use Rattle.engine.specs.Lent.{SameWork}

pub works_then : {a b c : Work} → SameWork a b → SameWork b c → SameWork a c
works_then s t =
    record {
      states = t.states ∙ s.states;
      cells = t.cells ∙ s.cells;
      states_length = t.states_length ∙ s.states_length;
      cells_length = t.cells_length ∙ s.cells_length;
      gathering = t.gathering ∙ s.gathering;
      gathered = same_then s.gathered t.gathered;
    }
