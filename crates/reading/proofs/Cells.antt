-- The cells lent stay the same ones.
use mathlib.Core.Path.{refl, ◌∙◌}
use Rattle.reading.specs.declared.Gathering.{Gathering}
use Rattle.reading.specs.Readings.{SameCells}

pub same_cells : (g : Gathering) → SameCells g g
same_cells g = record { given = refl; queue = refl; waits = refl; given_length = refl; queue_length = refl; waits_length = refl }

pub same_then : {a b c : Gathering} → SameCells a b → SameCells b c → SameCells a c
same_then s t =
    record {
      given = t.given ∙ s.given;
      queue = t.queue ∙ s.queue;
      waits = t.waits ∙ s.waits;
      given_length = t.given_length ∙ s.given_length;
      queue_length = t.queue_length ∙ s.queue_length;
      waits_length = t.waits_length ∙ s.waits_length;
    }
