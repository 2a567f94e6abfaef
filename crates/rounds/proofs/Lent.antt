-- A reading can go on after readings.
use mathlib.Core.Path.{sym, ◌∙◌}
use native.Mathlib.Omega.{arith}
use Rattle.reading.specs.declared.Gathering.{Gathering}
use Rattle.reading.specs.declared.Reading.{Reading}
use Rattle.reading.specs.Readings.{SameCells}
use Rattle.rounds.specs.Lent.{UnderWay, StillWakingIn}
use Rattle.rounds.proofs.Visiting.{some_then}

pub goes_on : (r : Reading) (g g' : Gathering) → UnderWay r g → SameCells g g' → StillWakingIn r g g' → UnderWay r g'
goes_on r g g' u s w =
    let f = u.1 in
    (some_then u.0 w, (s.waits_length ∙ f.0, f.1, omega (arith, f.2, s.given_length), f.3 ∙ sym s.given_length, w.room, omega (arith, f.5, s.queue_length), w.counted))
