-- `start` meets its contract: the first values of the states, lent to the engine, then zeros again.
use mathlib.Core.Path.{sym, ap, ◌∙◌}
use lib.Seq.{length-take-le}
use Rattle.semantics.specs.Firing.{begun}
use Rattle.engine.proofs.Counts.{meaning}
use Rattle.engine.proofs.Accepted.{loaded_in}
use Rattle.replaying.proofs.Slices.{states_within, initial_part}
use Rattle.replaying.proofs.start.Goals as goal

pub slice_bounds-first_values-end : goal.slice_bounds-first_values-end
slice_bounds-first_values-end c =
    let t = c.args.loaded.now.decoded.tables in
    sym (length-take-le t.model.sizes.states t.variables.now (states_within (loaded_in c.args.loaded.now.decoded)))

pub returns-clause-begun : goal.returns-clause-begun
returns-clause-begun c =
    let stored = c.first_values in
    λ d. c.begin-firing.ensures.begun d ∙ ap (λ states. begun (meaning d) states c.args.values.now) (initial_part d stored.new.values _ stored.ensures)
