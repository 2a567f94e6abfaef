-- Guard and action, then a start from the new states.
use mathlib.Core.Path.{◌∙◌}
use Rattle.std.proofs.lemmas.Result.{err_from_is_err_and}
use Rattle.std.specs.Prelude.{Some, None}
use mathlib.Core.Path.{refl}
use Rattle.engine.proofs.Accepted.{loaded_in}
use Rattle.engine.proofs.Firings.{nothing_known_lem, over_left, over_zeros, fire_entered}
use Rattle.engine.proofs.transitions.fire.Goals as goal

pub returns-in_err-changed-clause-fired : goal.returns-in_err-changed-clause-fired
returns-in_err-changed-clause-fired c =
    let p = err_from_is_err_and c.from_residual.result c.from_residual.ensures.1 in
    let s = c.change_states-changed in
    rw (p.1, p.2) (λ d. over_left d c.args.transition c.args.values.now c.requires s.result s.new.work.states.now s.ensures.same.states_length (s.ensures.changed d) _ c.in_err-changed.was)

pub returns-in_err-changed-clause-blank : goal.returns-in_err-changed-clause-blank
returns-in_err-changed-clause-blank c =
    let s = c.change_states-changed in
    let d = (loaded_in c.args.loaded.now.decoded) in
    record {
      zeros = over_zeros d c.args.transition c.args.values.now c.requires s.result s.new.work.states.now s.ensures.same.states_length (s.ensures.changed d) _ c.in_err-changed.was;
      valuation =
          record {
            nothing_known = nothing_known_lem d c.args.transition c.args.values.now c.requires s.new.work.cells.now c.fill.new.self (s.ensures.same.cells_length ∙ c.hold.auto.cells) (c.fill.ensures.after (elim [ None ↦ λ e. refl | Some v ↦ λ e. absurd e ]));
            gathering = s.ensures.blank;
          };
    }

pub returns-clause-fired : goal.returns-clause-fired
returns-clause-fired c =
    let s = c.change_states-changed in
    λ d. fire_entered d c.args.transition c.args.values.now c.requires s.result s.new.work.states.now s.ensures.same.states_length (s.ensures.changed d) c.in_ok-changed.was c.begin-firing.result c.begin-firing.new.values (c.begin-firing.ensures.begun d)
