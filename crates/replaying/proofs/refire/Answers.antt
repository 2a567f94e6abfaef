-- `refire` meets its contract.
use Rattle.std.proofs.Common.{◌+◌, Ok, Err, refl, sym, ap, ◌∙◌, arith}
use Rattle.std.proofs.lemmas.Result.{err_from_is_err_and}
use Rattle.results.specs.Results.{answered}
use Rattle.engine.proofs.Counts.{meaning}
use Rattle.semantics.specs.Firing.{Firing, fired}
use Rattle.engine.proofs.Working.{works_then}
use Rattle.replaying.proofs.Refiring.{firing_ends, firing_refused, firing_goes}
use Rattle.replaying.proofs.refire.Goals as goal

pub returns-in_err-count-clause-fired : goal.returns-in_err-count-clause-fired
returns-in_err-count-clause-fired c =
    let l = c.loop-transition in
    let f = c.fire in
    let ts = c.args.entries.now in
    let p = err_from_is_err_and c.from_residual.result c.from_residual.ensures.1 in
    rw (p.1, p.2) (λ d.
    firing_refused (meaning d) ts (l.transition-index + 1) (Err c.in_err-count.field-0.0) f.new.values _
    (firing_goes (meaning d) ts l.transition-index (Ok l.count) l.values _ (l.invariant.left d) refl (omega (arith, c.loop-transition-test.true)) (Err c.in_err-count.field-0.0) f.new.values
    (ap (λ (r : Firing). answered r f.new.values) (sym c.in_err-count.was) ∙ f.ensures.fired d ∙ ap (λ t. fired (meaning d) t l.values) c.from-transition.ensures)) refl)

pub loop-transition-preserved : goal.loop-transition-preserved
loop-transition-preserved c =
    let l = c.loop-transition in
    let f = c.fire in
    record {
      left = λ d.
          firing_goes (meaning d) c.args.entries.now l.transition-index (Ok l.count) l.values _ (l.invariant.left d) refl (omega (arith, c.loop-transition-test.true)) (Ok c.in_ok-count.count) f.new.values
          (ap (λ (r : Firing). answered r f.new.values) (sym c.in_ok-count.was) ∙ f.ensures.fired d ∙ ap (λ t. fired (meaning d) t l.values) c.from-transition.ensures);
      blank = f.ensures.blank;
      same = works_then l.invariant.same f.ensures.same;
      long = f.auto.values ∙ l.invariant.long;
    }

pub returns-clause-fired : goal.returns-clause-fired
returns-clause-fired c =
    let l = c.loop-transition in
    λ d. firing_ends (meaning d) c.args.entries.now l.transition-index (Ok l.count) l.values _ (l.invariant.left d) (omega (arith, c.loop-transition-test.false))
