-- Both expressions are evaluated over the row's values.
use mathlib.Core.Path.{ap, ap₂, ◌∙◌}
use Rattle.std.specs.Prelude.{is_some}
use Rattle.evaluation.specs.Meaning.{is_true}
use Rattle.expressions.specs.Expressions.{evaluate}
use Rattle.windows.specs.Figures.{value_in}
use Rattle.windows.specs.Lent.{entering_held, queues_in, one_more_if}
use Rattle.windows.proofs.Passing.{all_known}
use Rattle.windows.proofs.pass.Goals as goal

pub returns : goal.returns
returns c =
    record {
      passed = λ a.
          let known = all_known c.args.values.now c.args.cells.now c.overwrite.new.cells c.requires.cells c.overwrite.ensures in
          let q = c.args.question.now in
          let truth = c.is_true-truth.ensures ∙ ap is_true (c.evaluate.ensures a.condition a.condition_stands ∙ ap (evaluate a.condition) known) in
          let number = c.evaluate-number.ensures a.number a.number_stands ∙ ap (evaluate a.number) known in
          record {
            queues = c.enter.ensures.entered ∙ ap₂ (λ t x. entering_held c.args.row t x (queues_in c.leave_behind.new.self)) truth number
                ∙ ap (entering_held c.args.row _ _) c.leave_behind.ensures.left;
            fits = c.enter.ensures.fits;
            trues = c.enter.ensures.once.0 ∙ ap₂ one_more_if truth c.leave_behind.ensures.same.0;
            values = c.enter.ensures.once.1 ∙ ap₂ (λ x n. one_more_if (is_some (value_in x)) n) number c.leave_behind.ensures.same.1;
          };
    }
