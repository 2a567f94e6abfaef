use mathlib.Core.Path.{◌∙◌}
use Rattle.expressions.proofs.Skipping.{going_begins, going_goes, none_left}
use Rattle.expressions.proofs.past.Goals as goal

pub loop-due-init : goal.loop-due-init
loop-due-init c = going_begins c.args.kinds.now c.args.at c.requires

pub loop-due-preserved : goal.loop-due-preserved
loop-due-preserved c =
    going_goes c.args.kinds.now c.args.at c.requires c.loop-due.invariant c.loop-due-test.true (c.from.ensures ∙ c.children.ensures)

pub returns : goal.returns
returns c = λ ps e h. none_left c.args.kinds.now ps e c.args.at (c.loop-due.invariant.left ps e h) c.loop-due-test.false
