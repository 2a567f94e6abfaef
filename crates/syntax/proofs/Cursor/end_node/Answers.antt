-- No node of a high end or a first value is due.
use mathlib.Core.Path.{◌∙◌, sym}
use Rattle.std.proofs.lemmas.Result.{err_from_is_err_and}
use Rattle.syntax.specs.Readings.{end_refusal}
use Rattle.syntax.proofs.Refusals.{not_due}
use Rattle.syntax.proofs.Cursor.end_node.Goals as goal

pub returns-in_err-node : goal.returns-in_err-node
unfolding end_refusal
returns-in_err-node c =
    let e = err_from_is_err_and c.from_residual.result c.from_residual.ensures.1 in
    rw (e.1, e.2) (not_due _ _ _ _ _ _ (sym c.node.ensures ∙ c.in_err-node.was))
