-- `children_of` meets its contract.
use mathlib.Core.Path.{sym, ap, ◌∙◌}
use lib.IntN.{nat_abs}
use Rattle.evaluation.proofs.Signed.{read_one}
use Rattle.kinds.specs.declared.Row.{Row}
use Rattle.kinds.specs.Kinds.{row_of}
use Rattle.decoding.proofs.Filling.{children_block, children_row}
use Rattle.decoding.proofs.children_of.Goals as goal

pub returns-then-stands_for : goal.returns-then-stands_for
returns-then-stands_for c =
    c.magnitude.ensures
    ∙ read_one nat_abs c.ranges.parameter
    ∙ children_block c.args.kind c.args.parameter (sym c.stands_for.ensures ∙ c.if-stands_for.true)

pub returns : goal.returns
unfolding row_of
returns c = c.from.ensures ∙ ap (λ (row : Row). row.children) c.row_of.ensures ∙ children_row c.args.kind c.args.parameter (sym c.stands_for.ensures ∙ c.if-stands_for.false)
