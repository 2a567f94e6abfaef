-- The table follows the rule at all 256 bytes.
use mathlib.Core.Path.{refl, ap, ◌∙◌}
use lib.ListN.{get_or}
use Rattle.kinds.specs.Kinds.{place_of, children_of, result_of, row_of, column, table}
use Rattle.kinds.proofs.Follows.{row_at}
use Rattle.kinds.proofs.row_of.Goals as goal

pub returns : goal.returns
unfolding table column row_of place_of children_of result_of
returns c = ap (λ k. get_or table k _) c.from.ensures ∙ row_at _ _ c.args.kind refl c.ranges.kind.fits
