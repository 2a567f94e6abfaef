-- A row goes by: its cells know all its values.
use mathlib.Core.Path.{◌≡◌, ap, ◌∙◌}
use mathlib.Core.List.{List, [], ◌++◌}
use native.Mathlib.Omega.{arith}
use lib.IntN.{ℤ}
use lib.ListN.{length, drop, drop_of_length-le}
use Rattle.std.specs.Prelude.{Option}
use Rattle.std.proofs.Common.{append-nil}
use Rattle.results.specs.Results.{over}
use Rattle.expressions.specs.Cells.{valuation_of}
use Rattle.expressions.specs.Expressions.{known_from}
use Rattle.propagation.specs.Cells.{cells_of}
use Rattle.propagation.proofs.Overwriting.{cell_count}
use Rattle.propagation.proofs.Valuations.{known_values}

pub all_known : (values : List ℤ) (old cells : List (Option ℤ)) → length values ≡ length old → cells ≡ over (cells_of values) old
    → valuation_of cells ≡ known_from values
all_known values old cells long e =
    let past : drop (length (cells_of values)) old ≡ [] = drop_of_length-le old (omega (arith, cell_count values, long)) in
    ap valuation_of (e ∙ ap (λ r. cells_of values ++ r) past ∙ append-nil (cells_of values)) ∙ known_values values
