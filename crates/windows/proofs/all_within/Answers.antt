-- Every row is asked whether it has a value outside its ends.
use mathlib.Core.List.{map}
use lib.ListN.{length}
use Rattle.std.specs.Prelude.{is_none}
use Rattle.std.proofs.Common.{rules, tests}
use Rattle.std.proofs.lemmas.Iterator.Search.{all_from_yields_List}
use Rattle.standing.specs.Holding.{ends_of, first_outside}
use Rattle.windows.proofs.LogRows.{yields_rows}
use Rattle.windows.proofs.all_within.Goals as goal

pub returns : goal.returns
returns c =
    all_from_yields_List (λ row. is_none (first_outside (map ends_of c.args.variables.now) row 0)) _ _ c.all.result c.all.ensures.ran
    (yields_rows (length c.args.variables.now) c.args.rows.now c.chunks_exact.result c.requires c.chunks_exact.ensures.size c.chunks_exact.ensures.rest)
    (λ x b q k. search (rules, tests))
