-- Each cell is asked whether its number is below the bound.
use mathlib.Core.Path.{sym, ◌∙◌}
use lib.Dec.{ltb}
use Rattle.std.proofs.Common.{rules, tests}
use Rattle.std.proofs.lemmas.Iterator.{YieldsList-from_slice}
use Rattle.std.proofs.lemmas.Iterator.Search.{all_from_yields_List}
use Rattle.std.proofs.lemmas.List.Folds.{list_all-map}
use Rattle.standing.proofs.all_below.Goals as goal

pub returns : goal.returns
returns g c = λ number same.
    all_from_yields_List (λ cell. ltb (number cell) c.args.bound) _ _ c.all.result c.all.ensures.ran (YieldsList-from_slice c.args.cells.now cc) (λ x b q k. search (rules, tests, same))
    ∙ sym (list_all-map (λ n. ltb n c.args.bound) number c.args.cells.now)
