use Rattle.std.proofs.Common.{rules, tests}
use Rattle.standing.proofs.Holding.{below_itself}
use Rattle.standing.proofs.Run.history_holds.Goals as goal

pub returns-then-self : goal.returns-then-self
returns-then-self c =
    let below = below_itself _ _ _ c.all_below.ensures in
    search (rules, tests)
