use mathlib.Core.Path.{ap, ◌∙◌}
use lib.ListN.{take}
use Rattle.std.proofs.lemmas.List.{take_min}
use Rattle.standing.specs.Holding.{all_below}
use Rattle.standing.proofs.Holding.{below_itself}
use Rattle.standing.proofs.Run.marks_hold.Goals as goal

pub returns : goal.returns
returns c =
    let marks = c.args.self.now.marks.now in
    below_itself _ _ _ c.all_below.ensures ∙ ap (all_below 3) (ap (λ n. take n marks) c.min.ensures ∙ take_min c.args.transitions marks)
