use Rattle.std.proofs.Common.{◌∙◌, eqb, rules, tests}
use Rattle.std.proofs.lemmas.Iterator.{YieldsList-from_slice}
use Rattle.std.proofs.lemmas.Iterator.Consumers.{YieldsList-from_filter, count_from_yields_List}
use Rattle.scanner.proofs.Parentheses.{filtered}
use Rattle.scanner.proofs.count.Goals as goal

pub returns : goal.returns
returns c =
    let text = c.args.text.now in
    count_from_yields_List c.filter.result c.count.result c.count.ensures.ran
    (YieldsList-from_filter _ (eqb c.args.byte) (YieldsList-from_slice text cc) c.filter.ensures.closure (λ x r q k. search (rules, tests)))
    ∙ filtered c.args.byte text
