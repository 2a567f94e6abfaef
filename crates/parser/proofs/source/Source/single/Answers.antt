-- A number.
use native.Mathlib.Omega.{arith}
use mathlib.Core.Path.{sym, ◌∙◌}
use Rattle.grammar.specs.Phrases.Phrase.{numeral}
use Rattle.grammar.proofs.Ordinals.{held_number}
use Rattle.grammar.specs.Reading.{call_by}
use Rattle.parser.proofs.Grouping.{readings}
use Rattle.parser.proofs.Forms.{single_read}
use Rattle.parser.proofs.source.Source.single.Goals as goal

pub returns-in-Number : goal.returns-in-Number
unfolding call_by
returns-in-Number c = λ at f o d m.
    let source = c.args.self.now in
    let (n, is, held) = held_number f.token c.in-Number.number (sym c.in-Number.is ∙ f.is_held) in
    let made = c.numeral.ensures in
    single_read source c.args.nodes.now (numeral n) f (grind (arith, readings)) made.composed
    (made.holds source.sorts.now n held)
