-- Another word stands there.
use Rattle.std.proofs.Common.{rules}
use Rattle.parser.proofs.Steps.{next_other}
use Rattle.parser.proofs.source.Source.after.Goals as goal

pub returns-else-eq : goal.returns-else-eq
returns-else-eq c = next_other c.args.self.now.text.now c.args.token c.requires.1 c.in_ok-word.ensures (search rules)
