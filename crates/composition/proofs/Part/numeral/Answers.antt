-- One node is stored.
use Rattle.composition.proofs.Composing.{number_holds}
use Rattle.composition.proofs.Part.numeral.Goals as goal

pub returns-clause-holds : goal.returns-clause-holds
returns-clause-holds c = λ vs n e.
    rw c.leaf.ensures.part
    (number_holds c.args.nodes.now c.leaf.new.nodes c.args.next c.args.number vs n e (rw c.numbered-node.ensures at c.leaf.ensures.stored))
