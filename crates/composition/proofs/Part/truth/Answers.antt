-- One node is stored.
use Rattle.composition.proofs.Composing.{truth_holds}
use Rattle.composition.proofs.Part.truth.Goals as goal

pub returns-clause-holds : goal.returns-clause-holds
returns-clause-holds c = λ vs.
    rw c.leaf.ensures.part
    (truth_holds c.args.nodes.now c.leaf.new.nodes c.args.next c.args.value vs (rw (c.numbered-node.ensures, c.from.ensures) at c.leaf.ensures.stored))
