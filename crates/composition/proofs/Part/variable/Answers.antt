-- One node is stored; its sort, where there is such a variable.
use Rattle.composition.proofs.Composing.{known_holds, unknown_holds}
use Rattle.composition.proofs.Part.variable.Goals as goal

pub returns-in-Some-clause-holds : goal.returns-in-Some-clause-holds
returns-in-Some-clause-holds c = λ x e.
    let found = c.in-Some.ensures.lookup.3 in
    rw (c.leaf.ensures.part, found.1 c.in-Some.sort.now)
    (known_holds c.args.nodes.now c.leaf.new.nodes c.args.next c.args.number c.args.sorts.now c.requires.1 x e (rw c.numbered-node.ensures at c.leaf.ensures.stored) c.in-Some.sort.now found.0)

pub returns-in-None-clause-holds : goal.returns-in-None-clause-holds
returns-in-None-clause-holds c = λ x e.
    rw c.leaf-in-None.ensures.part
    (unknown_holds c.args.nodes.now c.leaf-in-None.new.nodes c.args.next c.args.number c.args.sorts.now c.requires.1 x e (rw c.numbered-node.ensures at c.leaf-in-None.ensures.stored) c.in-None.ensures.lookup.3)
