-- One node put in before those of the operands.
use mathlib.Core.Path.{refl}
use Rattle.composition.proofs.Composing.{call_holds}
use Rattle.composition.proofs.Part.called.Goals as goal

pub returns-clause-holds : goal.returns-clause-holds
returns-clause-holds c = λ vs p q before cells h k.
    let a = c.args in
    let kind = c.call_kind in
    let put = c.put in
    let sort = c.of_both in
    call_holds before vs p q cells a.nodes.now a.self a.right h k a.next a.function
    c.max.result sort.result _ c.max.ensures refl
    kind.result put.new.nodes kind.ensures sort.ensures put.ensures.nodes
