-- The operands' nodes arranged, and those of the operator put in before them.
use mathlib.Core.Path.{refl}
use native.Mathlib.Omega.{arith}
use Rattle.composition.proofs.Composing.{operation_holds}
use Rattle.composition.proofs.Part.operated.Goals as goal

pub returns-clause-holds : goal.returns-clause-holds
returns-clause-holds c = λ vs p q before cells h k.
    let a = c.args in
    let arrange = c.arrange in
    let put = c.put_operator in
    let sort = c.operation_sort in
    operation_holds before vs p q cells a.nodes.now a.self a.right h k a.right.next a.operator
    c.max.result sort.result _ c.max.ensures refl arrange.new.nodes put.new.nodes _
    sort.ensures arrange.ensures.nodes (omega (arith, put.ensures.count, arrange.ensures.count)) put.ensures.nodes
