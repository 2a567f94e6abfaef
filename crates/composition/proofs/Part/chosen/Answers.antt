-- One node put in before those of the parts.
use mathlib.Core.Path.{refl}
use Rattle.composition.proofs.Composing.{conditional_holds}
use Rattle.composition.proofs.Part.chosen.Goals as goal

pub returns-clause-holds : goal.returns-clause-holds
returns-clause-holds c = λ vs p q r before cells others h k m.
    let a = c.args in
    let put = c.put in
    let sort = c.choice_sort in
    conditional_holds before vs p q r cells others a.nodes.now a.self a.first a.second h k m
    put.new.nodes a.second.next c.max.result c.max-2.result sort.result _
    c.max.ensures c.max-2.ensures refl sort.ensures put.ensures.nodes
