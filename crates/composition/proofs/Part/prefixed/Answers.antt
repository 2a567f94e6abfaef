-- One node, two or none put in before those of the operand.
use Rattle.composition.proofs.Composing.{not_holds, minus_holds, plus_holds}
use Rattle.composition.proofs.Part.prefixed.Goals as goal

pub returns-in-Not-clause-holds : goal.returns-in-Not-clause-holds
returns-in-Not-clause-holds c = λ vs p before h.
    let a = c.args in
    let sort = c.only in
    let put = c.put in
    not_holds before vs p a.nodes.now a.self h a.self.next a.operator
    sort.result put.new.nodes c.in-Not.is sort.ensures put.ensures.nodes

pub returns-in-Minus-clause-holds : goal.returns-in-Minus-clause-holds
returns-in-Minus-clause-holds c = λ vs p before h.
    let a = c.args in
    let sort = c.only-in-Minus in
    let first = c.put-in-Minus in
    let second = c.put-in-Minus-2 in
    minus_holds before vs p a.nodes.now a.self h a.self.next a.operator
    sort.result first.new.nodes second.new.nodes c.in-Minus.is sort.ensures first.ensures.nodes second.ensures.nodes

pub returns-in_default-clause-holds : goal.returns-in_default-clause-holds
returns-in_default-clause-holds c = λ vs p before h.
    let a = c.args in
    let sort = c.only-in_default in
    plus_holds before vs p a.nodes.now a.self h a.self.next a.operator
    sort.result c.in_default.not-Not c.in_default.not-Minus sort.ensures
