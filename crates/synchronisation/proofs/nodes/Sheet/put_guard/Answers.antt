-- The mandatory guards, or else the optional ones.
use mathlib.Core.Path.{refl, sym, ◌∙◌}
use native.Mathlib.Omega.{arith}
use Rattle.evaluation.specs.declared.Operator.TheVariants.{Conjunction, Disjunction}
use Rattle.kinds.specs.Kinds.{kind_of}
use Rattle.synchronisation.specs.Members.{sheet_in}
use Rattle.synchronisation.proofs.Lists.{none_left, some_left}
use Rattle.synchronisation.proofs.Pieces.{members_long, mandatory_guard, optional_guard}
use Rattle.synchronisation.proofs.nodes.Sheet.put_guard.Goals as goal

pub returns-else-is_empty-clause-nodes : goal.returns-else-is_empty-clause-nodes
unfolding kind_of
returns-else-is_empty-clause-nodes c = λ ts os s s'.
    let t = c.args.self.now.tables in
    mandatory_guard t.kinds.now t.parameters.now t.nexts.now t.guards.now c.args.members.now.mandatory.now (sheet_in c.args.self.now) _ ts os
    (some_left (sym c.is_empty.ensures ∙ c.if-is_empty.false)) s (λ t us st. c.join_guards-else-is_empty.ensures.nodes Conjunction t us refl st)

pub returns-then-is_empty-clause-nodes : goal.returns-then-is_empty-clause-nodes
unfolding kind_of
returns-then-is_empty-clause-nodes c = λ ts os s s'.
    let t = c.args.self.now.tables in
    let none = none_left (sym c.is_empty.ensures ∙ c.if-is_empty.true) in
    let long = members_long t.kinds.now t.parameters.now t.nexts.now t.guards.now c.args.members.now.mandatory.now ts s in
    optional_guard t.kinds.now t.parameters.now t.nexts.now t.guards.now c.args.members.now.optional.now (sheet_in c.args.self.now) _ ts os
    (omega (arith, long, none)) (omega (arith, none, c.requires.0)) s'
    (λ t us st. c.join_guards.ensures.nodes Disjunction t us refl st)
