-- False decides and, true decides or, and no value any other operator.
use Rattle.std.proofs.Common.{refl}
use Rattle.evaluation.specs.Meaning.{decisive, decision}
use Rattle.operators.proofs.Operators.{no_other_decides}
use Rattle.operators.proofs.deciding.Goals as goal

pub returns-in-Conjunction : goal.returns-in-Conjunction
unfolding decisive decision
returns-in-Conjunction c = rw c.in-Conjunction.is (refl, λ v. refl)

pub returns-in-Disjunction : goal.returns-in-Disjunction
unfolding decisive decision
returns-in-Disjunction c = rw c.in-Disjunction.is (refl, λ v. refl)

pub returns-in_default : goal.returns-in_default
returns-in_default c = λ v. no_other_decides c.args.op v c.in_default.not-Conjunction c.in_default.not-Disjunction
