-- The cases so far are counted.
use Rattle.std.proofs.Common.{Ok, Some}
use Rattle.cases.specs.Cases.{Tallied}
use Rattle.cases.proofs.tallied.Given as goal

abbrev pub invariant-loop : goal.invariant-loop
invariant-loop g l =
    goal.F-IsAlwaysCallable g l.next × Tallied (λ f is_same f'. goal.F-step g f (Ok (Some is_same)) f') l.fn.next l.next l.tally
