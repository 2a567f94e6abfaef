-- What firing a transition does to the values of a run, and what starting from given states does, over a meaning.
-- 01: "Fire t: guard, action, assertion". No record is kept here.
use Rattle.std.specs.Prelude.{true, cond, not, ◌||◌, List, ℕ, eqb, ltb, ℤ, length, take, Result, Ok, Err}
use Rattle.evaluation.specs.declared.Evaluation.{Evaluation}
use Rattle.evaluation.specs.declared.Evaluation.TheVariants.{Unknown, Failed, Value}
use Rattle.evaluation.specs.Numbers.{eq_z, boolean}
use Rattle.results.specs.Results.{Answered, answered, over}
use Rattle.semantics.specs.declared.NotFired.{NotFired}
use Rattle.semantics.specs.declared.NotFired.TheVariants.{Disabled, GuardFailed, ActionFault, AssertionFault}
use Rattle.semantics.specs.Actions.{Acted}
use Rattle.semantics.specs.Actions.Acted.{faulty, states}
use Rattle.semantics.specs.Propagation.{Settled}
use Rattle.semantics.specs.Propagation.Settled.{refused, settled}
use Rattle.semantics.specs.Meanings.{Meaning}

-- what firing comes to: the round count, or why nothing was fired
abbrev pub Firing : Type 0
Firing = Result ℕ NotFired

-- an answer with the values as they are left
abbrev pub Left : Type 0
Left = Answered Firing (List ℤ)

unfoldable pub left_by_settling : List ℤ → Settled → Left
left_by_settling old (refused f) = answered (Err (AssertionFault f)) old
left_by_settling old (settled count new) = answered (Ok count) (over new old)

unfoldable pub left_by_acting : Meaning → List ℤ → Acted → Left
left_by_acting m old (faulty f) = answered (Err (ActionFault f)) old
left_by_acting m old (states ss) = left_by_settling old (m.propagate ss)

unfoldable pub left_by_guard : Meaning → ℕ → List ℤ → Evaluation → Left
left_by_guard m t old Unknown = answered (Err Disabled) old
left_by_guard m t old (Failed manner) = answered (Err (GuardFailed manner)) old
left_by_guard m t old (Value v) =
    cond (eq_z v (boolean true)) (left_by_acting m old (m.action t (take (length m.declarations) old))) (answered (Err Disabled) old)

-- guard, action, assertion; nothing happens where the values are too few
unfoldable pub fired : Meaning → ℕ → List ℤ → Left
fired m t old =
    cond (ltb (length old) (length m.declarations)) (answered (Err Disabled) old)
    (left_by_guard m t old (m.guard t (take (length m.declarations) old)))

-- the states take these values, one for each, then the assertion
unfoldable pub begun : Meaning → List ℤ → List ℤ → Left
begun m ss old =
    cond (ltb (length old) (length m.declarations) || not (eqb (length ss) m.states)) (answered (Err Disabled) old)
    (left_by_settling old (m.propagate ss))
