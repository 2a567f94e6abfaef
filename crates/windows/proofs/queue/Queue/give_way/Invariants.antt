-- What is left to be done comes to what it came to at first.
use Rattle.std.proofs.Common.{◌-◌, ◌≡◌}
use Rattle.windows.specs.Lent.{Fits, held, yielded}
use Rattle.windows.proofs.queue.Queue.give_way.Given as goal

abbrev pub invariant-loop-self : goal.invariant-loop-self
invariant-loop-self l =
    Fits l.self × (yielded l.value (held l.self) ≡ yielded l.value (held l.initial.self)) × (l.self.entered ≡ l.initial.self.entered)

abbrev pub decreases-loop-self : goal.decreases-loop-self
decreases-loop-self l = l.self.entered - l.self.departed
