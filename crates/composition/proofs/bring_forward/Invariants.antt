-- After i turns the first i nodes have moved up, and the next one is carried.
use Rattle.std.specs.Prelude.{◌≡◌, ◌∷◌, take, drop}
use Rattle.composition.proofs.bring_forward.Given as goal

abbrev pub invariant-loop-i : goal.invariant-loop-i
invariant-loop-i l =
    (take l.i l.nodes ≡ take l.i (l.initial.carried ∷ l.initial.nodes)) × (l.carried ∷ drop l.i l.nodes ≡ drop l.i (l.initial.carried ∷ l.initial.nodes))
