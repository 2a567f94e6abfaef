-- The numbers of what is not fired. Proved in proofs/NumbersApart.antt.
use Rattle.std.specs.Prelude.{◌≡◌, Err}
use Rattle.semantics.specs.declared.NotFired.{NotFired}
use Rattle.standing.specs.Runs.Answer.{refused}
use Rattle.steps.specs.Calls.{answer_of}

-- 02, A8: "Model writers can't tell a division by zero from a number beyond 32 bits." Now the number tells it: a guard that is false, one
-- that failed in either manner, and every fault of an action and of the assertion have numbers of their own, and none has 31, that of an
-- undo.
abbrev pub NumbersApart : Type 0
NumbersApart =
    ((f g : NotFired) → answer_of (Err f) ≡ answer_of (Err g) → f ≡ g)
    × ((f : NotFired) → answer_of (Err f) ≡ refused 31 → ⊥)
