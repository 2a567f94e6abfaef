-- How the code goes about start, fire and undo: what refuses them before anything is done, the answer to what was done, and what is lent.
use Rattle.std.specs.Prelude.{cond, not, List, ℕ, eqb, ltb, ℤ, length, Result, Ok, Err}
use Rattle.std.proofs.Math.Option.{Option, some, none}
use Rattle.results.specs.Results.{answered}
use Rattle.results.specs.declared.refusal.Refusal.{Refusal}
use Rattle.results.specs.Refusals.{number_of}
use Rattle.semantics.specs.Firing.{Firing}
use Rattle.semantics.specs.Meanings.{Meaning}
use Rattle.standing.specs.Runs.{Run, Answer, Done}
use Rattle.standing.specs.Runs.Answer.{refused, done}
use Rattle.standing.specs.Holding.{too_short, too_few, holds}
use Rattle.replaying.specs.declared.Move.{Move}
use Rattle.replaying.specs.declared.Move.TheVariants.{Start, Fire, Undo}
use Rattle.replaying.specs.Replays.{is_fired}
use Rattle.steps.specs.Calls.{answer_of}

-- 11, 20, 21 for fire, 20, 22 for undo
unfoldable pub refused_by : Meaning → Move → Run → Option ℕ
refused_by m Start r = none
refused_by m (Fire t) r =
    cond (not (ltb t m.transitions)) (some 11)
    (cond (not (holds m r)) (some 20)
    (cond (eqb r.count (length r.history)) (some 21) none))
refused_by m Undo r = cond (not (holds m r)) (some 20) (cond (eqb r.count 0) (some 22) none)

-- 9, 10, then these
unfoldable pub refused_before : Meaning → Move → Run → Option ℕ
refused_before m s r = cond (too_short m r.values) (some 9) (cond (too_few m r.marks) (some 10) (refused_by m s r))

-- 20, then this number where n is at this end of the history
abbrev pub refused_at : Meaning → ℕ → ℕ → Run → Option ℕ
refused_at m end k r = cond (not (holds m r)) (some 20) (cond (eqb r.count end) (some k) none)

-- the code's outcome of the tests
unfoldable pub tested : Result (Unit {0}) Refusal → Option ℕ
tested (Err r) = some (number_of r)
tested (Ok u) = none

-- the answer to what was fired last
unfoldable pub answer_to : Move → Firing → Answer
answer_to Start f = answer_of f
answer_to (Fire t) f = answer_of f
answer_to Undo f = cond (is_fired f) done (refused 31)

-- the values and the marks, which the code is lent of a run to change
abbrev pub Cells : Type 0
Cells = List ℤ × List ℕ

-- the answer of a call, with the values and the marks that it leaves
abbrev pub cells_left : Done Run → Done Cells
cells_left d = answered d.answer (d.left.values, d.left.marks)
