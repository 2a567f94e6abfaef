-- Start, fire and undo over the meaning of an accepted model and a run. 01: "Every call goes 1 to 8, 9, 10, 11, 12, 20, 21, 22, 23 up,
-- skipping those foreign to it"; 02, A7: 37 "between 2 and 3". 01: "A refusal answers its number alone; values, record, n and marks keep
-- their content."
use Rattle.std.specs.Prelude.{cond, not, List, ℕ, suc, ◌-◌, eqb, ltb, ℤ, length, take, set, Ok, Err}
use Rattle.std.proofs.Math.Option.{Option, some, none}
use Rattle.interpreter.specs.Instructions.{guard_number, fault_number}
use Rattle.interpreter.specs.Instructions.Place.{action, assertion}
use Rattle.semantics.specs.Firing.{Firing}
use Rattle.semantics.specs.declared.NotFired.TheVariants.{Disabled, GuardFailed, ActionFault, AssertionFault}
use Rattle.semantics.specs.Meanings.{Meaning}
use Rattle.semantics.specs.Firing.{Left, fired, begun}
use Rattle.standing.specs.Runs.{Run, Answer, Done, answered, with_history, with_count}
use Rattle.standing.specs.Runs.Answer.{refused, rounds, done}
use Rattle.standing.specs.Holding.{too_short, too_few, holds}
use Rattle.marking.specs.Marks.{refreshed}
use Rattle.replaying.specs.Replays.{is_fired, initial, replay}
use Rattle.replaying.specs.declared.Move.{Move}
use Rattle.replaying.specs.declared.Move.TheVariants.{Start, Fire, Undo}

-- 23, 24 "guard false, guard failed", 25 to 30, 02's 38 to 40, or the round count
unfoldable pub answer_of : Firing → Answer
answer_of (Err Disabled) = refused 23
answer_of (Err (GuardFailed m)) = refused (guard_number m)
answer_of (Err (ActionFault f)) = refused (fault_number action f)
answer_of (Err (AssertionFault f)) = refused (fault_number assertion f)
answer_of (Ok n) = rounds n

-- the answer of firing, with what is new if it was fired and what was there if it was refused
abbrev pub fired_into : {A : Type 0} → A → A → Firing → Done A
fired_into old new f = answered (answer_of f) (cond (is_fired f) new old)

-- Start: "states initial, then the assertion; n = 0". The history is not lent to it; here it stays. A4: 10 "in every call on a run".
abbrev pub started_by : Meaning → Run → Left → Done Run
started_by m r l = fired_into r (with_count 0 (refreshed m l.left r)) l.answer

unfoldable pub start : Meaning → Run → Done Run
start m r =
    cond (too_short m r.values) (answered (refused 9) r)
    (cond (too_few m r.marks) (answered (refused 10) r)
    (started_by m r (begun m (initial m) r.values)))

-- Fire t: "guard, action, assertion, then t at record place n, n one higher". 11 "transition T or above", 21 "fire with n equal to the
-- record's length".
abbrev pub fired_by : Meaning → ℕ → Run → Left → Done Run
fired_by m t r l =
    fired_into r (with_count (suc r.count) (with_history (set r.history r.count t) (refreshed m l.left r))) l.answer

unfoldable pub fire : Meaning → ℕ → Run → Done Run
fire m t r =
    cond (too_short m r.values) (answered (refused 9) r)
    (cond (too_few m r.marks) (answered (refused 10) r)
    (cond (not (ltb t m.transitions)) (answered (refused 11) r)
    (cond (not (holds m r)) (answered (refused 20) r)
    (cond (eqb r.count (length r.history)) (answered (refused 21) r)
    (fired_by m t r (fired m t r.values))))))

-- Undo (01: take back): "values become those of start and the first n − 1 recorded transitions fired again; n one lower, the
-- record's bytes stay" (A7's entries). 22 "take back with n = 0", 31 "start is refused, or the first n − 1 entries can't be fired again".
unfoldable pub undone_by : Meaning → Run → Option (List ℤ) → Done Run
undone_by m r none = answered (refused 31) r
undone_by m r (some values) = answered done (with_count (r.count - 1) (refreshed m values r))

unfoldable pub undo : Meaning → Run → Done Run
undo m r =
    cond (too_short m r.values) (answered (refused 9) r)
    (cond (too_few m r.marks) (answered (refused 10) r)
    (cond (not (holds m r)) (answered (refused 20) r)
    (cond (eqb r.count 0) (answered (refused 22) r)
    (undone_by m r (replay m (initial m) (take (r.count - 1) r.history) r.values)))))

-- start, fire or undo
unfoldable pub step_on : Meaning → Move → Run → Done Run
step_on m Start r = start m r
step_on m (Fire t) r = fire m t r
step_on m Undo r = undo m r
