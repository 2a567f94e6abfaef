-- Theorems MarksCopied, MarksOfGuards and FireByGuards.
use mathlib.Core.Path.{◌≡◌, refl}
use mathlib.Core.Bool.{Bool, true, false, cond, not, ◌&&◌}
use borrow.Author.Tests.{le-ltb}
use lib.Dec.{eqb, ltb}
use lib.ListN.{length}
use Rattle.semantics.specs.Firing.{Firing}
use Rattle.semantics.specs.Firing.{fired}
use Rattle.standing.specs.Runs.{Run, Done, with_marks}
use Rattle.std.specs.Prelude.{is_none}
use Rattle.standing.specs.Holding.{too_short, history_holds, first_outside}
use Rattle.marking.proofs.Refreshed.{marks_enough, marks_within_lem}
use Rattle.replaying.specs.Replays.{is_fired}
use Rattle.steps.specs.Calls.{fired_into, fire}
use Rattle.inspection.specs.Queries.{marks, guard_marks}
use Rattle.inspection.specs.Theorems.{MarksCopied, MarksOfGuards, FireByGuards}

pub marks_copied : MarksCopied
unfolding marks
marks_copied m r buffer long room space held = rw (long, room, space, held)

pub marks_of_guards : MarksOfGuards
unfolding marks guard_marks
marks_of_guards m r buffer h = rw (le-ltb (length r.marks) m.transitions (marks_enough m r h), marks_within_lem m r h, h)

-- ---- fire, whatever marks are held

-- the same answer, and the same values
abbrev Alike : Done Run → Done Run → Type 0
Alike d e = (d.answer ≡ e.answer) × (d.left.values ≡ e.left.values)

alike_by : (b : Bool) (x x' y y' : Done Run) → Alike x x' → Alike y y' → Alike (cond b x y) (cond b x' y')
alike_by true x x' y y' p q = p
alike_by false x x' y y' p q = q

alike_fired : (old old' new new' : Run) → old.values ≡ old'.values → new.values ≡ new'.values → (f : Firing)
    → Alike (fired_into old new f) (fired_into old' new' f)
alike_fired old old' new new' p q f = (refl, go (is_fired f))
  where
    go : (b : Bool) → (cond b new old).values ≡ (cond b new' old').values
    go true = q
    go false = p

pub fire_by_guards : FireByGuards
unfolding fire
fire_by_guards m t r held room room' within within' =
    rw (room, room', within, within')
    (alike_by (too_short m r.values) _ _ _ _ (refl, refl)
    (alike_by (not (ltb t m.transitions)) _ _ _ _ (refl, refl)
    (alike_by (not (history_holds m.transitions r.count r.history && is_none (first_outside m.declarations r.values 0))) _ _ _ _ (refl, refl)
    (alike_by (eqb r.count (length r.history)) _ _ _ _ (refl, refl)
    (alike_fired (with_marks held r) r _ _ refl refl (fired m t r.values).answer)))))
