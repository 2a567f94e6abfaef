-- The rows of specs/MannerRows.antt.
use mathlib.Core.Path.{refl}
use Rattle.evaluation.specs.Numbers.{eq_z, checked}
use Rattle.evaluation.specs.Meaning.{operated, decides, decisive, decision, is_unknown, same_manner, failed_in, number, calculated, divided, agree, chosen}
use Rattle.expressions.specs.Expressions.{evaluate, evaluation_of}
use Rattle.interpreter.specs.Instructions.{assigned, under, effects, effects_of_all, any, is_failure, is_within, is_outside, differs, given_by, conflicts_with, fault_of, first_of, given_to, guard_number, fault_number}
use Rattle.semantics.specs.Actions.{value_or0, cells, acted_by, act}
use Rattle.semantics.specs.Propagation.{is_known, is_new, round_by, rounds, finished_by, finish, settled_from, settle, first_value}
use Rattle.semantics.specs.Meanings.{guard_in, action_in, meaning_of}
use Rattle.semantics.specs.Firing.{left_by_settling, left_by_acting, left_by_guard, fired, begun}
use Rattle.standing.specs.Holding.{first_outside}
use Rattle.marking.specs.Marks.{mark_of, marks_from}
use Rattle.replaying.specs.Replays.{go_on, refire, replay}
use Rattle.steps.specs.Calls.{answer_of, start, fire, undone_by, undo}
use Rattle.run.specs.MannerRows.{MannerRows}

pub manner_rows : MannerRows
unfolding evaluate evaluation_of assigned under effects effects_of_all any is_failure is_within is_outside differs given_by conflicts_with fault_of first_of given_to guard_number fault_number value_or0 cells eq_z operated decides decisive decision is_unknown same_manner failed_in number calculated divided checked agree chosen is_known is_new round_by rounds finished_by finish settled_from settle first_value meaning_of left_by_settling answer_of acted_by act guard_in action_in left_by_acting left_by_guard fired first_outside mark_of marks_from fire begun start undo undone_by replay refire go_on
manner_rows = (
  (refl, refl, refl, refl),
  (refl, refl, refl, refl, refl, refl),
  (refl, refl, refl, refl, refl),
  (refl, refl, refl, refl, refl, refl, refl, refl, refl, refl, refl, refl),
  (refl, refl, refl, refl, refl, refl, refl, refl, refl, refl, refl, refl),
  (refl, refl, refl),
  (refl, refl, refl),
  (refl, refl),
  (refl, refl),
  (refl, refl, refl, refl),
)
