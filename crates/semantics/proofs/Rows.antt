-- 01's rows (a) to (l), as one collected list.
use mathlib.Core.Path.{◌≡◌, refl}
use mathlib.Core.Bool.{Bool, true, false}
use lib.Dec.{T}
use lib.Signed.{le_z}
use Rattle.evaluation.specs.Numbers.{eq_z}
use Rattle.evaluation.specs.Meaning.{operated, negated, decides, decisive, decision, is_unknown, same_manner, failed_in, number, calculated, divided}
use Rattle.evaluation.proofs.Laws.{eq_z_refl}
use Rattle.evaluation.proofs.Rows.{row_a, row_b, row_c, row_d, row_e, row_f, row_g}
use Rattle.expressions.specs.Expressions.{evaluate, evaluation_of}
use Rattle.interpreter.specs.Instructions.{assigned, effects, effects_of_all, any, is_failure, is_within, is_outside, differs, given_by, conflicts_with, fault_of, first_of, given_to, fault_number}
use Rattle.semantics.specs.Actions.{value_or0, cells, acted_by, act}
use Rattle.semantics.specs.Propagation.{is_known, is_new, round_by, rounds, finished_by, finish, settled_from, settle, first_value}
use Rattle.semantics.specs.Rows.{RowH, RowI, RowJ, RowK, RowL, Rows}

holds : (t : Bool) → T t → t ≡ true
holds true h = refl
holds false h = absurd h

row_h : RowH
unfolding evaluate evaluation_of assigned effects effects_of_all any is_failure is_within is_outside differs given_by conflicts_with fault_of first_of given_to value_or0 cells acted_by act same_manner
row_h low high a b al ah bl bh = rw (holds (le_z low a) al, holds (le_z a high) ah, holds (le_z low b) bl, holds (le_z b high) bh, eq_z_refl a, eq_z_refl b)

row_i : RowI
unfolding evaluate evaluation_of assigned effects effects_of_all any is_failure is_within is_outside differs given_by conflicts_with fault_of first_of given_to fault_number value_or0 cells acted_by act eq_z same_manner
row_i = (refl, refl, refl)

row_j : RowJ
unfolding evaluate evaluation_of assigned effects effects_of_all any is_failure is_within is_outside differs given_by conflicts_with fault_of first_of given_to fault_number value_or0 cells is_known is_new round_by rounds finished_by finish settled_from settle eq_z first_value same_manner
row_j = (refl, refl, refl)

row_k : RowK
unfolding evaluate evaluation_of assigned effects effects_of_all any is_failure is_within is_outside differs given_by conflicts_with fault_of first_of given_to fault_number value_or0 cells is_known is_new round_by rounds finished_by finish settled_from settle eq_z negated first_value same_manner
row_k = (refl, refl)

row_l : RowL
unfolding evaluate evaluation_of assigned effects effects_of_all any is_failure fault_of fault_number acted_by act eq_z operated decides decisive decision is_unknown same_manner failed_in number calculated divided
row_l = (refl, refl, refl)

pub rows : Rows
rows = (row_a, row_b, row_c, row_d, row_e, row_f, row_g, row_h, row_i, row_j, row_k, row_l)
