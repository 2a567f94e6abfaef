-- 01's rows (a) to (g), and those of 46.
use mathlib.Core.Path.{◌≡◌, refl}
use mathlib.Core.Bool.{true}
use Rattle.evaluation.specs.declared.Evaluation.{Evaluation}
use Rattle.evaluation.specs.declared.Evaluation.TheVariants.{Unknown, Failed, Value}
use Rattle.evaluation.specs.declared.Manner.{Manner}
use Rattle.evaluation.specs.declared.Manner.TheVariants.{ZeroDivisor}
use Rattle.evaluation.specs.Numbers.{checked, eq_z, boolean}
use Rattle.evaluation.specs.Meaning.{operated, decides, decisive, decision, is_unknown, same_manner, failed_in, number, calculated, divided, agree, chosen}
use Rattle.evaluation.specs.Rows.{RowA, RowB, RowC, RowD, RowE, RowF, RowG, KnownConditionRows, UnknownConditionRows, FailedConditionRows, ConditionalRows}
use Rattle.evaluation.proofs.Laws.{eq_z_refl, eq_z_false, unknown_branch}

pub row_a : RowA
unfolding operated decides decisive decision is_unknown same_manner failed_in number calculated eq_z
row_a m = (refl, refl)

pub row_b : RowB
unfolding operated decides decisive decision is_unknown same_manner failed_in number calculated
row_b m = (refl, refl)

pub row_c : RowC
unfolding operated decides decisive decision is_unknown same_manner failed_in number calculated eq_z
row_c = (refl, refl)

pub row_d : RowD
unfolding operated decides decisive decision is_unknown same_manner failed_in number calculated divided checked eq_z
row_d = (refl, refl)

pub row_e : RowE
unfolding operated decides decisive decision is_unknown same_manner failed_in number calculated divided checked eq_z
row_e = (refl, refl)

pub row_f : RowF
unfolding operated decides decisive decision is_unknown same_manner failed_in number calculated divided checked eq_z
row_f = refl

pub row_g : RowG
unfolding operated decides decisive decision is_unknown same_manner failed_in number calculated checked
row_g = (refl, refl)

-- ---- 46

failed_branch : (m : Manner) (a : Evaluation) → chosen Unknown a (Failed m) ≡ Unknown
unfolding chosen agree
failed_branch m Unknown = refl
failed_branch m (Failed n) = refl
failed_branch m (Value v) = refl

known_condition : KnownConditionRows
unfolding chosen
known_condition a b = (rw (eq_z_refl (boolean true)), λ v n. rw (eq_z_false v (boolean true) n))

unknown_condition : UnknownConditionRows
unfolding chosen agree
unknown_condition = (
  λ v. rw (eq_z_refl v),
  λ v w n. rw (eq_z_false v w n),
  λ a. (refl, (unknown_branch ZeroDivisor a).0),
  λ m a. (refl, failed_branch m a),
)

failed_condition : FailedConditionRows
unfolding chosen agree is_unknown
failed_condition m = (
  λ v. rw (eq_z_refl v),
  λ a. (refl, (unknown_branch m a).1),
  λ v w n. rw (eq_z_false v w n),
  λ n v. (refl, refl),
  λ n o. refl,
)

pub conditional_rows : ConditionalRows
conditional_rows = (known_condition, unknown_condition, failed_condition)
