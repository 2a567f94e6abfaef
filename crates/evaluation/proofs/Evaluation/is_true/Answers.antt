-- A value is compared by its bits.
use Rattle.std.proofs.Common.{◌≡◌, sym, rules, arith}
use mir.Syntax.{w32}
use mir.Val.{of_z, SFits}
use Rattle.evaluation.specs.Meaning.{is_true}
use Rattle.evaluation.proofs.Signed.{equal_bits, other_bits, one_fits}
use Rattle.evaluation.proofs.Evaluation.is_true.Goals as goal

pub returns-in-Value-eq1 : goal.returns-in-Value-eq1
unfolding is_true
returns-in-Value-eq1 c =
    let b : of_z w32 c.in-Value-eq1.field-0 ≡ 1 = omega arith in
    rw c.in-Value-eq1.is (sym (equal_bits w32 (record { sfits = omega arith }) one_fits b))

pub returns-in_default : goal.returns-in_default
unfolding is_true
returns-in_default c =
    let f : SFits w32 c.in_default.field-0 = search rules in
    let b : of_z w32 c.in_default.field-0 ≡ 1 → ⊥ = search rules in
    rw c.in_default.is (sym (other_bits w32 f one_fits b))
