-- The model's refusal, the condition's or the number's over the sorts that were decoded, or the sizes.
use native.Mathlib.Omega.{arith}
use mathlib.Core.Path.{sym, ◌∙◌}
use Rattle.std.proofs.lemmas.Result.{err_from_is_err_and}
use Rattle.decoding.specs.Outside.{handed_in}
use Rattle.decoding.proofs.InUse.{part_within}
use Rattle.decoding.proofs.VariablesInUse.{sorts_in_use}
use Rattle.windows.proofs.Calling.{model_refused, condition_refused, number_refused, question_checked}
use Rattle.windows.proofs.check_question.Goals as goal

pub variables-requires : goal.variables-requires
variables-requires c =
    let used = sorts_in_use c.args.model.now _ c.sorts_of.new.sorts c.in_ok-sizes.sizes c.sorts_of.result c.sorts_of.ensures c.in_ok-sizes.was in
    omega (arith, used.few)

pub slice_bounds-sorts-end : goal.slice_bounds-sorts-end
slice_bounds-sorts-end c =
    let used = sorts_in_use c.args.model.now _ c.sorts_of.new.sorts c.in_ok-sizes.sizes c.sorts_of.result c.sorts_of.ensures c.in_ok-sizes.was in
    rw c.variables.ensures (part_within _ c.sorts_of.new.sorts used.part)

pub slice_bounds-sorts-end-2 : goal.slice_bounds-sorts-end-2
slice_bounds-sorts-end-2 c =
    let used = sorts_in_use c.args.model.now _ c.sorts_of.new.sorts c.in_ok-sizes.sizes c.sorts_of.result c.sorts_of.ensures c.in_ok-sizes.was in
    rw c.variables.ensures used.part

pub returns-in_err-sizes : goal.returns-in_err-sizes
returns-in_err-sizes c =
    let q = c.args.question.now in
    let e = err_from_is_err_and c.from_residual.result c.from_residual.ensures.1 in
    rw (e.1, e.2) (model_refused c.args.model.now c.sorts_of.new.sorts (handed_in q.condition) (handed_in q.number) _ c.sorts_of.result _ c.sorts_of.ensures c.in_err-sizes.was)

pub returns-in_err-check_over_sorts : goal.returns-in_err-check_over_sorts
returns-in_err-check_over_sorts c =
    let q = c.args.question.now in
    let used = sorts_in_use c.args.model.now _ c.sorts_of.new.sorts c.in_ok-sizes.sizes c.sorts_of.result c.sorts_of.ensures c.in_ok-sizes.was in
    let e = err_from_is_err_and c.from_residual-in_err-check_over_sorts.result c.from_residual-in_err-check_over_sorts.ensures.1 in
    rw (e.1, e.2) (condition_refused c.args.model.now c.sorts_of.new.sorts (handed_in q.condition) (handed_in q.number) c.in_ok-sizes.sizes used
    _ (sym (rw c.variables.ensures at c.check_over_sorts.ensures) ∙ c.in_err-check_over_sorts.was))

pub returns-in_err-check_over_sorts-2 : goal.returns-in_err-check_over_sorts-2
returns-in_err-check_over_sorts-2 c =
    let q = c.args.question.now in
    let used = sorts_in_use c.args.model.now _ c.sorts_of.new.sorts c.in_ok-sizes.sizes c.sorts_of.result c.sorts_of.ensures c.in_ok-sizes.was in
    let e = err_from_is_err_and c.from_residual-in_err-check_over_sorts-2.result c.from_residual-in_err-check_over_sorts-2.ensures.1 in
    rw (e.1, e.2) (number_refused c.args.model.now c.sorts_of.new.sorts (handed_in q.condition) (handed_in q.number) c.in_ok-sizes.sizes used
    _ (sym (rw c.variables.ensures at c.check_over_sorts.ensures) ∙ c.in_ok-check_over_sorts.was)
    _ (sym (rw c.variables.ensures at c.check_over_sorts-2.ensures) ∙ c.in_err-check_over_sorts-2.was))

pub returns : goal.returns
returns c =
    let q = c.args.question.now in
    let used = sorts_in_use c.args.model.now _ c.sorts_of.new.sorts c.in_ok-sizes.sizes c.sorts_of.result c.sorts_of.ensures c.in_ok-sizes.was in
    question_checked c.args.model.now c.sorts_of.new.sorts (handed_in q.condition) (handed_in q.number) c.in_ok-sizes.sizes used
    _ (sym (rw c.variables.ensures at c.check_over_sorts.ensures) ∙ c.in_ok-check_over_sorts.was)
    _ (sym (rw c.variables.ensures at c.check_over_sorts-2.ensures) ∙ c.in_ok-check_over_sorts-2.was)
