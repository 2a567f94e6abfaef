-- `sorts_of` meets its contract: the check's refusal with nothing changed, or the sorts by the kinds.
use mathlib.Core.Path.{◌≡◌, sym, ◌∙◌}
use native.Mathlib.Omega.{arith}
use lib.ListN.{length}
use lib.Seq.{length-take-le}
use Rattle.std.proofs.Common.{rules}
use Rattle.model.specs.declared.Sizes.{Sizes}
use Rattle.std.specs.Prelude.{Ok}
use Rattle.model.specs.Check.{answer_of, verdict}
use Rattle.std.proofs.lemmas.Result.{err_from_is_err_and}
use Rattle.decoding.proofs.Preparing.{answer_sizes, sorts_asked}
use Rattle.decoding.proofs.VariablesInUse.{sorts_kept, sorts_read}
use Rattle.decoding.proofs.sorts_of.Goals as goal

pub variables-requires : goal.variables-requires
variables-requires c =
    let sizes : Sizes = c.in_ok-sizes.sizes in
    let answer : answer_of (verdict c.args.model.now) ≡ Ok sizes = sym c.check.ensures ∙ c.in_ok-sizes.was in
    let fits = (answer_sizes _ _ answer).variables in
    omega (arith, fits)

pub sorts_in-requires : goal.sorts_in-requires
sorts_in-requires c =
    let sizes : Sizes = c.in_ok-sizes.sizes in
    let answer : answer_of (verdict c.args.model.now) ≡ Ok sizes = sym c.check.ensures ∙ c.in_ok-sizes.was in
    let fits = (answer_sizes _ _ answer).variables in
    let long : length c.args.sorts.now ≡ 4000 = search rules in
    sorts_asked _ sizes _ c.kinds_of-kinds.ensures (length-take-le c.variables.result c.args.sorts.now (omega (arith, fits, c.variables.ensures, long)) ∙ c.variables.ensures) answer

pub returns-in_err-sizes : goal.returns-in_err-sizes
returns-in_err-sizes c =
    let given = c.args in
    let e = err_from_is_err_and c.from_residual.result c.from_residual.ensures.1 in
    rw (e.1, e.2)
    (sorts_kept given.model.now given.sorts.now _ (sym c.check.ensures ∙ c.in_err-sizes.was))

pub returns : goal.returns
returns c =
    let sizes : Sizes = c.in_ok-sizes.sizes in
    let answer : answer_of (verdict c.args.model.now) ≡ Ok sizes = sym c.check.ensures ∙ c.in_ok-sizes.was in
    let fits = (answer_sizes _ _ answer).variables in
    let long : length c.args.sorts.now ≡ 4000 = search rules in
    sorts_read c.args.model.now c.args.sorts.now sizes _ c.sorts_in.new.sorts c.variables.result _ answer c.kinds_of-kinds.ensures c.variables.ensures
    (length-take-le c.variables.result c.args.sorts.now (omega (arith, fits, c.variables.ensures, long))) c.sorts_in.ensures

pub slice_bounds-sorts_in-end : goal.slice_bounds-sorts_in-end
slice_bounds-sorts_in-end c =
    let sizes : Sizes = c.in_ok-sizes.sizes in
    let answer : answer_of (verdict c.args.model.now) ≡ Ok sizes = sym c.check.ensures ∙ c.in_ok-sizes.was in
    let fits = (answer_sizes _ _ answer).variables in
    omega (arith, fits, c.variables.ensures)
