-- The refusal of the check, or the report by the room that the model needs.
use native.Mathlib.Omega.{arith}
use mathlib.Core.Path.{sym, ◌∙◌}
use Rattle.std.proofs.lemmas.Result.{err_from_is_err_and}
use Rattle.decoding.specs.Outside.{handed_in}
use Rattle.model.specs.Check.{verdict}
use Rattle.decoding.proofs.Preparing.{answer_sizes}
use Rattle.decoding.proofs.Sizing.{enough_few, enough_many, enough_most}
use Rattle.windows.proofs.Calling.{not_posed, question_accepted, question_asked, question_reported}
use Rattle.windows.proofs.report.Goals as goal

pub returns-in_err-sizes : goal.returns-in_err-sizes
returns-in_err-sizes c =
    let q = c.args.question.now in
    let e = err_from_is_err_and c.from_residual.result c.from_residual.ensures.1 in
    rw (e.1, e.2) (not_posed (handed_in q.condition) (handed_in q.number) q.window q.log.now c.args.figures.now (verdict c.args.model.now) _
    (sym c.check_question.ensures ∙ c.in_err-sizes.was))

pub room-requires : goal.room-requires
room-requires c =
    let is = question_accepted c.args.model.now c.in_ok-sizes.sizes c.args.question.now (sym c.check_question.ensures ∙ c.in_ok-sizes.was) in
    let sizes = answer_sizes c.args.model.now c.in_ok-sizes.sizes is in
    omega (arith, sizes.variables)

pub report_in-requires : goal.report_in-requires
report_in-requires c =
    let checked = sym c.check_question.ensures ∙ c.in_ok-sizes.was in
    let is = question_accepted c.args.model.now c.in_ok-sizes.sizes c.args.question.now checked in
    record { accepted = is; room = (enough_few c.args.model.now c.in_ok-sizes.sizes is (sym c.room.ensures ∙ c.in-Few.is)).0; asked = question_asked c.args.model.now c.in_ok-sizes.sizes _ checked }

pub report_in-requires-in-Many : goal.report_in-requires-in-Many
report_in-requires-in-Many c =
    let checked = sym c.check_question.ensures ∙ c.in_ok-sizes.was in
    let is = question_accepted c.args.model.now c.in_ok-sizes.sizes c.args.question.now checked in
    record { accepted = is; room = (enough_many c.args.model.now c.in_ok-sizes.sizes is (sym c.room.ensures ∙ c.in-Many.is)).0; asked = question_asked c.args.model.now c.in_ok-sizes.sizes _ checked }

pub report_in-requires-in-Most : goal.report_in-requires-in-Most
report_in-requires-in-Most c =
    let checked = sym c.check_question.ensures ∙ c.in_ok-sizes.was in
    let is = question_accepted c.args.model.now c.in_ok-sizes.sizes c.args.question.now checked in
    record { accepted = is; room = (enough_most c.args.model.now c.in_ok-sizes.sizes is).0; asked = question_asked c.args.model.now c.in_ok-sizes.sizes _ checked }

pub returns-in-Few : goal.returns-in-Few
returns-in-Few c =
    question_reported c.args.model.now c.in_ok-sizes.sizes c.args.question.now (sym c.check_question.ensures ∙ c.in_ok-sizes.was) _ _ _ c.report_in.ensures

pub returns-in-Many : goal.returns-in-Many
returns-in-Many c =
    question_reported c.args.model.now c.in_ok-sizes.sizes c.args.question.now (sym c.check_question.ensures ∙ c.in_ok-sizes.was) _ _ _ c.report_in-in-Many.ensures

pub returns-in-Most : goal.returns-in-Most
returns-in-Most c =
    question_reported c.args.model.now c.in_ok-sizes.sizes c.args.question.now (sym c.check_question.ensures ∙ c.in_ok-sizes.was) _ _ _ c.report_in-in-Most.ensures
