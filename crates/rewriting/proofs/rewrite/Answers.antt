-- The old check's refusal, or the new file.
use mathlib.Core.Path.{sym, ◌∙◌}
use Rattle.std.proofs.Common.{rules}
use Rattle.std.proofs.lemmas.Result.{err_from_is_err_and}
use Rattle.rewriting.proofs.Writing.{refused_rewritten, whole_rewritten}
use Rattle.rewriting.proofs.rewrite.Goals as goal

pub returns-in_err-sizes : goal.returns-in_err-sizes
returns-in_err-sizes c =
    let e = err_from_is_err_and c.from_residual.result c.from_residual.ensures.1 in
    rw (e.1, e.2) (refused_rewritten c.args.old.now c.args.out.now _ _ (sym c.check_byte_layout.ensures ∙ c.in_err-sizes.was))

pub returns : goal.returns
returns c =
    whole_rewritten c.args.old.now c.in_ok-sizes.sizes (sym c.check_byte_layout.ensures ∙ c.in_ok-sizes.was) c.args.out.now c.if-out-length.false
    c.new-file.ensures.begun c.put_header.ensures.put c.put.ensures.put (search rules)
