-- The five sizes fit their cells.
use native.Mathlib.Omega.{arith}
use mathlib.Core.Path.{sym, ◌∙◌}
use Rattle.decoding.proofs.Preparing.{answer_fits}
use Rattle.capi.proofs.check_into.Goals as goal

pub overflow_cast-found : goal.overflow_cast-found
overflow_cast-found c =
    record { fits = omega (arith, (answer_fits c.args.model.now c.in_ok-found.found c.shared_slice_known-1.given (sym c.check.ensures ∙ c.in_ok-found.was)).states) }

pub overflow_cast-found-2 : goal.overflow_cast-found-2
overflow_cast-found-2 c =
    record { fits = omega (arith, (answer_fits c.args.model.now c.in_ok-found.found c.shared_slice_known-1.given (sym c.check.ensures ∙ c.in_ok-found.was)).flows) }

pub overflow_cast-found-3 : goal.overflow_cast-found-3
overflow_cast-found-3 c =
    record { fits = omega (arith, (answer_fits c.args.model.now c.in_ok-found.found c.shared_slice_known-1.given (sym c.check.ensures ∙ c.in_ok-found.was)).events) }

pub overflow_cast-found-4 : goal.overflow_cast-found-4
overflow_cast-found-4 c =
    record { fits = omega (arith, (answer_fits c.args.model.now c.in_ok-found.found c.shared_slice_known-1.given (sym c.check.ensures ∙ c.in_ok-found.was)).transitions) }

pub overflow_cast-found-5 : goal.overflow_cast-found-5
overflow_cast-found-5 c =
    record { fits = omega (arith, (answer_fits c.args.model.now c.in_ok-found.found c.shared_slice_known-1.given (sym c.check.ensures ∙ c.in_ok-found.was)).nodes) }
