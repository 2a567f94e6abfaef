-- By the check, which keeps the limits.
use mathlib.Core.Path.{◌≡◌, sym, ◌∙◌}
use native.Mathlib.Omega.{arith}
use Rattle.std.proofs.Common.{Ok}
use Rattle.model.specs.Check.{verdict, answer_of}
use Rattle.dialogue.proofs.RunSizes.{refused_dimensions, known_dimensions, few_cells}
use Rattle.dialogue.proofs.exchange.dimensions_of.Goals as goal

pub variables-requires : goal.variables-requires
variables-requires c =
    let accepts : answer_of (verdict c.args.model.now) ≡ Ok c.in-Ok.sizes = sym c.check.ensures ∙ c.in-Ok.is in
    omega (arith, (few_cells c.in-Ok.sizes c.args.model.now accepts).0)

pub returns-in-Err : goal.returns-in-Err
returns-in-Err c =
    let none = c.default.ensures.1 in
    rw (none.0, none.1) record {
      value = refused_dimensions c.args.bytes (verdict c.args.model.now) (sym c.check.ensures ∙ c.in-Err.is);
      variables_le_max_variables = (omega arith, omega arith);
    }

pub returns-in-Ok : goal.returns-in-Ok
returns-in-Ok c =
    let accepts : answer_of (verdict c.args.model.now) ≡ Ok c.in-Ok.sizes = sym c.check.ensures ∙ c.in-Ok.is in
    let few = few_cells c.in-Ok.sizes c.args.model.now accepts in
    rw c.variables.ensures record { value = known_dimensions c.in-Ok.sizes c.args.bytes (verdict c.args.model.now) accepts; variables_le_max_variables = few }
