-- The parameter of an expression, by its kind.
use native.Mathlib.Omega.{arith}
use Rattle.std.proofs.Common.{rules}
use Rattle.kinds.specs.declared.kind.Kind.TheVariants as kind
use Rattle.kinds.proofs.Bytes.{other_kind, no_kind}
use Rattle.syntax.specs.Readings.{expression_fits}
use Rattle.syntax.proofs.Parameters.{is_zero}
use Rattle.syntax.proofs.Node.fits_expression.Goals as goal
use Rattle.syntax.proofs.Node.fits_expression.Goals.{in_default-via-in-Ok+in_default, in_default-via-in_default}

pub returns-in_default : goal.returns-in_default
unfolding expression_fits
returns-in_default c = elim c.in_default.branch [
  | in_default-via-in-Ok+in_default w ↦
      let differs = other_kind _ _ _ c.try_from.ensures w.in_default.is in
      rw (differs kind.Numeral (search rules), differs kind.Truth (search rules), differs kind.Variable (search rules))
      (is_zero (record { sfits = omega arith }))
  | in_default-via-in_default w ↦
      let differs = no_kind _ _ _ c.try_from.ensures w.in_default.is in
      rw (differs kind.Numeral, differs kind.Truth, differs kind.Variable) (is_zero (record { sfits = omega arith }))
]
