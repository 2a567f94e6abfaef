-- The parameter of an instruction, by its kind.
use native.Mathlib.Omega.{arith}
use Rattle.std.proofs.Common.{rules}
use Rattle.kinds.specs.declared.kind.Kind.TheVariants as kind
use Rattle.kinds.proofs.Bytes.{other_kind, no_kind}
use Rattle.syntax.specs.Readings.{instruction_fits}
use Rattle.syntax.proofs.Parameters.{is_zero}
use Rattle.syntax.proofs.Node.fits_instruction.Goals as goal
use Rattle.syntax.proofs.Node.fits_instruction.Goals.{in_default-via-in-Ok+in_default, in_default-via-in_default}

pub returns-in_default : goal.returns-in_default
unfolding instruction_fits
returns-in_default c = elim c.in_default.branch [
  | in_default-via-in-Ok+in_default w ↦
      let differs = other_kind _ _ _ c.try_from.ensures w.in_default.is in
      rw (differs kind.Assignment (search rules), differs kind.Block (search rules)) (is_zero (record { sfits = omega arith }))
  | in_default-via-in_default w ↦
      let differs = no_kind _ _ _ c.try_from.ensures w.in_default.is in
      rw (differs kind.Assignment, differs kind.Block) (is_zero (record { sfits = omega arith }))
]
