-- The rows of an accepted model's variables as they were decoded.
use mathlib.Core.Path.{refl, ap}
use lib.ListN.{take}
use Rattle.decoding.proofs.VariablesInUse.{rows_in_use}
use Rattle.inspection.proofs.Asked.{declared_in}
use Rattle.inspection.proofs.declarations.Goals as goal

pub returns : goal.returns
returns g c =
    let given = c.args in
    declared_in given.model.now given.sizes _ (rows_in_use given.model.now _ _ given.sizes c.requires.accepted c.rows_in.ensures)
    c.type_inv.model _ refl (ap (λ n. take n c.rows_in.new.variables) c.variables.ensures)
