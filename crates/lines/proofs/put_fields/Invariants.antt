-- The loop's invariant: the first fields have been written.
use Rattle.std.proofs.Common.{◌≡◌}
use Rattle.tapes.specs.Tapes.{tape_in}
use Rattle.lines.proofs.Taping.{FieldsPut}
use Rattle.lines.proofs.put_fields.Given as goal

abbrev pub invariant-loop-field : goal.invariant-loop-field
invariant-loop-field g l = record {
  put : FieldsPut g.T.Field.text g.T.Field.WIDTH l.fields (tape_in l.initial.tape) (tape_in l.tape) l.field-index;
  same_cells : l.tape.cells.ghost_name ≡ l.initial.tape.cells.ghost_name;
}
