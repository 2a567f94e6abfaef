use Rattle.std.proofs.Common.{◌≡◌, ◌∷◌, ◌≤◌, length, subst, ◌∙◌}
use Rattle.tapes.specs.Tapes.{tape_in, put_all}
use Rattle.lines.proofs.Taping.{one_more_put}
use Rattle.lines.proofs.put_fields.Goals as goal

pub loop-field-preserved : goal.loop-field-preserved
loop-field-preserved g c =
    let l = c.loop-field in
    let field = c.field-item in
    let p = subst (λ (x : _). tape_in c.put.new.tape ≡ put_all (32 ∷ g.T.Field.text x) (tape_in l.tape)) field.is c.put.ensures.put in
    let w = subst (λ (x : _). length (32 ∷ g.T.Field.text x) ≤ g.T.Field.WIDTH) field.is c.put.ensures.upper_bound in
    record {
      put = one_more_put g.T.Field.text g.T.Field.WIDTH l.invariant.put field.result c.loop-field-test.true p w;
      same_cells = c.put.ensures.same_cells ∙ l.invariant.same_cells;
    }
