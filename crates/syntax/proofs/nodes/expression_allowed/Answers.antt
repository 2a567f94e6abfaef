-- The place of an expression, and the wanted sort.
use mathlib.Core.Path.{◌≡◌, sym, ap, ◌∙◌}
use mathlib.Core.Bool.{true}
use Rattle.std.proofs.Common.{rules}
use Rattle.std.specs.Prelude.{Option}
use Rattle.kinds.specs.declared.kind.Kind.TheVariants as kind
use Rattle.kinds.specs.declared.Place.TheVariants.{Expression}
use Rattle.kinds.specs.Kinds.{row_of}
use Rattle.kinds.specs.Sameness.{same_sort}
use Rattle.kinds.specs.declared.Row.{Row}
use Rattle.kinds.specs.declared.Sort.{Sort}
use Rattle.kinds.proofs.Bytes.{other_kind, no_kind}
use Rattle.syntax.specs.Readings.{stands_at, expression_allowed}
use Rattle.syntax.proofs.Parameters.{sorts_equal}
use Rattle.syntax.proofs.nodes.expression_allowed.Goals as goal
use Rattle.syntax.proofs.nodes.expression_allowed.Goals.{in_default-via-in-Ok+in_default, in_default-via-in_default}

pub returns-in_default : goal.returns-in_default
unfolding expression_allowed
returns-in_default c =
    let here : stands_at Expression c.args.kind ≡ true = sym c.stands_at.ensures ∙ c.if-not-stands_at.false in
    let row : c.row_of.result.result ≡ (row_of c.args.kind).result = ap (λ (r : Row). r.result) c.row_of.ensures in
    let wanted = c.eq.ensures ∙ (sorts_equal c.row_of.result.result c.args.wanted ∙ ap (λ (o : Option Sort). same_sort o c.args.wanted) row) in
    elim c.in_default.branch [
      | in_default-via-in-Ok+in_default w ↦
          let differs = other_kind _ _ _ c.try_from.ensures w.in_default.is in
          rw (here, differs kind.Variable (search rules), differs kind.Conditional (search rules)) wanted
      | in_default-via-in_default w ↦
          let differs = no_kind _ _ _ c.try_from.ensures w.in_default.is in
          rw (here, differs kind.Variable, differs kind.Conditional) wanted
    ]
