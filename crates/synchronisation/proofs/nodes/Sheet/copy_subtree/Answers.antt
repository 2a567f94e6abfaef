-- One node after another, or none where nothing has room.
use mathlib.Core.Path.{◌≡◌, sym, ap, ◌∙◌}
use borrow.Author.Rules.{rules}
use borrow.Author.Tests.{leb-true}
use native.Mathlib.Omega.{arith}
use lib.ListN.{length}
use mir.Syntax.{w32}
use mir.ValLaws.{to_z-of_z}
use Rattle.std.specs.Iterator.Adapters.{zip_first, zip_second}
use Rattle.std.specs.List.{between}
use Rattle.std.specs.Slice.Iter.{iter_rest}
use Rattle.std.proofs.lemmas.Iterator.{empty_from_Zip}
use Rattle.synchronisation.specs.Members.{sheet_in, put_columns}
use Rattle.synchronisation.proofs.Sheets.{node_put, nodes_none, part_more, part_all}
use Rattle.synchronisation.proofs.nodes.Sheet.copy_subtree.Goals as goal

pub returns-then-is_full-2-clause-nodes : goal.returns-then-is_full-2-clause-nodes
returns-then-is_full-2-clause-nodes c = λ ns between.
    let s = c.args.self.now in
    nodes_none ns (sheet_in s) (leb-true (length s.kinds.cells.now) s.kinds.at (sym c.is_full.ensures ∙ c.if-is_full.true))
    (leb-true (length s.parameters.cells.now) s.parameters.at (sym c.is_full-then-is_full.ensures ∙ c.if-is_full-2.true))

pub loop-kind-preserved : goal.loop-kind-preserved
loop-kind-preserved c =
    let on = sheet_in c.loop-kind.self in
    let steps = c.in-Some.ensures.steps in (
      omega (arith, ap length steps.0, ap length steps.1, c.loop-kind.invariant.0),
      part_more on steps.0 steps.1 (to_z-of_z w32 c.in-Some.parameter.now (search rules))
          (node_put c.in-Some.kind.now _ on c.put_one.ensures.put c.put_one-in-loop-kind.ensures.put) c.loop-kind.invariant.1,
      c.loop-kind.invariant.2,
    )

pub returns-clause-nodes : goal.returns-clause-nodes
returns-clause-nodes c = λ ns b.
    let t = c.args.self.now.tables in
    let ks : iter_rest (zip_first c.into_iter-kind-iterator.result) ≡ between c.args.place c.from-past.result t.kinds.now = search rules in
    let ps : iter_rest (zip_second c.into_iter-kind-iterator.result) ≡ between c.args.place c.from-past.result t.parameters.now = search rules in
    let spent = empty_from_Zip _ c.next.new.self _ c.in-None.is c.next.ensures.steps c.loop-kind.invariant.0 in
    part_all ns c.args.place c.from-past.result (rw c.from-past.ensures b) (sheet_in c.args.self.now) spent.0 spent.1
    (c.loop-kind.invariant.1 ∙ (λ i. put_columns (ks i) (ps i) (sheet_in c.args.self.now)))
