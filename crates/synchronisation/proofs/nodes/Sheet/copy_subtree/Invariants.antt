-- The nodes that are left are those that were there at first, on the sheet as it was.
use mathlib.Core.Path.{◌≡◌}
use lib.ListN.{length}
use Rattle.std.specs.Iterator.Adapters.{zip_first, zip_second}
use Rattle.std.specs.Slice.Iter.{iter_rest}
use Rattle.synchronisation.specs.Members.{sheet_in, put_columns}
use Rattle.synchronisation.proofs.nodes.Sheet.copy_subtree.Given as goal

abbrev pub invariant-loop-kind : goal.invariant-loop-kind
invariant-loop-kind l =
    let ks = iter_rest (zip_first l.kind-iterator) in
    let ps = iter_rest (zip_second l.kind-iterator) in
    (length ks ≡ length ps)
    × (put_columns ks ps (sheet_in l.self)
    ≡ put_columns (iter_rest (zip_first l.initial.kind-iterator)) (iter_rest (zip_second l.initial.kind-iterator)) (sheet_in l.initial.self))
    × (l.self.tables ≡ l.initial.self.tables)
