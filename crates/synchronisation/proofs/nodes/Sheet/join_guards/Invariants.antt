-- The guards that are left are those that were there at first, on the sheet as it was.
use mathlib.Core.Path.{◌≡◌}
use mathlib.Core.List.{List}
use lib.ListN.{drop}
use Rattle.evaluation.specs.declared.Operator.{Operator}
use Rattle.kinds.specs.Kinds.{code_of, kind_of}
use Rattle.model.specs.Trees.{Transition}
use Rattle.synchronisation.specs.Members.{sheet_in, put_nodes, MembersIn}
use Rattle.synchronisation.proofs.Pieces.{guard_nodes}
use Rattle.synchronisation.proofs.nodes.Sheet.join_guards.Given as goal

abbrev pub invariant-loop-member : goal.invariant-loop-member
invariant-loop-member l =
    (l.self.tables ≡ l.initial.self.tables)
    × ((op : Operator) (ts : List Transition) → kind_of op ≡ code_of l.operator → MembersIn l.initial.self.tables l.members ts
    → put_nodes (guard_nodes op (drop l.member-index ts)) (sheet_in l.self) ≡ put_nodes (guard_nodes op ts) (sheet_in l.initial.self))
