-- The actions that are left are those that were there at first, on the sheet as it was.
use mathlib.Core.Path.{◌≡◌}
use mathlib.Core.List.{List}
use lib.ListN.{drop}
use Rattle.model.specs.Trees.{Transition}
use Rattle.synchronisation.specs.Members.{sheet_in, put_nodes, MembersIn}
use Rattle.synchronisation.proofs.Pieces.{action_nodes}
use Rattle.synchronisation.proofs.nodes.Sheet.put_actions.Given as goal

abbrev pub invariant-loop-member : goal.invariant-loop-member
invariant-loop-member l =
    (l.self.tables ≡ l.initial.self.tables)
    × ((ts : List Transition) → MembersIn l.initial.self.tables l.members ts
    → put_nodes (action_nodes (drop l.member-index ts)) (sheet_in l.self) ≡ put_nodes (action_nodes ts) (sheet_in l.initial.self))
