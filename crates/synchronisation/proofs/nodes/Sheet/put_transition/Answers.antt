-- Event, guard, block, mandatory actions, guarded actions, one after the other.
use mathlib.Core.Path.{◌∙◌}
use lib.IntN.{pos}
use mir.Syntax.{w32}
use mir.ValLaws.{to_z-of_z}
use Prim.Native.Nat.{◌+◌}
use native.Mathlib.Omega.{arith}
use lib.ListN.{length}
use Rattle.synchronisation.specs.Members.{sheet_in}
use Rattle.synchronisation.proofs.Pieces.{members_long}
use Rattle.synchronisation.proofs.NewNodes.{transition_put}
use Rattle.synchronisation.proofs.nodes.Sheet.put_transition.Goals as goal

pub returns-clause-nodes : goal.returns-clause-nodes
returns-clause-nodes c = λ ts os s s'.
    let t = c.args.self.now.tables in
    let ms = c.args.members.now in
    let m = members_long t.kinds.now t.parameters.now t.nexts.now t.guards.now ms.mandatory.now ts s in
    let o = members_long t.kinds.now t.parameters.now t.nexts.now t.guards.now ms.optional.now os s' in
    transition_put t.model.sizes.events ts os (sheet_in c.args.self.now)
    (to_z-of_z w32 (pos t.model.sizes.events) (record { sfits = omega (arith, c.requires.0) }))
    (to_z-of_z w32 (pos (length ms.mandatory.now + length ms.optional.now)) (record { sfits = omega (arith, c.requires.1, c.requires.2) })
    ∙ (λ i. pos (m i + o i)))
    c.put.ensures.nodes (c.put_guard.ensures.nodes ts os (rw c.put.ensures.same_tables s) (rw c.put.ensures.same_tables s')) c.put-2.ensures.nodes
    (c.put_actions.ensures.nodes ts (rw (c.put-2.ensures.same_tables ∙ c.put_guard.ensures.same_tables ∙ c.put.ensures.same_tables) s))
    (c.put_guarded_actions.ensures.nodes os
    (rw (c.put_actions.ensures.same_tables ∙ c.put-2.ensures.same_tables ∙ c.put_guard.ensures.same_tables ∙ c.put.ensures.same_tables) s'))
