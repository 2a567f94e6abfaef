-- Of each member an if-then node, the guard and the action.
use mathlib.Core.Path.{◌∙◌}
use native.Mathlib.Omega.{arith}
use Rattle.model.specs.Nodes.{nodes_of, nodes_of_expression}
use Rattle.synchronisation.specs.Members.{sheet_in}
use Rattle.synchronisation.proofs.Pieces.{member_in, members_long, member_put, members_put, guarded_nodes, guarded_piece, guarded_step, no_guarded, guarded_put}
use Rattle.synchronisation.proofs.nodes.Sheet.put_guarded_actions.Goals as goal

pub guard_at-requires : goal.guard_at-requires
guard_at-requires c = (member_in c.args.self.now.tables c.args.members.now c.requires.0 c.loop-member.member-index c.loop-member-test.true c.requires.1).stands.below

pub copy_subtree-requires : goal.copy_subtree-requires
copy_subtree-requires c =
    let r = member_in c.args.self.now.tables c.args.members.now c.requires.0 c.loop-member.member-index c.loop-member-test.true c.requires.1 in
    rw (c.guard_at.ensures, (c.put.ensures.same_tables ∙ c.loop-member.invariant.0)) (r.stands.guard_within, (nodes_of_expression r.member.guard, r.stands.guard))

pub action_at-requires : goal.action_at-requires
action_at-requires c =
    let r = member_in c.args.self.now.tables c.args.members.now c.requires.0 c.loop-member.member-index c.loop-member-test.true c.requires.1 in
    (r.stands.below, r.stands.guard_within)

pub copy_subtree-requires-in-loop-member : goal.copy_subtree-requires-in-loop-member
copy_subtree-requires-in-loop-member c =
    let r = member_in c.args.self.now.tables c.args.members.now c.requires.0 c.loop-member.member-index c.loop-member-test.true c.requires.1 in
    rw (c.action_at.ensures, (c.copy_subtree.ensures.same_tables ∙ c.put.ensures.same_tables ∙ c.loop-member.invariant.0)) (r.stands.action_within, (nodes_of r.member.action, r.stands.action))

pub loop-member-preserved : goal.loop-member-preserved
loop-member-preserved c = (
  c.copy_subtree-in-loop-member.ensures.same_tables ∙ c.copy_subtree.ensures.same_tables ∙ c.put.ensures.same_tables ∙ c.loop-member.invariant.0,
  λ ts s.
      let i = c.loop-member.member-index in
      let r = member_in c.args.self.now.tables c.args.members.now ts i c.loop-member-test.true s in
      member_put guarded_nodes guarded_piece guarded_step ts i r.member (sheet_in c.loop-member.self) r.split
      (guarded_put r.member (sheet_in c.loop-member.self) c.put.ensures.nodes
      (c.copy_subtree.ensures.nodes (nodes_of_expression r.member.guard) (rw (c.guard_at.ensures, (c.put.ensures.same_tables ∙ c.loop-member.invariant.0)) r.stands.guard))
      (c.copy_subtree-in-loop-member.ensures.nodes (nodes_of r.member.action) (rw (c.action_at.ensures, (c.copy_subtree.ensures.same_tables ∙ c.put.ensures.same_tables ∙ c.loop-member.invariant.0)) r.stands.action)))
      (c.loop-member.invariant.1 ts s),
)

pub returns-clause-nodes : goal.returns-clause-nodes
returns-clause-nodes c = λ ts s.
    let t = c.args.self.now.tables in
    let long = members_long t.kinds.now t.parameters.now t.nexts.now t.guards.now c.args.members.now ts s in
    members_put guarded_nodes guarded_piece guarded_step ts c.loop-member.member-index (sheet_in c.loop-member.self) no_guarded
    (omega (arith, long, c.loop-member-test.false)) (c.loop-member.invariant.1 ts s)
