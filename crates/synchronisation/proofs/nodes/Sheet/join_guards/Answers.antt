-- The operator and a guard while more than one is left, then the last guard.
use mathlib.Core.Path.{◌≡◌, sym, ap, ◌∙◌}
use mathlib.Core.List.{[], ◌∷◌}
use Prim.Native.Nat.{suc, ◌-◌, ◌<◌}
use native.Mathlib.Omega.{arith}
use lib.IntN.{pos}
use lib.ListN.{length, drop, length-take}
use lib.Seq.{get_or-take}
use Rattle.model.specs.Nodes.{node, nodes_of_expression}
use Rattle.synchronisation.specs.Members.{sheet_in, put_nodes}
use Rattle.synchronisation.proofs.Pieces.{member_in, members_long, guard_nodes, guard_put, last_guard_put}
use Rattle.synchronisation.proofs.nodes.Sheet.join_guards.Goals as goal

pub guard_at-requires : goal.guard_at-requires
guard_at-requires c =
    let ms = c.args.members.now in
    let i = c.loop-member.member-index in
    let below : i < length ms - 1 = omega (arith, c.loop-member-test.true, length-take (length ms - 1) ms) in
    let r = member_in c.args.self.now.tables ms c.requires.1.0 i (omega (arith, below)) c.requires.1.1 in
    rw (get_or-take (length ms - 1) ms i 0 below) r.stands.below

pub copy_subtree-requires : goal.copy_subtree-requires
copy_subtree-requires c =
    let ms = c.args.members.now in
    let i = c.loop-member.member-index in
    let below : i < length ms - 1 = omega (arith, c.loop-member-test.true, length-take (length ms - 1) ms) in
    let r = member_in c.args.self.now.tables ms c.requires.1.0 i (omega (arith, below)) c.requires.1.1 in
    rw (c.guard_at.ensures, (c.put.ensures.same_tables ∙ c.loop-member.invariant.0), get_or-take (length ms - 1) ms i 0 below) (r.stands.guard_within, (nodes_of_expression r.member.guard, r.stands.guard))

pub loop-member-preserved : goal.loop-member-preserved
loop-member-preserved c = (
  c.copy_subtree.ensures.same_tables ∙ c.put.ensures.same_tables ∙ c.loop-member.invariant.0,
  λ op ts k s.
      let ms = c.args.members.now in
      let on = sheet_in c.loop-member.self in
      let i = c.loop-member.member-index in
      let below : i < length ms - 1 = omega (arith, c.loop-member-test.true, length-take (length ms - 1) ms) in
      let r = member_in c.args.self.now.tables ms ts i (omega (arith, below)) s in
      let q = member_in c.args.self.now.tables ms ts (suc i) (omega (arith, below)) s in
      guard_put op ts i r.member q.member on r.split q.split (c.put.ensures.nodes ∙ ap (λ n. put_nodes (node n (pos 0) ∷ []) on) (sym k))
      (c.copy_subtree.ensures.nodes (nodes_of_expression r.member.guard)
      (rw (c.guard_at.ensures, (c.put.ensures.same_tables ∙ c.loop-member.invariant.0), get_or-take (length ms - 1) ms i 0 below) r.stands.guard))
      (c.loop-member.invariant.1 op ts k s),
)

pub guard_at-requires-2 : goal.guard_at-requires-2
guard_at-requires-2 c =
    let ms = c.args.members.now in
    let below : length ms - 1 < length ms = omega (arith, c.requires.0) in
    (member_in c.args.self.now.tables ms c.requires.1.0 (length ms - 1) below c.requires.1.1).stands.below

pub copy_subtree-requires-2 : goal.copy_subtree-requires-2
copy_subtree-requires-2 c =
    let ms = c.args.members.now in
    let below : length ms - 1 < length ms = omega (arith, c.requires.0) in
    let r = member_in c.args.self.now.tables ms c.requires.1.0 (length ms - 1) below c.requires.1.1 in
    rw (c.guard_at-2.ensures, c.loop-member.invariant.0) (r.stands.guard_within, (nodes_of_expression r.member.guard, r.stands.guard))

pub returns-clause-nodes : goal.returns-clause-nodes
unfolding guard_nodes
returns-clause-nodes c = λ op t ts k s.
    let ms = c.args.members.now in
    let g = c.args.self.now.tables in
    let last = length ms - 1 in
    let on = sheet_in c.loop-member.self in
    let all : last ≡ c.loop-member.member-index = omega (arith, c.loop-member-test.false, c.loop-member.auto.member-index-end, length-take last ms) in
    let long = members_long g.kinds.now g.parameters.now g.nexts.now g.guards.now ms (t ∷ ts) s in
    let below : last < length ms = omega (arith, c.requires.0) in
    let r = member_in g ms (t ∷ ts) last below s in
    last_guard_put op (t ∷ ts) last r.member on r.split (omega (arith, long, below))
    (c.copy_subtree-2.ensures.nodes (nodes_of_expression r.member.guard) (rw (c.guard_at-2.ensures, c.loop-member.invariant.0) r.stands.guard))
    (ap (λ n. put_nodes (guard_nodes op (drop n (t ∷ ts))) on) all ∙ c.loop-member.invariant.1 op (t ∷ ts) k s)
