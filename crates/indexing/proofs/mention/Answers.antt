-- A node becomes the first mention of its variable.
use mathlib.Core.Path.{sym, ◌∙◌}
use native.Mathlib.Omega.{arith}
use borrow.Author.Tests.{eqb-true}
use Rattle.indexing.proofs.Linking.{linked_unknown, linked_here}
use Rattle.indexing.proofs.mention.Goals as goal

pub returns-in_default : goal.returns-in_default
returns-in_default c =
    λ k. linked_unknown c.args.tree.now.kinds.now c.args.tree.now.parameters.now c.args.at c.args.heads.now c.args.mentions.now k (omega arith) c.magnitude-variable.ensures (omega (arith, c.in_default.ensures))

pub returns : goal.returns
returns c =
    let found = c.in-Some.ensures.lookup.3 in
    λ k. rw (found.1 0) (linked_here c.args.tree.now.kinds.now c.args.tree.now.parameters.now c.args.at c.args.heads.now c.args.mentions.now k (omega arith) c.magnitude-variable.ensures (eqb-true _ 34 (sym c.stands_for.ensures ∙ c.if-not-stands_for.false)) found.0 c.requires.2 (omega (arith, c.requires.0, c.requires.2)))
