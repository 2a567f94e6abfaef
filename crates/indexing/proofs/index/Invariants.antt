-- The mentions from the last node to the first.
use Rattle.std.proofs.Common.{◌≤◌, length}
use Rattle.waiting.specs.Index.{Linked}
use Rattle.indexing.proofs.index.Given as goal

abbrev pub invariant-loop-at : goal.invariant-loop-at
invariant-loop-at l = (l.at ≤ length l.tree.kinds.now) × (l.assertion ≤ l.at) × Linked l.tree.kinds.now l.tree.parameters.now l.at l.heads l.mentions
