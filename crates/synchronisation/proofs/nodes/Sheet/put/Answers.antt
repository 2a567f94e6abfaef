-- The kind, and in step the parameter.
use mathlib.Core.Path.{ap, ◌∙◌}
use mir.Syntax.{w32}
use Rattle.std.proofs.lemmas.Int.{to_z-of_z}
use Rattle.kinds.specs.Kinds.{code_of}
use Rattle.tapes.specs.Tapes.{put, tape_in}
use Rattle.synchronisation.specs.Members.{sheet_in}
use Rattle.synchronisation.proofs.Sheets.{node_put}
use Rattle.synchronisation.proofs.nodes.Sheet.put.Goals as goal

pub returns-clause-nodes : goal.returns-clause-nodes
returns-clause-nodes c =
    let given = c.args in
    node_put (code_of given.kind) given.parameter (sheet_in given.self.now)
    (c.put_one.ensures.put ∙ ap (λ k. put k (tape_in given.self.now.kinds)) c.code.ensures) (c.put_one-2.ensures.put ∙ ap (λ p. put p (tape_in given.self.now.parameters)) (to_z-of_z w32 given.parameter c.ranges.parameter))
