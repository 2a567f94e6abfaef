-- The header's five numbers, the kinds, the parameters, each after the other.
use mathlib.Core.Path.{ap, ◌∙◌}
use borrow.Author.Rules.{rules}
use lib.IntN.{pos}
use lib.ListN.{get_or}
use mir.Syntax.{w32}
use Rattle.std.proofs.lemmas.Int.{to_z-of_z}
use Rattle.model.specs.Nodes.{parameter_bytes}
use Rattle.tapes.specs.Tapes.{tape_in, put_all}
use Rattle.tapes.proofs.Tapes.{pieces_more}
use Rattle.encoding.proofs.put_file.Goals as goal

pub loop-parameter-preserved : goal.loop-parameter-preserved
loop-parameter-preserved c =
    let loop = c.loop-parameter in
    let ps = c.args.tree.now.parameters.now in
    record {
      left =
          pieces_more parameter_bytes ps loop.parameter-index (pos 0) (tape_in loop.tape) c.loop-parameter-test.true
          (c.put_parameter.ensures.put ∙ ap (λ p. put_all (parameter_bytes p) (tape_in loop.tape)) (to_z-of_z w32 (get_or ps loop.parameter-index (pos 0)) (search rules)))
          loop.invariant.left;
      same_cells = c.put_parameter.ensures.same_cells ∙ loop.invariant.same_cells;
    }
