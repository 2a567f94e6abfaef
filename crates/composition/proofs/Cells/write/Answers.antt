-- The nodes before the present one are written, in the end all.
use Rattle.std.proofs.Common.{slice_index_or, pos, rules}
use mir.Syntax.{w32}
use mir.Val.{SFits}
use mir.ValLaws.{to_z-of_z}
use Rattle.kinds.specs.declared.kind.Kind.TheVariants.{BooleanVariable}
use Rattle.kinds.specs.Kinds.{code_of}
use Rattle.composition.specs.declared.Node.{Node}
use Rattle.composition.proofs.Unpacked.{apart_turn}
use Rattle.composition.proofs.Cells.write.Goals as goal

abbrev nothing : Node
nothing = record { kind = BooleanVariable; parameter = pos 0 }

pub loop-i-preserved : goal.loop-i-preserved
loop-i-preserved c =
    let nodes = c.args.nodes.now in
    let lent = c.args.self.now in
    let turn = c.loop-i in
    let more = c.loop-i-test.true in
    let fits : SFits w32 (slice_index_or nodes turn.i nothing).parameter = search rules in
    record {
      kinds = rw c.code.ensures (apart_turn (λ n. code_of n.kind) nodes lent.kinds.now turn.i turn.self.kinds.now turn.invariant.kinds nothing more);
      parameters = rw (to_z-of_z w32 (slice_index_or nodes turn.i nothing).parameter fits) (apart_turn (λ n. n.parameter) nodes lent.parameters.now turn.i turn.self.parameters.now turn.invariant.parameters nothing more);
      same = record { kinds = turn.invariant.same.kinds; parameters = turn.invariant.same.parameters };
    }
