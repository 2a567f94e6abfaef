-- `advance_decoded` meets its contract.
use native.Mathlib.Omega.{arith}
use Rattle.decoding.proofs.Decoded.{decoded_parameters}
use Rattle.interpreter.proofs.Due.{instruction_within}
use Rattle.engine.proofs.Accepted.{loaded_in}
use Rattle.engine.proofs.Loading.{loaded_assertion}
use Rattle.moving.proofs.Parts.{part_length}
use Rattle.loading.proofs.advance_decoded.Goals as goal

pub invariant_of-tree : goal.invariant_of-tree
invariant_of-tree g c = record { whole = decoded_parameters _ _ _ _ _ _ _ (loaded_in c.args.decoded.now).decoded }

pub index-requires : goal.index-requires
index-requires g c =
    let t = c.args.decoded.now.tables in
    let assertion = instruction_within t.kinds.now t.parameters.now _ t.model.assertion (loaded_assertion (loaded_in c.args.decoded.now)) in (
      part_length 0 _ g.row.NODES c.requires.for_nodes,
      part_length 0 _ g.row.NODES c.requires.for_nodes,
      omega (arith, c.requires.for_nodes, c.requires.most_nodes),
      omega (arith, assertion.0),
    )
