-- `decode_variables` meets its contract, put together from what its functions leave.
use mathlib.Core.Path.{ap, ◌∙◌}
use mathlib.Core.List.{◌++◌}
use lib.ListN.{drop, length-append}
use Prim.Native.Nat.{◌+◌}
use native.Mathlib.Omega.{arith}
use lib.Seq.{length-take-le}
use Rattle.model.specs.Sizes.{file_layout}
use Rattle.model.proofs.Encoding.{SizedAs}
use Rattle.model.specs.Check.{parameters_at}
use Rattle.decoding.proofs.Preparing.{answer_sizes, lent_parameters, parameters_front, variables_asked, variables_decoded_lem}
use Rattle.decoding.proofs.decode_variables.Goals as goal

pub parameters_in-requires : goal.parameters_in-requires
parameters_in-requires c =
    let sizes : SizedAs file_layout c.args.file.now.bytes.now c.args.file.now.sizes = answer_sizes _ _ c.args.file.now.accepted in
    rw (length-take-le c.args.file.now.sizes.nodes c.args.parameters.now c.requires.0) (omega (arith, sizes))

pub invariant_of-tree : goal.invariant_of-tree
invariant_of-tree c =
    let sizes : SizedAs file_layout c.args.file.now.bytes.now c.args.file.now.sizes = answer_sizes _ _ c.args.file.now.accepted in
    record { whole = lent_parameters c.args.file.now.bytes.now c.args.file.now.sizes _ c.kinds_of.ensures _ sizes (omega (arith, length-append c.parameters_in.new.parameters (drop c.args.file.now.sizes.nodes c.args.parameters.now), c.parameters_in.auto.parameters, length-take-le c.args.file.now.sizes.nodes c.args.parameters.now c.requires.0)) }

pub read_variables-requires : goal.read_variables-requires
read_variables-requires c =
    let m = c.args.file.now.bytes.now in
    let s = c.args.file.now.sizes in
    let read = c.parameters_in.ensures ∙ ap (parameters_at m (10 + s.nodes)) (length-take-le s.nodes c.args.parameters.now c.requires.0) in
    variables_asked m s _ _ c.kinds_of.ensures (parameters_front m s.nodes _ _ (ap (λ l. l ++ drop s.nodes c.args.parameters.now) read))
    (length-take-le _ c.args.variables.now (rw c.variables.ensures c.requires.1) ∙ c.variables.ensures) c.args.file.now.accepted

pub returns : goal.returns
returns c =
    let m = c.args.file.now.bytes.now in
    let s = c.args.file.now.sizes in
    let read = c.parameters_in.ensures ∙ ap (parameters_at m (10 + s.nodes)) (length-take-le s.nodes c.args.parameters.now c.requires.0) in
    variables_decoded_lem m s _ c.args.parameters.now c.parameters_in.new.parameters c.args.variables.now c.read_variables.new.variables c.read_variables.result
    c.variables.result _ c.kinds_of.ensures read c.variables.ensures (length-take-le _ c.args.variables.now (rw c.variables.ensures c.requires.1)) c.read_variables.ensures
