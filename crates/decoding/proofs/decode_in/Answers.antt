-- `decode_in` meets its contract, put together from what its functions leave.
use native.Mathlib.Omega.{arith}
use mathlib.Core.Path.{refl, sym, ◌∙◌}
use mathlib.Core.List.{◌++◌}
use lib.ListN.{drop, length-append, length-drop}
use lib.Seq.{length-take-le}
use Rattle.decoding.specs.Decoding.{arrays}
use Rattle.model.specs.Sizes.{file_layout}
use Rattle.model.proofs.Encoding.{SizedAs}
use Rattle.decoding.proofs.Preparing.{answer_sizes, lent_kinds, lent_parameters, steps_decoded}
use Rattle.decoding.proofs.decode_in.Goals as goal

pub invariant_of-tree : goal.invariant_of-tree
invariant_of-tree c =
    let sizes : SizedAs file_layout c.args.file.now.bytes.now c.args.file.now.sizes = answer_sizes _ _ c.args.file.now.accepted in
    record {
      whole =
          lent_parameters c.args.file.now.bytes.now c.args.file.now.sizes _ c.kinds_of.ensures c.decode_variables-transitions.new.parameters sizes
          (omega (arith, c.requires.for_parameters, c.decode_variables-transitions.auto.parameters));
    }

pub next_places-requires : goal.next_places-requires
next_places-requires c =
    let sizes : SizedAs file_layout c.args.file.now.bytes.now c.args.file.now.sizes = answer_sizes _ _ c.args.file.now.accepted in
    let many = lent_kinds c.args.file.now.bytes.now c.args.file.now.sizes _ c.kinds_of.ensures sizes in
    (omega (arith, sizes, many), length-take-le c.args.file.now.sizes.nodes c.args.nexts.now c.requires.for_nexts ∙ sym many)

pub guard_places-assertion-requires : goal.guard_places-assertion-requires
guard_places-assertion-requires c = (
  c.requires.for_guards,
  omega (arith, c.requires.for_nexts, c.requires.places, c.next_places.auto.nexts, length-append c.next_places.new.nexts (drop c.args.file.now.sizes.nodes c.args.nexts.now), length-take-le c.args.file.now.sizes.nodes c.args.nexts.now c.requires.for_nexts, length-drop c.args.file.now.sizes.nodes c.args.nexts.now),
)

pub returns-clause-decoded : goal.returns-clause-decoded
returns-clause-decoded c =
    let declared = c.decode_variables-transitions in
    let nexts = c.next_places in
    let guards = c.guard_places-assertion in
    steps_decoded c.args.file.now.bytes.now c.args.file.now.sizes _
    (arrays c.args.parameters.now c.args.variables.now c.args.nexts.now c.args.guards.now)
    (arrays declared.new.parameters declared.new.variables (nexts.new.nexts ++ drop c.args.file.now.sizes.nodes c.args.nexts.now) guards.new.guards)
    nexts.new.nexts declared.result guards.result
    (record {
      kinds = c.kinds_of.ensures;
      declared = declared.ensures;
      filling = nexts.ensures;
      nexts = refl;
      long = c.requires.for_nexts;
      guards = guards.ensures;
    })
