-- The cells are as many as the model's room, or as any model has.
use native.Mathlib.Omega.{arith}
use mathlib.Core.Path.{◌≡◌, sym, ◌∙◌}
use Rattle.std.specs.Prelude.{Ok}
use Rattle.model.specs.Sizes.{sized}
use Rattle.model.proofs.Bytes.{file_few, file_variables, few_sizes, many_sizes}
use Rattle.model.proofs.check.check_by.Goals as goal

pub room-requires : goal.room-requires
room-requires c =
    let read : sized c.args.layout c.args.model.now ≡ Ok c.in_ok-sizes.sizes = sym c.read_sizes.ensures ∙ c.in_ok-sizes.was in
    omega (arith, file_variables _ _ _ read, c.requires)

pub walk_file-requires-clause-room : goal.walk_file-requires-clause-room
walk_file-requires-clause-room c =
    let few = few_sizes c.in_ok-sizes.sizes (sym c.room.ensures ∙ c.in-Few.is) in
    (omega (arith, few), omega (arith, few), omega arith, omega arith)

pub walk_file-requires-in-Many-clause-room : goal.walk_file-requires-in-Many-clause-room
walk_file-requires-in-Many-clause-room c =
    let many = many_sizes c.in_ok-sizes.sizes (sym c.room.ensures ∙ c.in-Many.is) in
    (omega (arith, many), omega (arith, many), omega arith, omega arith)

pub walk_file-requires-in-Most-clause-room : goal.walk_file-requires-in-Most-clause-room
walk_file-requires-in-Most-clause-room c =
    let read : sized c.args.layout c.args.model.now ≡ Ok c.in_ok-sizes.sizes = sym c.read_sizes.ensures ∙ c.in_ok-sizes.was in
    (omega (arith, file_few _ _ _ read, c.requires), omega (arith, file_variables _ _ _ read, c.requires), omega arith, omega arith)
