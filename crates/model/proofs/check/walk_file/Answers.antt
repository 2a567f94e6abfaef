-- As many parameters as nodes, handed on to the walk.
use mathlib.Core.Path.{◌≡◌, subst}
use Prim.Native.Nat.{◌+◌, ◌-◌, ◌*◌, ◌≤◌}
use Rattle.std.proofs.Common.{rules}
use native.Mathlib.Omega.{arith}
use lib.ListN.{length}
use Rattle.model.specs.Check.{parameters_at}
use Rattle.model.proofs.Bytes.{file_length}
use Rattle.model.proofs.check.walk_file.Goals as goal

pub parameters_in-requires : goal.parameters_in-requires
parameters_in-requires g c =
    let all = file_length c.args.layout c.args.model.now c.args.sizes c.requires.read.1 in
    subst (λ k. c.header-header.result + c.args.sizes.nodes + 4 * k ≤ length c.args.model.now) {x = c.args.sizes.nodes} (search rules)
    (omega (arith, c.header-header.ensures, all))

pub returns : goal.returns
returns g c =
    let n = c.args.sizes.nodes in
    let h = c.header-header.result in
    let told : c.parameters_in.new.parameters ≡ parameters_at c.args.model.now (h + n) n =
    subst (λ k. c.parameters_in.new.parameters ≡ parameters_at c.args.model.now (h + n) k) {y = n} (search rules) c.parameters_in.ensures in
    let cut : h + n - h ≡ n = omega arith in
    rw (told, cut, c.header-header.ensures) at c.system.ensures
