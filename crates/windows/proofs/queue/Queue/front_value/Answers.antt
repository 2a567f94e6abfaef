-- The value at the first place, where there is one.
use mathlib.Core.Path.{ap, ◌∙◌}
use Prim.Native.Nat.{◌-◌}
use native.Mathlib.Omega.{arith}
use mir.Syntax.{w32}
use mir.Val.{SFits}
use mir.ValLaws.{to_z-of_z}
use Rattle.std.specs.Prelude.{get_or, Some}
use Rattle.std.proofs.Common.{rules}
use Rattle.windows.specs.Lent.{blank}
use Rattle.windows.proofs.Queues.{front_there, front_missing}
use Rattle.windows.proofs.queue.Queue.front_value.Goals as goal

pub returns-then-self : goal.returns-then-self
returns-then-self c =
    let q = c.args.self.now in
    let kept : SFits w32 (get_or q.entries q.first blank).value = search rules in
    ap Some (to_z-of_z w32 (get_or q.entries q.first blank).value kept)
    ∙ front_there q.entries q.first (q.entered - q.departed) (omega (arith, c.if-self.true))

pub returns-else-self : goal.returns-else-self
returns-else-self c = front_missing c.args.self.now.entries c.args.self.now.first _ (omega (arith, c.if-self.false))
