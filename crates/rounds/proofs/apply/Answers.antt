-- `apply` meets its contract.
use native.Mathlib.Omega.{arith}
use mathlib.Core.List.{List}
use lib.ListN.{length, take, drop}
use Prim.Native.Nat.{ℕ, ◌-◌, ◌<◌}
use mathlib.Core.Path.{refl}
use Rattle.rounds.proofs.Visiting.{part_pending, part_queued, applied_one, applied_all}
use Rattle.rounds.proofs.apply.Goals as goal

pub loop-flow-init : goal.loop-flow-init
loop-flow-init c = part_pending c.args.gathering.now.queue.now c.args.done c.args.gathering.now.queued c.requires.2 c.args.cells.now c.args.gathering.now.given.now c.requires.0

pub loop-flow-preserved : goal.loop-flow-preserved
loop-flow-preserved c =
    let g = c.args.gathering.now in
    let part : List ℕ = take (g.queued - c.args.done) (drop c.args.done g.queue.now) in
    let k = c.loop-flow.flow-index in
    let within : k < length part = omega (arith, c.loop-flow-test.true) in
    rw (c.from-x.ensures)
    (applied_one part (length part) g.given.now c.loop-flow.cells k (omega arith) c.loop-flow.invariant within ((part_queued g.queue.now c.args.done g.queued c.requires.2 c.requires.1).1 k within) refl)

pub returns : goal.returns
returns c =
    let g = c.args.gathering.now in
    let part : List ℕ = take (g.queued - c.args.done) (drop c.args.done g.queue.now) in
    applied_all part (length part) g.given.now c.loop-flow.cells c.loop-flow.flow-index (omega arith) c.loop-flow.invariant (omega (arith, c.loop-flow-test.false))
