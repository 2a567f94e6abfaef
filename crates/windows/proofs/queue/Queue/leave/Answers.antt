-- The oldest entry leaves where it is the row's, and its place is the next one.
use mathlib.Core.Path.{ap, ◌∙◌}
use Prim.Native.Nat.{◌+◌, ◌-◌}
use native.Mathlib.Omega.{arith}
use Rattle.windows.specs.Lent.{ring_from}
use Rattle.windows.proofs.Rings.{place_below}
use Rattle.windows.proofs.Queues.{front_left, front_kept, none_left}
use Rattle.windows.proofs.queue.Queue.leave.Goals as goal
use Rattle.windows.proofs.queue.Queue.leave.Goals.{else-self-via-then-self+else-self-row, else-self-via-else-self}

pub returns-then-self-row-clause-left : goal.returns-then-self-row-clause-left
returns-then-self-row-clause-left c =
    let q = c.args.self.now in
    ap (λ p. ring_from q.entries p (q.entered - (q.departed + 1))) c.place-self.ensures
    ∙ front_left q.entries q.first c.args.row (q.entered - q.departed) (q.entered - (q.departed + 1)) (omega (arith, c.if-self.true)) c.if-self-row.true

pub returns-then-self-row-clause-fits : goal.returns-then-self-row-clause-fits
returns-then-self-row-clause-fits c =
    record {
      first = omega (arith, c.place-self.ensures, place_below c.args.self.now.first 1 c.requires.first (omega arith));
      departed = omega (arith, c.if-self.true);
      room = omega (arith, c.requires.room);
    }

pub returns-else-self-clause-left : goal.returns-else-self-clause-left
returns-else-self-clause-left c =
    elim c.else-self.branch [
      | else-self-via-then-self+else-self-row w ↦ front_kept c.args.self.now.entries c.args.self.now.first c.args.row _ w.if-self-row.false
      | else-self-via-else-self w ↦ none_left c.args.self.now.entries c.args.self.now.first c.args.row _ (omega (arith, w.if-self.false))
    ]
