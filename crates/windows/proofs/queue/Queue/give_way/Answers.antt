-- The last entry leaves, or none that is left does.
use mathlib.Core.Path.{◌≡◌, sym, ap, ◌∙◌}
use mathlib.Core.Bool.{true, false}
use mathlib.Core.List.{[], ◌∷◌, ◌++◌}
use Prim.Native.Nat.{ℕ, suc, ◌<◌, ◌+◌, ◌-◌}
use native.Mathlib.Omega.{arith}
use lib.Signed.{le_z}
use lib.ListN.{length, get_or}
use mir.Syntax.{w32}
use mir.Val.{SFits}
use mir.ValLaws.{to_z-of_z}
use Rattle.std.proofs.Common.{rules, to_z, of_z}
use Rattle.windows.specs.declared.queue.Queue.{Queue}
use Rattle.windows.specs.Logs.{max_window}
use Rattle.windows.specs.Lent.{Fits, held, blank, ring_from, place_after, yielded}
use Rattle.windows.proofs.Orders.{below_not_reached, not_below_reached}
use Rattle.windows.proofs.Rings.{place_below, ring_length, ring_back}
use Rattle.windows.proofs.Queues.{none_yielded, last_leaves, last_stays}
use Rattle.windows.proofs.queue.Queue.give_way.Goals as goal

pub overflow_sub-len : goal.overflow_sub-len
overflow_sub-len c =
    let q = c.loop-self.self in
    omega (arith, c.len.ensures, ring_length q.entries q.first (q.entered - q.departed), c.loop-self-test.true)

pub place-last-requires : goal.place-last-requires
place-last-requires c =
    let q = c.loop-self.self in
    let f : Fits q = c.loop-self.invariant.0 in
    (f.first, omega (arith, c.len.ensures, ring_length q.entries q.first (q.entered - q.departed), f.room, c.loop-self-test.true))

-- the last entry's place
last_below : (q : Queue) (n p : ℕ) → Fits q → q.departed < q.entered → n ≡ length (held q) → p ≡ place_after q.first (n - 1) → p < max_window
last_below q n p f h e i =
    omega (arith, i, place_below q.first (n - 1) f.first (omega (arith, e, ring_length q.entries q.first (q.entered - q.departed), f.room, h)))

pub offset_bounds-self-last : goal.offset_bounds-self-last
offset_bounds-self-last c =
    omega (arith, last_below c.loop-self.self c.len.result c.place-last.result c.loop-self.invariant.0 c.loop-self-test.true c.len.ensures c.place-last.ensures)

pub bounds-self-last : goal.bounds-self-last
bounds-self-last c =
    last_below c.loop-self.self c.len.result c.place-last.result c.loop-self.invariant.0 c.loop-self-test.true c.len.ensures c.place-last.ensures

-- what the queue holds, with its last entry apart
with_last : (q : Queue) (n p : ℕ) → Fits q → q.departed < q.entered → n ≡ length (held q) → p ≡ place_after q.first (n - 1)
    → held q ≡ ring_from q.entries q.first (q.entered - (q.departed + 1)) ++ (get_or q.entries p blank ∷ [])
with_last q n p f h e i =
    let m = q.entered - (q.departed + 1) in
    let many : q.entered - q.departed ≡ suc m = omega (arith, h) in
    let last : n - 1 ≡ m = omega (arith, e, ring_length q.entries q.first (q.entered - q.departed), h) in
    ap (ring_from q.entries q.first) many
    ∙ ring_back q.entries q.first m f.first (omega (arith, f.room, h))
    ∙ ap (λ k. ring_from q.entries q.first m ++ (get_or q.entries k blank ∷ [])) (sym (i ∙ ap (place_after q.first) last))

pub returns-then-value-self-clause-left : goal.returns-then-value-self-clause-left
returns-then-value-self-clause-left c =
    let q = c.loop-self.self in
    let v = c.args.value in
    let last = get_or q.entries c.place-last.result blank in
    let read : to_z w32 (of_z w32 v) ≡ v = to_z-of_z w32 v c.ranges.value in
    let kept : SFits w32 last.value = search rules in
    let stays : le_z last.value v ≡ false = below_not_reached v last.value (rw (← read, ← to_z-of_z w32 last.value kept) c.if-value-self.true) in
    let apart = with_last q c.len.result c.place-last.result c.loop-self.invariant.0 c.loop-self-test.true c.len.ensures c.place-last.ensures in
    apart ∙ sym (last_stays v last _ stays) ∙ ap (yielded v) (sym apart)
    ∙ ap (λ v. yielded v (held q)) (sym read) ∙ c.loop-self.invariant.1 ∙ ap (λ v. yielded v (held c.args.self.now)) read

pub loop-self-preserved : goal.loop-self-preserved
loop-self-preserved c =
    let q = c.loop-self.self in
    let v = c.args.value in
    let last = get_or q.entries c.place-last.result blank in
    let read : to_z w32 (of_z w32 v) ≡ v = to_z-of_z w32 v c.ranges.value in
    let kept : SFits w32 last.value = search rules in
    let leaves : le_z last.value v ≡ true = not_below_reached v last.value (rw (← read, ← to_z-of_z w32 last.value kept) c.if-value-self.false) in
    let apart = with_last q c.len.result c.place-last.result c.loop-self.invariant.0 c.loop-self-test.true c.len.ensures c.place-last.ensures in
    let f : Fits q = c.loop-self.invariant.0 in (
      record { first = f.first; departed = omega (arith, c.loop-self-test.true); room = omega (arith, f.room) },
      ap (λ v. yielded v (ring_from q.entries q.first (q.entered - (q.departed + 1)))) read
          ∙ sym (last_leaves v last _ leaves) ∙ ap (yielded v) (sym apart)
          ∙ ap (λ v. yielded v (held q)) (sym read) ∙ c.loop-self.invariant.1,
      c.loop-self.invariant.2,
    )

pub returns-clause-left : goal.returns-clause-left
returns-clause-left c =
    let q = c.loop-self.self in
    sym (none_yielded q.entries q.first c.args.value (q.entered - q.departed) (omega (arith, c.loop-self-test.false)))
    ∙ ap (λ v. yielded v (held q)) (sym (to_z-of_z w32 c.args.value c.ranges.value))
    ∙ c.loop-self.invariant.1
    ∙ ap (λ v. yielded v (held c.args.self.now)) (to_z-of_z w32 c.args.value c.ranges.value)
