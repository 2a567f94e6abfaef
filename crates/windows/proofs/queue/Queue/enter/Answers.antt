-- The entry stands at the place past those that the queue holds.
use mathlib.Core.Path.{◌≡◌, ap, ap₂, ◌∙◌}
use Prim.Native.Nat.{suc, ◌<◌, ◌+◌, ◌-◌}
use native.Mathlib.Omega.{arith}
use lib.ListN.{length, set}
use Rattle.std.proofs.Common.{rules}
use Rattle.windows.specs.Logs.{max_window}
use Rattle.windows.specs.Lent.{ring_from, place_after}
use Rattle.windows.proofs.Rings.{place_below, ring_length, ring_entered}
use Rattle.windows.proofs.queue.Queue.enter.Goals as goal

pub offset_bounds-self-place : goal.offset_bounds-self-place
offset_bounds-self-place c =
    let q = c.args.self.now in
    let below : place_after q.first c.len.result < max_window = place_below q.first c.len.result c.requires.0.first (omega (arith, c.len.ensures, c.requires.1)) in
    omega (arith, c.place-place.ensures, below)

pub bounds-self-place : goal.bounds-self-place
bounds-self-place c =
    let q = c.args.self.now in
    omega (arith, c.place-place.ensures, place_below q.first c.len.result c.requires.0.first (omega (arith, c.len.ensures, c.requires.1)))

pub returns-clause-entered : goal.returns-clause-entered
returns-clause-entered c =
    let q = c.args.self.now in
    let long : length q.entries ≡ max_window = search rules in
    let many = ring_length q.entries q.first (q.entered - q.departed) in
    let place : c.place-place.result ≡ place_after q.first (q.entered - q.departed) = c.place-place.ensures ∙ ap (place_after q.first) (c.len.ensures ∙ many) in
    let n : (q.entered + 1) - q.departed ≡ suc (q.entered - q.departed) = omega (arith, c.requires.0.departed) in
    ap₂ (λ p k. ring_from (set q.entries p c.args.entry) q.first k) place n
    ∙ ring_entered q.entries c.args.entry q.first (q.entered - q.departed) c.requires.0.first (omega (arith, many, c.requires.1)) long

pub returns-clause-fits : goal.returns-clause-fits
returns-clause-fits c =
    let q = c.args.self.now in
    let many = ring_length q.entries q.first (q.entered - q.departed) in
    record {
      first = c.requires.0.first;
      departed = omega (arith, c.requires.0.departed);
      room = omega (arith, many, c.requires.1, c.requires.0.departed);
    }
