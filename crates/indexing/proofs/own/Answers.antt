use native.Mathlib.Omega.{arith}
use lib.ListN.{get_or}
use lib.Seq.{get_or-set_same, get_or-set_other}
use Rattle.indexing.proofs.Owning.{owned_goes, latest_within}
use Rattle.indexing.proofs.own.Goals as goal

pub loop-here-preserved : goal.loop-here-preserved
loop-here-preserved c =
    let l = c.loop-here in
    let r = c.latest-owner.result in
    let e = c.latest-owner.ensures in (
      omega (arith, latest_within c.args.kinds.now c.args.assertion l.here l.owner (λ p. get_or l.owners p 0) l.invariant.1 l.invariant.0 r e.0 e.1 e.2),
      owned_goes c.args.kinds.now c.args.assertion l.here l.owner (λ p. get_or l.owners p 0) l.invariant.1 l.invariant.0 r e.0 e.1 e.2 _
          (get_or-set_same l.owners l.here r 0 (omega (arith, l.auto.owners, c.requires.0, c.loop-here-test.true)))
          (λ p h. get_or-set_other l.owners l.here p r 0 (λ s. omega (arith, h, s))),
    )
