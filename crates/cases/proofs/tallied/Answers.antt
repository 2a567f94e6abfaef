-- One case more is counted.
use Rattle.std.proofs.Common.{Ok, refl, ap, ◌∙◌}
use denote.Param.Always.{mut_next}
use Rattle.cases.proofs.Counting.{one_more}
use Rattle.cases.proofs.tallied.Goals as goal

pub loop-preserved : goal.loop-preserved
loop-preserved g c =
    let e = c.in_ok-is_same.was ∙ ap Ok c.in-Some.is in (
      mut_next g.F.FnMut c.loop.next tt c.next.result c.next.new.self c.next.new.self c.next.ensures refl c.loop.invariant.0,
      one_more _ c.in-Some.is_same c.loop.invariant.1 (rw e at c.next.ensures) c.counted-tally.ensures,
    )
