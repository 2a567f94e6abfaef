-- Row after row goes by, until too little is left for one.
use mathlib.Core.Path.{◌≡◌, sym, ap, subst, ◌∙◌}
use Prim.Native.Nat.{suc, ◌+◌, ◌-◌, ◌*◌}
use native.Mathlib.Omega.{arith}
use borrow.Rule.Slice.PartMut.{put_mid}
use lib.ListN.{length}
use Rattle.windows.specs.declared.queue.Queue.{Queue}
use Rattle.windows.specs.Lent.{Fits, IsEmpty}
use Rattle.windows.proofs.RowsGone.{Gone, room, counts, gone_on, none_gone, all_written, all_gone}
use Rattle.windows.proofs.slide.Goals as goal

empty_fits : (q : Queue) → IsEmpty q → Fits q
empty_fits q e = record { first = omega (arith, e.first); departed = omega (arith, e.entered, e.departed); room = omega (arith, e.entered) }

pub loop-row-init : goal.loop-row-init
loop-row-init c =
    let begun = c.into_iter-row-iterator.ensures.into_iter_gives in
    let source = c.enumerate-row-items.ensures.source in
    record {
      fits = record { trues = empty_fits _ c.requires.empty.0; values = empty_fits _ c.requires.empty.1 };
      size = ap (λ i. i.iter.size) begun ∙ ap (λ i. i.size) source ∙ c.chunks_exact.ensures.size;
      gone = λ a.
          let count = ap (λ i. i.count) begun ∙ c.enumerate-row-items.ensures.count in
          let rest = ap (λ i. i.iter.rest.now) begun ∙ ap (λ i. i.rest.now) source ∙ c.chunks_exact.ensures.rest in
          subst
          (λ k. Gone c.args.question.now.window a.condition a.number (length c.args.cells.now) c.args.question.now.log.now c.args.figures.now k
          c.into_iter-row-iterator.result.iter.rest.now c.args.sliding.now c.args.figures.now)
          (sym count)
          (subst
          (λ l. Gone c.args.question.now.window a.condition a.number (length c.args.cells.now) c.args.question.now.log.now c.args.figures.now 0 l c.args.sliding.now c.args.figures.now)
          (sym rest)
          (none_gone _ _ _ _ _ _ c.args.sliding.now c.requires.empty.0 c.requires.empty.1));
    }

pub pass-requires-clause-fits : goal.pass-requires-clause-fits
pass-requires-clause-fits c = c.loop-row.invariant.fits

pub pass-requires-clause-room : goal.pass-requires-clause-room
pass-requires-clause-room c =
    let steps = c.in-Some.ensures.steps in
    let a = c.requires.asked in
    let gone = subst (λ k. Gone c.args.question.now.window a.condition a.number (length c.args.cells.now) c.args.question.now.log.now c.args.figures.now k c.loop-row.row-iterator.iter.rest.now c.loop-row.sliding c.loop-row.figures) (sym steps.1) (c.loop-row.invariant.gone a) in
    let size = steps.0.1.1 ∙ c.loop-row.invariant.size in (
      room _ _ _ _ _ _ _ _ _ _ _ _ c.requires.sizes.1 c.requires.sizes.0 c.requires.sizes.2 gone steps.0.1.0 size,
      counts _ _ _ _ _ _ _ _ _ _ _ _ c.requires.sizes.1 c.requires.sizes.0 c.requires.sizes.2 gone steps.0.1.0 size steps.3,
    )

pub figures-requires : goal.figures-requires
figures-requires c = (c.pass.ensures.passed c.requires.asked).fits

pub loop-row-preserved : goal.loop-row-preserved
loop-row-preserved c =
    let steps = c.in-Some.ensures.steps in
    record {
      fits = (c.pass.ensures.passed c.requires.asked).fits;
      size = steps.0.0 ∙ c.loop-row.invariant.size;
      gone = λ a.
          let gone = subst (λ k. Gone c.args.question.now.window a.condition a.number (length c.args.cells.now) c.args.question.now.log.now c.args.figures.now k c.loop-row.row-iterator.iter.rest.now c.loop-row.sliding c.loop-row.figures) (sym steps.1) (c.loop-row.invariant.gone a) in
          let row = c.in-Some.row in
          let next : suc row ≡ c.next.new.self.count = omega (arith, steps.1, steps.2) in
          subst (λ k. Gone c.args.question.now.window a.condition a.number (length c.args.cells.now) c.args.question.now.log.now c.args.figures.now k c.next.new.self.iter.rest.now c.pass.new.sliding
          (put_mid (3 * row) (3 * row + 3 - 3 * row) c.loop-row.figures c.copy_from_slice.new.self)) next
          (gone_on _ _ _ _ _ _ _ _ _ _ _ _ c.requires.sizes.1 c.requires.sizes.0 c.requires.sizes.2 gone steps.0.1.0 (steps.0.1.1 ∙ c.loop-row.invariant.size)
          c.pass.new.sliding (c.pass.ensures.passed a) c.copy_from_slice.new.self (3 * row) (3 * row + 3 - 3 * row) (c.copy_from_slice.ensures.after ∙ c.figures.ensures) (omega arith) (omega arith));
    }

pub returns-clause-figures : goal.returns-clause-figures
returns-clause-figures c = λ a.
    let steps = c.in-None.ensures.steps in
    all_written _ _ _ _ _ _ _ _ _ _ c.requires.sizes.1 (c.loop-row.invariant.gone a) (omega (arith, steps.0.1.0, c.loop-row.invariant.size))

pub returns-clause-gone_by : goal.returns-clause-gone_by
returns-clause-gone_by c = λ a.
    let steps = c.in-None.ensures.steps in
    all_gone _ _ _ _ _ _ _ _ _ _ c.requires.sizes.1 (c.loop-row.invariant.gone a) (omega (arith, steps.0.1.0, c.loop-row.invariant.size)) c.loop-row.invariant.fits
