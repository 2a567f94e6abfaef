-- The loop over what is due.
use mathlib.Core.Path.{sym, subst, ◌∙◌}
use native.Mathlib.Omega.{arith}
use Rattle.variables.specs.Rows.{lows_in, highs_in}
use Rattle.expressions.specs.Cells.{valuation_of}
use Rattle.interpreter.specs.Cells.{TargetsBelow}
use Rattle.reading.proofs.Cells.{same_cells, same_then}
use Rattle.reading.proofs.Remaining.{all_left, due_within, none_left, next_stands, step_left}
use Rattle.reading.proofs.Reading.gather.Goals as goal

pub loop-due-init : goal.loop-due-init
loop-due-init c =
    let r = c.args.self.now in
    let t = r.tables.now in
    (same_cells c.args.gathering.now, c.requires.3, λ i. all_left t.kinds.now t.parameters.now (valuation_of r.cells.now) (lows_in t.variables.now) (highs_in t.variables.now) r.round)

pub step-done-requires : goal.step-done-requires
step-done-requires c =
    let v = c.loop-due.invariant in
    let p = c.requires.0 in (
      next_stands (v.2 p.instruction p.stands) c.loop-due-test.true c.args.self.now.tables.now.nexts.now p.places p.target_variables (subst (λ n. TargetsBelow p.instruction n) (sym v.0.given_length) p.target_given),
      v.0.waits_length ∙ c.requires.1,
      c.requires.2,
      v.1,
    )

pub overflow_add-due : goal.overflow_add-due
overflow_add-due c =
    let p = c.requires.0 in
    let q = step_left (c.loop-due.invariant.2 p.instruction p.stands) c.loop-due-test.true c.step-done.ensures.walked in
    omega (arith, due_within q.0, q.2)

pub loop-due-smaller : goal.loop-due-smaller
loop-due-smaller c =
    let p = c.requires.0 in
    let q = step_left (c.loop-due.invariant.2 p.instruction p.stands) c.loop-due-test.true c.step-done.ensures.walked in
    omega (arith, q.1, q.2)

pub loop-due-preserved : goal.loop-due-preserved
loop-due-preserved c =
    let v = c.loop-due.invariant in
    let e = c.step-done.ensures in
    (same_then v.0 e.same, e.whole, λ i h. (step_left (v.2 i h) c.loop-due-test.true e.walked).0)

pub returns-clause-read : goal.returns-clause-read
returns-clause-read c = λ i h. none_left (c.loop-due.invariant.2 i h) c.loop-due-test.false
