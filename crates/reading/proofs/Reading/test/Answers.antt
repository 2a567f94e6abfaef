-- An if-then: its mark, and its body, which is due or is skipped.
use mathlib.Core.Path.{sym, ◌∙◌}
use native.Mathlib.Omega.{arith}
use Rattle.expressions.specs.Cells.{valuation_of}
use Rattle.reading.specs.Readings.{held_in}
use Rattle.reading.proofs.Walking.{condition_stands, body_within, tested_true, tested_other}
use Rattle.reading.proofs.Reading.test.Goals as goal

pub evaluate-condition-requires : goal.evaluate-condition-requires
evaluate-condition-requires c = condition_stands c.requires.0

pub returns-then-is_true-clause-walked : goal.returns-then-is_true-clause-walked
returns-then-is_true-clause-walked c =
    let t = c.args.self.now.tables.now in
    λ lows highs. tested_true t.kinds.now t.parameters.now (valuation_of c.args.self.now.cells.now) lows highs c.args.at c.args.self.now.round (held_in c.args.gathering.now) c.evaluate-condition.ensures c.note.ensures.noted (sym c.is_true.ensures ∙ c.if-is_true.true)

pub offset_bounds-tables-body : goal.offset_bounds-tables-body
offset_bounds-tables-body c = omega (arith, body_within c.requires.0 (valuation_of c.args.self.now.cells.now) c.evaluate-condition.ensures)

pub bounds-tables-body : goal.bounds-tables-body
bounds-tables-body c = body_within c.requires.0 (valuation_of c.args.self.now.cells.now) c.evaluate-condition.ensures

pub returns-clause-walked : goal.returns-clause-walked
returns-clause-walked c =
    let t = c.args.self.now.tables.now in
    λ lows highs. rw (c.from.ensures) (tested_other t.kinds.now t.parameters.now (valuation_of c.args.self.now.cells.now) lows highs c.args.at c.args.self.now.round (held_in c.args.gathering.now) c.evaluate-condition.ensures c.note.ensures.noted t.nexts.now c.requires.0.places (sym c.is_true.ensures ∙ c.if-is_true.false))
