-- An assignment: its mark, its expression's evaluation, and the value given.
use native.Mathlib.Omega.{arith}
use borrow.Enum.Refused.{opened}
use Rattle.variables.specs.Rows.{lows_in, highs_in}
use Rattle.expressions.specs.Cells.{valuation_of}
use Rattle.interpreter.proofs.Due.{instruction_within}
use Rattle.reading.specs.Readings.{held_in}
use Rattle.reading.proofs.Walking.{assigned_stands, target_within, assigned_nothing, assigned_value}
use Rattle.reading.proofs.Reading.assignment.Goals as goal

pub evaluate-assigned-requires : goal.evaluate-assigned-requires
evaluate-assigned-requires c = assigned_stands c.requires.0

pub bounds-tables-at : goal.bounds-tables-at
bounds-tables-at c =
    (instruction_within _ _ _ _ c.requires.0.stands).1

pub give-requires : goal.give-requires
give-requires c =
    let t = target_within c.requires.0 c.magnitude-arg-1.given c.magnitude-variable.ensures in
    (omega (arith, t.0, c.note.ensures.same.given_length), t.1, omega (arith, t.1, c.requires.2), c.note.ensures.whole)

pub returns-in-Value-clause-walked : goal.returns-in-Value-clause-walked
returns-in-Value-clause-walked c =
    let t = c.args.self.now.tables.now in
    assigned_value t.kinds.now t.parameters.now (valuation_of c.args.self.now.cells.now) (lows_in t.variables.now) (highs_in t.variables.now) c.args.at c.args.self.now.round (held_in c.args.gathering.now) c.evaluate-assigned.ensures c.note.ensures.noted c.in-Value.value-1-given c.in-Value.is c.magnitude-arg-1.given c.magnitude-variable.ensures c.give.ensures.given

pub returns-in_default-clause-walked : goal.returns-in_default-clause-walked
returns-in_default-clause-walked c =
    let t = c.args.self.now.tables.now in
    assigned_nothing t.kinds.now t.parameters.now (valuation_of c.args.self.now.cells.now) (lows_in t.variables.now) (highs_in t.variables.now) c.args.at c.args.self.now.round (held_in c.args.gathering.now) c.evaluate-assigned.ensures c.note.ensures.noted (opened c.in_default.in_default-own.keys2)
