-- One node, by its kind.
use native.Mathlib.Omega.{arith}
use Rattle.std.proofs.Common.{rules}
use Rattle.variables.specs.Rows.{lows_in, highs_in}
use Rattle.expressions.specs.Cells.{valuation_of}
use Rattle.interpreter.proofs.Due.{instruction_within}
use Rattle.reading.specs.Readings.{held_in}
use Rattle.reading.proofs.Walking.{assignment_stands, test_stands, of_assignment, of_test, of_count}
use Rattle.reading.proofs.Reading.step.Goals as goal

pub bounds-tables-at : goal.bounds-tables-at
bounds-tables-at c =
    (instruction_within _ _ _ _ c.requires.0.stands).0

pub assignment-requires : goal.assignment-requires
assignment-requires c =
    let p = c.requires.0 in
    let t = c.args.self.now.tables.now in
    (assignment_stands t.kinds.now t.parameters.now c.args.at p.instruction p.stands p.target_variables p.target_given c.in-17.is, omega (arith, instruction_within t.kinds.now t.parameters.now _ _ p.stands, c.requires.1), c.requires.2, c.requires.3)

pub test-requires : goal.test-requires
test-requires c =
    let p = c.requires.0 in
    let t = c.args.self.now.tables.now in
    (test_stands t.kinds.now t.parameters.now c.args.at t.nexts.now p.instruction p.stands p.places c.in-18.is, omega (arith, instruction_within t.kinds.now t.parameters.now _ _ p.stands, c.requires.1), c.requires.3)

pub bounds-tables-at-in_default : goal.bounds-tables-at-in_default
bounds-tables-at-in_default c =
    (instruction_within _ _ _ _ c.requires.0.stands).1

pub returns-in-17-clause-walked : goal.returns-in-17-clause-walked
returns-in-17-clause-walked c =
    let t = c.args.self.now.tables.now in
    of_assignment t.kinds.now t.parameters.now (valuation_of c.args.self.now.cells.now) c.args.at c.args.self.now.round (lows_in t.variables.now) (highs_in t.variables.now) (held_in c.args.gathering.now) c.in-17.is c.assignment.ensures.walked

pub returns-in-18-clause-walked : goal.returns-in-18-clause-walked
returns-in-18-clause-walked c =
    let t = c.args.self.now.tables.now in
    of_test t.kinds.now t.parameters.now (valuation_of c.args.self.now.cells.now) c.args.at c.args.self.now.round (lows_in t.variables.now) (highs_in t.variables.now) (held_in c.args.gathering.now) c.in-18.is (c.test.ensures.walked (lows_in t.variables.now) (highs_in t.variables.now))

pub returns-in_default-clause-walked : goal.returns-in_default-clause-walked
returns-in_default-clause-walked c =
    let t = c.args.self.now.tables.now in
    of_count t.kinds.now t.parameters.now (valuation_of c.args.self.now.cells.now) c.args.at c.args.self.now.round (lows_in t.variables.now) (highs_in t.variables.now) (held_in c.args.gathering.now) (search rules) (search rules) c.magnitude-arg-1.given c.magnitude.ensures
