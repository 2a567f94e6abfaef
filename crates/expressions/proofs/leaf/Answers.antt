-- An expression without children: a variable's cell, or the parameter.
use native.Mathlib.Omega.{arith}
use Rattle.expressions.specs.Cells.{valuation_of}
use Rattle.expressions.proofs.Evaluating.{expression_within, variable_given, value_given}
use Rattle.expressions.proofs.leaf.Goals as goal

pub offset_bounds-parameters-at : goal.offset_bounds-parameters-at
offset_bounds-parameters-at c = omega (arith, expression_within c.args.kinds.now c.args.parameters.now c.requires.0.expression c.args.at c.requires.0.stands)

pub bounds-parameters-at : goal.bounds-parameters-at
bounds-parameters-at c = (expression_within c.args.kinds.now c.args.parameters.now c.requires.0.expression c.args.at c.requires.0.stands).1

pub overflow_add-next : goal.overflow_add-next
overflow_add-next c = omega (arith, expression_within c.args.kinds.now c.args.parameters.now c.requires.0.expression c.args.at c.requires.0.stands)

pub bounds-kinds-at : goal.bounds-kinds-at
bounds-kinds-at c = (expression_within c.args.kinds.now c.args.parameters.now c.requires.0.expression c.args.at c.requires.0.stands).0

pub returns-then-kinds-at-eq-VARIABLE : goal.returns-then-kinds-at-eq-VARIABLE
returns-then-kinds-at-eq-VARIABLE c = λ e h.
    variable_given c.args.kinds.now c.args.parameters.now (valuation_of c.args.cells.now) c.args.at (omega arith) e h c.if-kinds-at-eq-VARIABLE.true c.magnitude.ensures c.variable.ensures

pub returns : goal.returns
returns c = λ e h.
    value_given c.args.kinds.now c.args.parameters.now (valuation_of c.args.cells.now) c.args.at (omega arith) e h c.requires.1 c.if-kinds-at-eq-VARIABLE.false
