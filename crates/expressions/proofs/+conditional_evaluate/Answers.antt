use Prim.Native.Nat.{ℕ, ◌+◌}
use mathlib.Core.Path.{sym, ap, ◌∙◌}
use native.Mathlib.Omega.{arith}
use Rattle.expressions.specs.Cells.{evaluated_as, valuation_of}
use Rattle.expressions.proofs.Evaluating.{Told, expression_within, negation_given, conditional_given, binary_given, decided_given, first_stands_lem, second_stands_lem, branches_stand, then_given, else_given}
use Rattle.expressions.proofs.+conditional_evaluate.Goals.{evaluate-then-kinds-child-lt-NEGATION, evaluate-else-kinds-child-lt-NEGATION, evaluate-then-kinds-place-lt-NEGATION, evaluate-else-kinds-place-lt-NEGATION}
use Rattle.expressions.proofs.+conditional_evaluate.Goals.{evaluate-Else-kind-eq-NEGATION}
use Rattle.expressions.proofs.+conditional_evaluate.Goals as goal

pub conditional-returns-then-is_true : goal.conditional-returns-then-is_true
conditional-returns-then-is_true t c = λ a b h k.
    ap (λ v. evaluated_as v c.passing_over.result.next.at) c.passing_over.ensures.same
    ∙ then_given c.args.kinds.now c.args.parameters.now c.args.cursor.at (valuation_of c.args.cells.now) c.in-Value.is (sym c.is_true.ensures ∙ c.if-is_true.true) c.evaluate-first.ensures c.passing_over.ensures.place a b h k

pub conditional-returns-in-Value : goal.conditional-returns-in-Value
conditional-returns-in-Value t c =
    else_given c.args.kinds.now c.args.parameters.now c.args.cursor.at (valuation_of c.args.cells.now) c.in-Value.is (sym c.is_true.ensures ∙ c.if-is_true.false) c.past.ensures c.evaluate.ensures

pub evaluate-bounds-kinds-at : goal.evaluate-bounds-kinds-at
evaluate-bounds-kinds-at t c =
    (expression_within c.args.kinds.now c.args.parameters.now c.requires.expression c.args.cursor.at c.requires.stands).0

pub evaluate-bounds-kinds-child : goal.evaluate-bounds-kinds-child
evaluate-bounds-kinds-child t c =
    let s = first_stands_lem c.args.kinds.now c.args.parameters.now c.args.cursor.at c.requires.expression c.requires.stands c.if-kind-lt-NEGATION.false in
    (expression_within c.args.kinds.now c.args.parameters.now s.expression _ s.stands).0

pub evaluate-leaf-first-requires : goal.evaluate-leaf-first-requires
evaluate-leaf-first-requires t c =
    (first_stands_lem c.args.kinds.now c.args.parameters.now c.args.cursor.at c.requires.expression c.requires.stands c.if-kind-lt-NEGATION.false, c.if-kinds-child-lt-NEGATION.true)

pub evaluate-evaluate-first-requires : goal.evaluate-evaluate-first-requires
evaluate-evaluate-first-requires t c =
    (omega (arith, expression_within c.args.kinds.now c.args.parameters.now c.requires.expression c.args.cursor.at c.requires.stands), first_stands_lem c.args.kinds.now c.args.parameters.now c.args.cursor.at c.requires.expression c.requires.stands c.if-kind-lt-NEGATION.false)

pub evaluate-returns-then-kind-eq-NEGATION : goal.evaluate-returns-then-kind-eq-NEGATION
evaluate-returns-then-kind-eq-NEGATION t c =
    let first-told : Told c.args.kinds.now c.args.parameters.now (valuation_of c.args.cells.now) c.if-kinds-child-lt-NEGATION.first (c.args.cursor.at + 1) =
    elim c.if-kinds-child-lt-NEGATION.branch [
      | evaluate-then-kinds-child-lt-NEGATION w ↦ λ e s. w.first-is ∙ w.leaf-first.ensures e s
      | evaluate-else-kinds-child-lt-NEGATION w ↦ λ e s. w.first-is ∙ w.evaluate-first.ensures e s
    ] in
    λ e h. negation_given c.args.kinds.now c.args.parameters.now (valuation_of c.args.cells.now) c.args.cursor.at first-told e h c.if-kind-eq-NEGATION.true c.negate.ensures

-- what was told of the first child, past the return of a negation
first_told : (t : ℕ) (c : evaluate-Else-kind-eq-NEGATION t)
    → Told c.args.kinds.now c.args.parameters.now (valuation_of c.args.cells.now) c.if-kinds-child-lt-NEGATION.first (c.args.cursor.at + 1)
first_told t c =
    elim c.if-kinds-child-lt-NEGATION.branch [
      | evaluate-then-kinds-child-lt-NEGATION w ↦ λ e s. w.first-is ∙ w.leaf-first.ensures e s
      | evaluate-else-kinds-child-lt-NEGATION w ↦ λ e s. w.first-is ∙ w.evaluate-first.ensures e s
    ]

pub evaluate-conditional-requires : goal.evaluate-conditional-requires
evaluate-conditional-requires t c =
    let first-told = first_told t (goal.at.evaluate-conditional-requires t c).Else-kind-eq-NEGATION in
    let s = branches_stand c.args.kinds.now c.args.parameters.now c.args.cursor.at (valuation_of c.args.cells.now) first-told c.requires.expression c.requires.stands c.if-kind-eq-CONDITIONAL.true in
    (omega (arith, expression_within c.args.kinds.now c.args.parameters.now c.requires.expression c.args.cursor.at c.requires.stands, s.1), s.0)

pub evaluate-returns-then-kind-eq-CONDITIONAL : goal.evaluate-returns-then-kind-eq-CONDITIONAL
evaluate-returns-then-kind-eq-CONDITIONAL t c =
    let first-told = first_told t (goal.at.evaluate-returns-then-kind-eq-CONDITIONAL t c).Else-kind-eq-NEGATION in
    λ e h. conditional_given c.args.kinds.now c.args.parameters.now (valuation_of c.args.cells.now) c.args.cursor.at first-told e h c.if-kind-eq-CONDITIONAL.true c.conditional.ensures

pub evaluate-passing_over-requires : goal.evaluate-passing_over-requires
evaluate-passing_over-requires t c =
    let first-told = first_told t (goal.at.evaluate-passing_over-requires t c).Else-kind-eq-NEGATION in
    let s = (second_stands_lem c.args.kinds.now c.args.parameters.now c.args.cursor.at (valuation_of c.args.cells.now) first-told c.requires.expression c.requires.stands c.if-kind-lt-NEGATION.false c.if-kind-eq-NEGATION.false c.if-kind-eq-CONDITIONAL.false).0 in
    record { parameters = c.args.parameters.now; standing = s }

pub evaluate-returns-then-decides : goal.evaluate-returns-then-decides
evaluate-returns-then-decides t c =
    let first-told = first_told t (goal.at.evaluate-returns-then-decides t c).Else-kind-eq-NEGATION in
    λ e h.
    ap (λ v. evaluated_as v c.passing_over.result.next.at) c.passing_over.ensures.same
    ∙ decided_given c.args.kinds.now c.args.parameters.now (valuation_of c.args.cells.now) c.args.cursor.at first-told e h c.if-kind-lt-NEGATION.false c.if-kind-eq-NEGATION.false c.if-kind-eq-CONDITIONAL.false c.operator_of-operator.ensures (sym c.decides.ensures ∙ c.if-decides.true) c.passing_over.ensures.place

pub evaluate-bounds-kinds-place : goal.evaluate-bounds-kinds-place
evaluate-bounds-kinds-place t c =
    let first-told = first_told t (goal.at.evaluate-bounds-kinds-place t c).Else-kind-eq-NEGATION in
    let s = (second_stands_lem c.args.kinds.now c.args.parameters.now c.args.cursor.at (valuation_of c.args.cells.now) first-told c.requires.expression c.requires.stands c.if-kind-lt-NEGATION.false c.if-kind-eq-NEGATION.false c.if-kind-eq-CONDITIONAL.false).0 in
    (expression_within c.args.kinds.now c.args.parameters.now s.expression _ s.stands).0

pub evaluate-leaf-second-requires : goal.evaluate-leaf-second-requires
evaluate-leaf-second-requires t c =
    let first-told = first_told t (goal.at.evaluate-leaf-second-requires t c).Else-kind-eq-NEGATION in
    ((second_stands_lem c.args.kinds.now c.args.parameters.now c.args.cursor.at (valuation_of c.args.cells.now) first-told c.requires.expression c.requires.stands c.if-kind-lt-NEGATION.false c.if-kind-eq-NEGATION.false c.if-kind-eq-CONDITIONAL.false).0, c.if-kinds-place-lt-NEGATION.true)

pub evaluate-evaluate-second-requires : goal.evaluate-evaluate-second-requires
evaluate-evaluate-second-requires t c =
    let first-told = first_told t (goal.at.evaluate-evaluate-second-requires t c).Else-kind-eq-NEGATION in
    let s = second_stands_lem c.args.kinds.now c.args.parameters.now c.args.cursor.at (valuation_of c.args.cells.now) first-told c.requires.expression c.requires.stands c.if-kind-lt-NEGATION.false c.if-kind-eq-NEGATION.false c.if-kind-eq-CONDITIONAL.false in
    (omega (arith, expression_within c.args.kinds.now c.args.parameters.now c.requires.expression c.args.cursor.at c.requires.stands, s.1), s.0)

pub evaluate-returns : goal.evaluate-returns
evaluate-returns t c =
    let first-told = first_told t (goal.at.evaluate-returns t c).Else-kind-eq-NEGATION in
    let second-told : Told c.args.kinds.now c.args.parameters.now (valuation_of c.args.cells.now) c.if-kinds-place-lt-NEGATION.second c.if-kinds-child-lt-NEGATION.first.next.at =
    elim c.if-kinds-place-lt-NEGATION.branch [
      | evaluate-then-kinds-place-lt-NEGATION w ↦ λ e s. w.second-is ∙ w.leaf-second.ensures e s
      | evaluate-else-kinds-place-lt-NEGATION w ↦ λ e s. w.second-is ∙ w.evaluate-second.ensures e s
    ] in
    λ e h. binary_given c.args.kinds.now c.args.parameters.now (valuation_of c.args.cells.now) c.args.cursor.at first-told second-told e h c.if-kind-lt-NEGATION.false c.if-kind-eq-NEGATION.false c.if-kind-eq-CONDITIONAL.false c.operator_of-operator.ensures c.operate.ensures
