-- The kinds that may stand at each place, one by one.
use mathlib.Core.Path.{◌≡◌, refl, subst}
use mathlib.Core.Bool.{Bool, true, false, false≢true, cond, ◌&&◌, ◌||◌}
use Prim.Native.Nat.{ℕ, zero, suc, ◌+◌, ◌-◌, ◌≤◌, ◌<◌}
use native.Mathlib.Omega.{arith}
use borrow.Author.Tests.{eqb-true, leb-true}
use lib.Dec.{eqb, leb}
use Rattle.evaluation.specs.declared.Operator.{Operator}
use Rattle.evaluation.specs.declared.Operator.TheVariants.{Conjunction, Disjunction, Equality, Less, LessOrEqual, Sum, Difference, Product, Quotient, Remainder, Equivalence}
use Rattle.kinds.specs.declared.Place.{Place}
use Rattle.kinds.specs.declared.Place.TheVariants.{Nowhere, Variable, HighEnd, FirstValue, Transition, Instruction, Expression}
use Rattle.kinds.proofs.Equality.{place_itself, one_place}
use Rattle.kinds.specs.Kinds.{between, place_of, children_of, row_of, kind_of, operator_of}
use Rattle.syntax.specs.Readings.{stands_at}

-- ---- tests joined by `&&` and `||`

pub both : (a b : Bool) → (a && b) ≡ true → (a ≡ true) × (b ≡ true)
both true b e = (refl, e)
both false b e = absurd (false≢true e)

-- ---- the rows of 01's list

pub stands : (place : Place) (k : ℕ) → place_of k ≡ place → stands_at place k ≡ true
unfolding row_of
stands place k e = rw e (place_itself place)

pub standing_place : (place : Place) (k : ℕ) → stands_at place k ≡ true → place_of k ≡ place
unfolding row_of
standing_place place k e = one_place (place_of k) place e

-- ---- the place tells which test held

abbrev place_by : Bool → Bool → Bool → Bool → Bool → Bool → Place
place_by a b c d e f =
    cond a Variable (cond b HighEnd (cond c FirstValue (cond d Transition (cond e Instruction (cond f Expression Nowhere)))))

abbrev test_at : Bool → Bool → Bool → Bool → Bool → Bool → Place → Bool
test_at a b c d e f Nowhere = true
test_at a b c d e f Variable = a
test_at a b c d e f HighEnd = b
test_at a b c d e f FirstValue = c
test_at a b c d e f Transition = d
test_at a b c d e f Instruction = e
test_at a b c d e f Expression = f

tested : (a b c d e f : Bool) → test_at a b c d e f (place_by a b c d e f) ≡ true
tested true b c d e f = refl
tested false true c d e f = refl
tested false false true d e f = refl
tested false false false true e f = refl
tested false false false false true f = refl
tested false false false false false true = refl
tested false false false false false false = refl

place_test : (k : ℕ) (p : Place) → place_of k ≡ p → test_at (eqb k 1 || eqb k 2) (eqb k 3) (eqb k 4) (eqb k 5) (between 16 19 k) (between 32 47 k) p ≡ true
unfolding place_of
place_test k p e =
    subst (λ p. test_at (eqb k 1 || eqb k 2) (eqb k 3) (eqb k 4) (eqb k 5) (between 16 19 k) (between 32 47 k) p ≡ true) e
    (tested (eqb k 1 || eqb k 2) (eqb k 3) (eqb k 4) (eqb k 5) (between 16 19 k) (between 32 47 k))

pub high_kind : (k : ℕ) → place_of k ≡ HighEnd → k ≡ 3
high_kind k e = eqb-true k 3 (place_test k HighEnd e)

pub first_kind : (k : ℕ) → place_of k ≡ FirstValue → k ≡ 4
first_kind k e = eqb-true k 4 (place_test k FirstValue e)

pub transition_kind : (k : ℕ) → place_of k ≡ Transition → k ≡ 5
transition_kind k e = eqb-true k 5 (place_test k Transition e)

pub data VariableKind (k : ℕ) : Type 0 where
  is_boolean : k ≡ 1 → VariableKind k
  is_number : k ≡ 2 → VariableKind k

either : (k : ℕ) (a b : Bool) → eqb k 1 ≡ a → eqb k 2 ≡ b → (a || b) ≡ true → VariableKind k
either k true b e h t = is_boolean (eqb-true k 1 e)
either k false true e h t = is_number (eqb-true k 2 h)
either k false false e h t = absurd (false≢true t)

pub variable_kind : (k : ℕ) → place_of k ≡ Variable → VariableKind k
variable_kind k e = either k (eqb k 1) (eqb k 2) refl refl (place_test k Variable e)

pub data InstructionKind (k : ℕ) : Type 0 where
  is_skip : k ≡ 16 → InstructionKind k
  is_assign : k ≡ 17 → InstructionKind k
  is_if_then : k ≡ 18 → InstructionKind k
  is_block : k ≡ 19 → InstructionKind k

instruction_listed : (k j : ℕ) → k ≡ 16 + j → j < 4 → InstructionKind k
instruction_listed k zero e h = is_skip e
instruction_listed k (suc zero) e h = is_assign e
instruction_listed k (suc (suc zero)) e h = is_if_then e
instruction_listed k (suc (suc (suc zero))) e h = is_block e
instruction_listed k (suc (suc (suc (suc j)))) e h = absurd (omega arith)

-- a number between two ends, by its distance from the low one
pub ends : (low high k : ℕ) → between low high k ≡ true → (k ≡ low + (k - low)) × (k - low < suc (high - low))
ends low high k e =
    let h : low ≤ k = leb-true low k (both (leb low k) (leb k high) e).0 in
    let l : k ≤ high = leb-true k high (both (leb low k) (leb k high) e).1 in
    (omega arith, omega arith)

pub instruction_kind : (k : ℕ) → place_of k ≡ Instruction → InstructionKind k
instruction_kind k e =
    let h = ends 16 19 k (place_test k Instruction e) in instruction_listed k (k - 16) h.0 h.1

pub data ExpressionKind (k : ℕ) : Type 0 where
  is_numeral : k ≡ 32 → ExpressionKind k
  is_truth : k ≡ 33 → ExpressionKind k
  is_variable : k ≡ 34 → ExpressionKind k
  is_negation : k ≡ 35 → ExpressionKind k
  is_binary : (op : Operator) → k ≡ kind_of op → ExpressionKind k
  is_if_then_else : k ≡ 46 → ExpressionKind k

expression_listed : (k j : ℕ) → k ≡ 32 + j → j < 16 → ExpressionKind k
unfolding kind_of
expression_listed k zero e h = is_numeral e
expression_listed k (suc zero) e h = is_truth e
expression_listed k (suc (suc zero)) e h = is_variable e
expression_listed k (suc (suc (suc zero))) e h = is_negation e
expression_listed k (suc (suc (suc (suc zero)))) e h = is_binary Conjunction e
expression_listed k (suc (suc (suc (suc (suc zero))))) e h = is_binary Disjunction e
expression_listed k (suc (suc (suc (suc (suc (suc zero)))))) e h = is_binary Equality e
expression_listed k (suc (suc (suc (suc (suc (suc (suc zero))))))) e h = is_binary Less e
expression_listed k (suc (suc (suc (suc (suc (suc (suc (suc zero)))))))) e h = is_binary LessOrEqual e
expression_listed k (suc (suc (suc (suc (suc (suc (suc (suc (suc zero))))))))) e h = is_binary Sum e
expression_listed k (suc (suc (suc (suc (suc (suc (suc (suc (suc (suc zero)))))))))) e h = is_binary Difference e
expression_listed k (suc (suc (suc (suc (suc (suc (suc (suc (suc (suc (suc zero))))))))))) e h = is_binary Product e
expression_listed k (suc (suc (suc (suc (suc (suc (suc (suc (suc (suc (suc (suc zero)))))))))))) e h = is_binary Quotient e
expression_listed k (suc (suc (suc (suc (suc (suc (suc (suc (suc (suc (suc (suc (suc zero))))))))))))) e h = is_binary Remainder e
expression_listed k (suc (suc (suc (suc (suc (suc (suc (suc (suc (suc (suc (suc (suc (suc zero)))))))))))))) e h = is_if_then_else e
expression_listed k (suc (suc (suc (suc (suc (suc (suc (suc (suc (suc (suc (suc (suc (suc (suc zero))))))))))))))) e h = is_binary Equivalence e
expression_listed k (suc (suc (suc (suc (suc (suc (suc (suc (suc (suc (suc (suc (suc (suc (suc (suc j)))))))))))))))) e h = absurd (omega arith)

pub expression_kind : (k : ℕ) → place_of k ≡ Expression → ExpressionKind k
expression_kind k e =
    let h = ends 32 47 k (place_test k Expression e) in expression_listed k (k - 32) h.0 h.1

-- ---- the row of an operator's kind

pub record OperatorRow (op : Operator) : Type 0 where
  pub place : place_of (kind_of op) ≡ Expression
  pub children : children_of (kind_of op) ≡ 2
  pub operator : operator_of (kind_of op) ≡ op
  -- it is no leaf, and no conditional
  pub no_numeral : eqb (kind_of op) 32 ≡ false
  pub no_truth : eqb (kind_of op) 33 ≡ false
  pub no_variable : eqb (kind_of op) 34 ≡ false
  pub no_conditional : eqb (kind_of op) 46 ≡ false

pub operator_row : (op : Operator) → OperatorRow op
unfolding place_of children_of operator_of kind_of
operator_row Conjunction = record { place = refl; children = refl; operator = refl; no_numeral = refl; no_truth = refl; no_variable = refl; no_conditional = refl }
operator_row Disjunction = record { place = refl; children = refl; operator = refl; no_numeral = refl; no_truth = refl; no_variable = refl; no_conditional = refl }
operator_row Equality = record { place = refl; children = refl; operator = refl; no_numeral = refl; no_truth = refl; no_variable = refl; no_conditional = refl }
operator_row Less = record { place = refl; children = refl; operator = refl; no_numeral = refl; no_truth = refl; no_variable = refl; no_conditional = refl }
operator_row LessOrEqual = record { place = refl; children = refl; operator = refl; no_numeral = refl; no_truth = refl; no_variable = refl; no_conditional = refl }
operator_row Sum = record { place = refl; children = refl; operator = refl; no_numeral = refl; no_truth = refl; no_variable = refl; no_conditional = refl }
operator_row Difference = record { place = refl; children = refl; operator = refl; no_numeral = refl; no_truth = refl; no_variable = refl; no_conditional = refl }
operator_row Product = record { place = refl; children = refl; operator = refl; no_numeral = refl; no_truth = refl; no_variable = refl; no_conditional = refl }
operator_row Quotient = record { place = refl; children = refl; operator = refl; no_numeral = refl; no_truth = refl; no_variable = refl; no_conditional = refl }
operator_row Remainder = record { place = refl; children = refl; operator = refl; no_numeral = refl; no_truth = refl; no_variable = refl; no_conditional = refl }
operator_row Equivalence = record { place = refl; children = refl; operator = refl; no_numeral = refl; no_truth = refl; no_variable = refl; no_conditional = refl }
