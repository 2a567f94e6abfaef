-- How the code goes about it: how it holds the valuations and evaluations that 01 speaks of (cell_value, valuation_of, evaluated_as), and
-- what its functions ask of the nodes lent to them (the rest). No definition here is 01's own.
use Rattle.std.specs.Prelude.{List, ◌≡◌, ℕ, ◌+◌, ◌≤◌, ℤ, get_or, Option as Optional, Some, None}
use Rattle.std.proofs.Math.Option.{Option, some, none}
use Rattle.evaluation.specs.declared.Evaluation.{Evaluation}
use Rattle.kinds.specs.declared.table.TheConstants.{ROWS}
use Rattle.kinds.specs.Kinds.{children_of, row_in}
use Rattle.model.specs.Trees.{Expression}
use Rattle.model.specs.Standing.{ExpressionAt, size_of_expression}
use Rattle.expressions.specs.declared.Evaluated.{Evaluated}
use Rattle.expressions.specs.Expressions.{Valuation}

-- what a cell holds
unfoldable pub cell_value : Optional ℤ → Option ℤ
cell_value None = none
cell_value (Some v) = some v

-- a variable without a cell is unknown
abbrev pub valuation_of : List (Optional ℤ) → Valuation
valuation_of cells x = cell_value (get_or cells x None)

-- an evaluation with the cursor after the expression
abbrev pub evaluated_as : Evaluation → ℕ → Evaluated
evaluated_as e next = record { evaluation = e; next = record { at = next } }

module _ (ks : List ℕ) (ps : List ℤ) where
  -- some expression stands at the place
  pub record ExpressionStands (at : ℕ) : Type 0 where
    pub expression : Expression
    pub stands : ExpressionAt ks ps expression at

  -- two expressions stand one after the other from the place on
  pub record BranchesStand (at : ℕ) : Type 0 where
    pub first : Expression
    pub second : Expression
    pub first_stands : ExpressionAt ks ps first at
    pub second_stands : ExpressionAt ks ps second (at + size_of_expression first)

-- the kinds of some expression stand at the place, whatever its parameters
pub record KindsStand (ks : List ℕ) (at : ℕ) : Type 0 where
  pub parameters : List ℤ
  pub standing : ExpressionStands ks parameters at

-- a kind of 01's list; expression kinds below negation have no children
abbrev pub negation_kind : ℕ
negation_kind = 35

-- the number of children of an expression's node, by its kind: that of its row in the table that the code reads
abbrev pub operand_count : ℕ → ℕ
operand_count k = (row_in ROWS k).children

-- 01: "A kind byte is looked up in a table of 256 rows: [..] how many children it has": at the kinds of expressions, 32 to 47, it
-- is the same number. Proved in proofs/OperandCounts.antt.
abbrev pub OperandCounts : Type 0
OperandCounts = (k : ℕ) → 32 ≤ k → k ≤ 47 → operand_count k ≡ children_of k
