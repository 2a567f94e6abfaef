-- The node that is due, with the rules for its kind and its parameter. 01: "4 to 7 are tried in that order".
-- "A kind byte is looked up in a table of 256 rows": `row_of` is the row of a byte, by 01's list.
use Rattle.std.specs.Prelude.{Bool, true, cond, not, ◌&&◌, ◌||◌, List, ℕ, ◌+◌, eqb, leb, ltb, ℤ, pos, nat_abs, length, get_or, slice_get, Option, Some, None, Result, Ok, Err}
use Rattle.std.specs.Int.Signed.{le_z, non_neg}
use Rattle.evaluation.specs.Numbers.{eq_z}
use Rattle.results.specs.declared.refusal.Refusal.{Refusal}
use Rattle.results.specs.declared.refusal.Refusal.TheVariants.{MissingNode, TooDeep, KindNotAllowed, ParameterNotAllowed}
use Rattle.syntax.specs.declared.Node.{Node}
use Rattle.kinds.specs.declared.Sort.{Sort}
use Rattle.kinds.specs.declared.Place.{Place}
use Rattle.kinds.specs.declared.Place.TheVariants.{Variable, Transition, Instruction, Expression}
use Rattle.kinds.specs.Kinds.{row_of}
use Rattle.kinds.specs.Sameness.{is_place, same_sort}

-- the parameter of a Boolean: 0 or 1
abbrev pub is_truth : ℤ → Bool
is_truth p = eq_z p (pos 0) || eq_z p (pos 1)

-- the parameter is a number from `from` up to `past`
abbrev pub is_target : ℕ → ℕ → ℤ → Bool
is_target from past p = non_neg p && (leb from (nat_abs p) && ltb (nat_abs p) past)

-- the parameter is the number of a variable of the wanted sort
abbrev pub is_of_sort : List Sort → Option Sort → ℤ → Bool
is_of_sort sorts wanted p = non_neg p && (ltb (nat_abs p) (length sorts) && same_sort (slice_get sorts (nat_abs p)) wanted)

-- 01: "where the kind may stand": the place in its row
abbrev pub stands_at : Place → ℕ → Bool
stands_at place k = is_place (row_of k).place place

-- 01: "any other node of the wrong type 6"; 34 and 46 have no sort of their own
unfoldable pub expression_allowed : Option Sort → ℕ → Bool
expression_allowed wanted k = stands_at Expression k && (eqb k 34 || eqb k 46 || same_sort (row_of k).result wanted)

-- 01: "A variable of the wrong type is number 7"; "33 Boolean P, 0 or 1"; "Kinds 16, 18 and 35 to 47 have P = 0."
unfoldable pub expression_fits : List Sort → Option Sort → ℕ → ℤ → Bool
expression_fits sorts wanted k p =
    cond (eqb k 32) true
    (cond (eqb k 33) (is_truth p)
    (cond (eqb k 34) (is_of_sort sorts wanted p)
    (eq_z p (pos 0))))

-- 01: "17 assign to variable P (a state in an action, a flow in the assertion)"; "19 block, P not negative"
unfoldable pub instruction_fits : ℕ → ℕ → ℕ → ℤ → Bool
instruction_fits from past k p =
    cond (eqb k 17) (is_target from past p)
    (cond (eqb k 19) (non_neg p) (eq_z p (pos 0)))

-- 01: "kind 1, Boolean, P its first value, 0 or 1; or [..] 2 (P low end)", any number
abbrev pub variable_fits : ℕ → ℤ → Bool
variable_fits k p = eqb k 2 || is_truth p

module _ (ks : List ℕ) (ps : List ℤ) where
  abbrev pub kind_at : ℕ → ℕ
  kind_at at = get_or ks at 0

  abbrev pub parameter_at : ℕ → ℤ
  parameter_at at = get_or ps at (pos 0)

  -- the node at place `at`
  abbrev pub node_at : ℕ → Node
  node_at at = record { kind = kind_at at; parameter = parameter_at at; next = record { at = at + 1 } }

  -- 01: 4 "a node is due past the N-th", 5 "depth 33", 6 "kind not allowed there", 7 "parameter or variable not allowed
  -- there", at the node that is due; none if it offends none
  unfoldable pub refusal_at : (ℕ → Bool) → (ℕ → ℤ → Bool) → ℕ → ℕ → Option Refusal
  refusal_at allowed fits left at =
      cond (leb (length ks) at) (Some MissingNode)
      (cond (eqb left 0) (Some TooDeep)
      (cond (not (allowed (kind_at at))) (Some KindNotAllowed)
      (cond (not (fits (kind_at at) (parameter_at at))) (Some ParameterNotAllowed) None)))

  -- what a cursor hands back of the node that is due at place `at`, by what refuses it
  unfoldable pub reading_at : Option Refusal → ℕ → Result Node Refusal
  reading_at None at = Ok (node_at at)
  reading_at (Some r) at = Err r

  -- the nodes that the walk asks for, each with its own rules for 6 and 7
  unfoldable pub expression_refusal : List Sort → ℕ → Option Sort → ℕ → Option Refusal
  expression_refusal sorts left wanted at = refusal_at (expression_allowed wanted) (expression_fits sorts wanted) left at

  unfoldable pub instruction_refusal : ℕ → ℕ → ℕ → ℕ → Option Refusal
  instruction_refusal from past left at = refusal_at (stands_at Instruction) (instruction_fits from past) left at

  -- variables and transitions have no depth, so one level is always left
  unfoldable pub variable_refusal : ℕ → Option Refusal
  variable_refusal at = refusal_at (stands_at Variable) variable_fits 1 at

  unfoldable pub end_refusal : Place → ℤ → ℤ → ℕ → Option Refusal
  end_refusal place low high at = refusal_at (stands_at place) (λ k p. le_z low p && le_z p high) 1 at

  unfoldable pub transition_refusal : ℕ → ℕ → Option Refusal
  transition_refusal events at = refusal_at (stands_at Transition) (λ k p. is_target 0 events p) 1 at

  abbrev pub expression_reading : List Sort → ℕ → Option Sort → ℕ → Result Node Refusal
  expression_reading sorts left wanted at = reading_at (expression_refusal sorts left wanted at) at

  abbrev pub instruction_reading : ℕ → ℕ → ℕ → ℕ → Result Node Refusal
  instruction_reading from past left at = reading_at (instruction_refusal from past left at) at

  abbrev pub variable_reading : ℕ → Result Node Refusal
  variable_reading at = reading_at (variable_refusal at) at

  abbrev pub end_reading : Place → ℤ → ℤ → ℕ → Result Node Refusal
  end_reading place low high at = reading_at (end_refusal place low high at) at

  abbrev pub transition_reading : ℕ → ℕ → Result Node Refusal
  transition_reading events at = reading_at (transition_refusal events at) at
