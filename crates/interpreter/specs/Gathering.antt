-- How the code goes over an instruction: once, in walk order, folding its effects into flags and cells.
use Rattle.std.specs.Prelude.{true, false, cond, not, ◌||◌, List, [], ◌∷◌, ℕ, ℤ, get_or, set, Option as Optional, Some, None}
use Rattle.std.proofs.Math.Option.{Option, some, none}
use Rattle.evaluation.specs.declared.Evaluation.{Evaluation}
use Rattle.evaluation.specs.declared.Evaluation.TheVariants.{Unknown, Failed, Value}
use Rattle.evaluation.specs.declared.Manner.{Manner}
use Rattle.evaluation.specs.declared.Manner.TheVariants.{ZeroDivisor, TooLarge}
use Rattle.evaluation.specs.Numbers.{eq_z, boolean}
use Rattle.evaluation.specs.Meaning.{same_manner}
use Rattle.model.specs.Trees.{Instruction, Instructions}
use Rattle.model.specs.Trees.Instruction.{skip, assign, if_then, block}
use Rattle.model.specs.Trees.Instructions.{none as no_branch, more}
use Rattle.variables.specs.Rows.{within_ends}
use Rattle.interpreter.specs.declared.Gathered.{Gathered}
use Rattle.interpreter.specs.declared.Fault.{Fault}
use Rattle.interpreter.specs.declared.Fault.TheVariants.{Failure, Outside, Conflict}
use Rattle.expressions.specs.Expressions.{Valuation, evaluate}
use Rattle.interpreter.specs.Instructions.{Effect, assigned, under}
use Rattle.interpreter.specs.Instructions.Effect.{fails, gives}

-- the flags found so far, with the values given so far
pub record Gathering : Type 0 where
  pub found : Gathered
  pub given : List (Optional ℤ)

abbrev pub gathering : Gathered → List (Optional ℤ) → Gathering
gathering f g = record { found = f; given = g }

abbrev pub nothing_found : Gathered
nothing_found = record { zero_divisor = false; too_large = false; outside = false; conflict = false; fresh = false }

-- the same, and something failed in this manner
abbrev pub failing : Manner → Gathered → Gathered
failing m f =
    record {
      zero_divisor = same_manner ZeroDivisor m || f.zero_divisor;
      too_large = same_manner TooLarge m || f.too_large;
      outside = f.outside;
      conflict = f.conflict;
      fresh = f.fresh;
    }

-- a value given to a variable whose cell holds this: a value that is there stays, and one given that differs is a conflict; where there is
-- none, the value given is stored
unfoldable pub taken : List ℤ → List ℤ → ℕ → ℤ → Optional ℤ → Gathering → Gathering
taken lows highs x v (Some held) g =
    gathering
    (record {
      zero_divisor = g.found.zero_divisor;
      too_large = g.found.too_large;
      outside = g.found.outside || not (within_ends lows highs x v);
      conflict = g.found.conflict || not (eq_z v held);
      fresh = g.found.fresh;
    })
    g.given
taken lows highs x v None g =
    gathering
    (record {
      zero_divisor = g.found.zero_divisor;
      too_large = g.found.too_large;
      outside = g.found.outside || not (within_ends lows highs x v);
      conflict = g.found.conflict;
      fresh = true;
    })
    (set g.given x (Some v))

unfoldable pub gather : List ℤ → List ℤ → Effect → Gathering → Gathering
gather lows highs (fails m) g = gathering (failing m g.found) g.given
gather lows highs (gives x v) g = taken lows highs x v (get_or g.given x None) g

unfoldable pub gather_all : List ℤ → List ℤ → List Effect → Gathering → Gathering
gather_all lows highs [] g = g
gather_all lows highs (e ∷ es) g = gather_all lows highs es (gather lows highs e g)

-- 02, A8: "a round's first fault in the order 28, 40, 29, 30 counts"; an action's, by 01 and A8, in the order 25, 39, 26, 27
unfoldable pub fault_in : Gathered → Option Fault
fault_in g =
    cond g.zero_divisor (some (Failure ZeroDivisor))
    (cond g.too_large (some (Failure TooLarge))
    (cond g.outside (some Outside)
    (cond g.conflict (some Conflict) none)))

-- the body of an if-then is due if its condition is true
unfoldable pub chosen_branch : Evaluation → Instruction → Instructions
chosen_branch Unknown i = no_branch
chosen_branch (Failed m) i = no_branch
chosen_branch (Value v) i = cond (eq_z v (boolean true)) (more i no_branch) no_branch

-- what one node gives at once
unfoldable pub at_once : Instruction → Valuation → List Effect
at_once skip σ = []
at_once (assign x e) σ = assigned x (evaluate e σ)
at_once (if_then c i) σ = under (evaluate c σ) []
at_once (block is) σ = []

-- the instructions that are due after a node
unfoldable pub due_after : Instruction → Valuation → Instructions
due_after skip σ = no_branch
due_after (assign x e) σ = no_branch
due_after (if_then c i) σ = chosen_branch (evaluate c σ) i
due_after (block is) σ = is
