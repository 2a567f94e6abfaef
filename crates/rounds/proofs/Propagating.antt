-- The rounds as the code makes them: each turn reads the assertion over the cells, and the rounds from there are those from the
-- beginning. A turn that gives a new value leaves fewer cells that hold nothing.
use Rattle.std.specs.Prelude.{Option as Optional, Result, Ok, Err}
use mathlib.Core.Path.{◌≡◌, refl, sym, ◌∙◌}
use mathlib.Core.Bool.{true, false, true≢false}
use mathlib.Core.List.{List}
use mathlib.Core.Option.{Option, some, none}
use Prim.Native.Nat.{ℕ, zero, suc, ◌+◌, ◌≤◌, ◌<◌}
use native.Mathlib.Numerals.{add-one}
use native.Mathlib.Omega.{arith}
use lib.IntN.{ℤ}
use lib.ListN.{length, length-append}
use Rattle.model.specs.Sizes.{max_variables}
use Rattle.model.specs.Trees.{System, variables}
use Rattle.model.specs.WellFormed.{WellFormed, sizes_of}
use Rattle.model.specs.Check.{assertion_scope}
use Rattle.interpreter.specs.declared.Fault.{Fault}
use Rattle.interpreter.specs.declared.Gathered.{Gathered}
use Rattle.interpreter.specs.Instructions.{effects}
use Rattle.semantics.specs.Propagation.{rounds, round_by}
use Rattle.semantics.specs.Propagation.Reached.{reached}
use Rattle.interpreter.specs.Gathering.{gathering, gather_all, nothing_found, fault_in}
use Rattle.expressions.specs.Cells.{valuation_of}
use Rattle.interpreter.specs.Cells.{InstructionStands, TargetsBelow}
use Rattle.rounds.specs.Cells.{finding_of, AssertionStands}
use Rattle.rounds.specs.Rounds.{Going}
use Rattle.semantics.specs.Counting.{unknowns}
use Rattle.semantics.proofs.Counting.{unknowns_bounded}
use Rattle.semantics.proofs.Rounds.{round_falls, assertion_targets}
use Rattle.variables.specs.declared.VariableRow.{VariableRow}
use Rattle.variables.specs.Rows.{lows_in, highs_in}
use Rattle.variables.proofs.Columns.{low_ends, high_ends, row_count}
use Rattle.waiting.proofs.Scoping.{targets_below}
use Rattle.waiting.proofs.Reading.{Gathers, gathers}

-- ---- what the fault found tells

pub finding_faulty : (o : Option Fault) (f : Fault) → finding_of o ≡ Err f → o ≡ some f
unfolding finding_of
finding_faulty none f e = let z : true ≡ false = cc in absurd (true≢false z)
finding_faulty (some g) f e = cc

pub finding_clear : (o : Option Fault) → finding_of o ≡ Ok tt → o ≡ none
unfolding finding_of
finding_clear none e = refl
finding_clear (some g) e = let z : true ≡ false = cc in absurd (true≢false z)

-- where it is not an error
pub no_fault : (r : Result (Unit {0}) Fault) → ((f : Fault) → r ≡ Err f → ⊥) → r ≡ Ok tt
no_fault (Ok tt) n = refl
no_fault (Err f) n = absurd (n f refl)

-- ---- the rounds

module _ (t : System) where
  pub going_begins : (cells : List (Optional ℤ)) → Going t cells cells 0
  going_begins cells =
      record { left = length t.flows; same = refl; enough = unknowns_bounded (valuation_of cells) (length t.flows) (length t.states); bound = omega arith }

  -- one round, by whether it sets anything
  module _ (well_formed : WellFormed t) (cells₀ cells : List (Optional ℤ)) (count : ℕ) (going : Going t cells₀ cells count) (r : Gathered) (given : List (Optional ℤ))
      (gathered : Gathers (variables t) t.assertion (valuation_of cells) (valuation_of cells) (gathering r given)) where
    pub round_rests : fault_in r ≡ none → r.fresh ≡ false
        → reached (count + 1) (valuation_of cells) ≡ rounds (variables t) t.assertion (suc (length t.flows)) 0 (valuation_of cells₀)
    unfolding rounds round_by
    round_rests e n = rw (going.same, ← gathered.fault, e, ← gathered.fresh, n, add-one)

    falls : r.fresh ≡ true → (n first : ℕ) → first ≤ length t.states → length t.states + length t.flows ≤ first + n
        → unknowns (valuation_of given) n first < unknowns (valuation_of cells) n first
    falls e n first l u =
        rw gathered.given
        (round_falls (variables t) t.assertion first n
        (λ σ x v m. let h = assertion_targets t well_formed σ x v m in (omega arith, omega arith)) (valuation_of cells) (sym gathered.fresh ∙ e))

    pub round_goes : fault_in r ≡ none → r.fresh ≡ true → Going t cells₀ given (count + 1)
    unfolding rounds round_by
    round_goes e n = go going.left going.same going.enough going.bound
      where
        go : (left : ℕ) → rounds (variables t) t.assertion (suc (length t.flows)) 0 (valuation_of cells₀)
            ≡ rounds (variables t) t.assertion (suc left) count (valuation_of cells)
            → unknowns (valuation_of cells) (length t.flows) (length t.states) ≤ left → count + left ≤ length t.flows
            → Going t cells₀ given (count + 1)
        go zero s h b = absurd (omega (arith, falls n (length t.flows) (length t.states) (omega arith) (omega arith)))
        go (suc left) s h b =
            record {
              left = left;
              same = s ∙ rw (← gathered.fault, e, ← gathered.fresh, n, gathered.given, add-one);
              enough = omega (arith, falls n (length t.flows) (length t.states) (omega arith) (omega arith));
              bound = omega arith;
            }

-- ---- the assertion where it stands

pub length_variables : (t : System) → length (variables t) ≡ length t.states + length t.flows
length_variables t = length-append t.states t.flows

module _ {ks : List ℕ} {ps : List ℤ} {nexts : List ℕ} {rows : List VariableRow} {at : ℕ} (a : AssertionStands ks ps nexts rows at) where
  pub rows_counted : length rows ≡ length a.system.states + length a.system.flows
  rows_counted = row_count (variables a.system) a.rows_held ∙ length_variables a.system

  pub rows_within : length rows ≤ max_variables
  rows_within = omega (arith, rows_counted, length_variables a.system, a.well_formed.few)

  pub may_gather : (given : List (Optional ℤ)) → length rows ≤ length given → InstructionStands ks ps nexts (length rows) (length given) at
  may_gather given h =
      record {
        instruction = a.system.assertion;
        stands = a.stands;
        target_variables = below (length rows) (omega (arith, rows_counted));
        target_given = below (length given) (omega (arith, rows_counted));
        places = a.places;
      }
    where
      below : (n : ℕ) → length a.system.states + length a.system.flows ≤ n → TargetsBelow a.system.assertion n
      below n l = targets_below a.system.assertion (assertion_scope (sizes_of a.system) (variables a.system)) a.well_formed.assertion l

  pub assertion_gathers : (cells given : List (Optional ℤ)) → length rows ≤ length given → (r : Gathered) (given' : List (Optional ℤ))
      → gathering r given' ≡ gather_all (lows_in rows) (highs_in rows) (effects a.system.assertion (valuation_of cells)) (gathering nothing_found given)
      → Gathers (variables a.system) a.system.assertion (valuation_of cells) (valuation_of given) (gathering r given')
  assertion_gathers cells given h r given' e =
      rw (e, low_ends (variables a.system) a.rows_held, high_ends (variables a.system) a.rows_held)
      (gathers (variables a.system) a.system.assertion (assertion_scope (sizes_of a.system) (variables a.system)) a.well_formed.assertion
      (omega (arith, length_variables a.system)) cells given (omega (arith, rows_counted)))
