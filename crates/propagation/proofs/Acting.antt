-- What the code makes of an action: gathered over blank cells, its values replace the old states.
use Rattle.std.specs.Prelude.{Option as Optional, Result, Ok, Err}
use mathlib.Core.Path.{◌≡◌, refl, sym, ap, ◌∙◌, fun_ext}
use mathlib.Core.List.{List, [], ◌∷◌}
use mathlib.Core.Option.{Option, some, none}
use Prim.Native.Nat.{ℕ, zero, suc, ◌+◌, ◌≤◌, ◌<◌}
use native.Mathlib.Nat.{not-suc-le-zero, le_of_suc-le-suc}
use native.Mathlib.Omega.{arith}
use lib.IntN.{ℤ}
use lib.ListN.{length, take, get_elem?, replicate, length-take, length-replicate}
use Rattle.model.specs.Sizes.{max_variables}
use Rattle.model.specs.Trees.{Instruction, variables}
use Rattle.model.specs.WellFormed.{sizes_of}
use Rattle.model.specs.Check.{action_scope}
use Rattle.model.specs.Standing.{InstructionAt}
use Rattle.interpreter.specs.declared.Fault.{Fault}
use Rattle.interpreter.specs.declared.Gathered.{Gathered}
use Rattle.expressions.specs.Expressions.{known_from, nothing_known}
use Rattle.interpreter.specs.Instructions.{effects, fault_of, given_to, first_of}
use Rattle.semantics.specs.Actions.{cells, changed, acted_by, act}
use Rattle.interpreter.specs.Gathering.{gathering, gather_all, nothing_found, fault_in}
use Rattle.expressions.specs.Cells.{valuation_of}
use Rattle.interpreter.specs.Cells.{InstructionStands, TargetsBelow}
use Rattle.results.specs.Results.{answered}
use Rattle.scratch.specs.Blank.{unknown_cell}
use Rattle.variables.specs.declared.VariableRow.{VariableRow}
use Rattle.variables.specs.Rows.{lows_in, highs_in}
use Rattle.variables.proofs.Columns.{low_ends, high_ends, row_count}
use Rattle.waiting.proofs.Scoping.{targets_below}
use Rattle.waiting.proofs.Reading.{Gathers, gathers}
use Rattle.reading.specs.Readings.{held, read_by}
use Rattle.rounds.specs.Cells.{finding_of}
use Rattle.rounds.proofs.Propagating.{finding_faulty, finding_clear, length_variables}
use Rattle.propagation.specs.Cells.{held_or, changed_by, states_by_acting, ActionStands}
use Rattle.propagation.proofs.Valuations.{nothing_held, known_values, held_cells}

element_of_take : {A : Type 0} (n : ℕ) (l : List A) (k : ℕ) → k < n → get_elem? (take n l) k ≡ get_elem? l k
element_of_take zero l k h = absurd (not-suc-le-zero h)
element_of_take (suc n) [] k h = refl
element_of_take (suc n) (a ∷ l) zero h = refl
element_of_take (suc n) (a ∷ l) (suc k) h = element_of_take n l k (le_of_suc-le-suc h)

-- ---- the states after the test of the fault

module _ (o : Option Fault) (old : List ℤ) (given : List (Optional ℤ)) (x : Result (Unit {0}) Fault) (found : x ≡ finding_of o) where
  pub changed_faulty : (f : Fault) → x ≡ Err f → answered (Err f) old ≡ changed_by o old given
  unfolding changed_by
  changed_faulty f e = rw (finding_faulty o f (sym found ∙ e))

  pub changed_clear : (new : List ℤ) → new ≡ held_or given old → x ≡ Ok tt → answered (Ok tt) new ≡ changed_by o old given
  unfolding changed_by
  changed_clear new e c = rw (finding_clear o (sym found ∙ c), e)

-- ---- the action where it stands

module _ {ks : List ℕ} {ps : List ℤ} {nexts : List ℕ} {rows : List VariableRow} {cells₀ : List (Optional ℤ)} {old : List ℤ} {at : ℕ} (a : ActionStands ks ps nexts rows cells₀ old at) where
  rows_counted : length rows ≡ length a.system.states + length a.system.flows
  rows_counted = row_count (variables a.system) a.rows_held ∙ length_variables a.system

  pub may_act : (given : List (Optional ℤ)) → length given ≡ length rows → InstructionStands ks ps nexts (length rows) (length given) at
  may_act given h =
      record {
        instruction = a.action;
        stands = a.stands;
        target_variables = below (length rows) (omega (arith, rows_counted));
        target_given = below (length given) (omega (arith, rows_counted));
        places = a.places;
      }
    where
      below : (n : ℕ) → length a.system.states ≤ n → TargetsBelow a.action n
      below n l = targets_below a.action (action_scope (sizes_of a.system) (variables a.system)) a.scoped l

  pub few_rows : length rows ≤ max_variables
  few_rows = omega (arith, rows_counted, length_variables a.system, a.well_formed.few)

  length_old : length old ≡ length a.system.states
  length_old = ap length a.states ∙ simp length-take (omega (arith, a.long, length_variables a.system))

  pub few_states : length old ≤ length rows
  few_states = omega (arith, length_old, rows_counted)

  module _ (blank : List (Optional ℤ)) (empty : blank ≡ replicate (length rows) unknown_cell) (queue₀ waits₀ : List ℕ)
      (r : Gathered) (given : List (Optional ℤ)) (queued : ℕ) (queue waits : List ℕ)
      (told : (i : Instruction) → InstructionAt ks ps i at
      → held r given queued queue waits ≡ read_by (lows_in rows) (highs_in rows) (valuation_of cells₀) at 1 i (held nothing_found blank 0 queue₀ waits₀))
      (long : length given ≡ length rows) where
    gathered : gathering r given
        ≡ gather_all (lows_in rows) (highs_in rows) (effects a.action (valuation_of cells₀)) (gathering nothing_found (replicate (length rows) unknown_cell))
    unfolding read_by
    gathered =
        ap (λ h. h.gathered) (told a.action a.stands)
        ∙ ap (λ g. gather_all (lows_in rows) (highs_in rows) (effects a.action (valuation_of cells₀)) (gathering nothing_found g)) empty

    unknown : valuation_of (replicate (length rows) unknown_cell) ≡ nothing_known
    unknown = fun_ext (nothing_held (length rows) 0)

    read : Gathers (variables a.system) a.action (valuation_of cells₀) (valuation_of (replicate (length rows) unknown_cell)) (gathering r given)
    read =
        rw (gathered, low_ends (variables a.system) a.rows_held, high_ends (variables a.system) a.rows_held)
        (gathers (variables a.system) a.action (action_scope (sizes_of a.system) (variables a.system)) a.scoped
        (omega (arith, length_variables a.system)) cells₀ (replicate (length rows) unknown_cell) (omega (arith, rows_counted, length-replicate (length rows) unknown_cell)))

    all_known : valuation_of cells₀ ≡ known_from a.values
    all_known = ap (λ l. valuation_of l) a.held ∙ known_values a.values

    fault_read : fault_in r ≡ fault_of (variables a.system) nothing_known (effects a.action (known_from a.values))
    fault_read = read.fault ∙ rw (unknown, all_known)

    given_read : (k : ℕ) → valuation_of given k ≡ given_to k (effects a.action (known_from a.values))
    unfolding first_of
    given_read k = ap (λ σ. σ k) read.given ∙ rw (nothing_held (length rows) 0 k, all_known)

    new_states : cells (changed (effects a.action (known_from a.values)) (known_from a.values)) (length a.system.states) 0 ≡ held_or given old
    new_states =
        rw (← length_old)
        (held_cells (changed (effects a.action (known_from a.values)) (known_from a.values)) given old 0 (omega (arith, few_states, long))
        (λ k l. let e : 0 + k ≡ k = omega arith in
        rw (e, given_read k, a.states, element_of_take (length a.system.states) a.values k (omega (arith, length_old)))))

    pub acted_by_lem : changed_by (fault_in r) old given ≡ states_by_acting old (act a.system a.action a.values)
    unfolding act acted_by changed_by states_by_acting
    acted_by_lem = rw (← fault_read) (by (fault_in r))
      where
        by : (o : Option Fault) → changed_by o old given
            ≡ states_by_acting old (acted_by (length a.system.states) a.values (effects a.action (known_from a.values)) o)
        by (some f) = refl
        by none = rw new_states
