-- What the code makes of the assertion: the states over blank cells, the rounds, the first values, one more reading. The
-- answer and the flows are those of `settle`.
use Rattle.std.specs.Prelude.{Option as Optional, Some, Result, Ok, Err}
use Rattle.std.proofs.lemmas.List.{drop-map}
use mathlib.Core.Path.{◌≡◌, refl, sym, ap, ◌∙◌, subst, fun_ext}
use mathlib.Core.List.{List, map}
use mathlib.Core.Option.{Option, some, none}
use Prim.Native.Nat.{ℕ, suc, ◌+◌, ◌-◌, ◌≤◌}
use native.Mathlib.Omega.{arith}
use lib.IntN.{ℤ}
use lib.ListN.{length, take, drop, get_elem?, replicate, length-drop}
use lib.Seq.{take_all}
use Rattle.model.specs.Trees.{variables}
use Rattle.interpreter.specs.declared.Fault.{Fault}
use Rattle.interpreter.specs.Instructions.{effects, fault_of, first_of}
use Rattle.semantics.specs.Actions.{cells}
use Rattle.semantics.specs.Propagation.{Settled as Settling, rounds, reset_by, finished_by, finish, settled_from, settle}
use Rattle.semantics.specs.Propagation.Reached.{reached}
use Rattle.semantics.specs.Propagation.Settled.{refused, settled}
use Rattle.semantics.proofs.Rounds.{rounds_bounded_tree}
use Rattle.results.specs.Results.{Answered, answered, over}
use Rattle.expressions.specs.Cells.{valuation_of}
use Rattle.rounds.specs.Cells.{finding_of, reached_in}
use Rattle.propagation.specs.Cells.{cells_of, held_or, flows_by_settling, CountWithin, PropagationStands}
use Rattle.variables.specs.declared.VariableRow.{VariableRow}
use Rattle.variables.specs.Rows.{firsts_in}
use Rattle.variables.proofs.Columns.{column_length, first_values, row_count}
use Rattle.propagation.proofs.Overwriting.{cell_count, length_held_or}
use Rattle.propagation.proofs.Finishing.{over_all}
use Rattle.scratch.specs.Blank.{unknown_cell}
use Rattle.propagation.proofs.Valuations.{over_known, filled_known, reset_first, held_cells, all_held}
use Rattle.rounds.proofs.Propagating.{finding_faulty, finding_clear, rows_counted}

-- ---- the outcome

module _ {ks : List ℕ} {ps : List ℤ} {nexts : List ℕ} {rows : List VariableRow} {at : ℕ} (s : ℕ) (old : List ℤ) (p : PropagationStands ks ps nexts rows at s (length old)) where
  pub rows_cells : length rows ≡ s + length old
  rows_cells = rows_counted p.assertion ∙ omega (arith, p.state_cells, p.flow_cells)

  held : firsts_in rows ≡ map (λ v. v.first) (variables p.assertion.system)
  held = first_values (variables p.assertion.system) p.assertion.rows_held

  length_firsts : length (firsts_in rows) ≡ length rows
  length_firsts = column_length (λ row. row.first) rows

  -- the reading after the reset, where the rounds have come to rest
  module _ (cells₂ : List (Optional ℤ)) (count : ℕ) (long : length cells₂ ≡ length rows) (cells₃ : List (Optional ℤ))
      (reset : cells₃ ≡ over (cells_of (held_or cells₂ (firsts_in rows))) cells₂) (x : Result (Unit {0}) Fault)
      (found : x ≡ finding_of (fault_of (variables p.assertion.system) (valuation_of cells₃) (effects p.assertion.system.assertion (valuation_of cells₃)))) where
    -- what the system settles to from there
    abbrev ends : Settling
    ends = settled_from (variables p.assertion.system) p.assertion.system.assertion (reached count (valuation_of cells₂))

    fits : length (firsts_in rows) ≤ length cells₂
    fits = omega (arith, length_firsts, long)

    reset_values : (x : ℕ) → reset_by (variables p.assertion.system) (valuation_of cells₂) x ≡ first_of (valuation_of cells₂ x) (get_elem? (firsts_in rows) x)
    reset_values x = rw held (reset_first (variables p.assertion.system) (valuation_of cells₂) x)

    reset_known : valuation_of cells₃ ≡ reset_by (variables p.assertion.system) (valuation_of cells₂)
    reset_known =
        fun_ext (λ x. ap (λ l. valuation_of l x) reset ∙ filled_known cells₂ (firsts_in rows) fits x ∙ sym (reset_values x))

    finishes : (o : Option Fault) → fault_of (variables p.assertion.system) (valuation_of cells₃) (effects p.assertion.system.assertion (valuation_of cells₃)) ≡ o
        → ends ≡ finished_by count (cells (reset_by (variables p.assertion.system) (valuation_of cells₂)) (length (variables p.assertion.system)) 0) o
    unfolding settled_from finish
    finishes o q = rw (← reset_known, q)

    pub refused_at_end : (f : Fault) → x ≡ Err f
        → answered (Err f) old ≡ flows_by_settling s old ends
    unfolding flows_by_settling finished_by
    refused_at_end f q = rw (finishes (some f) (finding_faulty _ f (sym found ∙ q)))

    abbrev values : List ℤ
    values = held_or cells₂ (firsts_in rows)

    length_values : length values ≡ length rows
    length_values = length_held_or cells₂ (firsts_in rows) ∙ length_firsts

    settled_values : cells (reset_by (variables p.assertion.system) (valuation_of cells₂)) (length (variables p.assertion.system)) 0 ≡ values
    settled_values =
        rw (← row_count (variables p.assertion.system) p.assertion.rows_held, ← length_firsts)
        (held_cells (reset_by (variables p.assertion.system) (valuation_of cells₂)) cells₂ (firsts_in rows) 0 fits
        (λ k l. let z : 0 + k ≡ k = omega arith in rw z (reset_values k)))

    settled_whole : x ≡ Ok tt → ends ≡ settled count values
    unfolding finished_by
    settled_whole q = finishes none (finding_clear _ (sym found ∙ q)) ∙ ap (settled count) settled_values

    length_flows : length (drop s values) ≡ length old
    length_flows = simp length-drop (omega (arith, length_values, rows_cells))

    -- the part of the cells that the flows are
    part : take (length rows - s) (drop s cells₃) ≡ cells_of (drop s values)
    part =
        ap (λ l. take (length rows - s) (drop s l)) (reset ∙ over_all (cells_of values) cells₂ (cell_count values ∙ length_values ∙ sym long))
        ∙ ap (take (length rows - s)) (drop-map Some s values)
        ∙ take_all (length rows - s) (cells_of (drop s values)) (omega (arith, cell_count (drop s values), length_flows, rows_cells))

    pub settled_at_end : (new : List ℤ) → new ≡ held_or (take (length rows - s) (drop s cells₃)) old → x ≡ Ok tt
        → answered (Ok count) new ≡ flows_by_settling s old ends
    unfolding flows_by_settling
    settled_at_end new q c =
        rw (settled_whole c) (ap (answered (Ok count)) (q ∙ ap (λ l. held_or l old) part ∙ all_held (drop s values) old length_flows))

module _ {ks : List ℕ} {ps : List ℤ} {nexts : List ℕ} {rows : List VariableRow} {at : ℕ} (ss old : List ℤ)
    (p : PropagationStands ks ps nexts rows at (length ss) (length old)) where
  -- the answer is that of `settle`, whatever stands there
  abbrev Settles : Result ℕ Fault → List ℤ → Type 0
  Settles r new = (q : PropagationStands ks ps nexts rows at (length ss) (length old))
      → answered r new ≡ flows_by_settling (length ss) old (settle q.assertion.system ss)

  -- so its round count is bounded
  pub counted_within : (r : Result ℕ Fault) (new : List ℤ) → Settles r new → CountWithin (length old) r
  unfolding flows_by_settling CountWithin
  counted_within r new h = subst (λ (a : Answered (Result ℕ Fault) (List ℤ)). CountWithin (length old) a.answer) (sym (h p)) (by _ refl)
    where
      by : (s : Settling) → settle p.assertion.system ss ≡ s → CountWithin (length old) (flows_by_settling (length ss) old s).answer
      by (refused f) e = tt
      by (settled count values) e =
          let b = rounds_bounded_tree p.assertion.system p.assertion.well_formed ss count values e in
          (b.0, omega (arith, b.1, p.flow_cells))

  -- the rounds were made over the states
  module _ (cells₁ cells₂ : List (Optional ℤ)) (start : cells₁ ≡ over (cells_of ss) (replicate (length rows) unknown_cell))
      (r : Result ℕ Fault) (made : reached_in r cells₂ ≡ rounds (variables p.assertion.system) p.assertion.system.assertion
      (suc (length p.assertion.system.flows)) 0 (valuation_of cells₁)) where
    settles : settle p.assertion.system ss ≡ settled_from (variables p.assertion.system) p.assertion.system.assertion (reached_in r cells₂)
    unfolding settle
    settles = rw (made, start, over_known ss (length rows))

    pub refused_in_rounds : (f : Fault) → r ≡ Err f
        → answered (Err f) old ≡ flows_by_settling (length ss) old (settle p.assertion.system ss)
    unfolding flows_by_settling settled_from reached_in
    refused_in_rounds f e = rw (settles, e)

    -- what follows is what settles
    pub rested_in_rounds : (count : ℕ) → r ≡ Ok count → (x : Result ℕ Fault) (new : List ℤ)
        → answered x new
        ≡ flows_by_settling (length ss) old (settled_from (variables p.assertion.system) p.assertion.system.assertion (reached count (valuation_of cells₂)))
        → answered x new ≡ flows_by_settling (length ss) old (settle p.assertion.system ss)
    unfolding reached_in
    rested_in_rounds count q x new h =
        h
        ∙ ap (flows_by_settling (length ss) old) (sym (settles ∙ ap (λ r. settled_from (variables p.assertion.system) p.assertion.system.assertion (reached_in r cells₂)) q))
