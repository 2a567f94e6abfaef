-- What a report over variables comes to: 41, 10 and 20 in their order, then the figures; over a model's variables as over their rows.
use mathlib.Core.Path.{◌≡◌, refl, sym, ap, ap₂, ◌∙◌}
use mathlib.Core.Bool.{Bool, true, false, cond, not}
use mathlib.Core.List.{List, map}
use Prim.Native.Nat.{ℕ, ◌+◌, ◌*◌, ◌/◌, ◌<◌, ◌≤◌}
use native.Mathlib.Omega.{arith}
use borrow.Author.Tests.{lt-ltb, le-ltb, clash}
use lib.Dec.{ltb}
use lib.IntN.{ℤ}
use lib.ListN.{length, take, length-map}
use Rattle.std.specs.Prelude.{Result, Ok, Err, is_none}
use Rattle.std.specs.List.{list_all}
use Rattle.std.proofs.lemmas.Bool.Decides.{nat_tests}
use Rattle.results.specs.Results.{answered, over}
use Rattle.results.specs.declared.refusal.Refusal.{Refusal}
use Rattle.results.specs.declared.refusal.Refusal.TheVariants.{ShortSlice, InvalidRun, NoWindows}
use Rattle.model.specs.declared.Sizes.{Sizes}
use Rattle.model.specs.Trees.{Expression, Variable, System, variables}
use Rattle.model.specs.Check.{verdict}
use Rattle.model.specs.Check.Verdict.{accepted}
use Rattle.variables.specs.declared.VariableRow.{VariableRow}
use Rattle.variables.specs.Rows.{variable_row, variable_rows}
use Rattle.decoding.proofs.VariablesInUse.{RowsInUse}
use Rattle.standing.specs.Holding.{ends_of}
use Rattle.standing.proofs.Holding.{outside_rows}
use Rattle.windows.specs.Logs.{max_window, no_windows, rows_over, all_within}
use Rattle.windows.specs.Reports.{Reported, figures_over, reported_over}
use Rattle.windows.specs.Lent.{counted_rows}

-- the report by how many values a row has, and by the check of all rows
abbrev reported_with : ℕ → (List (List ℤ) → Bool) → Expression → Expression → ℕ → List ℤ → List ℤ → Reported
reported_with width within condition number w log old =
    cond (no_windows width w (length log)) (answered (Err NoWindows) old)
    (cond (ltb (length old) (3 * (length log / width))) (answered (Err ShortSlice) old)
    (cond (not (within (rows_over width log))) (answered (Err InvalidRun) old)
    (answered (Ok (length log / width)) (over (figures_over w condition number width log) old))))

module _ (width w cells n : ℕ) (rows : counted_rows width w cells ≡ Ok n) where
  counted_by : (b : Bool) → cond b (Err NoWindows) (Ok (cells / width)) ≡ Ok n → (b ≡ false) × (n ≡ cells / width)
  counted_by true e = absurd (clash cc)
  counted_by false e = (refl, cc)

  -- there are windows over the rows that were counted
  windows_there : (no_windows width w cells ≡ false) × (n ≡ cells / width)
  windows_there = counted_by (no_windows width w cells) rows

  pub row_there : 0 < width
  unfolding no_windows
  row_there = let h = windows_there.0 in grind (arith, nat_tests)

  pub window_fits : (0 < w) × (w ≤ max_window)
  unfolding no_windows
  window_fits = let h = windows_there.0 in (grind (arith, nat_tests), grind (arith, nat_tests))

module _ (rows : List VariableRow) (condition number : Expression) (w : ℕ) (log old : List ℤ) where
  abbrev counted : Result ℕ Refusal
  counted = counted_rows (length rows) w (length log)

  abbrev report : Reported
  report = reported_over (map ends_of rows) condition number w log old

  abbrev whole : Reported
  whole = reported_with (length rows) (all_within (map ends_of rows)) condition number w log old

  -- rows have as many values as the variables that stand for them
  by_length : whole ≡ report
  unfolding reported_over
  by_length = ap (λ width. reported_with width (all_within (map ends_of rows)) condition number w log old) (sym (length-map rows ends_of))

  -- 41
  pub not_counted : (n : Refusal) → counted ≡ Err n → answered (Err n) old ≡ report
  not_counted n e = go (no_windows (length rows) w (length log)) refl e ∙ by_length
    where
      go : (b : Bool) → no_windows (length rows) w (length log) ≡ b → cond b (Err NoWindows) (Ok (length log / length rows)) ≡ Err n → answered (Err n) old ≡ whole
      go true k e = let z : NoWindows ≡ n = cc in rw (k, z)
      go false k e = absurd (clash cc)

  module _ (n : ℕ) (is : counted ≡ Ok n) where
    abbrev there : (no_windows (length rows) w (length log) ≡ false) × (n ≡ length log / length rows)
    there = windows_there (length rows) w (length log) n is

    -- 10
    pub no_room : length old / 3 < n → answered (Err ShortSlice) old ≡ report
    no_room h =
        let short : ltb (length old) (3 * (length log / length rows)) ≡ true = lt-ltb (length old) (3 * (length log / length rows)) (omega (arith, there.1, h)) in
        let e : answered (Err ShortSlice) old ≡ whole = rw (there.0, short) in
        e ∙ by_length

    module _ (room : n ≤ length old / 3) where
      pub enough_cells : 3 * (length log / length rows) ≤ length old
      enough_cells = omega (arith, there.1, room)

      long : ltb (length old) (3 * (length log / length rows)) ≡ false
      long = le-ltb (length old) (3 * (length log / length rows)) enough_cells

      -- 20
      pub row_outside : all_within (map ends_of rows) (rows_over (length rows) log) ≡ false → answered (Err InvalidRun) old ≡ report
      row_outside h =
          let e : answered (Err InvalidRun) old ≡ whole = rw (there.0, long, h) in
          e ∙ by_length

      -- the figures
      pub rows_reported : all_within (map ends_of rows) (rows_over (length rows) log) ≡ true
          → (new : List ℤ) → new ≡ over (figures_over w condition number (length rows) log) old → answered (Ok n) new ≡ report
      rows_reported h new k =
          let e : answered (Ok n) new ≡ whole = rw (there.0, long, h, there.1, k) in
          e ∙ by_length

-- the rows of a model's variables have their ends
outside_alike : (vs : List Variable) (rows : List (List ℤ)) → all_within (map ends_of (variable_rows vs)) rows ≡ all_within vs rows
outside_alike vs rows = λ i. list_all (λ row. is_none (outside_rows vs row 0 i)) rows

-- a report over the rows of a model's variables is over these
over_rows : (vs : List Variable) (condition number : Expression) (w : ℕ) (log old : List ℤ)
    → reported_over (map ends_of (variable_rows vs)) condition number w log old ≡ reported_over vs condition number w log old
unfolding reported_over
over_rows vs condition number w log old =
    ap₂ (λ (width : ℕ) (within : List (List ℤ) → Bool). reported_with width within condition number w log old)
    (length-map (variable_rows vs) ends_of ∙ length-map vs variable_row) (λ i rows. outside_alike vs rows i)

module _ (m : List ℕ) (s : Sizes) (left : List VariableRow) (used : RowsInUse m s left) (t : System) (v : verdict m ≡ accepted s t) where
  -- and so is one over the rows that were decoded
  pub over_decoded : (condition number : Expression) (w : ℕ) (log old : List ℤ)
      → reported_over (map ends_of (take (s.states + s.flows) left)) condition number w log old ≡ reported_over (variables t) condition number w log old
  over_decoded condition number w log old =
      let both : accepted s used.system ≡ accepted s t = sym used.checked ∙ v in
      let same : used.system ≡ t = cc in
      ap (λ (rows : List VariableRow). reported_over (map ends_of rows) condition number w log old) used.decoded
      ∙ over_rows (variables used.system) condition number w log old ∙ ap (λ (t : System). reported_over (variables t) condition number w log old) same
