-- The call. 02, A9: "report for every row [..] The answer is the number of rows. Errors: 41 [..] after the expressions, the Boolean one
-- first; then 10 for a short output slice, 20 for a row's value outside its ends." 3 and 4 to 8 of an expression come right after the
-- model's check.
use Rattle.std.specs.Prelude.{cond, not, List, ℕ, ◌*◌, ◌/◌, ltb, ℤ, length, Some, Result, Ok, Err}
use Rattle.results.specs.Results.{Answered, answered, over}
use Rattle.results.specs.declared.refusal.Refusal.{Refusal}
use Rattle.results.specs.declared.refusal.Refusal.TheVariants.{ShortSlice, InvalidRun, NoWindows}
use Rattle.kinds.specs.declared.Sort.{Sort}
use Rattle.kinds.specs.declared.Sort.TheVariants.{Boolean, Number}
use Rattle.model.specs.Trees.{Expression, Variable, variables, sorts_of}
use Rattle.model.specs.Walk.{Walk}
use Rattle.model.specs.Check.{Verdict, expression_given}
use Rattle.model.specs.Check.Verdict.{refusal, accepted}
use Rattle.decoding.specs.Outside.{Handed, on_found}
use Rattle.windows.specs.Logs.{no_windows, rows_over, all_within, evaluations}
use Rattle.windows.specs.Figures.{figures_from}

-- the answer with the output slice as it is left
abbrev pub Reported : Type 0
Reported = Answered (Result ℕ Refusal) (List ℤ)

-- the cells of all rows of a log
abbrev pub figures_over : ℕ → Expression → Expression → ℕ → List ℤ → List ℤ
figures_over w condition number width log =
    figures_from w (evaluations condition (rows_over width log)) (evaluations number (rows_over width log)) 0 (length log / width)

-- 41, 10, 20, then the figures of every row; the output's cells past them stay
unfoldable pub reported_over : List Variable → Expression → Expression → ℕ → List ℤ → List ℤ → Reported
reported_over vs condition number w log old =
    cond (no_windows (length vs) w (length log)) (answered (Err NoWindows) old)
    (cond (ltb (length old) (3 * (length log / length vs))) (answered (Err ShortSlice) old)
    (cond (not (all_within vs (rows_over (length vs) log))) (answered (Err InvalidRun) old)
    (answered (Ok (length log / length vs)) (over (figures_over w condition number (length vs) log) old))))

-- what the check of an expression that is handed in finds over these variables
abbrev pub given_over : List Variable → Handed → Sort → Walk Expression
given_over vs h wanted = expression_given h.kinds h.parameters (sorts_of vs) (Some wanted)

-- the model's refusal, the Boolean expression's, the number expression's, then those over the model's variables
unfoldable pub reported_in : Verdict → Handed → Handed → ℕ → List ℤ → List ℤ → Reported
reported_in (refusal r) condition number w log old = answered (Err r) old
reported_in (accepted s t) condition number w log old =
    on_found (given_over (variables t) condition Boolean) old (λ b.
    on_found (given_over (variables t) number Number) old (λ x.
    reported_over (variables t) b x w log old))
