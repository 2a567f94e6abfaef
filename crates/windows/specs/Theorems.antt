-- The statements on windows. Proved in proofs/.
use Rattle.std.specs.Prelude.{◌≡◌, Bool, List, [], ◌∷◌, ◌++◌, ℕ, suc, ◌+◌, ◌-◌, ◌<◌, ◌≤◌, ltb, ℤ, T, length}
use Rattle.std.specs.List.{list_all}
use Rattle.evaluation.specs.declared.Evaluation.{Evaluation}
use Rattle.evaluation.specs.Meaning.{is_true}
use Rattle.model.specs.Check.{verdict}
use Rattle.model.specs.Theorems.{Bytes, ShuffledFile}
use Rattle.decoding.specs.Outside.{Handed}
use Rattle.windows.specs.declared.queue.Entry.{Entry}
use Rattle.windows.specs.Logs.{last_of}
use Rattle.windows.specs.Figures.{count_true, value_in, largest}
use Rattle.windows.specs.Reports.{reported_in}
use Rattle.windows.specs.Sliding.{entry, true_rows, candidates, with_true, with_value, without, front_value, queues, slid}

-- 02: "Both figures equal those worked out from the window alone": the count is how many rows the one queue holds, the largest
-- value that at the front of the other; and when a row enters at the back or leaves at the front, each holds what it should of the
-- window as it is then
abbrev pub QueueRight : Type 0
QueueRight =
    (row : ℕ) (es : List Evaluation)
    → (length (true_rows row es) ≡ count_true es)
    × (front_value (candidates row es) ≡ largest es)
    × ((e : Evaluation) → true_rows row (es ++ (e ∷ [])) ≡ with_true (row + length es) (is_true e) (true_rows row es))
    × ((e : Evaluation) → candidates row (es ++ (e ∷ [])) ≡ with_value (row + length es) (value_in e) (candidates row es))
    × ((e : Evaluation) → true_rows (1 + row) es ≡ without row (true_rows row (e ∷ es)))
    × ((e : Evaluation) → candidates (1 + row) es ≡ without row (candidates row (e ∷ es)))

-- the same of the rows as they go by: after n rows the queues hold what they should of the last w rows
abbrev pub SlidingRight : Type 0
SlidingRight =
    (w : ℕ) (bs xs : List Evaluation) (n : ℕ) → 0 < w → n ≤ length bs → n ≤ length xs
    → slid w bs xs n ≡ queues (true_rows (n - w) (last_of w n bs)) (candidates (n - w) (last_of w n xs))

-- 02: "each row enters once and leaves at most once": the rows in a queue have gone by, and what is true of every entry there and of
-- row n's is true of every entry once row n has gone by too; so none enters but row n, and none that has left comes back
abbrev pub EntersOnce : Type 0
EntersOnce =
    (w : ℕ) (bs xs : List Evaluation) (n : ℕ)
    → T (list_all (λ c. ltb c.row n) (slid w bs xs n).trues)
    × T (list_all (λ c. ltb c.row n) (slid w bs xs n).values)
    × ((p : Entry → Bool) → ((v : ℤ) → T (p (entry n v)))
    → (T (list_all p (slid w bs xs n).trues) → T (list_all p (slid w bs xs (suc n)).trues))
    × (T (list_all p (slid w bs xs n).values) → T (list_all p (slid w bs xs (suc n)).values)))

-- demand 3, of logs: no order in which an accepted model is written changes the report, be it the figures or the refusal of an
-- expression, 41, 10 or 20
abbrev pub ReportOrderIndependent : Type 0
ReportOrderIndependent =
    (m m' : List ℕ) → Bytes m → ShuffledFile m m' → (condition number : Handed) (w : ℕ) (log old : List ℤ)
    → reported_in (verdict m) condition number w log old ≡ reported_in (verdict m') condition number w log old
