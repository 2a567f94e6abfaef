-- How the code holds the queues, and what it may ask of what is lent to it.
use Rattle.std.specs.Prelude.{◌≡◌, Bool, cond, List, [], ◌∷◌, ◌++◌, ℕ, zero, suc, ◌+◌, ◌-◌, ◌/◌, ◌^◌, ◌<◌, ◌≤◌, ltb, ℤ, pos, get_or, length, take, Option, Some, None, is_some, Result, Ok, Err}
use Rattle.std.specs.Int.Signed.{le_z}
use Rattle.evaluation.specs.declared.Evaluation.{Evaluation}
use Rattle.evaluation.specs.Meaning.{is_true}
use Rattle.kinds.specs.declared.Sort.TheVariants.{Boolean, Number}
use Rattle.results.specs.declared.refusal.Refusal.{Refusal}
use Rattle.results.specs.declared.refusal.Refusal.TheVariants.{NoWindows}
use Rattle.model.specs.declared.Sizes.{Sizes}
use Rattle.model.specs.Trees.{Expression, variables}
use Rattle.model.specs.Standing.{ExpressionAt}
use Rattle.model.specs.Check.{Verdict, given_answer}
use Rattle.model.specs.Check.Verdict.{refusal, accepted}
use Rattle.decoding.specs.Outside.{Handed}
use Rattle.windows.specs.Logs.{max_window, no_windows, last_of}
use Rattle.windows.specs.Figures.{count_true, marked, value_in}
use Rattle.windows.specs.Reports.{given_over}
use Rattle.windows.specs.Sliding.{Queues, queues, entry, unread, candidates, with_true, left_behind, front_value, count_values, slid}
use Rattle.windows.specs.declared.Question.{Question}
use Rattle.windows.specs.declared.queue.Entry.{Entry}
use Rattle.windows.specs.declared.queue.Queue.{Queue}
use Rattle.windows.specs.declared.sliding.Sliding.{Sliding}

-- ---- a queue in its ring

-- what a place holds that nothing has entered
abbrev pub blank : Entry
blank = entry 0 unread

-- the place of a ring that comes so many after this one
unfoldable pub place_after : ℕ → ℕ → ℕ
place_after at many = cond (ltb (at + many) max_window) (at + many) ((at + many) - max_window)

-- so many entries of a ring, from this place on
unfoldable pub ring_from : List Entry → ℕ → ℕ → List Entry
ring_from entries at zero = []
ring_from entries at (suc n) = get_or entries at blank ∷ ring_from entries (place_after at 1) n

-- what a queue holds, oldest first
abbrev pub held : Queue → List Entry
held q = ring_from q.entries q.first (q.entered - q.departed)

-- the queue is within its ring
pub record Fits (q : Queue) : Type 0 where
  pub first : q.first < max_window
  pub departed : q.departed ≤ q.entered
  pub room : q.entered ≤ q.departed + max_window

-- an entry, before those that are left of what stood behind it: it leaves where none is left and the value reaches it
unfoldable pub yielding : ℤ → Entry → List Entry → List Entry
yielding v c [] = cond (le_z c.value v) [] (c ∷ [])
yielding v c (d ∷ ds) = c ∷ d ∷ ds

-- the entries at the back leave that a value reaches
unfoldable pub yielded : ℤ → List Entry → List Entry
yielded v [] = []
yielded v (c ∷ cs) = yielding v c (yielded v cs)

-- ---- both queues

abbrev pub queues_in : Sliding → Queues
queues_in s = queues (held s.trues) (held s.values)

pub record AllFit (s : Sliding) : Type 0 where
  pub trues : Fits s.trues
  pub values : Fits s.values

-- no row has entered
pub record IsEmpty (q : Queue) : Type 0 where
  pub first : q.first ≡ 0
  pub entered : q.entered ≡ 0
  pub departed : q.departed ≡ 0

-- one more row may enter each of these
pub record HasRoom (q : Queues) : Type 0 where
  pub trues : length q.trues < max_window
  pub values : length q.values < max_window

-- one more row may be counted
pub record CanCount (s : Sliding) : Type 0 where
  pub trues : s.trues.entered + 1 < 2 ^ 64
  pub values : s.values.entered + 1 < 2 ^ 64

-- where the row has a value, those at the back leave that it reaches, and it enters; in a queue that falls from front to back this is
-- `with_value`
unfoldable pub yielding_to : ℕ → Option ℤ → List Entry → List Entry
yielding_to row None cs = cs
yielding_to row (Some v) cs = yielded v cs ++ (entry row v ∷ [])

abbrev pub entering_held : ℕ → Bool → Evaluation → Queues → Queues
entering_held row b x q = queues (with_true row b q.trues) (yielding_to row (value_in x) q.values)

abbrev pub one_more_if : Bool → ℕ → ℕ
one_more_if enters n = cond enters (n + 1) n

-- the three cells of the row that entered last
abbrev pub figures_held : Queues → List ℤ
figures_held q = pos (length q.trues) ∷ marked (front_value q.values)

-- ---- the call

-- in each of the two trees that are lent an expression stands at the first node
pub record Asked (q : Question) : Type 0 where
  pub condition : Expression
  pub number : Expression
  pub condition_stands : ExpressionAt q.condition.kinds.now q.condition.parameters.now condition 0
  pub number_stands : ExpressionAt q.number.kinds.now q.number.parameters.now number 0

-- a row has gone by whose expressions come to this
pub record Passed (w row : ℕ) (b x : Evaluation) (before after : Sliding) : Type 0 where
  pub queues : queues_in after ≡ entering_held row (is_true b) x (left_behind w row (queues_in before))
  pub fits : AllFit after
  pub trues : after.trues.entered ≡ one_more_if (is_true b) before.trues.entered
  pub values : after.values.entered ≡ one_more_if (is_some (value_in x)) before.values.entered

-- 02: "each row enters once and leaves at most once": n rows have gone by; each that is true has entered the one queue, each with a
-- value the other, and as many have departed from each as are not there any more
pub record GoneBy (w : ℕ) (bs xs : List Evaluation) (n : ℕ) (s : Sliding) : Type 0 where
  pub slid : queues_in s ≡ slid w bs xs n
  pub trues : s.trues.entered ≡ count_true (take n bs)
  pub values : s.values.entered ≡ count_values (take n xs)
  pub true_left : s.trues.departed + count_true (last_of w n bs) ≡ count_true (take n bs)
  pub value_left : s.values.departed + length (candidates (n - w) (last_of w n xs)) ≡ count_values (take n xs)

-- 41, or how many rows of so many values there are
abbrev pub counted_rows : ℕ → ℕ → ℕ → Result ℕ Refusal
counted_rows width w cells = cond (no_windows width w cells) (Err NoWindows) (Ok (cells / width))

-- the sizes where the check has found both expressions
unfoldable pub sizes_with : Sizes → Result (Unit {0}) Refusal → Result (Unit {0}) Refusal → Result Sizes Refusal
sizes_with s (Err r) number = Err r
sizes_with s (Ok u) (Err r) = Err r
sizes_with s (Ok u) (Ok v) = Ok s

-- the model's refusal, the Boolean expression's, the number expression's; or the sizes
unfoldable pub checked_question : Verdict → Handed → Handed → Result Sizes Refusal
checked_question (refusal r) condition number = Err r
checked_question (accepted s t) condition number =
    sizes_with s (given_answer (given_over (variables t) condition Boolean)) (given_answer (given_over (variables t) number Number))
