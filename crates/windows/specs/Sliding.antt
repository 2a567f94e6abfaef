-- How the code works the figures out: two queues of rows. 02, A9: "though each row enters once and leaves at most once". A row that
-- makes the condition true enters the one, a row with a value the other, at the back; it leaves at the front when the window leaves it
-- behind, and the queue of values also at the back, when a later row reaches it.
use Rattle.std.specs.Prelude.{Bool, true, cond, not, List, [], ◌∷◌, ◌++◌, ℕ, zero, suc, ◌-◌, eqb, leb, ℤ, pos, get_or, Option, Some, None, is_some}
use Rattle.std.specs.List.{count_by}
use Rattle.std.specs.Int.Signed.{le_z}
use Rattle.evaluation.specs.declared.Evaluation.{Evaluation}
use Rattle.evaluation.specs.declared.Evaluation.TheVariants.{Unknown}
use Rattle.evaluation.specs.Meaning.{is_true}
use Rattle.windows.specs.declared.queue.Entry.{Entry}
use Rattle.windows.specs.Figures.{value_in, largest}

-- a row by its number, with its value
abbrev pub entry : ℕ → ℤ → Entry
entry row v = record { row = row; value = v }

-- the value that stands with a row where the condition is true; nothing reads it
abbrev pub unread : ℤ
unread = pos 0

-- ---- what the queues hold: of the rows of a window, the first of which has this number

-- those where the condition is true
unfoldable pub true_rows : ℕ → List Evaluation → List Entry
true_rows row [] = []
true_rows row (e ∷ es) = cond (is_true e) (entry row unread ∷ true_rows (suc row) es) (true_rows (suc row) es)

-- is a value above the largest of the later rows?
unfoldable pub beats : ℤ → Option ℤ → Bool
beats v None = true
beats v (Some w) = not (le_z v w)

-- a row, before those kept of the later rows: it is kept if it has a value above theirs
unfoldable pub kept_by : ℕ → Option ℤ → Option ℤ → List Entry → List Entry
kept_by row None later rest = rest
kept_by row (Some v) later rest = cond (beats v later) (entry row v ∷ rest) rest

-- those with a value that no later row reaches
unfoldable pub candidates : ℕ → List Evaluation → List Entry
candidates row [] = []
candidates row (e ∷ es) = kept_by row (value_in e) (largest es) (candidates (suc row) es)

-- ---- what a row changes

-- those above a value
unfoldable pub above : ℤ → List Entry → List Entry
above v [] = []
above v (c ∷ cs) = cond (le_z c.value v) (above v cs) (c ∷ above v cs)

-- a row enters at the back where the condition is true
abbrev pub with_true : ℕ → Bool → List Entry → List Entry
with_true row b cs = cond b (cs ++ (entry row unread ∷ [])) cs

-- a row enters at the back where it has a value: those that it reaches leave
unfoldable pub with_value : ℕ → Option ℤ → List Entry → List Entry
with_value row None cs = cs
with_value row (Some v) cs = above v cs ++ (entry row v ∷ [])

-- a row leaves at the front, if it is still there
unfoldable pub without : ℕ → List Entry → List Entry
without row [] = []
without row (c ∷ cs) = cond (eqb c.row row) cs (c ∷ cs)

unfoldable pub front_value : List Entry → Option ℤ
front_value [] = None
front_value (c ∷ cs) = Some c.value

-- ---- the window that slides, as its two queues

pub record Queues : Type 0 where
  pub trues : List Entry
  pub values : List Entry

abbrev pub queues : List Entry → List Entry → Queues
queues trues values = record { trues = trues; values = values }

abbrev pub entering : ℕ → Evaluation → Evaluation → Queues → Queues
entering row b x q = queues (with_true row (is_true b) q.trues) (with_value row (value_in x) q.values)

-- the row that a window of w rows leaves behind as this one enters, if there is one, leaves
unfoldable pub left_behind : ℕ → ℕ → Queues → Queues
left_behind w row q = cond (leb w row) (queues (without (row - w) q.trues) (without (row - w) q.values)) q

-- the queues after n rows: row n enters once, when the row that is left behind has left
unfoldable pub slid : ℕ → List Evaluation → List Evaluation → ℕ → Queues
slid w bs xs zero = queues [] []
slid w bs xs (suc n) = entering n (get_or bs n Unknown) (get_or xs n Unknown) (left_behind w n (slid w bs xs n))

-- how many rows have a value
abbrev pub count_values : List Evaluation → ℕ
count_values es = count_by (λ e. is_some (value_in e)) es
