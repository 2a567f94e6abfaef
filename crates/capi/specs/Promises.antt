-- What each function promises of its code and of all that it is lent: its `ensures`, word for word. Names with ' stand for what is left.
use Rattle.std.specs.Prelude.{◌≡◌, List, ℕ, zero, suc, ◌≤◌, ℤ}
use Rattle.results.specs.Results.{answered}
use Rattle.model.specs.Check.{Verdict, verdict, byte_verdict, answer_of}
use Rattle.model.specs.Check.Verdict.{refusal, accepted}
use Rattle.decoding.specs.Outside.{Handed}
use Rattle.standing.specs.Runs.{run}
use Rattle.steps.specs.Answers.{on_file, on_file_answer}
use Rattle.steps.specs.Calls as calls
use Rattle.inspection.specs.Queries as queries
use Rattle.run.specs.Promises.{seen_check}
use Rattle.texts.specs.Texts.{slices, typed_in}
use Rattle.synchronisation.specs.Synchronisations.{synchronised_by}
use Rattle.rewriting.specs.Rewriting.{rewritten_by}
use Rattle.windows.specs.Reports.{reported_in}
use Rattle.capi.specs.Codes.{coded_by, coded_rounds, coded_number, coded_sizes, coded_pick, coded_outside, coded_count}

-- the cell of the round count, by the code. 01: "so it is at most F + 1"
unfoldable pub CellBounded : Verdict → ℕ → ℕ → Type 0
CellBounded (refusal n) code rounds = Unit {0}
CellBounded (accepted z t) zero rounds = (1 ≤ rounds) × (rounds ≤ suc z.flows)
CellBounded (accepted z t) (suc code) rounds = Unit {0}

abbrev pub CheckCoded : List ℕ → List ℕ → ℕ → List ℕ → Type 0
CheckCoded m sizes code sizes' = answered code sizes' ≡ coded_sizes sizes (seen_check (answer_of (verdict m)))

-- the history is not lent to start
abbrev pub StartCoded : List ℕ → List ℤ → List ℕ → ℕ → ℕ → ℕ → List ℤ → List ℕ → ℕ → ℕ → Type 0
StartCoded m values marks n rounds code values' marks' n' rounds' =
    ((history : List ℕ) → answered code (run values' marks' history n', rounds')
    ≡ coded_rounds rounds (on_file (verdict m) (λ m. calls.start m (run values marks history n)) (run values marks history n)))
    × CellBounded (verdict m) code rounds'

abbrev pub FireCoded : List ℕ → List ℤ → List ℕ → List ℕ → ℕ → ℕ → ℕ → ℕ → List ℤ → List ℕ → List ℕ → ℕ → ℕ → Type 0
FireCoded m values marks history n t rounds code values' marks' history' n' rounds' =
    (answered code (run values' marks' history' n', rounds')
    ≡ coded_rounds rounds (on_file (verdict m) (λ m. calls.fire m t (run values marks history n)) (run values marks history n)))
    × CellBounded (verdict m) code rounds'

abbrev pub UndoCoded : List ℕ → List ℤ → List ℕ → List ℕ → ℕ → ℕ → List ℤ → List ℕ → ℕ → Type 0
UndoCoded m values marks history n code values' marks' n' =
    answered code (run values' marks' history n')
    ≡ coded_by (on_file (verdict m) (λ m. calls.undo m (run values marks history n)) (run values marks history n))

abbrev pub MarksCoded : List ℕ → List ℤ → List ℕ → List ℕ → ℕ → List ℕ → ℕ → List ℕ → Type 0
MarksCoded m values marks history n buffer code buffer' =
    answered code buffer' ≡ coded_by (on_file (verdict m) (λ m. queries.marks m (run values marks history n) buffer) buffer)

abbrev pub ValueCoded : List ℕ → List ℤ → List ℕ → List ℕ → ℕ → ℕ → ℤ → ℕ → ℤ → Type 0
ValueCoded m values marks history n x value code value' =
    answered code value' ≡ coded_number value (on_file_answer (verdict m) (λ m. queries.value m x (run values marks history n)))

abbrev pub PickCoded : List ℕ → List ℤ → List ℕ → List ℕ → ℕ → ℕ → ℕ → ℕ → ℕ → ℕ → Type 0
PickCoded m values marks history n transition found code transition' found' =
    answered code (transition', found')
    ≡ coded_pick (transition, found) (on_file_answer (verdict m) (λ m. queries.pick m (run values marks history n)))

-- neither the marks nor the history nor n is lent
abbrev pub FirstOutsideCoded : List ℕ → List ℤ → ℕ → ℕ → ℕ → ℕ → ℕ → ℕ → ℕ → Type 0
FirstOutsideCoded m values variable found looked code variable' found' looked' =
    answered code ((variable', found'), looked')
    ≡ coded_outside ((variable, found), looked) (on_file_answer (verdict m) (λ m. queries.range_check m values))

abbrev pub TextCoded : List ℕ → List ℕ → List ℕ → List ℤ → ℕ → ℕ → List ℕ → List ℤ → ℕ → Type 0
TextCoded m text kinds parameters count code kinds' parameters' count' =
    answered code (slices kinds' parameters', count') ≡ coded_count count (typed_in (verdict m) text (slices kinds parameters))

abbrev pub SynchroniseCoded : List ℕ → List ℕ → List ℕ → List ℕ → ℕ → ℕ → List ℕ → ℕ → Type 0
SynchroniseCoded m mandatory optional out new_length code out' new_length' =
    answered code (out', new_length') ≡ coded_count new_length (synchronised_by (verdict m) mandatory optional out)

-- by the old check
abbrev pub RewriteCoded : List ℕ → List ℕ → ℕ → ℕ → List ℕ → ℕ → Type 0
RewriteCoded old out new_length code out' new_length' =
    answered code (out', new_length') ≡ coded_count new_length (rewritten_by old (byte_verdict old) out)

-- an expression whose two slices are lent one by one
abbrev pub handed : List ℕ → List ℤ → Handed
handed kinds parameters = record { kinds = kinds; parameters = parameters }

-- W is `window`, and the log is the rows
abbrev pub WindowsCoded : List ℕ → Handed → Handed → ℕ → List ℤ → List ℤ → ℕ → ℕ → List ℤ → ℕ → Type 0
WindowsCoded m condition number window log figures count code figures' count' =
    answered code (figures', count') ≡ coded_count count (reported_in (verdict m) condition number window log figures)
