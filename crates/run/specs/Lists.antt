-- Lists of calls on one store. 01: "In a list of demand 3 each model has one set of all that is lent beside it [..], one thing for each
-- use. Every call takes what it uses of this as the calls before, refused or not, left it".
use Rattle.std.specs.Prelude.{◌≡◌, List, [], ◌∷◌, ℕ, suc, ◌≤◌}
use Rattle.results.specs.Refusals.{number_of}
use Rattle.model.specs.declared.Sizes.{Sizes}
use Rattle.model.specs.Check.{Verdict, verdict}
use Rattle.model.specs.Check.Verdict.{refusal, accepted}
use Rattle.semantics.specs.Meanings.{Meaning, meaning_of}
use Rattle.run.specs.declared.Call.{Call}
use Rattle.run.specs.declared.Call.TheVariants.{Check, Start, Fire, Undo, Marks, Value, Pick, FirstOutside}
use Rattle.standing.specs.Runs.{Run, Store, Answer, Done, answered, with_run, with_buffer}
use Rattle.standing.specs.Runs.Answer.{refused, rounds, done, number, sizes, picked, outside}
use Rattle.steps.specs.Calls as calls
use Rattle.inspection.specs.Queries as queries

abbrev pub on_run : Store → Done Run → Done Store
on_run s d = answered d.answer (with_run d.left s)

abbrev pub on_buffer : Store → Done (List ℕ) → Done Store
on_buffer s d = answered d.answer (with_buffer d.left s)

-- a call on an accepted model, placed into the store
unfoldable pub call_on : Sizes → Meaning → Call → Store → Done Store
call_on z m Check s = answered (sizes z) s
call_on z m Start s = on_run s (calls.start m s.run)
call_on z m (Fire t) s = on_run s (calls.fire m t s.run)
call_on z m Undo s = on_run s (calls.undo m s.run)
call_on z m Marks s = on_buffer s (queries.marks m s.run s.buffer)
call_on z m (Value x) s = answered (queries.value m x s.run) s
call_on z m Pick s = answered (queries.pick m s.run) s
call_on z m FirstOutside s = answered (queries.range_check m s.run.values) s

unfoldable pub call_by : Verdict → Call → Store → Done Store
call_by (refusal r) c s = answered (refused (number_of r)) s
call_by (accepted z t) c s = call_on z (meaning_of t) c s

-- a call on a model file
abbrev pub call : List ℕ → Call → Store → Done Store
call m c s = call_by (verdict m) c s

-- the answer and the store after each call of a list, by the check's verdict
unfoldable pub calls_by : Verdict → List Call → Store → List (Done Store)
calls_by v [] s = []
calls_by v (c ∷ cs) s = call_by v c s ∷ calls_by v cs (call_by v c s).left

-- the same on a model file
abbrev pub calls_of : List ℕ → List Call → Store → List (Done Store)
calls_of m = calls_by (verdict m)

-- a round count that is answered. 01: "so it is at most F + 1"
unfoldable pub CountWithin : ℕ → Answer → Type 0
CountWithin flows (refused n) = Unit {0}
CountWithin flows (rounds n) = (1 ≤ n) × (n ≤ suc flows)
CountWithin flows done = Unit {0}
CountWithin flows (number v) = Unit {0}
CountWithin flows (sizes z) = Unit {0}
CountWithin flows (picked t) = Unit {0}
CountWithin flows (outside x looked) = Unit {0}

-- the same on a model file
unfoldable pub CountBounded : Verdict → Answer → Type 0
CountBounded (refusal n) a = Unit {0}
CountBounded (accepted z t) a = CountWithin z.flows a

-- what `perform` promises of a call's answer and of all that it leaves
abbrev pub Promise : List ℕ → Call → Store → Done Store → Type 0
Promise m c s d = d ≡ call m c s

-- as many results as calls, each one that the promise allows from what the result before left
pub data Performed (m : List ℕ) : List Call → Store → List (Done Store) → Type 0 where
  nothing : {s : Store} → Performed m [] s []
  next : {c : Call} {cs : List Call} {s : Store} {d : Done Store} {ds : List (Done Store)}
      → Promise m c s d → Performed m cs d.left ds → Performed m (c ∷ cs) s (d ∷ ds)

-- the store that the last of these results left; where there are none, the one at the beginning
unfoldable pub last_left : Store → List (Done Store) → Store
last_left s [] = s
last_left s (d ∷ ds) = last_left d.left ds
