-- The statement on the calls. Proved in proofs/.
use Rattle.std.specs.Prelude.{◌≡◌, List, ℕ, ℤ}
use Rattle.results.specs.Results.{answered}
use Rattle.standing.specs.Runs.{Store, run, store}
use Rattle.run.specs.declared.Call.TheVariants.{Check, Start, Fire, Undo, Marks, Value, Pick, FirstOutside}
use Rattle.run.specs.Lists.{call}
use Rattle.capi.specs.Codes.{coded_by, coded_rounds, coded_number, coded_sizes, coded_pick, coded_outside}
use Rattle.capi.specs.Promises.{CheckCoded, StartCoded, FireCoded, UndoCoded, MarksCoded, ValueCoded, PickCoded, FirstOutsideCoded}

-- What each function promises is its call of crate `run`, over a store with all that is lent and the rest as it was: the code is that of
-- the call's answer, every cell is what the call leaves, and the results are the answer's.
pub record CallsReached : Type 0 where
  pub check : (m sizes : List ℕ) (code : ℕ) (sizes' : List ℕ) (s : Store) → CheckCoded m sizes code sizes'
      → (answered code sizes' ≡ coded_sizes sizes (call m Check s).answer) × (s ≡ (call m Check s).left)
  pub start : (m : List ℕ) (values : List ℤ) (marks history : List ℕ) (n : ℕ) (buffer : List ℕ) (rounds code : ℕ)
      (values' : List ℤ) (marks' : List ℕ) (n' rounds' : ℕ) → StartCoded m values marks n rounds code values' marks' n' rounds'
      → answered code (store (run values' marks' history n') buffer, rounds')
      ≡ coded_rounds rounds (call m Start (store (run values marks history n) buffer))
  pub fire : (m : List ℕ) (values : List ℤ) (marks history : List ℕ) (n t : ℕ) (buffer : List ℕ) (rounds code : ℕ)
      (values' : List ℤ) (marks' history' : List ℕ) (n' rounds' : ℕ)
      → FireCoded m values marks history n t rounds code values' marks' history' n' rounds'
      → answered code (store (run values' marks' history' n') buffer, rounds')
      ≡ coded_rounds rounds (call m (Fire t) (store (run values marks history n) buffer))
  pub undo : (m : List ℕ) (values : List ℤ) (marks history : List ℕ) (n : ℕ) (buffer : List ℕ) (code : ℕ)
      (values' : List ℤ) (marks' : List ℕ) (n' : ℕ) → UndoCoded m values marks history n code values' marks' n'
      → answered code (store (run values' marks' history n') buffer) ≡ coded_by (call m Undo (store (run values marks history n) buffer))
  pub marks : (m : List ℕ) (values : List ℤ) (marks history : List ℕ) (n : ℕ) (buffer : List ℕ) (code : ℕ) (buffer' : List ℕ)
      → MarksCoded m values marks history n buffer code buffer'
      → answered code (store (run values marks history n) buffer') ≡ coded_by (call m Marks (store (run values marks history n) buffer))
  pub value : (m : List ℕ) (values : List ℤ) (marks history : List ℕ) (n x : ℕ) (buffer : List ℕ) (old : ℤ) (code : ℕ) (new : ℤ)
      → ValueCoded m values marks history n x old code new
      → (answered code new ≡ coded_number old (call m (Value x) (store (run values marks history n) buffer)).answer)
      × (store (run values marks history n) buffer ≡ (call m (Value x) (store (run values marks history n) buffer)).left)
  pub pick : (m : List ℕ) (values : List ℤ) (marks history : List ℕ) (n : ℕ) (buffer : List ℕ) (transition found code transition' found' : ℕ)
      → PickCoded m values marks history n transition found code transition' found'
      → (answered code (transition', found') ≡ coded_pick (transition, found) (call m Pick (store (run values marks history n) buffer)).answer)
      × (store (run values marks history n) buffer ≡ (call m Pick (store (run values marks history n) buffer)).left)
  pub first_outside : (m : List ℕ) (values : List ℤ) (marks history : List ℕ) (n : ℕ) (buffer : List ℕ)
      (variable found looked code variable' found' looked' : ℕ) → FirstOutsideCoded m values variable found looked code variable' found' looked'
      → (answered code ((variable', found'), looked')
      ≡ coded_outside ((variable, found), looked) (call m FirstOutside (store (run values marks history n) buffer)).answer)
      × (store (run values marks history n) buffer ≡ (call m FirstOutside (store (run values marks history n) buffer)).left)
