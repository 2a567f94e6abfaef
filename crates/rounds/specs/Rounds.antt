-- What the functions of the rounds ask and promise: a round in which some of what waited has been read again, and what is known between two rounds.
use Rattle.std.specs.Prelude.{Option as Optional, None, ◌≡◌, ◌⊎◌, true, false, ℕ, suc, ◌+◌, ◌-◌, ◌≤◌, ◌<◌, ℤ, length, get_or, take, drop, replicate}
use mathlib.Core.List.{List, ◌++◌, Memᴰ}
use Rattle.std.proofs.Math.Option.{none}
use Rattle.model.specs.Trees.{System, variables}
use Rattle.variables.specs.declared.VariableRow.{VariableRow}
use Rattle.variables.specs.Rows.{lows_in, highs_in}
use Rattle.expressions.specs.Expressions.{Valuation}
use Rattle.expressions.specs.Cells.{valuation_of}
use Rattle.interpreter.specs.declared.Gathered.{Gathered}
use Rattle.interpreter.specs.Instructions.{any, effects, fault_of}
use Rattle.interpreter.specs.Gathering.{gathering, gather_all, nothing_found, fault_in}
use Rattle.semantics.specs.Theorems.{Extends}
use Rattle.semantics.specs.Counting.{unknowns}
use Rattle.semantics.specs.Propagation.{is_new, extended, rounds}
use Rattle.waiting.specs.Waiting.{effects_of_each}
use Rattle.waiting.specs.Spots.{Spot, instructions_of}
use Rattle.waiting.specs.News.{news_of, Room}
use Rattle.waiting.specs.Marks.{mark_count}
use Rattle.waiting.specs.Waking.{Old, Woken, Marked}
use Rattle.rounds.specs.Cells.{AssertionStands}

-- every cell that the queue does not name from here on is as in `given`
abbrev pub Pending : List ℕ → ℕ → ℕ → List (Optional ℤ) → List (Optional ℤ) → Type 0
Pending queue done queued cells given =
    (length cells ≡ length given) × ((y : ℕ) → Memᴰ y (drop done (take queued queue)) ⊎ (get_or cells y None ≡ get_or given y None))

-- every entry of the queue is a cell
abbrev pub Queued : List ℕ → ℕ → ℕ → Type 0
Queued queue queued n = (queued ≤ length queue) × ((k : ℕ) → k < queued → get_or queue k 0 < n)

-- no mark there is of an earlier round
abbrev pub Done : ℕ → List ℕ → ℕ → Type 0
Done r waits p = Old r (get_or waits p 0) → ⊥

module _ (ks : List ℕ) (ps : List ℤ) (nexts : List ℕ) (rows : List VariableRow) (at : ℕ) where
  -- in round r, over the cells, some of what waited over σ was read; the queue held `before` at the beginning of the round
  pub record Waking (cells : List (Optional ℤ)) (r : ℕ) (a : AssertionStands ks ps nexts rows at) (σ : Valuation) (before : List ℕ)
      (found : Gathered) (given : List (Optional ℤ)) (queued : ℕ) (queue waits : List ℕ) : Type 0 where
    pub larger : Extends σ (valuation_of cells)
    pub later : 0 < r
    pub read : List Spot
    pub woken : Woken a.system.assertion at σ (valuation_of cells) r waits read
    pub gathered : gathering found given ≡ gather_all (lows_in rows) (highs_in rows) (effects_of_each (instructions_of read) (valuation_of cells)) (gathering nothing_found cells)
    pub news : take queued queue ≡ before ++ news_of (effects_of_each (instructions_of read) (valuation_of cells)) cells

  -- lengths, room in the queue, and the number of marks
  abbrev pub Fitting : List (Optional ℤ) → List (Optional ℤ) → ℕ → List ℕ → List ℕ → ℕ → Type 0
  Fitting cells given queued queue waits pending =
      (length waits ≡ length ks) × (length rows ≤ 65536) × (length rows ≤ length given) × (length cells ≡ length given) × Room given queued queue × (length queue ≤ 65536)
      × (pending ≡ mark_count waits)

  -- for some valuation and some beginning: what safety asks
  pub record SomeWaking (cells : List (Optional ℤ)) (r : ℕ) (found : Gathered) (given : List (Optional ℤ)) (queued : ℕ) (queue waits : List ℕ) : Type 0 where
    pub stands : AssertionStands ks ps nexts rows at
    pub valuation : Valuation
    pub before : List ℕ
    pub waking : Waking cells r stands valuation before found given queued queue waits

  -- what holds of the waking before holds after
  pub record StillWaking (cells : List (Optional ℤ)) (r : ℕ) (found : Gathered) (given : List (Optional ℤ)) (queued : ℕ) (queue waits : List ℕ)
      (found' : Gathered) (given' : List (Optional ℤ)) (queued' : ℕ) (queue' waits' : List ℕ) (pending' : ℕ) : Type 0 where
    pub still : (a : AssertionStands ks ps nexts rows at) (σ : Valuation) (before : List ℕ)
        → Waking cells r a σ before found given queued queue waits → Waking cells r a σ before found' given' queued' queue' waits'
    pub done : (p : ℕ) → Done r waits p → Done r waits' p
    pub room : Room given' queued' queue'
    pub counted : pending' ≡ mark_count waits'
    -- the entries so far stay
    pub more : List ℕ
    pub queue_kept : take queued' queue' ≡ take queued queue ++ more

  -- the rounds have come to rest: no fault, nothing new, the marks are those of what waits, all of them of a round that was made
  pub record Resting (a : AssertionStands ks ps nexts rows at) (cells : List (Optional ℤ)) (waits : List ℕ) (count pending : ℕ) : Type 0 where
    pub clear : fault_of (variables a.system) (valuation_of cells) (effects a.system.assertion (valuation_of cells)) ≡ none
    pub rest : any (is_new (valuation_of cells)) (effects a.system.assertion (valuation_of cells)) ≡ false
    pub marked : Marked a.system.assertion at (valuation_of cells) waits
    pub stamps : (p : ℕ) → get_or waits p 0 ≤ count
    pub counted : pending ≡ mark_count waits
    pub bounded : count ≤ suc (length a.system.flows)

-- ---- between the rounds

-- the rounds from these cells, so many being made, are those from the first cells, with fuel left for what is unknown
pub record Going (t : System) (cells₀ cells : List (Optional ℤ)) (count : ℕ) : Type 0 where
  pub left : ℕ
  pub same : rounds (variables t) t.assertion (suc (length t.flows)) 0 (valuation_of cells₀)
      ≡ rounds (variables t) t.assertion (suc left) count (valuation_of cells)
  pub enough : unknowns (valuation_of cells) (length t.flows) (length t.states) ≤ left
  pub bound : count + left ≤ length t.flows

module _ (ks : List ℕ) (ps : List ℤ) (nexts : List ℕ) (rows : List VariableRow) (at : ℕ) where
  -- after a reading over the cells: what it found, what waits, and the rounds so far
  pub record Between (cells₀ cells : List (Optional ℤ)) (r : ℕ) (a : AssertionStands ks ps nexts rows at) (found : Gathered) (given : List (Optional ℤ)) (waits : List ℕ) : Type 0 where
    pub going : Going a.system cells₀ cells (r - 1)
    pub first : 0 < r
    pub fault : fault_in found ≡ fault_of (variables a.system) (valuation_of cells) (effects a.system.assertion (valuation_of cells))
    pub fresh : found.fresh ≡ any (is_new (valuation_of cells)) (effects a.system.assertion (valuation_of cells))
    pub after : fault_in found ≡ none → valuation_of given ≡ extended (effects a.system.assertion (valuation_of cells)) (valuation_of cells)
    pub marked : Marked a.system.assertion at (valuation_of cells) waits
    pub stamps : (p : ℕ) → get_or waits p 0 ≤ r

  -- the same for every assertion that stands there, the queue, and how many marks there are
  pub record Turn (cells₀ cells given : List (Optional ℤ)) (queue waits : List ℕ) (found : Gathered) (queued pending r done : ℕ) : Type 0 where
    pub between : (a : AssertionStands ks ps nexts rows at) → Between cells₀ cells r a found given waits
    pub owed : Pending queue done queued cells given
    pub entries : Queued queue queued (length rows)
    pub ordered : done ≤ queued
    pub room : Room given queued queue
    pub counted : pending ≡ mark_count waits

  -- nothing is read yet
  pub record Unread (cells₀ cells given : List (Optional ℤ)) (waits : List ℕ) (queued r : ℕ) : Type 0 where
    pub first : r ≡ 1
    pub start : cells ≡ cells₀
    pub same : given ≡ cells
    pub blank : waits ≡ replicate (length ks) 0
    pub nothing_queued : queued ≡ 0

  -- the last round met no fault and gave a new value
  pub record Unsettled (cells₀ cells given : List (Optional ℤ)) (queue waits : List ℕ) (found : Gathered) (queued pending r done : ℕ) : Type 0 where
    pub last : ℕ
    pub next : r ≡ last + 1
    pub turn : Turn cells₀ cells given queue waits found queued pending last done
    pub clear : fault_in found ≡ none
    pub fresh : found.fresh ≡ true

  -- round r is to be read
  abbrev pub Ready : List (Optional ℤ) → List (Optional ℤ) → List (Optional ℤ) → List ℕ → List ℕ → Gathered → ℕ → ℕ → ℕ → ℕ → Type 0
  Ready cells₀ cells given queue waits found queued pending r done =
      Unread cells₀ cells given waits queued r ⊎ Unsettled cells₀ cells given queue waits found queued pending r done

  -- for some first cells: what safety asks
  pub record SomeReady (cells given : List (Optional ℤ)) (queue waits : List ℕ) (found : Gathered) (queued pending r done : ℕ) : Type 0 where
    pub stands : AssertionStands ks ps nexts rows at
    pub start : List (Optional ℤ)
    pub ready : Ready start cells given queue waits found queued pending r done
