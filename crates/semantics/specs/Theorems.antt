-- The laws of order; that nothing is unknown where every variable is known, and a guard then true, false or failed. Proved in proofs/.
use Rattle.std.specs.Prelude.{◌≡◌, ◌⊎◌, Bool, true, false, cond, ◌||◌, List, ℕ, suc, ◌≤◌, ◌<◌, T, ℤ, pos, length, get_or, Option}
use Rattle.std.proofs.Math.Option.{some}
use Rattle.std.proofs.Math.ListN.{get_elem?}
use Rattle.evaluation.specs.declared.Evaluation.{Evaluation}
use Rattle.evaluation.specs.declared.Evaluation.TheVariants.{Unknown, Failed, Value}
use Rattle.evaluation.specs.declared.Manner.{Manner}
use Rattle.evaluation.specs.Numbers.{eq_z, boolean}
use Rattle.evaluation.specs.Meaning.{is_unknown}
use Rattle.evaluation.specs.Laws.{Grows}
use Rattle.kinds.specs.declared.Sort.{Sort}
use Rattle.model.specs.declared.Sizes.{Sizes}
use Rattle.model.specs.Trees.{Expression, Instruction, Instructions, Variable, Transition, System, variables, sorts_of}
use Rattle.model.specs.Trees.Instruction.{skip, assign, if_then, block}
use Rattle.model.specs.Trees.Instructions.{none as no_branch, more}
use Rattle.model.specs.Check.{verdict}
use Rattle.model.specs.Check.Verdict.{accepted}
use Rattle.model.specs.WellFormed.{Sorted}
use Rattle.model.specs.Shuffle.{Shuffled}
use Rattle.model.specs.Theorems.{Bytes}
use Rattle.expressions.specs.Expressions.{Valuation, evaluate, known_from}
use Rattle.interpreter.specs.Instructions.{is_within}
use Rattle.semantics.specs.Propagation.{is_known, reset_by, rounds, settle}
use Rattle.semantics.specs.Propagation.Settled.{settled}
use Rattle.semantics.specs.Sequential.{Ended, end_of, Steps, Sequence}
use Rattle.semantics.specs.Meanings.{meaning_of}

-- more is known: a variable that is known keeps its value
abbrev pub Extends : Valuation → Valuation → Type 0
Extends σ τ = (x : ℕ) (v : ℤ) → σ x ≡ some v → τ x ≡ some v

-- an evaluation that is not unknown stays as more variables become known
abbrev pub EvaluationGrows : Type 0
EvaluationGrows = (e : Expression) (σ τ : Valuation) → Extends σ τ → Grows (evaluate e σ) (evaluate e τ)

-- the values lie within the ends of the states, one for each
pub record StateValues (t : System) (ss : List ℤ) : Type 0 where
  pub long : length ss ≡ length t.states
  pub within : (x : ℕ) → x < length ss → T (is_within (get_elem? (variables t) x) (get_or ss x (pos 0)))

-- 01: "the round count is how many were made, that last one included, so it is at most F + 1"
abbrev pub RoundsBounded : Type 0
RoundsBounded =
    (m : List ℕ) (s : Sizes) (t : System) → Bytes m → verdict m ≡ accepted s t → (ss : List ℤ) → length ss ≡ length t.states
    → (count : ℕ) (values : List ℤ) → settle t ss ≡ settled count values
    → (1 ≤ count) × (count ≤ suc (length t.flows)) × (length values ≡ length (variables t))

-- 01: "Rounds go on until one sets nothing": more fuel makes no other rounds
abbrev pub RoundsEnd : Type 0
RoundsEnd =
    (m : List ℕ) (s : Sizes) (t : System) → Bytes m → verdict m ≡ accepted s t → (ss : List ℤ) (fuel : ℕ) → length t.flows < fuel
    → rounds (variables t) t.assertion fuel 0 (known_from ss) ≡ rounds (variables t) t.assertion (suc (length t.flows)) 0 (known_from ss)

-- 01: "Slow hand and assertion alike succeed exactly if they meet no fault." Every complete sequence of single assignments ends
-- as the assertion does; every partial one, whatever was picked, has at most F steps and can be completed, and then ends so too.
abbrev pub SequentialAgrees : Type 0
SequentialAgrees =
    (m : List ℕ) (s : Sizes) (t : System) → Bytes m → verdict m ≡ accepted s t → (ss : List ℤ) → StateValues t ss
    → ((e : Ended) → Sequence (variables t) t.assertion (known_from ss) e → e ≡ end_of (settle t ss))
    × ((n : ℕ) (σ : Valuation) → Steps (variables t) t.assertion n (known_from ss) σ
    → (n ≤ length t.flows) × ((e : Ended) × Sequence (variables t) t.assertion σ e × (e ≡ end_of (settle t ss))))

-- shuffled models have equal meanings. 02, A8: "Shuffled branches report the same manner": evaluations and faults carry it
abbrev pub ShuffledMeansSame : Type 0
ShuffledMeansSame = (t t' : System) → Shuffled t t' → meaning_of t ≡ meaning_of t'

-- every variable is known
abbrev pub AllKnown : List Variable → Valuation → Type 0
AllKnown vs σ = (x : ℕ) → x < length vs → is_known (σ x) ≡ true

-- an if-then waits by its condition, or, where that is true, by its body
unfoldable pub waits_under : Evaluation → Bool → Bool
waits_under Unknown body = true
waits_under (Failed m) body = false
waits_under (Value v) body = cond (eq_z v (boolean true)) body false

-- a reached condition or an active expression is unknown; 01: "Unknown expressions and conditions wait."
unfoldable mutual
  pub waits : Instruction → Valuation → Bool
  waits skip σ = false
  waits (assign x e) σ = is_unknown (evaluate e σ)
  waits (if_then c i) σ = waits_under (evaluate c σ) (waits i σ)
  waits (block is) σ = any_waits is σ

  pub any_waits : Instructions → Valuation → Bool
  any_waits no_branch σ = false
  any_waits (more i is) σ = waits i σ || any_waits is σ

-- where 01 reads over known variables nothing is unknown
pub record NothingUnknown (t : System) : Type 0 where
  -- any expression that has its sort over the variables
  pub expressions : (e : Expression) (sort : Option Sort) → Sorted (sorts_of (variables t)) sort e
      → (σ : Valuation) → AllKnown (variables t) σ → is_unknown (evaluate e σ) ≡ false
  -- a mark 0 and a refusal 23 are of a guard that has a value
  pub guards : (k : ℕ) → k < length t.transitions → (values : List ℤ) → length values ≡ length (variables t)
      → is_unknown ((meaning_of t).guard k values) ≡ false
  -- 01: "An action is read over the old values, all known."
  pub actions : (k : ℕ) (u : Transition) → get_elem? t.transitions k ≡ some u → (values : List ℤ) → length values ≡ length (variables t)
      → waits u.action (known_from values) ≡ false
  -- 01: "Then flows still unknown take their reset values and one more, uncounted reading of all instructions"
  pub last_reading : (σ : Valuation) → waits t.assertion (reset_by (variables t) σ) ≡ false

-- so it is in every accepted model
abbrev pub KnownEvaluates : Type 0
KnownEvaluates = (m : List ℕ) (s : Sizes) (t : System) → Bytes m → verdict m ≡ accepted s t → NothingUnknown t

-- the values lie within the ends of the variables, one for each
pub record VariableValues (t : System) (values : List ℤ) : Type 0 where
  pub long : length values ≡ length (variables t)
  pub within : (x : ℕ) → x < length values → T (is_within (get_elem? (variables t) x) (get_or values x (pos 0)))

-- 01: a mark is "1 if its guard is true, 0 false, 2 failed", and over such values a guard is nothing else
abbrev pub GuardsDecide : Type 0
GuardsDecide =
    (m : List ℕ) (s : Sizes) (t : System) → Bytes m → verdict m ≡ accepted s t
    → (k : ℕ) → k < length t.transitions → (values : List ℤ) → VariableValues t values
    → ((manner : Manner) × ((meaning_of t).guard k values ≡ Failed manner)) ⊎ (((meaning_of t).guard k values ≡ Value (boolean false)) ⊎ ((meaning_of t).guard k values ≡ Value (boolean true)))
