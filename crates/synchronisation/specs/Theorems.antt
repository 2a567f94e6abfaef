-- The statements on synchronised transitions. Proved in proofs/.
use Rattle.std.specs.Prelude.{◌≡◌, ◌↔◌, true, false, cond, ◌&&◌, ℕ, suc, ◌≤◌, ◌<◌, eqb, ℤ, length, take, drop, Result, Ok, Err}
use mathlib.Core.List.{List, [], ◌∷◌, ◌++◌, map, flat_map}
use Rattle.std.proofs.Math.Option.{some}
use Rattle.std.proofs.Math.ListN.{get_elem?}
use Rattle.evaluation.specs.declared.Evaluation.{Evaluation}
use Rattle.evaluation.specs.declared.Evaluation.TheVariants.{Unknown, Failed, Value}
use Rattle.evaluation.specs.declared.Manner.TheVariants.{ZeroDivisor, TooLarge}
use Rattle.evaluation.specs.declared.Operator.{Operator}
use Rattle.evaluation.specs.declared.Operator.TheVariants.{Conjunction, Disjunction}
use Rattle.evaluation.specs.Numbers.{eq_z, boolean}
use Rattle.evaluation.specs.Meaning.{decision, decides, failed_in, negated}
use Rattle.results.specs.Results.{Answered, answered}
use Rattle.results.specs.declared.refusal.Refusal.{Refusal}
use Rattle.results.specs.declared.refusal.Refusal.TheVariants.{NoSuchTransition, NoMembers, LimitPassed}
use Rattle.model.specs.declared.Sizes.{Sizes}
use Rattle.model.specs.Trees.{Transition, System, variables}
use Rattle.model.specs.Trees.Instruction.{block}
use Rattle.model.specs.Check.{Verdict, verdict}
use Rattle.model.specs.Check.Verdict.{accepted}
use Rattle.model.specs.WellFormed.{All, WellFormed, encode, sizes_of}
use Rattle.model.specs.Theorems.{Bytes, ShuffledFile}
use Rattle.expressions.specs.Expressions.{Valuation, evaluate, known_from}
use Rattle.interpreter.specs.Instructions.{any, under, effects}
use Rattle.semantics.specs.declared.NotFired.TheVariants.{Disabled, GuardFailed}
use Rattle.semantics.specs.Actions.{Acted, act}
use Rattle.semantics.specs.Meanings.{Meaning, meaning_of}
use Rattle.semantics.specs.Theorems.{VariableValues}
use Rattle.semantics.specs.Firing.{Left, left_by_acting}
use Rattle.standing.specs.Runs.{Run, Done}
use Rattle.standing.specs.Runs.Answer.{refused}
use Rattle.standing.specs.Holding.{too_short, too_few, all_below, holds}
use Rattle.marking.specs.Marks.{mark_of}
use Rattle.steps.specs.Calls as calls
use Rattle.synchronisation.specs.Synchronisations.{members_of, guard_of, branches_of, together, synchronised_of, fits, is_empty, synchronised_in, synchronised_by}

-- the members are the transitions with these numbers, in the list's order, each as often as it is named
abbrev pub MembersExact : Type 0
MembersExact = (ts us : List Transition) (ks : List ℕ) → (members_of ts ks ≡ some us) ↔ (map (λ k. get_elem? ts k) ks ≡ map some us)

-- the bytes m' are what is written from the model m and these lists
pub record SynchronisedFile (m ms os m' : List ℕ) : Type 0 where
  pub sizes : Sizes
  pub before : System
  pub mandatory : List Transition
  pub optional : List Transition
  pub read : verdict m ≡ accepted sizes before
  pub given : (is_empty ms && is_empty os) ≡ false
  pub mandatory_found : members_of before.transitions ms ≡ some mandatory
  pub optional_found : members_of before.transitions os ≡ some optional
  pub fitting : fits before (together before.events mandatory optional) ≡ true
  pub written : m' ≡ encode (synchronised_of before mandatory optional)

-- what the call writes is such a file, so the statements below speak of it
abbrev pub SynchronisedWritten : Type 0
SynchronisedWritten =
    (m ms os old : List ℕ) (n : ℕ) → (synchronised_by (verdict m) ms os old).answer ≡ Ok n
    → SynchronisedFile m ms os (take n (synchronised_by (verdict m) ms os old).left)

-- the limits of 36 are those of the check: the tests pass exactly where the new tree is well-formed
abbrev pub FitsExact : Type 0
FitsExact =
    (m ms os : List ℕ) → Bytes m → (s : Sizes) (t : System) → verdict m ≡ accepted s t → (ts us : List Transition)
    → members_of t.transitions ms ≡ some ts → members_of t.transitions os ≡ some us
    → (fits t (together t.events ts us) ≡ true) ↔ WellFormed (synchronised_of t ts us)

-- the new model is accepted, with its own five sizes, and it is the tree that was meant
abbrev pub SynchronisedAccepted : Type 0
SynchronisedAccepted =
    (m ms os m' : List ℕ) → Bytes m → (f : SynchronisedFile m ms os m')
    → verdict m'
    ≡ accepted (sizes_of (synchronised_of f.before f.mandatory f.optional)) (synchronised_of f.before f.mandatory f.optional)

-- 02: "The answer is the new model's length in bytes": it is answered exactly where there is such a file and the slice has room for it
abbrev pub LengthExact : Type 0
LengthExact =
    (m ms os old : List ℕ) (n : ℕ)
    → ((synchronised_by (verdict m) ms os old).answer ≡ Ok n)
    ↔ ((m' : List ℕ) × SynchronisedFile m ms os m' × (n ≡ length m') × (length m' ≤ length old))

-- "cells past a result stay"
abbrev pub CellsStay : Type 0
CellsStay =
    (v : Verdict) (ms os old : List ℕ) (n : ℕ) → (synchronised_by v ms os old).answer ≡ Ok n
    → (length (synchronised_by v ms os old).left ≡ length old) × (drop n (synchronised_by v ms os old).left ≡ drop n old)

-- 01: a refused call changes nothing that was lent
abbrev pub RefusedLeavesCells : Type 0
RefusedLeavesCells =
    (v : Verdict) (ms os old : List ℕ) (r : Refusal) → (synchronised_by v ms os old).answer ≡ Err r → (synchronised_by v ms os old).left ≡ old

-- the refusals of a model that is accepted, each exactly where 02 says: "35 both lists empty, right after the model's check; then 11 for a
-- member; 36 the result would pass a limit of sizes, nodes or depth, or the slice lent for it, last"
pub record RefusedExactly (t : System) (ms os old : List ℕ) : Type 0 where
  pub empty : ((synchronised_in t ms os old).answer ≡ Err NoMembers) ↔ ((ms ≡ []) × (os ≡ []))
  pub missing : ((synchronised_in t ms os old).answer ≡ Err NoSuchTransition)
      ↔ (all_below (length t.transitions) ms && all_below (length t.transitions) os) ≡ false
  pub too_large : (ts us : List Transition) → members_of t.transitions ms ≡ some ts → members_of t.transitions os ≡ some us
      → (is_empty ms && is_empty os) ≡ false
      → ((synchronised_in t ms os old).answer ≡ Err LimitPassed)
      ↔ (WellFormed (synchronised_of t ts us) × (length (encode (synchronised_of t ts us)) ≤ length old) → ⊥)

abbrev pub RefusalsExact : Type 0
RefusalsExact =
    (m : List ℕ) → Bytes m → (s : Sizes) (t : System) → verdict m ≡ accepted s t → (ms os old : List ℕ) → RefusedExactly t ms os old

-- s' and t' are s and t with one transition more; no other one has its event
pub record OneMore (s s' : Sizes) (t t' : System) : Type 0 where
  pub states : s'.states ≡ s.states
  pub flows : s'.flows ≡ s.flows
  pub events : s'.events ≡ suc s.events
  pub transitions : s'.transitions ≡ suc s.transitions
  pub variables_stay : variables t' ≡ variables t
  pub assertion_stays : t'.assertion ≡ t.assertion
  pub others : take s.transitions t'.transitions ≡ t.transitions
  pub new_event : (u : Transition) × (get_elem? t'.transitions s.transitions ≡ some u) × (u.event ≡ s.events)
  pub other_events : All (λ u. u.event < s.events) t.transitions

-- 02: "a model with one transition more, after the others, under a new event E"
abbrev pub OneTransitionMore : Type 0
OneTransitionMore =
    (m ms os m' : List ℕ) → Bytes m → (f : SynchronisedFile m ms os m') (s : Sizes) (t : System) → verdict m' ≡ accepted s t
    → OneMore f.sizes s f.before t

-- firing by a guard and an action given as values, in a model's own terms
unfoldable pub by_guard : Meaning → List ℤ → Acted → Evaluation → Left
by_guard m old a Unknown = answered (Err Disabled) old
by_guard m old a (Failed manner) = answered (Err (GuardFailed manner)) old
by_guard m old a (Value v) = cond (eq_z v (boolean true)) (left_by_acting m old a) (answered (Err Disabled) old)

-- the meaning of the new model, and the number of its new transition
abbrev pub new_meaning : {m ms os m' : List ℕ} → SynchronisedFile m ms os m' → Meaning
new_meaning f = meaning_of (synchronised_of f.before f.mandatory f.optional)

abbrev pub new_number : {m ms os m' : List ℕ} → SynchronisedFile m ms os m' → ℕ
new_number f = length f.before.transitions

-- 02: "It fires with that block's values over the old ones": on a run that 9, 10, 20 and 21 let through its guard is evaluated, its block
-- acts and the assertion settles as they would in the old model
abbrev pub FiresTogether : Type 0
FiresTogether =
    (m ms os m' : List ℕ) (f : SynchronisedFile m ms os m') (r : Run)
    → too_short (new_meaning f) r.values ≡ false → too_few (new_meaning f) r.marks ≡ false → holds (new_meaning f) r ≡ true
    → eqb r.count (length r.history) ≡ false
    → calls.fire (new_meaning f) (new_number f) r
    ≡ calls.fired_by (new_meaning f) (new_number f) r
    (by_guard (meaning_of f.before) r.values
    (act f.before (block (branches_of f.mandatory f.optional)) (take (length (variables f.before)) r.values))
    (evaluate (guard_of f.mandatory f.optional) (known_from (take (length (variables f.before)) r.values))))

-- several known guards joined by and, or: decided by one that does, else failed if one is, by a zero divisor first (A8)
unfoldable pub joined_guard : Operator → List Evaluation → Evaluation
joined_guard op es =
    cond (any (decides op) es) (Value (decision op))
    (cond (any (failed_in ZeroDivisor) es) (Failed ZeroDivisor)
    (cond (any (failed_in TooLarge) es) (Failed TooLarge)
    (negated (Value (decision op)))))

-- what the guards of these transitions come to
abbrev pub member_guards : List Transition → List ℤ → List Evaluation
member_guards ts values = map (λ t. evaluate t.guard (known_from values)) ts

-- A5: "With mandatory ones its guard is their guards joined by and [..]. Otherwise it is the optional guards joined by or"
unfoldable pub together_guard : List Transition → List Transition → List ℤ → Evaluation
together_guard (t ∷ ts) os values = joined_guard Conjunction (member_guards (t ∷ ts) values)
together_guard [] os values = joined_guard Disjunction (member_guards os values)

-- what the guard of the new transition comes to, in its members' guards, over values within the ends of the variables; a mark (below) does
-- not tell a zero divisor from what is too large
abbrev pub GuardJoined : Type 0
GuardJoined =
    (m ms os m' : List ℕ) → Bytes m → (f : SynchronisedFile m ms os m') (values : List ℤ) → VariableValues f.before values
    → (new_meaning f).guard (new_number f) values ≡ together_guard f.mandatory f.optional values

-- 0 if one of the marks is 0, else 2 if one is 2, else 1; and the same with 0 and 1 exchanged
unfoldable pub all_mark : List ℕ → ℕ
all_mark ks = cond (any (λ k. eqb k 0) ks) 0 (cond (any (λ k. eqb k 2) ks) 2 1)

unfoldable pub any_mark : List ℕ → ℕ
any_mark ks = cond (any (λ k. eqb k 1) ks) 1 (cond (any (λ k. eqb k 2) ks) 2 0)

abbrev pub member_marks : List Transition → List ℤ → List ℕ
member_marks ts values = map (λ t. mark_of (evaluate t.guard (known_from values))) ts

unfoldable pub together_mark : List Transition → List Transition → List ℤ → ℕ
together_mark (t ∷ ts) os values = all_mark (member_marks (t ∷ ts) values)
together_mark [] os values = any_mark (member_marks os values)

-- the mark of the new transition, in its members' marks, over values within the ends of the variables. Section 10.4.2, of optional ones
-- alone: "the synchronizing transition is fireable if at least one of the synchronized transitions is"
abbrev pub GuardTogether : Type 0
GuardTogether =
    (m ms os m' : List ℕ) → Bytes m → (f : SynchronisedFile m ms os m') (values : List ℤ) → VariableValues f.before values
    → mark_of ((new_meaning f).guard (new_number f) values) ≡ together_mark f.mandatory f.optional values

-- the effects of the block: the mandatory actions in list order, then each optional action under its guard
abbrev pub EffectsTogether : Type 0
EffectsTogether =
    (ts os : List Transition) (σ : Valuation)
    → effects (block (branches_of ts os)) σ
    ≡ flat_map (λ t. effects t.action σ) ts ++ flat_map (λ o. under (evaluate o.guard σ) (effects o.action σ)) os

-- a by the old model, which has t transitions, b by the new one: the same but for the held mark of the new transition; where the answer
-- is a refusal, the whole run is the same
pub record SameButLastMark (t : ℕ) (a b : Done Run) : Type 0 where
  pub answer : b.answer ≡ a.answer
  pub values : b.left.values ≡ a.left.values
  pub history : b.left.history ≡ a.left.history
  pub count : b.left.count ≡ a.left.count
  pub marks : take t b.left.marks ≡ take t a.left.marks
  pub rest : drop (suc t) b.left.marks ≡ drop (suc t) a.left.marks
  pub kept : (n : ℕ) → a.answer ≡ refused n → b.left ≡ a.left

-- 10 and 20 do not refuse
abbrev pub NeitherRefuses : Done Run → Type 0
NeitherRefuses d = (d.answer ≡ refused 10 → ⊥) × (d.answer ≡ refused 20 → ⊥)

-- a call on a run that 10 and 20 refuse under neither model comes to the same under both
abbrev pub Stays : System → System → (Meaning → Run → Done Run) → Type 0
Stays t t' call =
    (r : Run) → NeitherRefuses (call (meaning_of t) r) → NeitherRefuses (call (meaning_of t') r)
    → SameButLastMark (length t.transitions) (call (meaning_of t) r) (call (meaning_of t') r)

-- 02: "on a run that 10 and 20 refuse under neither model, every old transition answers as before and leaves the same values"
abbrev pub OldTransitionsStay : Type 0
OldTransitionsStay =
    (m ms os m' : List ℕ) (f : SynchronisedFile m ms os m') (k : ℕ) → k < length f.before.transitions
    → Stays f.before (synchronised_of f.before f.mandatory f.optional) (λ x. calls.fire x k)

-- and so do start and undo, so that a run goes on
abbrev pub OldCallsStay : Type 0
OldCallsStay =
    (m ms os m' : List ℕ) (f : SynchronisedFile m ms os m')
    → Stays f.before (synchronised_of f.before f.mandatory f.optional) calls.start
    × Stays f.before (synchronised_of f.before f.mandatory f.optional) calls.undo

-- a shuffled model gives the same answer, and what is written of it is a shuffle of what is written of the other: what `OrderIndependent`
-- asks of two models on which lists of calls are made
pub record SameButShuffled (a b : Answered (Result ℕ Refusal) (List ℕ)) : Type 0 where
  pub answer : a.answer ≡ b.answer
  pub files : (n : ℕ) → a.answer ≡ Ok n → ShuffledFile (take n a.left) (take n b.left)
  pub rest : (n : ℕ) → a.answer ≡ Ok n → drop n a.left ≡ drop n b.left
  pub kept : (r : Refusal) → a.answer ≡ Err r → a.left ≡ b.left

abbrev pub SynchronisedShuffled : Type 0
SynchronisedShuffled =
    (m m₁ : List ℕ) → Bytes m → ShuffledFile m m₁ → (ms os cells : List ℕ)
    → SameButShuffled (synchronised_by (verdict m) ms os cells) (synchronised_by (verdict m₁) ms os cells)
