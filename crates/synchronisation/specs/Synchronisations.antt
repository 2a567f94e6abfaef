-- 02: "From a model, a list of mandatory and a list of optional transitions, write a model with one transition more, after the others, under
-- a new event E."
use Rattle.std.specs.Prelude.{Bool, true, false, cond, not, ◌&&◌, ◌||◌, List, [], ◌∷◌, ◌++◌, ℕ, suc, leb, ltb, pos, length, Result, Ok, Err}
use Rattle.std.proofs.Math.Option.{Option, some, none}
use Rattle.std.proofs.Math.ListN.{get_elem?}
use Rattle.evaluation.specs.declared.Operator.{Operator}
use Rattle.evaluation.specs.declared.Operator.TheVariants.{Conjunction, Disjunction}
use Rattle.results.specs.Results.{Answered, answered, over}
use Rattle.results.specs.declared.refusal.Refusal.{Refusal}
use Rattle.results.specs.declared.refusal.Refusal.TheVariants.{NoSuchTransition, NoMembers, LimitPassed}
use Rattle.model.specs.Trees.{Expression, Instructions, Transition, System, depth_of, depth_of_expression}
use Rattle.model.specs.Trees.Expression.{truth, binary}
use Rattle.model.specs.Trees.Instruction.{if_then, block}
use Rattle.model.specs.Trees.Instructions.{none as no_branch, more}
use Rattle.model.specs.Nodes.{nodes_of_system}
use Rattle.model.specs.Sizes.{max_nodes, size_bound}
use Rattle.model.specs.Check.{Verdict, max_depth}
use Rattle.model.specs.Check.Verdict.{refusal, accepted}
use Rattle.model.specs.WellFormed.{encode}

-- one more, if it and the others are there
unfoldable pub with_first : Option Transition → Option (List Transition) → Option (List Transition)
with_first none rest = none
with_first (some t) none = none
with_first (some t) (some ts) = some (t ∷ ts)

-- the transitions with these numbers, in the list's order, each as often as it is named; none if one is not there (11)
unfoldable pub members_of : List Transition → List ℕ → Option (List Transition)
members_of ts [] = some []
members_of ts (k ∷ ks) = with_first (get_elem? ts k) (members_of ts ks)

-- 02: "joined by and, nested to the right"; "joined by or, likewise". One guard stands alone.
unfoldable pub nested : Operator → Transition → List Transition → Expression
nested op t [] = t.guard
nested op t (u ∷ us) = binary op t.guard (nested op u us)

-- 02: "With mandatory ones its guard is their guards joined by and [..]. Otherwise it is the optional guards joined by or". "for a single
-- optional event [the] closing sentence holds, not the guard "true" of its formula": its own guard. Without a member the call ends with
-- 35 before a guard is asked.
unfoldable pub guard_of : List Transition → List Transition → Expression
guard_of (t ∷ ts) os = nested Conjunction t ts
guard_of [] (o ∷ os) = nested Disjunction o os
guard_of [] [] = truth (pos 1)

-- 02: "then each optional action under its own guard"
unfoldable pub optional_branches : List Transition → Instructions
optional_branches [] = no_branch
optional_branches (o ∷ os) = more (if_then o.guard o.action) (optional_branches os)

-- 02: "a block of the mandatory actions in list order"
unfoldable pub branches_of : List Transition → List Transition → Instructions
branches_of [] os = optional_branches os
branches_of (t ∷ ts) os = more t.action (branches_of ts os)

-- the new transition, under this event; its action is a block also where it has one branch
abbrev pub together : ℕ → List Transition → List Transition → Transition
together e ts os = record { event = e; guard = guard_of ts os; action = block (branches_of ts os) }

-- 02: "a model with one transition more, after the others, under a new event E"
abbrev pub extended_by : System → Transition → System
extended_by t u =
    record {
      states = t.states;
      flows = t.flows;
      events = suc t.events;
      transitions = t.transitions ++ (u ∷ []);
      assertion = t.assertion;
    }

abbrev pub synchronised_of : System → List Transition → List Transition → System
synchronised_of t ts os = extended_by t (together t.events ts os)

-- the result passes none of the limits of 36: "a limit of sizes, nodes or depth"
unfoldable pub fits : System → Transition → Bool
fits t u =
    (ltb (suc t.events) size_bound && ltb (suc (length t.transitions)) size_bound)
    && (leb (length (nodes_of_system (extended_by t u))) max_nodes
    && (leb (depth_of_expression u.guard) max_depth && leb (depth_of u.action) max_depth))

unfoldable pub is_empty : List ℕ → Bool
is_empty [] = true
is_empty (k ∷ ks) = false

-- 36, last: a limit, "or the slice lent for it"; else 02: "The answer is the new model's length in bytes." Its bytes stand in the first
-- cells, the others stay.
unfoldable pub extended_into : System → Transition → List ℕ → Answered (Result ℕ Refusal) (List ℕ)
extended_into t u old =
    cond (not (fits t u) || ltb (length old) (length (encode (extended_by t u)))) (answered (Err LimitPassed) old)
    (answered (Ok (length (encode (extended_by t u)))) (over (encode (extended_by t u)) old))

-- 11 "for a member", of either list
unfoldable pub joined_into : System → Option (List Transition) → Option (List Transition) → List ℕ → Answered (Result ℕ Refusal) (List ℕ)
joined_into t none os old = answered (Err NoSuchTransition) old
joined_into t (some ts) none old = answered (Err NoSuchTransition) old
joined_into t (some ts) (some os) old = extended_into t (together t.events ts os) old

-- 35 for two empty lists, before a member is looked for
abbrev pub synchronised_in : System → List ℕ → List ℕ → List ℕ → Answered (Result ℕ Refusal) (List ℕ)
synchronised_in t ms os old =
    cond (is_empty ms && is_empty os) (answered (Err NoMembers) old)
    (joined_into t (members_of t.transitions ms) (members_of t.transitions os) old)

-- 02: "Errors: 35 both lists empty, right after the model's check; then 11 for a member; 36 [..] last". A refusal writes nothing.
unfoldable pub synchronised_by : Verdict → List ℕ → List ℕ → List ℕ → Answered (Result ℕ Refusal) (List ℕ)
synchronised_by (refusal r) ms os old = answered (Err r) old
synchronised_by (accepted z t) ms os old = synchronised_in t ms os old
