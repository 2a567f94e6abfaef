-- FitsExact, SynchronisedAccepted.
use mathlib.Core.Path.{◌≡◌, refl, ap, ◌∙◌}
use mathlib.Core.Bool.{Bool, true, false, false≢true, ◌&&◌}
use mathlib.Core.List.{List, [], ◌∷◌, ◌++◌}
use Prim.Native.Nat.{ℕ, suc, ◌≤◌, ◌<◌}
use native.Mathlib.Omega.{arith}
use borrow.Author.Tests.{ltb-true, leb-true, lt-ltb, le-leb}
use lib.Dec.{leb, ltb}
use lib.ListN.{length}
use Rattle.std.specs.Prelude.{Some}
use Rattle.evaluation.specs.Numbers.{eq_z}
use Rattle.evaluation.specs.declared.Operator.{Operator}
use Rattle.evaluation.specs.declared.Operator.TheVariants.{Conjunction, Disjunction}
use Rattle.kinds.specs.Kinds.{boolean_sort, kind_of, result_of, operand_sort}
use Rattle.model.specs.Trees.{Transition, System, variables, depth_of, depth_of_expression}
use Rattle.model.specs.Nodes.{nodes_of_system}
use Rattle.model.specs.Sizes.{max_nodes, size_bound}
use Rattle.model.specs.Walk.{Scope}
use Rattle.model.specs.Check.{verdict, action_scope, max_depth}
use Rattle.model.specs.WellFormed.{Sorted, Scoped, AllScoped, GuardedBy, All, WellFormed, sizes_of}
use Rattle.model.specs.Theorems.{Bytes}
use Rattle.model.proofs.Representable.{all_append}
use Rattle.model.proofs.CheckExact.{check_exact, encode_accepted}
use Rattle.semantics.proofs.Knowing.{element_all}
use Rattle.synchronisation.specs.Synchronisations.{nested, guard_of, optional_branches, branches_of, together, extended_by, synchronised_of, fits}
use Rattle.synchronisation.specs.Theorems.{SynchronisedFile, FitsExact, SynchronisedAccepted}
use Rattle.synchronisation.proofs.Listed.{last_is, one_more, all_weaken, members_all}

-- ---- the new transition, of members that are guarded by the scope

module _ (events : ℕ) (s : Scope) where
  -- all are guarded
  abbrev Guarded : List Transition → Type 0
  Guarded ts = All (GuardedBy events s) ts

  -- guards joined by an operator that makes a Boolean of Booleans
  nested_sorted : (op : Operator) → boolean_sort ≡ result_of (kind_of op) → Some (operand_sort (kind_of op)) ≡ boolean_sort
      → (t : Transition) (ts : List Transition) → Guarded (t ∷ ts) → Sorted s.sorts boolean_sort (nested op t ts)
  unfolding nested All Sorted
  nested_sorted op r o t [] h = h.0.guard
  nested_sorted op r o t (u ∷ us) h = (r, rw o h.0.guard, rw o (nested_sorted op r o u us h.1))

  -- the guard is Boolean
  pub guard_sorted : (ts os : List Transition) → Guarded ts → Guarded os → Sorted s.sorts boolean_sort (guard_of ts os)
  unfolding guard_of Sorted eq_z kind_of result_of operand_sort
  guard_sorted (t ∷ ts) os h k = nested_sorted Conjunction refl refl t ts h
  guard_sorted [] (o ∷ os) h k = nested_sorted Disjunction refl refl o os k
  guard_sorted [] [] h k = (refl, tt)

  -- the optional branches assign in the scope, and their conditions are Boolean
  optional_scoped : (os : List Transition) → Guarded os → AllScoped (optional_branches os) s
  unfolding optional_branches All Scoped
  optional_scoped [] k = tt
  optional_scoped (o ∷ os) k = ((k.0.guard, k.0.action), optional_scoped os k.1)

  -- so do all branches
  pub branches_scoped : (ts os : List Transition) → Guarded ts → Guarded os → AllScoped (branches_of ts os) s
  unfolding branches_of All Scoped
  branches_scoped [] os h k = optional_scoped os k
  branches_scoped (t ∷ ts) os h k = (h.0.action, branches_scoped ts os h.1 k)

  -- what is guarded stays so under one event more
  one_event_more : (t : Transition) → GuardedBy events s t → GuardedBy (suc events) s t
  one_event_more t g =
      record {
        event = omega (arith, g.event);
        guard = g.guard;
        guard_depth = g.guard_depth;
        action = g.action;
        action_depth = g.action_depth;
      }

  -- the others and the new one are guarded
  all_guarded : (ts : List Transition) (u : Transition) → Guarded ts → GuardedBy (suc events) s u → All (GuardedBy (suc events) s) (ts ++ (u ∷ []))
  unfolding All
  all_guarded ts u h k = all_append _ ts (u ∷ []) (all_weaken _ _ one_event_more ts h) (k, tt)

-- ---- the limits

-- what `fits` tests
pub record Fitting (t : System) (u : Transition) : Type 0 where
  pub events : suc t.events < size_bound
  pub transitions : suc (length t.transitions) < size_bound
  pub nodes : length (nodes_of_system (extended_by t u)) ≤ max_nodes
  pub guard_depth : depth_of_expression u.guard ≤ max_depth
  pub action_depth : depth_of u.action ≤ max_depth

-- five tests that pass together pass each
all_five : (a b c d e : Bool) → ((a && b) && (c && (d && e))) ≡ true → (a ≡ true) × (b ≡ true) × (c ≡ true) × (d ≡ true) × (e ≡ true)
all_five false b c d e q = absurd (false≢true q)
all_five true false c d e q = absurd (false≢true q)
all_five true true false d e q = absurd (false≢true q)
all_five true true true false e q = absurd (false≢true q)
all_five true true true true e q = (refl, refl, refl, refl, q)

-- a transition that passes the tests keeps the limits
pub fitting_of : (t : System) (u : Transition) → fits t u ≡ true → Fitting t u
unfolding fits
fitting_of t u q =
    let h =
    all_five (ltb (suc t.events) size_bound) (ltb (suc (length t.transitions)) size_bound)
    (leb (length (nodes_of_system (extended_by t u))) max_nodes) (leb (depth_of_expression u.guard) max_depth) (leb (depth_of u.action) max_depth) q in
    record {
      events = ltb-true _ _ h.0;
      transitions = ltb-true _ _ h.1;
      nodes = leb-true _ _ h.2;
      guard_depth = leb-true _ _ h.3;
      action_depth = leb-true _ _ h.4;
    }

-- and one that keeps them passes
pub fits_by : (t : System) (u : Transition) → Fitting t u → fits t u ≡ true
unfolding fits
fits_by t u f =
    rw (lt-ltb _ _ f.events, lt-ltb _ _ f.transitions, le-leb _ _ f.nodes, le-leb _ _ f.guard_depth, le-leb _ _ f.action_depth)

-- the new transition of a well-formed tree does
fitting : (t : System) (u : Transition) → WellFormed (extended_by t u) → Fitting t u
fitting t u w =
    let g = element_all _ (t.transitions ++ (u ∷ [])) (length t.transitions) u w.guarded (last_is t.transitions u) in
    record {
      events = w.events;
      transitions = omega (arith, w.transitions, one_more t.transitions u);
      nodes = w.nodes;
      guard_depth = g.guard_depth;
      action_depth = g.action_depth;
    }

-- ---- the new model

-- guarded as the model's own transitions are
abbrev pub MembersGuarded : System → List Transition → Type 0
MembersGuarded t ts = All (GuardedBy t.events (action_scope (sizes_of t) (variables t))) ts

-- within the limits the new tree is well-formed
well_formed_lem : (t : System) (ts os : List Transition) → WellFormed t → MembersGuarded t ts → MembersGuarded t os
    → Fitting t (together t.events ts os) → WellFormed (synchronised_of t ts os)
unfolding Scoped
well_formed_lem t ts os w h k f =
    let s = action_scope (sizes_of t) (variables t) in
    let u = together t.events ts os in
    let g : GuardedBy (suc t.events) s u =
    record {
      event = omega arith;
      guard = guard_sorted t.events s ts os h k;
      guard_depth = f.guard_depth;
      action = branches_scoped t.events s ts os h k;
      action_depth = f.action_depth;
    } in
    record {
      states = w.states;
      flows = w.flows;
      events = f.events;
      transitions = omega (arith, f.transitions, one_more t.transitions u);
      nodes = f.nodes;
      few = w.few;
      declared = w.declared;
      guarded = all_guarded t.events s t.transitions u w.guarded g;
      assertion = w.assertion;
      assertion_depth = w.assertion_depth;
    }

pub fits_exact : FitsExact
fits_exact m ms os b z t read ts us found found' =
    let w = ((check_exact m b z t).0 read).2 in
    let u = together t.events ts us in (
      λ e. well_formed_lem t ts us w (members_all _ t.transitions w.guarded ms ts found) (members_all _ t.transitions w.guarded os us found')
          (fitting_of t u e),
      λ w. fits_by t u (fitting t u w),
    )

module _ {m ms os m' : List ℕ} (b : Bytes m) (f : SynchronisedFile m ms os m') where
  -- the model that a file is written from is well-formed
  pub before_formed : WellFormed f.before
  before_formed = ((check_exact m b f.sizes f.before).0 f.read).2

  -- its mandatory members are guarded
  pub mandatory_guarded : MembersGuarded f.before f.mandatory
  mandatory_guarded = members_all _ f.before.transitions before_formed.guarded ms f.mandatory f.mandatory_found

  -- and so are its optional ones
  pub optional_guarded : MembersGuarded f.before f.optional
  optional_guarded = members_all _ f.before.transitions before_formed.guarded os f.optional f.optional_found

pub synchronised_accepted : SynchronisedAccepted
synchronised_accepted m ms os m' b f =
    ap verdict f.written
    ∙ encode_accepted (synchronised_of f.before f.mandatory f.optional)
    ((fits_exact m ms os b f.sizes f.before f.read f.mandatory f.optional f.mandatory_found f.optional_found).0 f.fitting)
