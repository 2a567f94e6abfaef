-- A shuffle keeps well-formedness and the five sizes, so a shuffled model is accepted too.
use mathlib.Core.Path.{◌≡◌, refl, sym, ap, ◌∙◌}
use mathlib.Core.List.{List}
use Prim.Native.Nat.{ℕ, suc, ◌+◌, max}
use native.Mathlib.Omega.{arith}
use lib.ListN.{length}
use Rattle.std.specs.Prelude.{Option}
use Rattle.kinds.specs.declared.Sort.{Sort}
use Rattle.kinds.specs.Kinds.{boolean_sort}
use Rattle.model.specs.Trees.{Expression, Instruction, Instructions, Transition, System, variables, depth_of_expression, depth_of, depth_of_all}
use Rattle.model.specs.Nodes.{nodes_of_system}
use Rattle.model.specs.declared.Layout.{Layout}
use Rattle.model.specs.Sizes.{file_layout}
use Rattle.model.specs.Walk.{Scope}
use Rattle.model.specs.Check.{verdict_of_layout}
use Rattle.model.specs.Check.Verdict.{accepted}
use Rattle.model.specs.WellFormed.{Sorted, Scoped, AllScoped, GuardedBy, All, WellFormedIn, sizes_of}
use Rattle.model.specs.Shuffle.{OperandsExchanged, Replaced, Exchanged, BranchesExchanged, TransitionExchanged, OneExchanged, SystemExchanged, Shuffled}
use Rattle.model.specs.Shuffle.OperandsExchanged.{here, in_negation, in_left, in_right, in_condition, in_then, in_else}
use Rattle.model.specs.Shuffle.Replaced.{first, later}
use Rattle.model.specs.Shuffle.Exchanged.{in_assigned, in_test, in_body, in_block}
use Rattle.model.specs.Shuffle.BranchesExchanged.{two, in_branch, in_rest}
use Rattle.model.specs.Shuffle.TransitionExchanged.{in_guard, in_action}
use Rattle.model.specs.Shuffle.OneExchanged.{in_first, in_later}
use Rattle.model.specs.Shuffle.SystemExchanged.{in_transitions, in_assertion}
use Rattle.model.specs.Shuffle.Shuffled.{same, step}
use Rattle.model.specs.Standing.{size_of_expression, size_of, size_of_all, size_of_transition, size_of_transitions}
use Rattle.model.specs.Theorems.{ShuffledAccepted, LayoutsShuffled}
use Rattle.model.proofs.NodeTrees.{system_size}
use Rattle.model.proofs.Encoding.{sizes_path}
use Rattle.model.proofs.CheckExact.{check_exact_in, layouts_sound, encode_accepted_in}

-- ---- expressions

operands_size : {e e' : Expression} → OperandsExchanged e e' → size_of_expression e ≡ size_of_expression e'
unfolding size_of_expression
operands_size (here q) = omega arith
operands_size (in_negation x) = omega (arith, operands_size x)
operands_size (in_left x) = omega (arith, operands_size x)
operands_size (in_right x) = omega (arith, operands_size x)
operands_size (in_condition x) = omega (arith, operands_size x)
operands_size (in_then x) = omega (arith, operands_size x)
operands_size (in_else x) = omega (arith, operands_size x)

pub operands_depth : {e e' : Expression} → OperandsExchanged e e' → depth_of_expression e ≡ depth_of_expression e'
unfolding depth_of_expression
operands_depth (here q) = omega arith
operands_depth (in_negation x) = omega (arith, operands_depth x)
operands_depth (in_left x) = omega (arith, operands_depth x)
operands_depth (in_right x) = omega (arith, operands_depth x)
operands_depth (in_condition x) = omega (arith, operands_depth x)
operands_depth (in_then x) = omega (arith, operands_depth x)
operands_depth (in_else x) = omega (arith, operands_depth x)

operands_sorted : (sorts : List Sort) {e e' : Expression} → OperandsExchanged e e' → (wanted : Option Sort) → Sorted sorts wanted e → Sorted sorts wanted e'
unfolding Sorted
operands_sorted sorts (here q) wanted h = (h.0, h.2, h.1)
operands_sorted sorts (in_negation x) wanted h = (h.0, operands_sorted sorts x boolean_sort h.1)
operands_sorted sorts (in_left x) wanted h = (h.0, operands_sorted sorts x _ h.1, h.2)
operands_sorted sorts (in_right x) wanted h = (h.0, h.1, operands_sorted sorts x _ h.2)
operands_sorted sorts (in_condition x) wanted h = (operands_sorted sorts x boolean_sort h.0, h.1, h.2)
operands_sorted sorts (in_then x) wanted h = (h.0, operands_sorted sorts x wanted h.1, h.2)
operands_sorted sorts (in_else x) wanted h = (h.0, h.1, operands_sorted sorts x wanted h.2)

-- ---- branches of one block

module _ {a b : Instruction} where
  replaced_size : {is is' : Instructions} → Replaced a b is is' → size_of a + size_of_all is ≡ size_of b + size_of_all is'
  unfolding size_of_all
  replaced_size first = omega arith
  replaced_size (later x) = omega (arith, replaced_size x)

  replaced_depth : {is is' : Instructions} → Replaced a b is is' → max (depth_of a) (depth_of_all is) ≡ max (depth_of b) (depth_of_all is')
  unfolding depth_of_all
  replaced_depth first = omega arith
  replaced_depth (later x) = omega (arith, replaced_depth x)

  replaced_scoped : (s : Scope) {is is' : Instructions} → Replaced a b is is' → Scoped a s → AllScoped is s → Scoped b s × AllScoped is' s
  unfolding AllScoped
  replaced_scoped s first h k = (k.0, (h, k.1))
  replaced_scoped s (later x) h k = let r = replaced_scoped s x h k.1 in (r.0, (k.0, r.1))

-- ---- instructions

mutual
  unfolding size_of size_of_all

  exchanged_size : {i i' : Instruction} → Exchanged i i' → size_of i ≡ size_of i'
  exchanged_size (in_assigned x) = omega (arith, operands_size x)
  exchanged_size (in_test x) = omega (arith, operands_size x)
  exchanged_size (in_body x) = omega (arith, exchanged_size x)
  exchanged_size (in_block x) = omega (arith, branches_size x)

  branches_size : {is is' : Instructions} → BranchesExchanged is is' → size_of_all is ≡ size_of_all is'
  branches_size (two x) = replaced_size x
  branches_size (in_branch x) = omega (arith, exchanged_size x)
  branches_size (in_rest x) = omega (arith, branches_size x)

mutual
  unfolding depth_of depth_of_all

  pub exchanged_depth : {i i' : Instruction} → Exchanged i i' → depth_of i ≡ depth_of i'
  exchanged_depth (in_assigned x) = omega (arith, operands_depth x)
  exchanged_depth (in_test x) = omega (arith, operands_depth x)
  exchanged_depth (in_body x) = omega (arith, exchanged_depth x)
  exchanged_depth (in_block x) = omega (arith, branches_depth x)

  branches_depth : {is is' : Instructions} → BranchesExchanged is is' → depth_of_all is ≡ depth_of_all is'
  branches_depth (two x) = replaced_depth x
  branches_depth (in_branch x) = omega (arith, exchanged_depth x)
  branches_depth (in_rest x) = omega (arith, branches_depth x)

mutual
  unfolding Scoped AllScoped

  exchanged_scoped : {i i' : Instruction} → Exchanged i i' → (s : Scope) → Scoped i s → Scoped i' s
  exchanged_scoped (in_assigned x) s h = (h.0, h.1, operands_sorted s.sorts x _ h.2)
  exchanged_scoped (in_test x) s h = (operands_sorted s.sorts x boolean_sort h.0, h.1)
  exchanged_scoped (in_body x) s h = (h.0, exchanged_scoped x s h.1)
  exchanged_scoped (in_block x) s h = branches_scoped x s h

  branches_scoped : {is is' : Instructions} → BranchesExchanged is is' → (s : Scope) → AllScoped is s → AllScoped is' s
  branches_scoped (two x) s h = replaced_scoped s x h.0 h.1
  branches_scoped (in_branch x) s h = (exchanged_scoped x s h.0, h.1)
  branches_scoped (in_rest x) s h = (h.0, branches_scoped x s h.1)

-- ---- transitions

transition_size : {t t' : Transition} → TransitionExchanged t t' → size_of_transition t ≡ size_of_transition t'
unfolding size_of_transition
transition_size (in_guard x) = omega (arith, operands_size x)
transition_size (in_action x) = omega (arith, exchanged_size x)

transition_guarded : {t t' : Transition} → TransitionExchanged t t' → (events : ℕ) (s : Scope) → GuardedBy events s t → GuardedBy events s t'
transition_guarded (in_guard x) events s h =
    record {
      event = h.event;
      guard = operands_sorted s.sorts x boolean_sort h.guard;
      guard_depth = omega (arith, h.guard_depth, operands_depth x);
      action = h.action;
      action_depth = h.action_depth;
    }
transition_guarded (in_action x) events s h =
    record {
      event = h.event;
      guard = h.guard;
      guard_depth = h.guard_depth;
      action = exchanged_scoped x s h.action;
      action_depth = omega (arith, h.action_depth, exchanged_depth x);
    }

one_size : {ts ts' : List Transition} → OneExchanged ts ts' → (length ts ≡ length ts') × (size_of_transitions ts ≡ size_of_transitions ts')
unfolding size_of_transitions
one_size (in_first x) = (refl, omega (arith, transition_size x))
one_size (in_later x) = let h = one_size x in (ap suc h.0, omega (arith, h.1))

one_guarded : {ts ts' : List Transition} → OneExchanged ts ts' → (events : ℕ) (s : Scope) → All (GuardedBy events s) ts → All (GuardedBy events s) ts'
unfolding All
one_guarded (in_first x) events s h = (transition_guarded x events s h.0, h.1)
one_guarded (in_later x) events s h = (h.0, one_guarded x events s h.1)

-- ---- systems

system_nodes : {t t' : System} → SystemExchanged t t' → length (nodes_of_system t) ≡ length (nodes_of_system t')
system_nodes {t} {t'} (in_transitions x) = omega (arith, system_size t, system_size t', (one_size x).1)
system_nodes {t} {t'} (in_assertion x) = omega (arith, system_size t, system_size t', exchanged_size x)

system_sizes : {t t' : System} → SystemExchanged t t' → sizes_of t ≡ sizes_of t'
system_sizes {t} {t'} (in_transitions x) = sizes_path refl refl refl (one_size x).0 (system_nodes (in_transitions x))
system_sizes {t} {t'} (in_assertion x) = sizes_path refl refl refl refl (system_nodes (in_assertion x))

pub exchanged_well_formed : {l : Layout} {t t' : System} → SystemExchanged t t' → WellFormedIn l t → WellFormedIn l t'
exchanged_well_formed {t = t} {t' = t'} (in_transitions x) w =
    let n : length (nodes_of_system t) ≡ length (nodes_of_system t') = system_nodes (in_transitions x) in
    record {
      states = w.states;
      flows = w.flows;
      events = w.events;
      transitions = omega (arith, w.transitions, (one_size x).0);
      nodes = omega (arith, w.nodes, n);
      few = w.few;
      declared = w.declared;
      guarded = one_guarded x _ _ w.guarded;
      assertion = w.assertion;
      assertion_depth = w.assertion_depth;
    }
exchanged_well_formed {t = t} {t' = t'} (in_assertion x) w =
    let n : length (nodes_of_system t) ≡ length (nodes_of_system t') = system_nodes (in_assertion x) in
    record {
      states = w.states;
      flows = w.flows;
      events = w.events;
      transitions = w.transitions;
      nodes = omega (arith, w.nodes, n);
      few = w.few;
      declared = w.declared;
      guarded = w.guarded;
      assertion = exchanged_scoped x _ w.assertion;
      assertion_depth = omega (arith, w.assertion_depth, exchanged_depth x);
    }

pub shuffled_well_formed : {l : Layout} {t t' : System} → Shuffled t t' → WellFormedIn l t → WellFormedIn l t'
shuffled_well_formed same w = w
shuffled_well_formed (step x r) w = shuffled_well_formed r (exchanged_well_formed x w)

-- an exchange leaves the variables
exchanged_variables : {t t' : System} → SystemExchanged t t' → variables t ≡ variables t'
exchanged_variables (in_transitions x) = refl
exchanged_variables (in_assertion x) = refl

-- and so do any number of them
pub shuffled_variables : {t t' : System} → Shuffled t t' → variables t ≡ variables t'
shuffled_variables same = refl
shuffled_variables (step x r) = exchanged_variables x ∙ shuffled_variables r

pub shuffled_sizes : {t t' : System} → Shuffled t t' → sizes_of t ≡ sizes_of t'
shuffled_sizes same = refl
shuffled_sizes (step x r) = system_sizes x ∙ shuffled_sizes r

pub shuffled_accepted_in : LayoutsShuffled
shuffled_accepted_in l sound m m' b f =
    let e = (check_exact_in l sound m b f.sizes f.before).0 f.read in
    ap (verdict_of_layout l) f.written ∙ encode_accepted_in sound f.after (shuffled_well_formed f.shuffled e.2)
    ∙ ap (λ s. accepted s f.after) (sym (e.1 ∙ shuffled_sizes f.shuffled))

-- of the files that every call reads
pub shuffled_accepted : ShuffledAccepted
shuffled_accepted = shuffled_accepted_in file_layout layouts_sound.1
