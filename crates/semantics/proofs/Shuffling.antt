-- Shuffled models have equal meanings (specs/Theorems.antt).
use mathlib.Core.Path.{◌≡◌, refl, sym, ap, fun_ext, ◌∙◌}
use mathlib.Core.Bool.{Bool, true, false, cond, ◌||◌}
use mathlib.Core.List.{List, [], ◌++◌}
use mathlib.Core.Option.{Option, some, none}
use Prim.Native.Nat.{ℕ, zero, suc}
use lib.IntN.{ℤ}
use lib.ListN.{length, get_elem?}
use Rattle.evaluation.specs.declared.Evaluation.{Evaluation}
use Rattle.evaluation.specs.declared.Evaluation.TheVariants.{Unknown, Failed, Value}
use Rattle.evaluation.specs.Numbers.{eq_z, boolean}
use Rattle.evaluation.specs.Meaning.{operated, negated, chosen}
use Rattle.evaluation.proofs.Laws.{operands_exchange}
use Rattle.model.specs.Trees.{Expression, Instruction, Instructions, Variable, Transition, System, variables}
use Rattle.model.specs.Shuffle.{OperandsExchanged, Replaced, Exchanged, BranchesExchanged, OneExchanged, SystemExchanged, Shuffled}
use Rattle.model.specs.Shuffle.OperandsExchanged.{here, in_negation, in_left, in_right, in_condition, in_then, in_else}
use Rattle.model.specs.Shuffle.Replaced.{first, later}
use Rattle.model.specs.Shuffle.Exchanged.{in_assigned, in_test, in_body, in_block}
use Rattle.model.specs.Shuffle.BranchesExchanged.{two, in_branch, in_rest}
use Rattle.model.specs.Shuffle.TransitionExchanged.{in_guard, in_action}
use Rattle.model.specs.Shuffle.OneExchanged.{in_first, in_later}
use Rattle.model.specs.Shuffle.SystemExchanged.{in_transitions, in_assertion}
use Rattle.model.specs.Shuffle.Shuffled.{same, step}
use Rattle.expressions.specs.Expressions.{Valuation, evaluate, known_from, nothing_known}
use Rattle.interpreter.specs.Instructions.{Effect, any, assigned, under, effects, effects_of_all, fault_of, first_of}
use Rattle.interpreter.specs.declared.Fault.{Fault}
use Rattle.semantics.specs.Actions.{cells, acted_by, act}
use Rattle.semantics.specs.Actions.Acted.{states}
use Rattle.semantics.specs.Propagation.{Reached, is_new, extended, round_by, rounds, reset_by, finished_by, finish, settled_from, settle}
use Rattle.semantics.specs.Propagation.Reached.{stopped, reached}
use Rattle.semantics.specs.Meanings.{guard_in, action_in, meaning_of}
use Rattle.semantics.specs.Theorems.{ShuffledMeansSame}
use Rattle.semantics.proofs.Effects.{faultless}
use Rattle.semantics.proofs.Alike.{Alike, any_append, or_exchange, faults_alike, given_alike}

-- ---- expressions

pub evaluations_same : {a b : Expression} → OperandsExchanged a b → (σ : Valuation) → evaluate a σ ≡ evaluate b σ
unfolding evaluate
evaluations_same (here {op = op} {a = a} {b = b} s) σ = operands_exchange op s (evaluate a σ) (evaluate b σ)
evaluations_same (in_negation h) σ = ap negated (evaluations_same h σ)
evaluations_same (in_left {op = op} {b = b} h) σ = ap (λ v. operated op v (evaluate b σ)) (evaluations_same h σ)
evaluations_same (in_right {op = op} {a = a} h) σ = ap (λ v. operated op (evaluate a σ) v) (evaluations_same h σ)
evaluations_same (in_condition {a = a} {b = b} h) σ = ap (λ v. chosen v (evaluate a σ) (evaluate b σ)) (evaluations_same h σ)
evaluations_same (in_then {c = c} {b = b} h) σ = ap (λ v. chosen (evaluate c σ) v (evaluate b σ)) (evaluations_same h σ)
evaluations_same (in_else {c = c} {a = a} h) σ = ap (λ v. chosen (evaluate c σ) (evaluate a σ) v) (evaluations_same h σ)

-- ---- instructions

equal_alike : {l m : List Effect} → l ≡ m → Alike l m
equal_alike h = record { tests = λ p. ap (any p) h }

cond_alike : (t : Bool) {l m : List Effect} → Alike l m → Alike (cond t l []) (cond t m [])
cond_alike true h = h
cond_alike false h = equal_alike refl

under_alike : (v : Evaluation) {l m : List Effect} → Alike l m → Alike (under v l) (under v m)
unfolding under
under_alike Unknown h = equal_alike refl
under_alike (Failed manner) h = equal_alike refl
under_alike (Value v) h = cond_alike (eq_z v (boolean true)) h

chain_alike : {l m n : List Effect} → Alike l m → Alike m n → Alike l n
chain_alike h k = record { tests = λ p. h.tests p ∙ k.tests p }

front_alike : (l : List Effect) {m m' : List Effect} → Alike m m' → Alike (l ++ m) (l ++ m')
front_alike l {m} {m'} h = record { tests = λ p. any_append p l m ∙ ap (λ t. any p l || t) (h.tests p) ∙ sym (any_append p l m') }

back_alike : {l l' : List Effect} → Alike l l' → (m : List Effect) → Alike (l ++ m) (l' ++ m)
back_alike {l} {l'} h m = record { tests = λ p. any_append p l m ∙ ap (λ t. t || any p m) (h.tests p) ∙ sym (any_append p l' m) }

front_exchange : (l m n : List Effect) → Alike (l ++ (m ++ n)) (m ++ (l ++ n))
front_exchange l m n = record { tests = λ p. simp any_append (or_exchange (any p l) (any p m) (any p n)) }

-- with an exchange of a and b
branches_alike : {a b : Instruction} {is js : Instructions} → Replaced a b is js → (σ : Valuation)
    → Alike (effects a σ ++ effects_of_all is σ) (effects b σ ++ effects_of_all js σ)
unfolding effects
branches_alike {a} {b} (first {is = is}) σ = front_exchange (effects a σ) (effects b σ) (effects_of_all is σ)
branches_alike {a} {b} (later {i = i} {is = is} {is' = js} h) σ =
    chain_alike (front_exchange (effects a σ) (effects i σ) (effects_of_all is σ))
    (chain_alike (front_alike (effects i σ) (branches_alike h σ)) (front_exchange (effects i σ) (effects b σ) (effects_of_all js σ)))

mutual
  unfolding effects

  pub effects_alike : {i j : Instruction} → Exchanged i j → (σ : Valuation) → Alike (effects i σ) (effects j σ)
  effects_alike (in_assigned {x = x} h) σ = equal_alike (ap (assigned x) (evaluations_same h σ))
  effects_alike (in_test {i = i} h) σ = equal_alike (ap (λ v. under v (effects i σ)) (evaluations_same h σ))
  effects_alike (in_body {c = c} h) σ = under_alike (evaluate c σ) (effects_alike h σ)
  effects_alike (in_block h) σ = all_alike h σ

  pub all_alike : {is js : Instructions} → BranchesExchanged is js → (σ : Valuation) → Alike (effects_of_all is σ) (effects_of_all js σ)
  all_alike (two h) σ = branches_alike h σ
  all_alike (in_branch {is = is} h) σ = back_alike (effects_alike h σ) (effects_of_all is σ)
  all_alike (in_rest {i = i} h) σ = front_alike (effects i σ) (all_alike h σ)

-- ---- actions

acted_alike : (n : ℕ) (values : List ℤ) (vs : List Variable) {l m : List Effect} → Alike l m → (f : Option Fault) → fault_of vs nothing_known l ≡ f
    → acted_by n values l f ≡ acted_by n values m f
unfolding acted_by
acted_alike n values vs h (some f) e = refl
acted_alike n values vs {l} h none e =
    ap (λ τ. states (cells τ n 0)) (fun_ext (λ x. ap (λ g. first_of g (known_from values x)) (given_alike h nothing_known (faultless vs nothing_known l e).conflict x)))

act_same : (t : System) {i j : Instruction} → Exchanged i j → (values : List ℤ) → act t i values ≡ act t j values
unfolding act
act_same t {i} {j} h values =
    acted_alike (length t.states) values (variables t) (effects_alike h (known_from values)) _ refl
    ∙ ap (acted_by (length t.states) values (effects j (known_from values))) (faults_alike (effects_alike h (known_from values)) (variables t) nothing_known)

-- ---- the assertion

round_alike : (vs : List Variable) {next next' : ℕ → Valuation → Reached} → next ≡ next' → (count : ℕ) (σ : Valuation) {l m : List Effect}
    → Alike l m → (f : Option Fault) → fault_of vs σ l ≡ f → round_by next count σ l f ≡ round_by next' count σ m f
unfolding round_by
round_alike vs e count σ h (some f) q = refl
round_alike vs e count σ {l} {m} h none q = λ d. cond (h.tests (is_new σ) d) (e d (suc count) (further d)) (reached (suc count) σ)
  where
    further : extended l σ ≡ extended m σ
    further = fun_ext (λ x. ap (λ g. first_of (σ x) g) (given_alike h σ (faultless vs σ l q).conflict x))

module _ (vs : List Variable) {i j : Instruction} (h : Exchanged i j) where
  rounds_same : (fuel count : ℕ) (σ : Valuation) → rounds vs i fuel count σ ≡ rounds vs j fuel count σ
  unfolding rounds
  rounds_same zero count σ = refl
  rounds_same (suc fuel) count σ =
      round_alike vs (fun_ext (λ c. fun_ext (λ τ. rounds_same fuel c τ))) count σ (effects_alike h σ) (fault_of vs σ (effects i σ)) refl
      ∙ ap (round_by (λ c τ. rounds vs j fuel c τ) count σ (effects j σ)) (faults_alike (effects_alike h σ) vs σ)

  finish_same : (count : ℕ) (σ : Valuation) → finish vs i count σ ≡ finish vs j count σ
  unfolding finish
  finish_same count σ =
      ap (finished_by count (cells (reset_by vs σ) (length vs) 0)) (faults_alike (effects_alike h (reset_by vs σ)) vs (reset_by vs σ))

  settled_same : (r : Reached) → settled_from vs i r ≡ settled_from vs j r
  unfolding settled_from
  settled_same (stopped f) = refl
  settled_same (reached count σ) = finish_same count σ

  assertions_same : (fuel : ℕ) (σ : Valuation) → settled_from vs i (rounds vs i fuel 0 σ) ≡ settled_from vs j (rounds vs j fuel 0 σ)
  assertions_same fuel σ = settled_same (rounds vs i fuel 0 σ) ∙ ap (settled_from vs j) (rounds_same fuel 0 σ)

-- ---- models

guards_same : {ts ts' : List Transition} → OneExchanged ts ts' → (k : ℕ) (σ : Valuation)
    → guard_in (get_elem? ts k) σ ≡ guard_in (get_elem? ts' k) σ
unfolding guard_in
guards_same (in_first (in_guard h)) zero σ = evaluations_same h σ
guards_same (in_first (in_action h)) zero σ = refl
guards_same (in_first h) (suc k) σ = refl
guards_same (in_later h) zero σ = refl
guards_same (in_later h) (suc k) σ = guards_same h k σ

actions_same : (s : System) {ts ts' : List Transition} → OneExchanged ts ts' → (k : ℕ) (values : List ℤ)
    → action_in s (get_elem? ts k) values ≡ action_in s (get_elem? ts' k) values
unfolding action_in
actions_same s (in_first (in_guard h)) zero values = refl
actions_same s (in_first (in_action h)) zero values = act_same s h values
actions_same s (in_first h) (suc k) values = refl
actions_same s (in_later h) zero values = refl
actions_same s (in_later h) (suc k) values = actions_same s h k values

lengths_same : {ts ts' : List Transition} → OneExchanged ts ts' → length ts ≡ length ts'
lengths_same (in_first h) = refl
lengths_same (in_later h) = ap suc (lengths_same h)

-- an action depends on the variables alone
action_by_variables : (s s' : System) → s.states ≡ s'.states → s.flows ≡ s'.flows → (o : Option Transition) (values : List ℤ)
    → action_in s o values ≡ action_in s' o values
unfolding action_in act
action_by_variables s s' p q none values = refl
action_by_variables s s' p q (some t) values =
    λ d. acted_by (length (p d)) values (effects t.action (known_from values)) (fault_of (p d ++ q d) nothing_known (effects t.action (known_from values)))

one_means_same : {t t' : System} → SystemExchanged t t' → meaning_of t ≡ meaning_of t'
unfolding meaning_of settle
one_means_same {t} {t'} (in_transitions {ss = ss} {fs = fs} h) =
    λ d. record {
      declarations = ss ++ fs;
      states = length ss;
      transitions = lengths_same h d;
      guard = λ k values. guards_same h k (known_from values) d;
      action = λ k values. (actions_same t h k values ∙ action_by_variables t t' refl refl (get_elem? t'.transitions k) values) d;
      propagate = settle t;
    }
one_means_same {t} {t'} (in_assertion {ss = ss} {fs = fs} {ts = ts} h) =
    λ d. record {
      declarations = ss ++ fs;
      states = length ss;
      transitions = length ts;
      guard = λ k values. guard_in (get_elem? ts k) (known_from values);
      action = λ k values. action_by_variables t t' refl refl (get_elem? ts k) values d;
      propagate = λ values. assertions_same (ss ++ fs) h (suc (length fs)) (known_from values) d;
    }

shuffled : {t t' : System} → Shuffled t t' → meaning_of t ≡ meaning_of t'
shuffled same = refl
shuffled (step h k) = one_means_same h ∙ shuffled k

pub shuffled_means_same : ShuffledMeansSame
shuffled_means_same t t' h = shuffled h
