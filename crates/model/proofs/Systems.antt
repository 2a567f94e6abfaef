-- What the functions that walk over transitions and the whole of the nodes answer: a law for each, step by step as they go; for
-- the whole one for each place where it returns.
use mathlib.Core.Path.{◌≡◌, refl, sym, ap, ◌∙◌}
use mathlib.Core.Bool.{Bool, true, false, cond}
use mathlib.Core.List.{List}
use Prim.Native.Nat.{ℕ, ◌+◌}
use lib.Dec.{ltb}
use lib.IntN.{ℤ}
use Rattle.syntax.specs.declared.Cursor.{Cursor}
use Rattle.model.specs.declared.Sizes.{Sizes}
use Rattle.model.specs.Trees.{Variable, sorts_of}
use Rattle.model.specs.Walk.{Walk, Scope, scope_of, and_then, outcome, expression_at, instruction_at, variable_at, transition_at, row_at}
use Rattle.kinds.specs.declared.Sort.{Sort}
use Rattle.kinds.specs.Kinds.{boolean_sort}
use Rattle.std.specs.Prelude.{Result, Ok, Err}
use Rattle.results.specs.declared.refusal.Refusal.{Refusal}
use Rattle.results.specs.declared.refusal.Refusal.TheVariants.{NodesLeftOver}
use Rattle.syntax.specs.Readings.{transition_reading, transition_refusal}
use Rattle.model.specs.Walk.Walk.{refused, found}
use Rattle.model.specs.Check.{max_depth, complete, rest_at, system_at}
use Rattle.model.proofs.Walking.{Walked, split, same_place, and_step, outcome_next, outcome_last, outcome_due}

module _ (ks : List ℕ) (ps : List ℤ) where
  pub transition_outcome : (events : ℕ) (s : Scope) (depth at : ℕ) → outcome (transition_at ks ps events s depth at)
      ≡ and_step (transition_reading ks ps events at) (λ node. and_step (outcome (expression_at ks ps s.sorts depth boolean_sort node.next.at))
      (λ c. outcome (instruction_at ks ps s depth c.at)))
  unfolding transition_at
  transition_outcome events s depth at =
      outcome_due ks ps (transition_refusal ks ps events at) at _ _ (λ e. outcome_next _ _ _ (λ g n. outcome_last _ _))

-- ---- nodes left over

then_refused : {A B : Type 0} (w : Walk A) (k : A → ℕ → Walk B) {r : Walked} {n : Refusal} → r ≡ outcome w → r ≡ Err n
    → Err n ≡ outcome (and_then w k)
unfolding outcome and_then
then_refused (refused m) k e h = sym h ∙ e
then_refused (found a next) k e h = absurd (split h e)

-- the outcome of a complete walk, by the outcome of the walk
complete_refused : {A : Type 0} (n : ℕ) (w : Walk A) {m : Refusal} → Err m ≡ outcome w → Err m ≡ outcome (complete n w)
unfolding complete
complete_refused n w e = then_refused w _ e refl

complete_outcome : {A : Type 0} (n : ℕ) (w : Walk A) → outcome (complete n w) ≡ and_step (outcome w) (λ c. cond (ltb c.at n) (Err NodesLeftOver) (Ok c))
unfolding complete outcome
complete_outcome n w = outcome_next w _ _ (λ a m. by a m (ltb m n))
  where
    by : {A : Type 0} (a : A) (m : ℕ) (t : Bool) → outcome (cond t (refused NodesLeftOver) (found a m)) ≡ cond t (Err NodesLeftOver) (Ok (record { at = m }))
    by a m true = refl
    by a m false = refl

complete_next : {A B : Type 0} (n : ℕ) (w : Walk A) (k : A → ℕ → Walk B) {r x : Walked} {c : Cursor} → r ≡ outcome w → r ≡ Ok c
    → ((a : A) → w ≡ found a c.at → x ≡ outcome (complete n (k a c.at))) → x ≡ outcome (complete n (and_then w k))
unfolding and_then outcome
complete_next n (refused m) k e h f = absurd (split e h)
complete_next n (found a next) k e h f = rw (same_place e h) (f a (ap (found a) (same_place e h)))

-- a tree built at the end changes nothing
complete_found : {A B : Type 0} (n : ℕ) (w : Walk A) (f : A → B) → outcome (complete n w) ≡ outcome (complete n (and_then w (λ a next. found (f a) next)))
unfolding complete and_then outcome
complete_found n (refused m) f = refl
complete_found n (found a next) f = by (ltb next n)
  where
    by : (t : Bool) → outcome (cond t (refused NodesLeftOver) (found a next)) ≡ outcome (cond t (refused NodesLeftOver) (found (f a) next))
    by true = refl
    by false = refl

-- ---- what follows the variables

two_steps : {A B C : Type 0} (r : Result A Refusal) (f : A → Result B Refusal) (g : B → Result C Refusal)
    → and_step (and_step r f) g ≡ and_step r (λ a. and_step (f a) g)
two_steps (Ok a) f g = refl
two_steps (Err r) f g = refl

module _ (ks : List ℕ) (ps : List ℤ) (sorts : List Sort) (s : Sizes) (at : ℕ) where
  abbrev transitions : Walked
  transitions = outcome (row_at (transition_at ks ps s.events (scope_of sorts 0 s.states) max_depth) s.transitions at)

  abbrev assertion : ℕ → Walked
  assertion place = outcome (instruction_at ks ps (scope_of sorts s.states (s.states + s.flows)) max_depth place)

  rest_steps : outcome (rest_at ks ps sorts s at) ≡ and_step transitions (λ c. assertion c.at)
  unfolding rest_at
  rest_steps = outcome_next _ _ _ (λ ts n. outcome_last _ _)

  pub rest_outcome : outcome (complete s.nodes (rest_at ks ps sorts s at))
      ≡ and_step transitions (λ c. and_step (assertion c.at) (λ d. cond (ltb d.at s.nodes) (Err NodesLeftOver) (Ok d)))
  rest_outcome =
      complete_outcome s.nodes (rest_at ks ps sorts s at)
      ∙ ap (λ (r : Walked). and_step r (λ d. cond (ltb d.at s.nodes) (Err NodesLeftOver) (Ok d))) rest_steps
      ∙ two_steps transitions _ _

-- ---- the system

module _ (ks : List ℕ) (ps : List ℤ) (s : Sizes) {r : Walked} (e : r ≡ outcome (row_at (variable_at ks ps) (s.states + s.flows) 0)) where
  pub variables_refused : {n : Refusal} → r ≡ Err n → Err n ≡ outcome (complete s.nodes (system_at ks ps s))
  unfolding system_at
  variables_refused h = complete_refused s.nodes _ (then_refused _ _ e h)

  pub system_walked : {c : Cursor} {x : Walked} (sorts : List Sort) → r ≡ Ok c
      → ((vs : List Variable) (next : ℕ) → row_at (variable_at ks ps) (s.states + s.flows) 0 ≡ found vs next → sorts ≡ sorts_of vs)
      → x ≡ outcome (complete s.nodes (rest_at ks ps sorts s c.at)) → x ≡ outcome (complete s.nodes (system_at ks ps s))
  unfolding system_at
  system_walked {c} sorts h f i = complete_next s.nodes _ _ e h (λ vs q. (rw (f vs c.at q) at i) ∙ complete_found s.nodes _ _)
