-- Values stay within the ends: what an action assigns and what the assertion settles on lie within the ends of the variables, where the
-- values before do.
use mathlib.Core.Path.{◌≡◌, refl, ap, ◌∙◌}
use mathlib.Core.Logic.{inl, inr}
use mathlib.Core.Bool.{Bool, true, false, ◌&&◌, ◌||◌}
use mathlib.Core.List.{List, [], ◌∷◌, map}
use mathlib.Core.Option.{Option, some, none, none-ne-some, some-injective}
use Prim.Native.Nat.{ℕ, zero, suc, ◌+◌, ◌≤◌, ◌<◌}
use native.Mathlib.Nat.{le_of_suc-le-suc, not-suc-le-zero}
use native.Mathlib.Omega.{arith}
use borrow.Author.Tests.{eqb-true, not-false}
use lib.Dec.{T, eqb}
use lib.IntN.{ℤ, pos}
use lib.Signed.{le_z}
use lib.ListN.{length, take, get_elem?}
use Rattle.evaluation.specs.Numbers.{eq_z}
use Rattle.evaluation.proofs.Laws.{eq_z_true}
use Rattle.model.specs.Trees.{Instruction, Variable, System, variables}
use Rattle.syntax.specs.Readings.{is_truth}
use Rattle.model.specs.WellFormed.{Declared, All}
use Rattle.expressions.specs.Expressions.{Valuation, known_from, nothing_known}
use Rattle.interpreter.specs.declared.Fault.{Fault}
use Rattle.interpreter.specs.Instructions.{Effect, any, effects, is_within, is_outside, given_by, fault_of, first_of, given_to}
use Rattle.interpreter.specs.Instructions.Effect.{fails, gives}
use Rattle.semantics.specs.Actions.{value_or0, cells, changed, acted_by, act}
use Rattle.semantics.specs.Actions.Acted.{states}
use Rattle.semantics.specs.Propagation.{Reached, is_known, is_new, extended, round_by, rounds, first_value, reset_by, finished_by, finish, settled_from, settle}
use Rattle.semantics.specs.Propagation.Reached.{stopped, reached}
use Rattle.semantics.specs.Propagation.Settled.{settled}
use Rattle.semantics.proofs.Effects.{faultless}
use Rattle.replaying.proofs.Tests.{clash, by_test, neither, both}

-- what is known lies within the ends of its variable
abbrev pub Within : List Variable → Valuation → Type 0
Within vs σ = (x : ℕ) (v : ℤ) → σ x ≡ some v → T (is_within (get_elem? vs x) v)

-- ---- the values of a valuation as cells

length_cells : (σ : Valuation) (n x : ℕ) → length (cells σ n x) ≡ n
unfolding cells
length_cells σ zero x = refl
length_cells σ (suc n) x = ap suc (length_cells σ n (suc x))

cell_value_lem : (σ : Valuation) (n k i : ℕ) (v : ℤ) → get_elem? (cells σ n k) i ≡ some v → (i < n) × (value_or0 (σ (k + i)) ≡ v)
unfolding cells
cell_value_lem σ zero k i v e = absurd (none-ne-some v e)
cell_value_lem σ (suc n) k zero v e = let p : k + 0 ≡ k = omega arith in (omega arith, rw p (some-injective (value_or0 (σ k)) v e))
cell_value_lem σ (suc n) k (suc i) v e =
    let h : (i < n) × (value_or0 (σ (suc k + i)) ≡ v) = cell_value_lem σ n (suc k) i v e in
    let p : k + suc i ≡ suc k + i = omega arith in
    (omega arith, rw p h.1)

known_value : (o : Option ℤ) → T (is_known o) → o ≡ some (value_or0 o)
unfolding is_known value_or0
known_value none t = absurd t
known_value (some v) t = refl

cells_within : (vs : List Variable) (σ : Valuation) (n : ℕ) → Within vs σ → ((x : ℕ) → x < n → T (is_known (σ x)))
    → Within vs (known_from (cells σ n 0))
cells_within vs σ n within known x v e =
    let c : (x < n) × (value_or0 (σ (0 + x)) ≡ v) = cell_value_lem σ n 0 x v e in
    let p : 0 + x ≡ x = omega arith in
    within x v (known_value (σ x) (known x c.0) ∙ ap {B = Option ℤ} some (rw p at c.1))

known_below : (l : List ℤ) (x : ℕ) → x < length l → T (is_known (get_elem? l x))
unfolding is_known
known_below [] x h = absurd (not-suc-le-zero h)
known_below (v ∷ l) zero h = tt
known_below (v ∷ l) (suc x) h = known_below l x (le_of_suc-le-suc h)

-- ---- one value or another

either : (a b : Option ℤ) (v : ℤ) (P : Type 0) → (a ≡ some v → P) → (b ≡ some v → P) → first_of a b ≡ some v → P
unfolding first_of
either none b v P f g e = g e
either (some w) b v P f g e = f e

known_second : (a b : Option ℤ) → T (is_known b) → T (is_known (first_of a b))
unfolding first_of is_known
known_second none b t = t
known_second (some w) b t = tt

-- ---- the values that effects give

effect_within : (vs : List Variable) (x : ℕ) (e : Effect) (v : ℤ) → is_outside vs e ≡ false → given_by x e ≡ some v → T (is_within (get_elem? vs x) v)
unfolding is_outside given_by
effect_within vs x (fails manner) v o g = absurd (none-ne-some v g)
effect_within vs x (gives y w) v o g =
    by_test (λ (o : Option ℤ). o ≡ some v → T (is_within (get_elem? vs x) v)) (eqb x y) (some w) none
    (λ same e. rw (eqb-true x y same, ← some-injective w v e) (rw (not-false (is_within (get_elem? vs y) w) o) tt))
    (λ other e. absurd (none-ne-some v e)) g

given_within : (vs : List Variable) (x : ℕ) (es : List Effect) (v : ℤ) → any (is_outside vs) es ≡ false → given_to x es ≡ some v
    → T (is_within (get_elem? vs x) v)
unfolding any given_to
given_within vs x [] v o g = absurd (none-ne-some v g)
given_within vs x (e ∷ es) v o g =
    let h : (is_outside vs e ≡ false) × (any (is_outside vs) es ≡ false) = neither (is_outside vs e) (any (is_outside vs) es) o in
    either (given_by x e) (given_to x es) v _ (effect_within vs x e v h.0) (given_within vs x es v h.1) g

extended_within : (vs : List Variable) (es : List Effect) (σ : Valuation) → any (is_outside vs) es ≡ false → Within vs σ → Within vs (extended es σ)
extended_within vs es σ o within x v = either (σ x) (given_to x es) v _ (within x v) (given_within vs x es v o)

changed_within : (vs : List Variable) (es : List Effect) (σ : Valuation) → any (is_outside vs) es ≡ false → Within vs σ → Within vs (changed es σ)
changed_within vs es σ o within x v = either (given_to x es) (σ x) v _ (given_within vs x es v o) (within x v)

-- ---- first values

truth_within : (v : ℤ) → T (is_truth v) → T (le_z (pos 0) v && le_z v (pos 1))
truth_within v = go (eq_z v (pos 0)) (eq_z v (pos 1)) refl refl
  where
    go : (a b : Bool) → eq_z v (pos 0) ≡ a → eq_z v (pos 1) ≡ b → T (a || b) → T (le_z (pos 0) v && le_z v (pos 1))
    go true b e f t = rw (eq_z_true v (pos 0) e) tt
    go false true e f t = rw (eq_z_true v (pos 1) f) tt
    go false false e f t = absurd t

first_of_declared : (d : Variable) → Declared d → T (is_within (some d) d.first)
unfolding Declared is_within
first_of_declared d (inl h) = rw (h.1, h.2) (truth_within d.first h.3)
first_of_declared d (inr h) = both (le_z d.low d.first) (le_z d.first d.high) h.3 h.4

first_within : (vs : List Variable) → All Declared vs → (x : ℕ) (v : ℤ) → first_value (get_elem? vs x) ≡ some v → T (is_within (get_elem? vs x) v)
unfolding All first_value
first_within [] h x v e = absurd (none-ne-some v e)
first_within (d ∷ vs) h zero v e = rw (← some-injective d.first v e) (first_of_declared d h.0)
first_within (d ∷ vs) h (suc x) v e = first_within vs h.1 x v e

first_known : (vs : List Variable) (x : ℕ) → x < length vs → T (is_known (first_value (get_elem? vs x)))
unfolding first_value is_known
first_known [] x h = absurd (not-suc-le-zero h)
first_known (d ∷ vs) zero h = tt
first_known (d ∷ vs) (suc x) h = first_known vs x (le_of_suc-le-suc h)

pub initial_within : (vs : List Variable) → All Declared vs → (n : ℕ) → Within vs (known_from (map (λ d. d.first) (take n vs)))
unfolding All
initial_within vs h zero x v e = absurd (none-ne-some v e)
initial_within [] h (suc n) x v e = absurd (none-ne-some v e)
initial_within (d ∷ vs) h (suc n) zero v e = rw (← some-injective d.first v e) (first_of_declared d h.0)
initial_within (d ∷ vs) h (suc n) (suc x) v e = initial_within vs h.1 n x v e

-- ---- an action

pub act_within : (t : System) (i : Instruction) (values : List ℤ) → length t.states ≤ length values → Within (variables t) (known_from values)
    → (ss : List ℤ) → act t i values ≡ states ss → Within (variables t) (known_from ss)
unfolding act acted_by
act_within t i values long within ss = go (fault_of (variables t) nothing_known es) refl
  where
    es : List Effect
    es = effects i (known_from values)

    go : (f : Option Fault) → fault_of (variables t) nothing_known es ≡ f → acted_by (length t.states) values es f ≡ states ss
        → Within (variables t) (known_from ss)
    go (some f) e p = clash (cc)
    go none e p =
        let q : cells (changed es (known_from values)) (length t.states) 0 ≡ ss = cc in
        rw (← q)
        (cells_within (variables t) (changed es (known_from values)) (length t.states)
        (changed_within (variables t) es (known_from values) (faultless (variables t) nothing_known es e).outside within)
        (λ x h. known_second (given_to x es) (get_elem? values x) (known_below values x (omega arith))))

-- ---- the assertion

-- what holds of the valuation reached
Reaches : (Valuation → Type 0) → Reached → Type 0
Reaches P (stopped f) = Unit {0}
Reaches P (reached count σ) = P σ

module _ (vs : List Variable) (i : Instruction) (P : Valuation → Type 0)
    (step : (σ : Valuation) → fault_of vs σ (effects i σ) ≡ none → P σ → P (extended (effects i σ) σ)) where
  round_keeps : (next : ℕ → Valuation → Reached) → ((count : ℕ) (τ : Valuation) → P τ → Reaches P (next count τ)) → (count : ℕ) (σ : Valuation)
      (f : Option Fault) → fault_of vs σ (effects i σ) ≡ f → P σ → Reaches P (round_by next count σ (effects i σ) f)
  unfolding round_by Reaches
  round_keeps next keep count σ (some f) e p = tt
  round_keeps next keep count σ none e p =
      by_test (Reaches P) (any (is_new σ) (effects i σ)) _ _ (λ new. keep (suc count) (extended (effects i σ) σ) (step σ e p)) (λ rest. p)

  rounds_keep : (fuel count : ℕ) (σ : Valuation) → P σ → Reaches P (rounds vs i fuel count σ)
  unfolding rounds Reaches
  rounds_keep zero count σ p = p
  rounds_keep (suc fuel) count σ p =
      round_keeps (λ c τ. rounds vs i fuel c τ) (rounds_keep fuel) count σ (fault_of vs σ (effects i σ)) refl p

  -- what holds of the values settled on
  settled_keeps : (Q : List ℤ → Type 0) → ((σ : Valuation) → P σ → Q (cells (reset_by vs σ) (length vs) 0)) → (x : Reached) → Reaches P x
      → (count : ℕ) (values : List ℤ) → settled_from vs i x ≡ settled count values → Q values
  unfolding settled_from Reaches finish finished_by
  settled_keeps Q reset (stopped f) p count values e = clash (cc)
  settled_keeps Q reset (reached n σ) p count values e = go (fault_of vs (reset_by vs σ) (effects i (reset_by vs σ))) e
    where
      go : (f : Option Fault) → finished_by n (cells (reset_by vs σ) (length vs) 0) f ≡ settled count values → Q values
      go (some f) h = clash (cc)
      go none h = let q : cells (reset_by vs σ) (length vs) 0 ≡ values = cc in rw (← q) (reset σ p)

-- one cell for each variable
pub settle_complete : (t : System) (ss : List ℤ) (count : ℕ) (values : List ℤ) → settle t ss ≡ settled count values
    → length values ≡ length (variables t)
unfolding settle
settle_complete t ss =
    settled_keeps (variables t) t.assertion (λ σ. Unit {0}) (λ σ e p. tt) (λ values. length values ≡ length (variables t))
    (λ σ p. length_cells (reset_by (variables t) σ) (length (variables t)) 0) _
    (rounds_keep (variables t) t.assertion (λ σ. Unit {0}) (λ σ e p. tt) (suc (length t.flows)) 0 (known_from ss) tt)

pub settle_within : (t : System) → All Declared (variables t) → (ss : List ℤ) → Within (variables t) (known_from ss)
    → (count : ℕ) (values : List ℤ) → settle t ss ≡ settled count values → Within (variables t) (known_from values)
unfolding settle
settle_within t declared ss within =
    settled_keeps (variables t) t.assertion (Within (variables t)) step (λ values. Within (variables t) (known_from values))
    (λ σ p. cells_within (variables t) (reset_by (variables t) σ) (length (variables t))
    (λ x v. either (σ x) (first_value (get_elem? (variables t) x)) v _ (p x v) (first_within (variables t) declared x v))
    (λ x h. known_second (σ x) (first_value (get_elem? (variables t) x)) (first_known (variables t) x h)))
    _ (rounds_keep (variables t) t.assertion (Within (variables t)) step (suc (length t.flows)) 0 (known_from ss) within)
  where
    step : (σ : Valuation) → fault_of (variables t) σ (effects t.assertion σ) ≡ none → Within (variables t) σ
        → Within (variables t) (extended (effects t.assertion σ) σ)
    step σ e p = extended_within (variables t) (effects t.assertion σ) σ (faultless (variables t) σ (effects t.assertion σ) e).outside p
