-- Guards of a loaded model: what the guard over the values of all variables comes to either ends the firing or lets it go on.
use Rattle.std.specs.Prelude.{Result, Ok, Err}
use mathlib.Core.Path.{◌≡◌, refl, ap, ◌∙◌}
use mathlib.Core.Bool.{Bool, true, false, cond, true≢false}
use mathlib.Core.List.{List, [], ◌∷◌}
use mathlib.Core.Option.{none}
use Prim.Native.Nat.{ℕ, zero, suc, ◌+◌, ◌≤◌, ◌<◌}
use native.Mathlib.Nat.{not-suc-le-zero, le_of_suc-le-suc}
use native.Mathlib.Omega.{arith}
use lib.IntN.{ℤ}
use lib.ListN.{length, take, get_or, get_elem?, length-append}
use Rattle.evaluation.specs.declared.Evaluation.{Evaluation}
use Rattle.evaluation.specs.declared.Evaluation.TheVariants.{Unknown, Failed, Value}
use Rattle.evaluation.specs.Numbers.{eq_z, boolean}
use Rattle.model.specs.Sizes.{max_variables}
use Rattle.model.specs.declared.Model.{Model}
use Rattle.model.specs.Trees.{Expression, variables}
use Rattle.model.specs.Standing.{ExpressionAt, size_of_expression}
use Rattle.expressions.specs.declared.Evaluated.{Evaluated}
use Rattle.expressions.specs.Expressions.{Valuation, evaluate}
use Rattle.expressions.specs.Cells.{evaluated_as, ExpressionStands}
use Rattle.semantics.specs.declared.NotFired.TheVariants.{Disabled, GuardFailed}
use Rattle.semantics.specs.declared.NotFired.{NotFired}
use Rattle.semantics.specs.Meanings.{Meaning, guard_in, guard_over}
use Rattle.semantics.specs.Firing.{Left, left_by_acting, left_by_guard}
use Rattle.semantics.proofs.Knowing.{element_below}
use Rattle.results.specs.Results.{answered}
use Rattle.variables.proofs.Columns.{row_count}
use Rattle.engine.specs.Cells.{Loaded, admission}
use Rattle.engine.proofs.Loading.{loaded_well_formed, loaded_states, loaded_flows, loaded_guards, loaded_guard}
use Rattle.variables.specs.declared.VariableRow.{VariableRow}

no_element : {A : Type 0} (l : List A) (x : ℕ) → length l ≤ x → get_elem? l x ≡ none
no_element [] x h = refl
no_element (a ∷ l) zero h = absurd (not-suc-le-zero h)
no_element (a ∷ l) (suc x) h = no_element l x (le_of_suc-le-suc h)

module _ {model : Model} {kinds : List ℕ} {parameters : List ℤ} {rows : List VariableRow} {nexts guards : List ℕ}
    (d : Loaded model kinds parameters rows nexts guards) where
  pub length_all : length (variables d.decoded.system) ≡ model.sizes.states + model.sizes.flows
  length_all =
      length-append d.decoded.system.states d.decoded.system.flows ∙ omega (arith, loaded_states d, loaded_flows d)

  pub all_rows : length rows ≡ length (variables d.decoded.system)
  all_rows = row_count (variables d.decoded.system) d.decoded.variables_decoded

  pub few_variables : model.sizes.states + model.sizes.flows ≤ max_variables
  few_variables = omega (arith, length_all, (loaded_well_formed d).few)

  -- ---- a guard over cells

  module _ (k : ℕ) where
    pub guard_stands : k < length guards → ExpressionStands kinds parameters (get_or guards k 0)
    guard_stands h =
        let t = element_below d.decoded.system.transitions k (omega (arith, loaded_guards d)) in
        record { expression = t.0.guard; stands = loaded_guard d k t.0 t.1 }

    pub guard_missing : length guards ≤ k → (σ : Valuation) → Unknown ≡ guard_over d.decoded.system k σ
    unfolding guard_in
    guard_missing h σ = rw (no_element d.decoded.system.transitions k (omega (arith, loaded_guards d)))

    pub guard_evaluated : k < length guards → (σ : Valuation) (r : Evaluated)
        → ((e : Expression) → ExpressionAt kinds parameters e (get_or guards k 0) → r ≡ evaluated_as (evaluate e σ) (get_or guards k 0 + size_of_expression e))
        → r.evaluation ≡ guard_over d.decoded.system k σ
    unfolding guard_in
    guard_evaluated h σ r e =
        let t = element_below d.decoded.system.transitions k (omega (arith, loaded_guards d)) in
        ap (λ r. r.evaluation) (e t.0.guard (loaded_guard d k t.0 t.1)) ∙ rw t.1

-- ---- what is left, by the stage that the guard leads to

-- this is what a guard with this truth value makes of the firing
abbrev IsByTruth : Result (Unit {0}) NotFired → Bool → Type 0
IsByTruth r b = r ≡ cond b (Ok tt) (Err Disabled)

module _ (m : Meaning) (k : ℕ) (old : List ℤ) where
  by_value : (b : Bool) (r : NotFired) (l : Left) → IsByTruth (Err r) b → answered (Err r) old ≡ cond b l (answered (Err Disabled) old)
  by_value true r l e = let z : true ≡ false = cc in absurd (true≢false z)
  by_value false r l e = let f : r ≡ Disabled = cc in rw f

  pub left_over : (x : Evaluation) (r : NotFired) → Err r ≡ admission x → answered (Err r) old ≡ left_by_guard m k old x
  unfolding admission left_by_guard
  left_over Unknown r e = let f : r ≡ Disabled = cc in rw f
  left_over (Failed manner) r e = let f : r ≡ GuardFailed manner = cc in rw f
  left_over (Value v) r e = by_value (eq_z v (boolean true)) r _ e

  by_true_lem : (b : Bool) (l : Left) → IsByTruth (Ok tt) b → l ≡ cond b l (answered (Err Disabled) old)
  by_true_lem true l e = refl
  by_true_lem false l e = let z : true ≡ false = cc in absurd (true≢false z)

  pub left_open : (x : Evaluation) → Ok tt ≡ admission x
      → left_by_acting m old (m.action k (take (length m.declarations) old)) ≡ left_by_guard m k old x
  unfolding admission left_by_guard
  left_open Unknown e = let z : true ≡ false = cc in absurd (true≢false z)
  left_open (Failed manner) e = let z : true ≡ false = cc in absurd (true≢false z)
  left_open (Value v) e = by_true_lem (eq_z v (boolean true)) _ e

pub not_unknown : Ok tt ≡ admission Unknown → ⊥
unfolding admission
not_unknown e = let z : true ≡ false = cc in true≢false z
