-- FiresTogether.
use Rattle.std.specs.Prelude.{Err}
use mathlib.Core.Path.{◌≡◌, refl, ap, ap₂, ◌∙◌}
use mathlib.Core.Bool.{true, false, cond}
use mathlib.Core.List.{List, [], ◌∷◌, ◌++◌}
use Prim.Native.Nat.{ℕ}
use native.Mathlib.Omega.{arith}
use borrow.Author.Tests.{lt-ltb}
use lib.Dec.{eqb, ltb}
use lib.IntN.{ℤ}
use lib.ListN.{length, take}
use Rattle.evaluation.specs.declared.Evaluation.{Evaluation}
use Rattle.evaluation.specs.declared.Evaluation.TheVariants.{Unknown, Failed, Value}
use Rattle.evaluation.specs.Numbers.{eq_z, boolean}
use Rattle.results.specs.Results.{answered}
use Rattle.model.specs.Trees.{Transition, System, variables}
use Rattle.expressions.specs.Expressions.{evaluate, known_from}
use Rattle.semantics.specs.declared.NotFired.TheVariants.{Disabled}
use Rattle.semantics.specs.Actions.{Acted, act}
use Rattle.semantics.specs.Propagation.{settle}
use Rattle.semantics.specs.Meanings.{Meaning, meaning_of, guard_in, action_in}
use Rattle.semantics.specs.Firing.{Left, left_by_acting, left_by_guard, fired}
use Rattle.standing.specs.Runs.{Run}
use Rattle.standing.specs.Holding.{too_short, too_few, holds}
use Rattle.steps.specs.Calls.{fired_by, fire}
use Rattle.synchronisation.specs.Synchronisations.{extended_by, together}
use Rattle.synchronisation.specs.Theorems.{by_guard, new_meaning, new_number, FiresTogether}
use Rattle.synchronisation.proofs.Listed.{last_is, one_more}

-- ---- firing by a guard and an action given as values

-- firing by a guard and an action given as values; nothing happens where the values are too few
unfoldable pub fired_as : Meaning → Evaluation → Acted → List ℤ → Left
fired_as m g a old = cond (ltb (length old) (length m.declarations)) (answered (Err Disabled) old) (by_guard m old a g)

module _ (m m' : Meaning) (same : length m'.declarations ≡ length m.declarations)
    (acting : (old : List ℤ) (a : Acted) → left_by_acting m' old a ≡ left_by_acting m old a) where
  -- by what the guard came to
  by_guard_lem : (k : ℕ) (old : List ℤ) (g : Evaluation)
      → left_by_guard m' k old g ≡ by_guard m old (m'.action k (take (length m'.declarations) old)) g
  unfolding left_by_guard by_guard
  by_guard_lem k old Unknown = refl
  by_guard_lem k old (Failed manner) = refl
  by_guard_lem k old (Value v) = ap (λ (l : Left). cond (eq_z v (boolean true)) l (answered (Err Disabled) old)) (acting old _)

  -- m' fires as m would with the guard and the action of m'
  fired_as_lem : (k : ℕ) (old : List ℤ)
      → fired m' k old
      ≡ fired_as m (m'.guard k (take (length m.declarations) old)) (m'.action k (take (length m.declarations) old)) old
  unfolding fired fired_as
  fired_as_lem k old = rw (← same) (ap (λ (l : Left). cond (ltb (length old) (length m'.declarations)) (answered (Err Disabled) old) l) (by_guard_lem k old _))

-- the values of the variables
abbrev pub used : System → List ℤ → List ℤ
used t values = take (length (variables t)) values

module _ (t : System) (u : Transition) where
  -- an action leaves the same under both models: the new one has the variables and the assertion of the old one
  acting_same : (old : List ℤ) (a : Acted) → left_by_acting (meaning_of (extended_by t u)) old a ≡ left_by_acting (meaning_of t) old a
  unfolding left_by_acting meaning_of settle
  acting_same old (Acted.faulty f) = refl
  acting_same old (Acted.states ss) = refl

  -- firing under the old model, by the values of its guard and its action
  pub fired_old : (k : ℕ) (old : List ℤ)
      → fired (meaning_of t) k old ≡ fired_as (meaning_of t) ((meaning_of t).guard k (used t old)) ((meaning_of t).action k (used t old)) old
  unfolding meaning_of
  fired_old = fired_as_lem (meaning_of t) (meaning_of t) refl (λ old a. refl)

  -- firing under the new model, in the old model's terms
  pub fired_new : (k : ℕ) (old : List ℤ)
      → fired (meaning_of (extended_by t u)) k old
      ≡ fired_as (meaning_of t) ((meaning_of (extended_by t u)).guard k (used t old)) ((meaning_of (extended_by t u)).action k (used t old)) old
  unfolding meaning_of
  fired_new = fired_as_lem (meaning_of t) (meaning_of (extended_by t u)) refl acting_same

  -- the new transition's guard
  pub new_guard : (values : List ℤ) → (meaning_of (extended_by t u)).guard (length t.transitions) values ≡ evaluate u.guard (known_from values)
  unfolding meaning_of guard_in
  new_guard values = rw (last_is t.transitions u)

  -- its action
  new_action : (values : List ℤ) → (meaning_of (extended_by t u)).action (length t.transitions) values ≡ act t u.action values
  unfolding meaning_of action_in act
  new_action values = rw (last_is t.transitions u)

  -- it fires by them
  fires_as : (old : List ℤ)
      → fired (meaning_of (extended_by t u)) (length t.transitions) old
      ≡ fired_as (meaning_of t) (evaluate u.guard (known_from (used t old))) (act t u.action (used t old)) old
  fires_as old =
      fired_new (length t.transitions) old ∙ ap₂ (λ g a. fired_as (meaning_of t) g a old) (new_guard (used t old)) (new_action (used t old))

-- ---- the call

-- past 9, 10, 11, 20 and 21 the transition is fired
let_through : (m : Meaning) (k : ℕ) (r : Run) → too_short m r.values ≡ false → too_few m r.marks ≡ false → ltb k m.transitions ≡ true
    → holds m r ≡ true → eqb r.count (length r.history) ≡ false → fire m k r ≡ fired_by m k r (fired m k r.values)
unfolding fire
let_through m k r short few there held room = rw (short, few, there, held, room)

pub fires_together : FiresTogether
unfolding meaning_of fired_as
fires_together m ms os m' f r short few held room =
    let ts = f.before.transitions in
    let u = together f.before.events f.mandatory f.optional in
    let_through (new_meaning f) (new_number f) r short few (lt-ltb (length ts) (length (ts ++ (u ∷ []))) (omega (arith, one_more ts u))) held room
    ∙ ap (fired_by (new_meaning f) (new_number f) r) (fires_as f.before u r.values ∙ rw short)
