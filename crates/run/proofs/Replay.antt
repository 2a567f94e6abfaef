-- Laws of replaying: over a beginning of the transitions, over one more transition, and over the values that it gave itself.
use Rattle.std.specs.Prelude.{Ok, Err}
use mathlib.Core.Path.{◌≡◌, refl, ap}
use mathlib.Core.Bool.{Bool, true, false, cond, not, ◌||◌}
use mathlib.Core.List.{List, [], ◌∷◌, ◌++◌}
use mathlib.Core.Option.{Option, some, none, none-ne-some, some-injective}
use Prim.Native.Nat.{ℕ}
use lib.Dec.{ltb, eqb}
use lib.IntN.{ℤ}
use lib.ListN.{length}
use Rattle.semantics.specs.Firing.{Firing}
use Rattle.semantics.specs.declared.NotFired.TheVariants.{Disabled, GuardFailed, ActionFault, AssertionFault}
use Rattle.semantics.specs.Propagation.{Settled}
use Rattle.semantics.specs.Propagation.Settled.{refused, settled}
use Rattle.semantics.specs.Meanings.{Meaning}
use Rattle.results.specs.Results.{answered}
use Rattle.semantics.specs.Firing.{Left, left_by_settling, fired, begun}
use Rattle.replaying.specs.Replays.{is_fired, go_on, refire, replay}
use Rattle.replaying.proofs.Written.{SameRest, same_rest, rest_after, Complete, fired_keeps, begun_keeps}

-- what goes on to a result was fired, and any other continuation goes on from the same values
pub goes_on : (P : Option (List ℤ) → Type 0) (next other : List ℤ → Option (List ℤ)) (l : Left) (vs : List ℤ)
    → ((n : ℕ) → l.answer ≡ Ok n → next l.left ≡ some vs → P (other l.left)) → go_on next l ≡ some vs → P (go_on other l)
unfolding go_on
goes_on P next other l vs f e = go l.answer f e
  where
    go : (a : Firing) → ((n : ℕ) → a ≡ Ok n → next l.left ≡ some vs → P (other l.left))
        → cond (is_fired a) (next l.left) none ≡ some vs → P (cond (is_fired a) (other l.left) none)
    go (Err Disabled) f e = absurd (none-ne-some vs e)
    go (Err (GuardFailed manner)) f e = absurd (none-ne-some vs e)
    go (Err (ActionFault x)) f e = absurd (none-ne-some vs e)
    go (Err (AssertionFault x)) f e = absurd (none-ne-some vs e)
    go (Ok n) f e = f n refl e

-- there is a result
abbrev pub Succeeds : Option (List ℤ) → Type 0
Succeeds o = (vs : List ℤ) × (o ≡ some vs)

module _ (m : Meaning) where
  -- more transitions are fired from the values that the first ones gave
  refire_append : (ts us : List ℕ) (values vs : List ℤ) → refire m ts values ≡ some vs → refire m (ts ++ us) values ≡ refire m us vs
  unfolding refire
  refire_append [] us values vs e = ap (refire m us) (some-injective values vs e)
  refire_append (t ∷ ts) us values vs e =
      goes_on (λ o. o ≡ refire m us vs) (λ x. refire m ts x) (λ x. refire m (ts ++ us) x) (fired m t values) vs
      (λ n f. refire_append ts us (fired m t values).left vs) e

  pub replay_append : (ss : List ℤ) (ts us : List ℕ) (values vs : List ℤ) → replay m ss ts values ≡ some vs
      → replay m ss (ts ++ us) values ≡ refire m us vs
  unfolding replay
  replay_append ss ts us values vs =
      goes_on (λ o. o ≡ refire m us vs) (λ x. refire m ts x) (λ x. refire m (ts ++ us) x) (begun m ss values) vs
      (λ n f. refire_append ts us (begun m ss values).left vs)

  -- where all can be fired again, so can the first ones
  refire_beginning : (ts us : List ℕ) (values vs : List ℤ) → refire m (ts ++ us) values ≡ some vs → Succeeds (refire m ts values)
  unfolding refire
  refire_beginning [] us values vs e = (values, refl)
  refire_beginning (t ∷ ts) us values vs e =
      goes_on Succeeds (λ x. refire m (ts ++ us) x) (λ x. refire m ts x) (fired m t values) vs
      (λ n f. refire_beginning ts us (fired m t values).left vs) e

  pub replay_beginning : (ss : List ℤ) (ts us : List ℕ) (values vs : List ℤ) → replay m ss (ts ++ us) values ≡ some vs
      → Succeeds (replay m ss ts values)
  unfolding replay
  replay_beginning ss ts us values vs =
      goes_on Succeeds (λ x. refire m (ts ++ us) x) (λ x. refire m ts x) (begun m ss values) vs
      (λ n f. refire_beginning ts us (begun m ss values).left vs)

  module _ (complete : Complete m) where
    -- the cells past the variables stay
    refire_keeps : (ts : List ℕ) (values vs : List ℤ) → refire m ts values ≡ some vs → SameRest (length m.declarations) values vs
    unfolding refire
    refire_keeps [] values vs e = rw (← some-injective values vs e) (same_rest (length m.declarations) values)
    refire_keeps (t ∷ ts) values vs e =
        goes_on (λ o. SameRest (length m.declarations) values vs) (λ x. refire m ts x) (λ x. refire m ts x)
        (fired m t values) vs
        (λ n f h. rest_after (length m.declarations) values (fired m t values).left vs (fired_keeps m complete t values)
        (refire_keeps ts (fired m t values).left vs h))
        e

    pub replay_keeps : (ss : List ℤ) (ts : List ℕ) (values vs : List ℤ) → replay m ss ts values ≡ some vs
        → SameRest (length m.declarations) values vs
    unfolding replay
    replay_keeps ss ts values vs =
        goes_on (λ o. SameRest (length m.declarations) values vs) (λ x. refire m ts x) (λ x. refire m ts x)
        (begun m ss values) vs
        (λ n f h. rest_after (length m.declarations) values (begun m ss values).left vs (begun_keeps m complete ss values)
        (refire_keeps ts (begun m ss values).left vs h))

    -- a replay depends on the values only through the cells past the variables
    settling_depends : (next : List ℤ → Option (List ℤ)) (old new : List ℤ) → SameRest (length m.declarations) old new → (ss : List ℤ)
        (x : Settled) → m.propagate ss ≡ x
        → go_on next (left_by_settling new x) ≡ go_on next (left_by_settling old x)
    unfolding left_by_settling go_on
    settling_depends next old new same ss (refused f) e = refl
    settling_depends next old new same ss (settled count cells) e =
        ap (λ k. next (cells ++ k)) (rw (complete ss count cells e) same.rest)

    pub replay_depends : (ss : List ℤ) (ts : List ℕ) (old new : List ℤ) → SameRest (length m.declarations) old new
        → replay m ss ts new ≡ replay m ss ts old
    unfolding replay begun go_on
    replay_depends ss ts old new same = rw same.long (go (ltb (length old) (length m.declarations) || not (eqb (length ss) m.states)))
      where
        go : (b : Bool)
            → go_on (λ x. refire m ts x) (cond b (answered (Err Disabled) new) (left_by_settling new (m.propagate ss)))
            ≡ go_on (λ x. refire m ts x) (cond b (answered (Err Disabled) old) (left_by_settling old (m.propagate ss)))
        go true = refl
        go false = settling_depends (λ x. refire m ts x) old new same ss (m.propagate ss) refl
