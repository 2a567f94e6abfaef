-- Transitions fired one after another: going on where one was fired, and stopping where one was refused. Undo by them.
use mathlib.Core.Path.{◌≡◌, refl, sym, ap, ◌∙◌}
use mathlib.Core.Bool.{Bool, true, false, cond}
use mathlib.Core.List.{List, [], ◌∷◌}
use mathlib.Core.Option.{Option, some, none}
use Prim.Native.Nat.{ℕ, ◌+◌, ◌≤◌, ◌<◌}
use native.Mathlib.Numerals.{add-one}
use lib.IntN.{ℤ}
use lib.ListN.{length, get_or, drop, drop_of_length-le}
use lib.Seq.{drop-cons}
use Rattle.results.specs.Results.{answered}
use Rattle.semantics.specs.Firing.{Firing}
use Rattle.semantics.specs.Meanings.{Meaning}
use Rattle.semantics.specs.Firing.{Left, fired}
use Rattle.replaying.specs.Replays.{is_fired, go_on, refire}
use Rattle.replaying.specs.Moves.{fired_all}

module _ (m : Meaning) where
  -- nothing follows what was refused
  pub firing_stops : (ts : List ℕ) (f : Firing) (values : List ℤ) → is_fired f ≡ false → fired_all m ts (answered f values) ≡ answered f values
  unfolding fired_all
  firing_stops [] f values e = refl
  firing_stops (t ∷ ts) f values e = rw e

  -- what is left to fire from place i on comes to the result
  module _ (ts : List ℕ) (i : ℕ) (f : Firing) (values : List ℤ) (result : Left) (so_far : fired_all m (drop i ts) (answered f values) ≡ result) where
    pub firing_ends : length ts ≤ i → answered f values ≡ result
    unfolding fired_all
    firing_ends past = ap (λ ts. fired_all m ts (answered f values)) (sym (drop_of_length-le ts {i = i} past)) ∙ so_far

    pub firing_refused : is_fired f ≡ false → answered f values ≡ result
    firing_refused e = sym (firing_stops (drop i ts) f values e) ∙ so_far

    pub firing_goes : is_fired f ≡ true → i < length ts → (next : Firing) (new : List ℤ) → answered next new ≡ fired m (get_or ts i 0) values
        → fired_all m (drop (i + 1) ts) (answered next new) ≡ result
    unfolding fired_all
    firing_goes e below next new fires =
        let entry : drop i ts ≡ get_or ts i 0 ∷ drop (i + 1) ts = rw add-one (drop-cons ts i 0 below) in
        let on : fired_all m (get_or ts i 0 ∷ drop (i + 1) ts) (answered f values) ≡ fired_all m (drop (i + 1) ts) (fired m (get_or ts i 0) values) = rw e in
        ap (fired_all m (drop (i + 1) ts)) fires ∙ sym (ap (λ ts. fired_all m ts (answered f values)) entry ∙ on) ∙ so_far

  -- what replaying comes to
  abbrev pub outcome_of : Left → Option (List ℤ)
  outcome_of l = cond (is_fired l.answer) (some l.left) none

  pub refired : (ts : List ℕ) (l : Left) → go_on (λ vs. refire m ts vs) l ≡ outcome_of (fired_all m ts l)
  unfolding go_on refire fired_all
  refired [] l = refl
  refired (t ∷ ts) l = go (is_fired l.answer) refl (refired ts (fired m t l.left))
    where
      go : (b : Bool) → is_fired l.answer ≡ b → go_on (λ vs. refire m ts vs) (fired m t l.left) ≡ outcome_of (fired_all m ts (fired m t l.left))
          → cond b (go_on (λ vs. refire m ts vs) (fired m t l.left)) none ≡ outcome_of (cond b (fired_all m ts (fired m t l.left)) l)
      go true e next = next
      go false e next = rw e
