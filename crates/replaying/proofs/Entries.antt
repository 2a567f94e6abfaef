-- What each move comes to, and the entries that an undo fires again.
use mathlib.Core.Path.{◌≡◌, subst}
use mathlib.Core.List.{List}
use Prim.Native.Nat.{ℕ, ◌-◌, ◌≤◌}
use lib.IntN.{ℤ}
use lib.ListN.{take}
use Rattle.semantics.specs.Meanings.{Meaning}
use Rattle.semantics.specs.Firing.{fired, begun}
use Rattle.replaying.specs.declared.Move.{Move}
use Rattle.replaying.specs.declared.Move.TheVariants.{Start, Fire, Undo}
use Rattle.replaying.specs.Replays.{initial}
use Rattle.replaying.specs.Moves.{HasEntries, fired_all, moved}

pub recorded : (s : Move) (long n : ℕ) → s ≡ Undo → HasEntries s long n → n - 1 ≤ long
unfolding HasEntries
recorded s long n e h = subst (λ s. HasEntries s long n) e h

module _ (m : Meaning) (s : Move) (history : List ℕ) (n : ℕ) (values : List ℤ) where
  pub start_moves : s ≡ Start → begun m (initial m) values ≡ moved m s history n values
  unfolding moved
  start_moves e = rw e

  pub fire_moves : (t : ℕ) → s ≡ Fire t → fired m t values ≡ moved m s history n values
  unfolding moved
  fire_moves t e = rw e

  pub undo_moves : s ≡ Undo → fired_all m (take (n - 1) history) (begun m (initial m) values) ≡ moved m s history n values
  unfolding moved
  undo_moves e = rw e
