-- A move over exactly the variables' cells comes to what it comes to over more cells; those past the variables stay.
use Rattle.std.specs.Prelude.{Ok, Err}
use mathlib.Core.Path.{◌≡◌, refl, sym, ap, ◌∙◌}
use mathlib.Core.Bool.{Bool, true, false, cond, not, ◌||◌}
use mathlib.Core.List.{List, [], ◌∷◌, ◌++◌, append-nil}
use Prim.Native.Nat.{ℕ, ◌-◌}
use native.Mathlib.Omega.{arith}
use borrow.Author.Tests.{le-ltb}
use lib.Dec.{ltb, eqb}
use lib.IntN.{ℤ}
use lib.ListN.{length, take, drop, length-append, drop_of_length-le}
use lib.Seq.{drop_at, take-append-le}
use Rattle.evaluation.specs.declared.Evaluation.{Evaluation}
use Rattle.evaluation.specs.declared.Evaluation.TheVariants.{Unknown, Failed, Value}
use Rattle.evaluation.specs.Numbers.{eq_z, boolean}
use Rattle.results.specs.Results.{answered}
use Rattle.semantics.specs.declared.NotFired.TheVariants.{Disabled}
use Rattle.semantics.specs.Actions.{Acted}
use Rattle.semantics.specs.Actions.Acted.{faulty, states}
use Rattle.semantics.specs.Propagation.{Settled}
use Rattle.semantics.specs.Propagation.Settled.{refused, settled}
use Rattle.semantics.specs.Meanings.{Meaning}
use Rattle.semantics.specs.Firing.{Left, left_by_settling, left_by_acting, left_by_guard, fired, begun}
use Rattle.replaying.specs.declared.Move.{Move}
use Rattle.replaying.specs.declared.Move.TheVariants.{Start, Fire, Undo}
use Rattle.replaying.specs.Replays.{is_fired, initial}
use Rattle.replaying.specs.Moves.{fired_all, moved}
use Rattle.replaying.proofs.Written.{Complete, fired_keeps, begun_keeps}

module _ (m : Meaning) (complete : Complete m) (rest : List ℤ) where
  -- the same, with these cells after those that are left
  abbrev pub longer : Left → Left
  longer l = answered l.answer (l.left ++ rest)

  module _ (a : List ℤ) (h : length a ≡ length m.declarations) where
    settling_longer : (ss : List ℤ) (x : Settled) → m.propagate ss ≡ x → left_by_settling (a ++ rest) x ≡ longer (left_by_settling a x)
    unfolding left_by_settling
    settling_longer ss (refused f) e = refl
    settling_longer ss (settled count new) e =
        let size : length new ≡ length m.declarations = complete ss count new e in
        let full : new ++ drop (length new) a ≡ new =
        ap (λ k. new ++ k) (drop_of_length-le a {i = length new} (omega arith)) ∙ append-nil new in
        ap (λ left. answered (Ok count) left)
        (ap (λ k. new ++ k) (drop_at a rest (length new) (h ∙ sym size)) ∙ ap (λ k. k ++ rest) (sym full))

    acting_longer : (x : Acted) → left_by_acting m (a ++ rest) x ≡ longer (left_by_acting m a x)
    unfolding left_by_acting
    acting_longer (faulty f) = refl
    acting_longer (states ss) = settling_longer ss (m.propagate ss) refl

    used : take (length m.declarations) (a ++ rest) ≡ take (length m.declarations) a
    used = take-append-le (length m.declarations) a rest (omega arith)

    guard_longer : (t : ℕ) (g : Evaluation) → left_by_guard m t (a ++ rest) g ≡ longer (left_by_guard m t a g)
    unfolding left_by_guard
    guard_longer t Unknown = refl
    guard_longer t (Failed manner) = refl
    guard_longer t (Value v) = rw used (go (eq_z v (boolean true)))
      where
        go : (b : Bool)
            → cond b (left_by_acting m (a ++ rest) (m.action t (take (length m.declarations) a))) (answered (Err Disabled) (a ++ rest))
            ≡ longer (cond b (left_by_acting m a (m.action t (take (length m.declarations) a))) (answered (Err Disabled) a))
        go true = acting_longer (m.action t (take (length m.declarations) a))
        go false = refl

    long : ltb (length (a ++ rest)) (length m.declarations) ≡ false
    long = le-ltb (length (a ++ rest)) (length m.declarations) (omega (arith, length-append a rest))

    enough : ltb (length a) (length m.declarations) ≡ false
    enough = le-ltb (length a) (length m.declarations) (omega arith)

    fired_longer : (t : ℕ) → fired m t (a ++ rest) ≡ longer (fired m t a)
    unfolding fired
    fired_longer t = rw (long, enough, used) (guard_longer t (m.guard t (take (length m.declarations) a)))

    begun_longer : (ss : List ℤ) → begun m ss (a ++ rest) ≡ longer (begun m ss a)
    unfolding begun
    begun_longer ss = rw (long, enough) (go (not (eqb (length ss) m.states)))
      where
        go : (b : Bool)
            → cond (false || b) (answered (Err Disabled) (a ++ rest)) (left_by_settling (a ++ rest) (m.propagate ss))
            ≡ longer (cond (false || b) (answered (Err Disabled) a) (left_by_settling a (m.propagate ss)))
        go true = refl
        go false = settling_longer ss (m.propagate ss) refl

    begun_long : (ss : List ℤ) → length (begun m ss a).left ≡ length m.declarations
    begun_long ss = (begun_keeps m complete ss a).long ∙ h

  all_longer : (ts : List ℕ) (l : Left) → length l.left ≡ length m.declarations → fired_all m ts (longer l) ≡ longer (fired_all m ts l)
  unfolding fired_all
  all_longer [] l h = refl
  all_longer (t ∷ ts) l h =
      go (is_fired l.answer)
      (ap (fired_all m ts) (fired_longer l.left h t) ∙ all_longer ts (fired m t l.left) ((fired_keeps m complete t l.left).long ∙ h))
    where
      go : (b : Bool) → fired_all m ts (fired m t (l.left ++ rest)) ≡ longer (fired_all m ts (fired m t l.left))
          → cond b (fired_all m ts (fired m t (l.left ++ rest))) (longer l)
          ≡ longer (cond b (fired_all m ts (fired m t l.left)) l)
      go true next = next
      go false next = refl

  pub moved_longer : (s : Move) (history : List ℕ) (n : ℕ) (a : List ℤ) → length a ≡ length m.declarations
      → moved m s history n (a ++ rest) ≡ longer (moved m s history n a)
  unfolding moved
  moved_longer Start history n a h = begun_longer a h (initial m)
  moved_longer (Fire t) history n a h = fired_longer a h t
  moved_longer Undo history n a h =
      ap (fired_all m (take (n - 1) history)) (begun_longer a h (initial m))
      ∙ all_longer (take (n - 1) history) (begun m (initial m) a) (begun_long a h (initial m))
