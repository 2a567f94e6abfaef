-- What starting and firing leave of the cells: as many as before, and those past the variables as they were.
use Rattle.std.specs.Prelude.{Ok}
use mathlib.Core.Path.{◌≡◌, refl, ap, ◌∙◌}
use mathlib.Core.List.{List}
use Prim.Native.Nat.{ℕ, ◌+◌, ◌≤◌}
use native.Mathlib.Omega.{arith}
use lib.IntN.{ℤ}
use lib.ListN.{length, drop, length-append, length-drop}
use lib.Seq.{drop_at}
use Rattle.results.specs.Results.{answered, over}
use Rattle.semantics.specs.Propagation.Settled.{settled}
use Rattle.semantics.specs.Meanings.{Meaning}
use Rattle.semantics.specs.Firing.{Left, fired, begun}
use Rattle.replaying.proofs.Outcomes.{fired_left, begun_left}

-- as many cells, and the same from place n on
pub record SameRest (n : ℕ) (old new : List ℤ) : Type 0 where
  pub long : length new ≡ length old
  pub rest : drop n new ≡ drop n old

pub same_rest : (n : ℕ) (old : List ℤ) → SameRest n old old
same_rest n old = record { long = refl; rest = refl }

pub rest_after : (n : ℕ) (a b c : List ℤ) → SameRest n a b → SameRest n b c → SameRest n a c
rest_after n a b c p q = record { long = q.long ∙ p.long; rest = q.rest ∙ p.rest }

pub rest_written : (n : ℕ) (old new : List ℤ) → length new ≡ n → n ≤ length old → SameRest n old (over new old)
rest_written n old new e h =
    record {
      long = length-append new (drop (length new) old) ∙ (ap (λ k. length new + k) (length-drop (length new) old) ∙ (omega arith));
      rest = drop_at new (drop (length new) old) n e ∙ ap (λ k. drop k old) e;
    }

-- the assertion gives a value to each variable
abbrev pub Complete : Meaning → Type 0
Complete m = (ss : List ℤ) (count : ℕ) (new : List ℤ) → m.propagate ss ≡ settled count new → length new ≡ length m.declarations

-- what is left keeps the number of cells and those past the variables
abbrev Keeps : Meaning → List ℤ → Left → Type 0
Keeps m old l = SameRest (length m.declarations) old l.left

module _ (m : Meaning) (complete : Complete m) where
  settled_keeps : (old : List ℤ) → length m.declarations ≤ length old → (k : ℕ) (new ss : List ℤ) → m.propagate ss ≡ settled k new
      → Keeps m old (answered (Ok k) (over new old))
  settled_keeps old enough k new ss e = rest_written (length m.declarations) old new (complete ss k new e) enough

  pub fired_keeps : (t : ℕ) (old : List ℤ) → Keeps m old (fired m t old)
  fired_keeps t old = fired_left m (Keeps m old) old (λ f e. same_rest (length m.declarations) old) (settled_keeps old) t

  pub begun_keeps : (ss old : List ℤ) → Keeps m old (begun m ss old)
  begun_keeps ss old = begun_left m (Keeps m old) old (λ f e. same_rest (length m.declarations) old) (settled_keeps old) ss
