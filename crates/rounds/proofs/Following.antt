-- The mentions of a variable, one after the other, and the instructions whose own expression they stand in.
use mathlib.Core.Path.{◌≡◌, sym, subst}
use mathlib.Core.Logic.{⊎_elim}
use mathlib.Core.List.{List}
use Prim.Native.Nat.{ℕ, ◌+◌, ◌≤◌, ◌<◌}
use native.Mathlib.Omega.{arith}
use native.Mathlib.Nat.{eq-or-lt_of_le}
use lib.IntN.{ℤ}
use lib.ListN.{length}
use Rattle.waiting.specs.Marks.{mark_count}
use Rattle.waiting.specs.Index.{Mention, First, OwnerOf, Owners}
use Rattle.waiting.proofs.Counting.{none_counted}
use Rattle.waiting.proofs.Mentions.{le_or_lt}
use Rattle.rounds.specs.Rounds.{Done}

-- ---- the mentions

-- where nothing is marked, nothing has an old mark
pub none_old : (waits : List ℕ) (r : ℕ) → mark_count waits ≡ 0 → (p : ℕ) → Done r waits p
none_old waits r e p o = o.set (none_counted waits e p)

module _ (ks : List ℕ) (ps : List ℤ) (at x r : ℕ) where
  -- what owns a mention below was read, and a mention stands here or the nodes end
  pub record Following (waits : List ℕ) (mention : ℕ) : Type 0 where
    pub start : at ≤ mention
    pub found : mention < length ks → Mention ks ps x mention
    pub done : (p o : ℕ) → at ≤ o → p < mention → Mention ks ps x p → OwnerOf ks p o → Done r waits o

module _ {ks : List ℕ} {ps : List ℤ} {at x r : ℕ} {waits : List ℕ} {mention : ℕ} (f : Following ks ps at x r waits mention)
    {owner : ℕ → ℕ} (owners : Owners ks at (length ks) owner) (h : mention < length ks) where
  pub following_within : owner mention < length ks
  following_within = omega (arith, h, owners.within mention f.start h)

  pub following_goes : {waits' : List ℕ} {next : ℕ} → ((p : ℕ) → Done r waits p → Done r waits' p) → Done r waits' (owner mention)
      → First ks ps x (mention + 1) next → Following ks ps at x r waits' next
  following_goes {waits'} keep now n =
      record {
        start = omega (arith, f.start, n.after);
        found = n.found;
        done =
            λ p o l u m k. ⊎_elim
            (λ g. ⊎_elim (λ e. subst (λ q. Done r waits' q) (owners.exact mention o l h (subst (λ q. OwnerOf ks q o) (sym e) k)) now) (λ g'. absurd (n.least p (omega (arith, g')) u m)) (eq-or-lt_of_le {n = mention} {m = p} g))
            (λ g. keep o (f.done p o l g m k))
            (le_or_lt mention p);
      }
