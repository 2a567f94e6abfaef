-- SynchronisedWritten.
use mathlib.Core.Path.{◌≡◌, refl}
use mathlib.Core.Bool.{Bool, false, not, ◌&&◌, ◌||◌}
use mathlib.Core.List.{List}
use mathlib.Core.Option.{Option, some, none}
use Prim.Native.Nat.{ℕ, ◌≤◌}
use borrow.Author.Tests.{ltb-false, not-false}
use lib.Dec.{ltb}
use lib.ListN.{length, take, drop}
use lib.Seq.{take_at}
use Rattle.results.specs.Results.{Answered, answered, over}
use Rattle.model.specs.declared.Sizes.{Sizes}
use Rattle.model.specs.Trees.{Transition, System}
use Rattle.model.specs.Check.{Verdict, verdict}
use Rattle.model.specs.Check.Verdict.{refusal, accepted}
use Rattle.model.specs.WellFormed.{encode}
use Rattle.replaying.proofs.Tests.{clash, by_test, neither}
use Rattle.std.proofs.Common.{Result, Ok, Err}
use Rattle.results.specs.declared.refusal.Refusal.{Refusal}
use Rattle.results.specs.declared.refusal.Refusal.TheVariants.{NoSuchTransition, NoMembers, LimitPassed}
use Rattle.synchronisation.specs.Synchronisations.{members_of, together, extended_by, fits, is_empty, extended_into, joined_into, synchronised_by}
use Rattle.synchronisation.specs.Theorems.{SynchronisedFile, SynchronisedWritten}

-- a refusal that leaves the cells, or a file over the first of them
pub data Outcome (P : List ℕ → Type 0) (old : List ℕ) : Answered (Result ℕ Refusal) (List ℕ) → Type 0 where
  refuses : (r : Refusal) → Outcome P old (answered (Err r) old)
  writes : (m' : List ℕ) → P m' → length m' ≤ length old → Outcome P old (answered (Ok (length m')) (over m' old))

-- a file that is written from every model with this verdict
abbrev pub FileOf : Verdict → List ℕ → List ℕ → List ℕ → Type 0
FileOf v ms os m' = (m : List ℕ) → verdict m ≡ v → SynchronisedFile m ms os m'

-- 36: a limit is passed, or the slice is too short
abbrev pub passes_limit : System → Transition → List ℕ → Bool
passes_limit t u old = not (fits t u) || ltb (length old) (length (encode (extended_by t u)))

-- 11, 36 or a file
joined : (z : Sizes) (t : System) (ms os old : List ℕ) → (is_empty ms && is_empty os) ≡ false
    → (a b : Option (List Transition)) → members_of t.transitions ms ≡ a → members_of t.transitions os ≡ b
    → Outcome (FileOf (accepted z t) ms os) old (joined_into t a b old)
unfolding joined_into extended_into
joined z t ms os old given none b e f = refuses NoSuchTransition
joined z t ms os old given (some ts) none e f = refuses NoSuchTransition
joined z t ms os old given (some ts) (some us) e f =
    let u = together t.events ts us in
    let new = encode (extended_by t u) in
    by_test (Outcome (FileOf (accepted z t) ms os) old) (passes_limit t u old) _ _
    (λ c. refuses LimitPassed)
    (λ c.
    let h = neither (not (fits t u)) (ltb (length old) (length new)) c in
    writes new
    (λ m read.
    record {
      sizes = z;
      before = t;
      mandatory = ts;
      optional = us;
      read = read;
      given = given;
      mandatory_found = e;
      optional_found = f;
      fitting = not-false _ h.0;
      written = refl;
    })
    (ltb-false (length old) (length new) h.1))

-- what the call comes to
pub outcome : (v : Verdict) (ms os old : List ℕ) → Outcome (FileOf v ms os) old (synchronised_by v ms os old)
unfolding synchronised_by
outcome (refusal r) ms os old = refuses r
outcome (accepted z t) ms os old =
    by_test (Outcome (FileOf (accepted z t) ms os) old) (is_empty ms && is_empty os) _ _ (λ c. refuses NoMembers)
    (λ c. joined z t ms os old c (members_of t.transitions ms) (members_of t.transitions os) refl refl)

-- where a length is answered, so much of the cells is the file
front : {P : List ℕ → Type 0} {old : List ℕ} {d : Answered (Result ℕ Refusal) (List ℕ)} → Outcome P old d
    → (n : ℕ) → d.answer ≡ Ok n → P (take n d.left)
front (refuses k) n e = clash (cc)
front {P} {old} (writes m' p l) n e = rw (take_at m' (drop (length m') old) n (cc)) p

pub written : SynchronisedWritten
written m ms os old n e = front (outcome (verdict m) ms os old) n e m refl
