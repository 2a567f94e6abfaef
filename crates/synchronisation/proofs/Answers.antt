-- LengthExact, CellsStay, RefusedLeavesCells, RefusalsExact.
use mathlib.Core.Path.{◌≡◌, refl, sym, ap, ◌∙◌}
use mathlib.Core.Logic.{◌↔◌}
use mathlib.Core.Bool.{Bool, true, false, cond, not, ◌&&◌}
use mathlib.Core.List.{List, [], ◌∷◌}
use mathlib.Core.Option.{Option, some, none}
use Prim.Native.Nat.{ℕ, ◌≤◌}
use native.Mathlib.Omega.{arith}
use borrow.Author.Tests.{ltb-false, le-ltb, not-false}
use lib.Dec.{ltb}
use lib.ListN.{length, drop, length-append, length-drop}
use lib.Seq.{drop_at}
use Rattle.results.specs.Results.{Answered, answered}
use Rattle.model.specs.Trees.{Transition, System}
use Rattle.model.specs.Check.{verdict}
use Rattle.model.specs.WellFormed.{WellFormed, encode}
use Rattle.standing.specs.Holding.{all_below}
use Rattle.replaying.proofs.Tests.{clash, neither}
use Rattle.std.proofs.Common.{Result, Ok, Err}
use Rattle.results.specs.declared.refusal.Refusal.{Refusal}
use Rattle.results.specs.declared.refusal.Refusal.TheVariants.{NoSuchTransition, NoMembers, LimitPassed}
use Rattle.synchronisation.specs.Synchronisations.{members_of, together, extended_by, synchronised_of, fits, is_empty}
use Rattle.synchronisation.specs.Synchronisations.{extended_into, joined_into, synchronised_in, synchronised_by}
use Rattle.synchronisation.specs.Theorems.{SynchronisedFile, LengthExact, CellsStay, RefusedLeavesCells, RefusalsExact}
use Rattle.synchronisation.proofs.Written.{Outcome, passes_limit, outcome}
use Rattle.synchronisation.proofs.Written.Outcome.{refuses, writes}
use Rattle.synchronisation.proofs.Listed.{is_there, members_there}
use Rattle.synchronisation.proofs.Accepted.{fits_exact}

-- ---- lengths and cells

-- such a file is written where the slice has room
answers-length : {m ms os m' : List ℕ} (f : SynchronisedFile m ms os m') (old : List ℕ) → length m' ≤ length old
    → (synchronised_by (verdict m) ms os old).answer ≡ Ok (length m')
unfolding synchronised_by joined_into extended_into
answers-length f old l =
    let long = ap length f.written in
    let room = le-ltb (length old) (length (encode (synchronised_of f.before f.mandatory f.optional))) (omega arith) in
    rw (f.read, f.given, f.mandatory_found, f.optional_found, f.fitting, room) (ap Ok (sym long))

module _ {P : List ℕ → Type 0} {old : List ℕ} where
  -- a length that is answered is that of the file, which fits
  length-of : {d : Answered (Result ℕ Refusal) (List ℕ)} → Outcome P old d → (n : ℕ) → d.answer ≡ Ok n
      → (m' : List ℕ) × P m' × (n ≡ length m') × (length m' ≤ length old)
  length-of (refuses k) n e = clash cc
  length-of (writes m' p l) n e = (m', p, cc, l)

  -- the cells past a length stay
  past-length : {d : Answered (Result ℕ Refusal) (List ℕ)} → Outcome P old d → (n : ℕ) → d.answer ≡ Ok n
      → (length d.left ≡ length old) × (drop n d.left ≡ drop n old)
  past-length (refuses k) n e = clash cc
  past-length (writes m' p l) n e =
      let long : length m' ≡ n = cc in
      (simp (length-append, length-drop) (omega arith), drop_at m' (drop (length m') old) n long ∙ ap (λ k. drop k old) long)

  -- after a refusal all cells are as they were
  after-refusal : {d : Answered (Result ℕ Refusal) (List ℕ)} → Outcome P old d → (r : Refusal) → d.answer ≡ Err r → d.left ≡ old
  after-refusal (refuses k) r e = refl
  after-refusal (writes m' p l) r e = clash cc

pub length-exact : LengthExact
length-exact m ms os old n = (
  λ e. let h = length-of (outcome (verdict m) ms os old) n e in (h.0, h.1 m refl, h.2, h.3),
  λ h. answers-length h.1 old h.3 ∙ ap Ok (sym h.2),
)

pub cells_stay : CellsStay
cells_stay v ms os old = past-length (outcome v ms os old)

pub refused_leaves_cells : RefusedLeavesCells
refused_leaves_cells v ms os old = after-refusal (outcome v ms os old)

-- ---- the refusals

-- a choice of results has the choice of their answers
pub answer_by : {R A : Type 0} (b : Bool) (x y : Answered R A) → (cond b x y).answer ≡ cond b x.answer y.answer
answer_by true x y = refl
answer_by false x y = refl

-- if a choice of 36 and a length is a refusal, it is 36 by its test
limit-refusal : (b : Bool) (k : ℕ) (r : Refusal) → cond b (Err LimitPassed) (Ok k) ≡ Err r → (b ≡ true) × (r ≡ LimitPassed)
limit-refusal true k r e = (refl, cc)
limit-refusal false k r e = clash cc

-- a new model is refused by 36 alone, where it passes a limit
extended-refusal : (t : System) (u : Transition) (old : List ℕ) (r : Refusal) → (extended_into t u old).answer ≡ Err r
    → (passes_limit t u old ≡ true) × (r ≡ LimitPassed)
unfolding extended_into
extended-refusal t u old r e = limit-refusal (passes_limit t u old) _ r (sym (answer_by (passes_limit t u old) _ _) ∙ e)

-- two lists of members are refused by 36 if all are there, else by 11
joined-refusal : (t : System) (old : List ℕ) (a b : Option (List Transition)) (r : Refusal) → (joined_into t a b old).answer ≡ Err r
    → r ≡ cond (is_there a && is_there b) LimitPassed NoSuchTransition
unfolding joined_into is_there
joined-refusal t old none b r e = cc
joined-refusal t old (some ts) none r e = cc
joined-refusal t old (some ts) (some us) r e = (extended-refusal t _ old r e).1

-- where one is not there they are refused
joined-missing : (t : System) (old : List ℕ) (a b : Option (List Transition)) → (is_there a && is_there b) ≡ false
    → (joined_into t a b old).answer ≡ Err NoSuchTransition
unfolding joined_into is_there
joined-missing t old none b e = refl
joined-missing t old (some ts) none e = refl
joined-missing t old (some ts) (some us) e = clash e

-- the refusal, by two tests: both lists are empty, all members are there
abbrev refusalBy : Bool → Bool → Refusal
refusalBy e a = cond e NoMembers (cond a LimitPassed NoSuchTransition)

-- 35 tells that the lists are empty
is-35 : (e a : Bool) → NoMembers ≡ refusalBy e a → e ≡ true
is-35 true a q = refl
is-35 false true q = clash cc
is-35 false false q = clash cc

-- 11 tells that a member is not there
is-11 : (e a : Bool) → NoSuchTransition ≡ refusalBy e a → a ≡ false
is-11 true a q = clash cc
is-11 false true q = clash cc
is-11 false false q = refl

-- the test of 35 tells that the lists are empty
both-empty : (ms os : List ℕ) → (is_empty ms && is_empty os) ≡ true → (ms ≡ []) × (os ≡ [])
unfolding is_empty
both-empty [] [] e = (refl, refl)
both-empty [] (o ∷ os) e = clash (sym e)
both-empty (k ∷ ms) os e = clash (sym e)

-- where a number is not below, they are not
missing-given : (n : ℕ) (ms os : List ℕ) → (all_below n ms && all_below n os) ≡ false → (is_empty ms && is_empty os) ≡ false
unfolding is_empty
missing-given n [] [] h = clash h
missing-given n [] (o ∷ os) h = refl
missing-given n (k ∷ ms) os h = refl

module _ (t : System) (ms os old : List ℕ) where
  -- every number is that of a transition
  abbrev allThere : Bool
  allThere = all_below (length t.transitions) ms && all_below (length t.transitions) os

  -- the members are there if the numbers are below
  there : (is_there (members_of t.transitions ms) && is_there (members_of t.transitions os)) ≡ allThere
  there = rw (members_there t.transitions ms, members_there t.transitions os)

  -- every refusal is that of its tests
  refusal-found : (r : Refusal) → (synchronised_in t ms os old).answer ≡ Err r → r ≡ refusalBy (is_empty ms && is_empty os) allThere
  refusal-found r = rw (← there) (by (is_empty ms && is_empty os) _ _ (joined-refusal t old _ _ r))
    where
      by : (e : Bool) (d : Answered (Result ℕ Refusal) (List ℕ)) (k : Refusal) → (d.answer ≡ Err r → r ≡ k)
          → (cond e (answered (Err NoMembers) old) d).answer ≡ Err r → r ≡ cond e NoMembers k
      by true d k f q = cc
      by false d k f q = f q

  -- 35 is for empty lists
  empty-exact : ((synchronised_in t ms os old).answer ≡ Err NoMembers) ↔ ((ms ≡ []) × (os ≡ []))
  unfolding is_empty
  empty-exact = (λ q. both-empty ms os (is-35 (is_empty ms && is_empty os) allThere (refusal-found NoMembers q)), λ h. rw (h.0, h.1))

  -- 11 is for a number that is not below
  missing-exact : ((synchronised_in t ms os old).answer ≡ Err NoSuchTransition) ↔ allThere ≡ false
  missing-exact = (
    λ q. is-11 (is_empty ms && is_empty os) allThere (refusal-found NoSuchTransition q),
    λ h. rw (missing-given (length t.transitions) ms os h) (joined-missing t old _ _ (there ∙ h)),
  )

  module _ (ts us : List Transition) (exact : (fits t (together t.events ts us) ≡ true) ↔ WellFormed (synchronised_of t ts us)) where
    -- the new transition
    abbrev u : Transition
    u = together t.events ts us

    -- the new model fits
    abbrev FitsIn : Type 0
    FitsIn = WellFormed (extended_by t u) × (length (encode (extended_by t u)) ≤ length old)

    -- then the test of 36 fails
    limit-kept : FitsIn → passes_limit t u old ≡ false
    limit-kept h = rw (exact.1 h.0, le-ltb (length old) (length (encode (extended_by t u))) h.1)

    -- else it passes
    limit-passed : (FitsIn → ⊥) → passes_limit t u old ≡ true
    limit-passed n = by (passes_limit t u old) refl
      where
        by : (b : Bool) → passes_limit t u old ≡ b → b ≡ true
        by true q = refl
        by false q =
            let h = neither (not (fits t u)) (ltb (length old) (length (encode (extended_by t u)))) q in
            absurd (n (exact.0 (not-false _ h.0), ltb-false _ _ h.1))

    -- 36 is for a new model that does not fit
    limit-exact : ((extended_into t u old).answer ≡ Err LimitPassed) ↔ (FitsIn → ⊥)
    unfolding extended_into
    limit-exact = (λ q h. clash (sym (extended-refusal t u old LimitPassed q).0 ∙ limit-kept h), λ n. rw (limit-passed n))

pub refusals-exact : RefusalsExact
unfolding joined_into
refusals-exact m b s t read ms os old =
    record {
      empty = empty-exact t ms os old;
      missing = missing-exact t ms os old;
      too_large = λ ts us e f given. rw (given, e, f) (limit-exact t ms os old ts us (fits_exact m ms os b s t read ts us e f));
    }
