-- Start, fire and undo as far as the values and the marks go, by the tests that the code makes and by the move after them.
use mathlib.Core.Path.{◌≡◌, refl, sym, ap, ap₂, ◌∙◌}
use mathlib.Core.Bool.{Bool, true, false, cond, not, ◌&&◌}
use mathlib.Core.List.{List, [], ◌∷◌, ◌++◌, append-nil}
use mathlib.Core.Option.{Option, some, none, none-ne-some, some-injective}
use Prim.Native.Nat.{ℕ, ◌-◌, ◌≤◌}
use native.Mathlib.Omega.{arith}
use borrow.Author.Tests.{ltb-false, leb-true, eq-eqb, ne_eqb, not-false}
use lib.Dec.{leb, ltb, eqb}
use lib.IntN.{ℤ}
use lib.ListN.{length, take, drop, drop_of_length-le, take-append-drop}
use lib.Seq.{length-take-le}
use Rattle.results.specs.Results.{over}
use Rattle.semantics.specs.Firing.{Firing}
use Rattle.semantics.specs.Meanings.{Meaning}
use Rattle.semantics.specs.Firing.{fired, begun}
use Rattle.standing.specs.Runs.{Run, Answer, Done, answered}
use Rattle.standing.specs.Runs.Answer.{refused, done}
use Rattle.standing.specs.Holding.{too_short, too_few, holds, history_holds}
use Rattle.marking.specs.Marks.{marks_over}
use Rattle.replaying.specs.declared.Move.{Move}
use Rattle.replaying.specs.declared.Move.TheVariants.{Start, Fire, Undo}
use Rattle.replaying.specs.Replays.{is_fired, initial, replay}
use Rattle.replaying.specs.Moves.{HasEntries, moved}
use Rattle.replaying.proofs.Written.{Complete}
use Rattle.replaying.proofs.Longer.{longer, moved_longer}
use Rattle.replaying.proofs.Refiring.{outcome_of, refired}
use Rattle.steps.specs.Calls.{answer_of, started_by, start, fired_by, fire, undone_by, undo, step_on}
use Rattle.steps.specs.Lent.{refused_at, refused_by, refused_before, answer_to, Cells, cells_left}

-- ---- the tests

module _ (m : Meaning) (r : Run) where
  module _ (end k : ℕ) where
    pub history_stale : holds m r ≡ false → some 20 ≡ refused_at m end k r
    history_stale h = rw h

    module _ (held : holds m r ≡ true) where
      pub history_ends : r.count ≡ end → some k ≡ refused_at m end k r
      history_ends h = rw (held, eq-eqb r.count end h)

      pub history_goes : (r.count ≡ end → ⊥) → none ≡ refused_at m end k r
      history_goes h = rw (held, ne_eqb r.count end h)

-- ---- what the tests come to

-- an answer with values and marks
abbrev pub leaving : Answer → List ℤ → List ℕ → Done Cells
leaving a values marks = answered a (values, marks)

module _ (m : Meaning) (r : Run) where
  abbrev refusing : ℕ → Done Cells
  refusing k = leaving (refused k) r.values r.marks

  -- tests, each with the number of its refusal: what they come to, and what is left after them
  unfoldable tried : List (Bool × ℕ) → Option ℕ
  tried [] = none
  tried (t ∷ ts) = cond t.0 (some t.1) (tried ts)

  unfoldable after : List (Bool × ℕ) → Done Run → Done Run
  after [] x = x
  after (t ∷ ts) x = cond t.0 (answered (refused t.1) r) (after ts x)

  refuses : (ts : List (Bool × ℕ)) (x : Done Run) (k : ℕ) → some k ≡ tried ts → refusing k ≡ cells_left (after ts x)
  unfolding tried after
  refuses [] x k e = absurd (none-ne-some k (sym e))
  refuses (t ∷ ts) x k e = go t.0 e (refuses ts x k)
    where
      go : (b : Bool) → some k ≡ cond b (some t.1) (tried ts) → (some k ≡ tried ts → refusing k ≡ cells_left (after ts x))
          → refusing k ≡ cells_left (cond b (answered (refused t.1) r) (after ts x))
      go true e next = ap refusing (some-injective k t.1 e)
      go false e next = next e

  lets : (ts : List (Bool × ℕ)) (x : Done Run) → none ≡ tried ts → after ts x ≡ x
  unfolding tried after
  lets [] x e = refl
  lets (t ∷ ts) x e = go t.0 e (lets ts x)
    where
      go : (b : Bool) → none ≡ cond b (some t.1) (tried ts) → (none ≡ tried ts → after ts x ≡ x) → cond b (answered (refused t.1) r) (after ts x) ≡ x
      go true e next = absurd (none-ne-some t.1 e)
      go false e next = next e

  -- the tests of each move, and what it comes to after them
  unfoldable own : Move → List (Bool × ℕ)
  own Start = []
  own (Fire t) = (not (ltb t m.transitions), 11) ∷ (not (holds m r), 20) ∷ (eqb r.count (length r.history), 21) ∷ []
  own Undo = (not (holds m r), 20) ∷ (eqb r.count 0, 22) ∷ []

  abbrev tests : Move → List (Bool × ℕ)
  tests s = (too_short m r.values, 9) ∷ (too_few m r.marks, 10) ∷ own s

  unfoldable last : Move → Done Run
  last Start = started_by m r (begun m (initial m) r.values)
  last (Fire t) = fired_by m t r (fired m t r.values)
  last Undo = undone_by m r (replay m (initial m) (take (r.count - 1) r.history) r.values)

  in_order : (s : Move) → refused_before m s r ≡ tried (tests s)
  unfolding refused_before refused_by tried own
  in_order Start = refl
  in_order (Fire t) = refl
  in_order Undo = refl

  by_tests : (s : Move) → step_on m s r ≡ after (tests s) (last s)
  unfolding step_on start fire undo after own last
  by_tests Start = refl
  by_tests (Fire t) = refl
  by_tests Undo = refl

  pub step_refused : (s : Move) (k : ℕ) → some k ≡ refused_before m s r → refusing k ≡ cells_left (step_on m s r)
  step_refused s k e = refuses (tests s) (last s) k (e ∙ in_order s) ∙ ap cells_left (sym (by_tests s))

  step_passed : (s : Move) → none ≡ refused_before m s r → step_on m s r ≡ last s
  step_passed s e = by_tests s ∙ lets (tests s) (last s) (e ∙ in_order s)

  -- ---- the move

  -- what a firing leaves: the new run, or the one that was there
  left_by : (b : Bool) (a : Answer) (values : List ℤ) (marks : List ℕ) (new : Run) → new.values ≡ values → new.marks ≡ marks
      → leaving a (cond b values r.values) (cond b marks r.marks) ≡ cells_left (answered a (cond b new r))
  left_by true a values marks new e f = ap₂ (leaving a) (sym e) (sym f)
  left_by false a values marks new e f = refl

  -- the last firing was f, and left these values
  module _ (f : Firing) (left : List ℤ) where
    abbrev Concluded : Move → Type 0
    Concluded s =
        leaving (answer_to s f) (cond (is_fired f) left r.values) (cond (is_fired f) (marks_over m left r.marks) r.marks)
        ≡ cells_left (last s)

    moved_to : (s : Move) → answered f left ≡ moved m s r.history r.count r.values → Concluded s
    unfolding answer_to moved undone_by replay last
    moved_to Start e = left_by (is_fired f) (answer_of f) left _ _ refl refl ∙ ap (λ l. cells_left (started_by m r l)) e
    moved_to (Fire t) e = left_by (is_fired f) (answer_of f) left _ _ refl refl ∙ ap (λ l. cells_left (fired_by m t r l)) e
    moved_to Undo e =
        go (is_fired f)
        ∙ ap (λ l. cells_left (undone_by m r (outcome_of m l))) e
        ∙ ap (λ o. cells_left (undone_by m r o)) (sym (refired m (take (r.count - 1) r.history) (begun m (initial m) r.values)))
      where
        go : (b : Bool)
            → leaving (cond b done (refused 31)) (cond b left r.values) (cond b (marks_over m left r.marks) r.marks)
            ≡ cells_left (undone_by m r (cond b (some left) none))
        go true = refl
        go false = refl

    pub step_moved : (s : Move) → none ≡ refused_before m s r → answered f left ≡ moved m s r.history r.count r.values
        → leaving (answer_to s f) (cond (is_fired f) left r.values) (cond (is_fired f) (marks_over m left r.marks) r.marks)
        ≡ cells_left (step_on m s r)
    step_moved s passed e = moved_to s e ∙ ap cells_left (sym (step_passed s passed))

-- ---- on a copy of the values

pub over_all : {A : Type 0} (new old : List A) → length old ≡ length new → over new old ≡ new
over_all new old e = ap (λ l. new ++ l) (drop_of_length-le old {i = length new} (omega (arith, e))) ∙ append-nil new

not_refused : (b : Bool) (n : ℕ) (o : Option ℕ) → none ≡ cond b (some n) o → (b ≡ false) × (none ≡ o)
not_refused true n o e = absurd (none-ne-some n e)
not_refused false n o e = (refl, e)

first_of : (a b : Bool) → (a && b) ≡ true → a ≡ true
first_of true b e = refl
first_of false b e = e

pub count_within : (m : Meaning) (r : Run) → holds m r ≡ true → r.count ≤ length r.history
count_within m r e =
    leb-true r.count (length r.history)
    (first_of (leb r.count (length r.history)) _ (first_of (history_holds m.transitions r.count r.history) _ e))

module _ (m : Meaning) (r : Run) (s : Move) (passed : none ≡ refused_before m s r) where
  tests_passed : (too_short m r.values ≡ false) × (none ≡ cond (too_few m r.marks) (some 10) (refused_by m s r))
  unfolding refused_before
  tests_passed = not_refused (too_short m r.values) 9 _ passed

  pub passed_enough : length m.declarations ≤ length r.values
  passed_enough = ltb-false (length r.values) (length m.declarations) tests_passed.0

  pub passed_room : m.transitions ≤ length r.marks
  passed_room = ltb-false (length r.marks) m.transitions (not_refused (too_few m r.marks) 10 _ tests_passed.1).0

  own_passed : none ≡ refused_by m s r
  own_passed = (not_refused (too_few m r.marks) 10 _ tests_passed.1).1

  -- the history has the entries that the move fires
  pub passed_entries : HasEntries s (length r.history) r.count
  unfolding HasEntries refused_by
  passed_entries = go s own_passed
    where
      go : (s : Move) → none ≡ refused_by m s r → HasEntries s (length r.history) r.count
      go Start e = tt
      go (Fire t) e = tt
      go Undo e =
          let held : holds m r ≡ true = not-false (holds m r) (not_refused (not (holds m r)) 20 _ e).0 in
          omega (arith, count_within m r held)

  -- the move was made on a copy of the values in use, and what it left there is stored if it was fired
  module _ (complete : Complete m) (f : Firing) (new : List ℤ) (size : length new ≡ length m.declarations)
      (e : answered f new ≡ moved m s r.history r.count (take (length m.declarations) r.values)) where
    whole_moved : answered f (over new r.values) ≡ moved m s r.history r.count r.values
    whole_moved =
        ap (λ n. answered f (new ++ drop n r.values)) size
        ∙ ap (longer m complete (drop (length m.declarations) r.values)) e
        ∙ sym (moved_longer m complete (drop (length m.declarations) r.values) s r.history r.count (take (length m.declarations) r.values) (length-take-le (length m.declarations) r.values passed_enough))
        ∙ ap (moved m s r.history r.count) (take-append-drop (length m.declarations) r.values)

    pub dispatched : (a : Answer) → a ≡ answer_to s f → (values : List ℤ) → values ≡ cond (is_fired f) (over new r.values) r.values
        → (marks : List ℕ) → marks ≡ cond (is_fired f) (marks_over m (over new r.values) r.marks) r.marks
        → leaving a values marks ≡ cells_left (step_on m s r)
    dispatched a answers values stored marks refreshed =
        ap (λ a. leaving a values marks) answers ∙ ap₂ (leaving (answer_to s f)) stored refreshed
        ∙ step_moved m r f (over new r.values) s passed whole_moved
