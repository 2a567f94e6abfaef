-- Theorems PickLowest and FireableExact.
use mathlib.Core.Path.{◌≡◌, refl, sym, ap, ◌∙◌}
use mathlib.Core.Bool.{Bool, true, false, cond}
use mathlib.Core.List.{List, [], ◌∷◌}
use Rattle.std.specs.Prelude.{Option, Some, None}
use Prim.Native.Nat.{ℕ, zero, suc, ◌+◌, ◌<◌}
use native.Mathlib.Omega.{arith}
use borrow.Author.Tests.{eqb-true, eqb-false}
use lib.Dec.{eqb}
use lib.IntN.{ℤ}
use lib.ListN.{length, get_or, take}
use Rattle.evaluation.specs.declared.Evaluation.{Evaluation}
use Rattle.evaluation.specs.declared.Evaluation.TheVariants.{Unknown, Failed, Value}
use Rattle.evaluation.specs.Numbers.{eq_z, boolean}
use Rattle.evaluation.proofs.Laws.{eq_z_true}
use Rattle.semantics.specs.Meanings.{Meaning}
use Rattle.standing.specs.Runs.Answer.{picked}
use Rattle.marking.specs.Marks.{mark_of, marks_from, marks_of}
use Rattle.marking.proofs.MarksWritten.{length_marks}
use Rattle.inspection.specs.Queries.{first_fireable, pick}
use Rattle.inspection.specs.Theorems.{FireableExact, PickLowest}
use Rattle.inspection.proofs.First.{IsFirst, nowhere, here, later, first_is, none_is}

-- a mark is 1
abbrev IsOne : List ℕ → ℕ → Type 0
IsOne l k = get_or l k 0 ≡ 1

abbrev IsNotOne : List ℕ → ℕ → Type 0
IsNotOne l k = IsOne l k → ⊥

finds : (l : List ℕ) (x : ℕ) → IsFirst (IsOne l) (IsNotOne l) (length l) x (first_fireable l x)
unfolding first_fireable
finds [] x = nowhere (IsOne []) (IsNotOne []) x
finds (a ∷ l) x = go (eqb a 1) refl (finds l (suc x))
  where
    go : (t : Bool) → eqb a 1 ≡ t → IsFirst (IsOne l) (IsNotOne l) (length l) (suc x) (first_fireable l (suc x))
        → IsFirst (IsOne (a ∷ l)) (IsNotOne (a ∷ l)) (suc (length l)) x (cond t (Some x) (first_fireable l (suc x)))
    go true e f = here (IsOne (a ∷ l)) (IsNotOne (a ∷ l)) (length l) x (eqb-true a 1 e)
    go false e f = later (IsOne (a ∷ l)) (IsNotOne (a ∷ l)) (length l) x (eqb-false a 1 e) (first_fireable l (suc x)) f

pub pick_lowest : PickLowest
unfolding pick
pick_lowest m r long room held =
    let marks = marks_of m r.values in
    let count : length marks ≡ m.transitions = length_marks m (take (length m.declarations) r.values) 0 m.transitions in
    let lowest = first_is (IsOne marks) (IsNotOne marks) (λ k s n. n s) (length marks) (first_fireable marks 0) (finds marks 0) in
    let none-at = none_is (IsOne marks) (IsNotOne marks) (λ k s n. n s) (length marks) (first_fireable marks 0) (finds marks 0) in
    let first : pick m r ≡ picked (first_fireable marks 0) = rw (long, room, held) in
    let is : (o : Option ℕ) → pick m r ≡ picked o → first_fireable marks 0 ≡ o = λ o e.
    let same : picked (first_fireable marks 0) ≡ picked o = sym first ∙ e in cc in (
      λ t. (
        λ e. let f = (lowest t).0 (is (Some t) e) in ((omega (arith, count, f.0), f.1), λ k h q. f.2 k h q.1),
        λ h. first ∙ ap picked ((lowest t).1 (omega (arith, count, h.0.0), h.0.1, λ k b q. h.1 k b (omega (arith, count, h.0.0), q))),
      ),
      (
        λ e t q. none-at.0 (is None e) t (omega (arith, count, q.0)) q.1,
        λ h. first ∙ ap picked (none-at.1 (λ t b q. h t (omega (arith, count), q))),
      ),
    )

-- ---- mark 1 is that of a true guard

mark_at : (m : Meaning) (values : List ℤ) (t n k i : ℕ) → k < n → i ≡ t + k → get_or (marks_from m values t n) k 0 ≡ mark_of (m.guard i values)
unfolding marks_from
mark_at m values t zero k i h e = absurd (omega arith)
mark_at m values t (suc n) zero i h e = let s : i ≡ t = omega (arith, e) in rw s
mark_at m values t (suc n) (suc k) i h e = mark_at m values (suc t) n k i (omega (arith, h)) (omega (arith, e))

marked_true : (g : Evaluation) → mark_of g ≡ 1 → g ≡ Value (boolean true)
unfolding mark_of
marked_true Unknown e = absurd (omega arith)
marked_true (Failed manner) e = absurd (omega arith)
marked_true (Value v) e = go (eq_z v (boolean true)) refl e
  where
    go : (t : Bool) → eq_z v (boolean true) ≡ t → ◌≡◌ {A = ℕ} (cond t 1 0) 1 → Value v ≡ Value (boolean true)
    go true p q = ap Value (eq_z_true v (boolean true) p)
    go false p q = absurd (omega (arith, q))

pub fireable_exact : FireableExact
unfolding mark_of eq_z
fireable_exact m values t =
    let used = take (length m.declarations) values in (
      λ f. (f.0, marked_true (m.guard t used) (sym (mark_at m used 0 m.transitions t t f.0 (omega arith)) ∙ f.1)),
      λ f. (f.0, mark_at m used 0 m.transitions t t f.0 (omega arith) ∙ ap mark_of f.1),
    )
