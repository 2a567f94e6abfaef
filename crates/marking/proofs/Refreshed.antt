-- What is refreshed holds its marks, and no mark of a guard is above 2.
use mathlib.Core.Path.{◌≡◌, refl, sym, ap, ◌∙◌}
use mathlib.Core.Bool.{Bool, true, false, cond}
use mathlib.Core.List.{List}
use Prim.Native.Nat.{ℕ, zero, suc, ◌≤◌, ◌<◌}
use native.Mathlib.Omega.{arith}
use borrow.Author.Tests.{lt-ltb}
use lib.IntN.{ℤ}
use lib.ListN.{length, take, drop, length-take}
use lib.Seq.{take_at}
use Rattle.evaluation.specs.declared.Evaluation.{Evaluation}
use Rattle.evaluation.specs.declared.Evaluation.TheVariants.{Unknown, Failed, Value}
use Rattle.evaluation.specs.Numbers.{eq_z, boolean}
use Rattle.semantics.specs.Meanings.{Meaning}
use Rattle.standing.specs.Runs.{Run}
use Rattle.standing.specs.Holding.{all_below, marks_within}
use Rattle.marking.specs.Marks.{mark_of, marks_from, marks_of, refreshed, HoldsMarks}
use Rattle.marking.proofs.MarksWritten.{length_marks}

mark_below : (g : Evaluation) → mark_of g < 3
unfolding mark_of
mark_below Unknown = omega arith
mark_below (Failed manner) = omega arith
mark_below (Value v) = go (eq_z v (boolean true))
  where
    go : (b : Bool) → cond b 1 0 < 3
    go true = omega arith
    go false = omega arith

marks_below : (m : Meaning) (values : List ℤ) (t n : ℕ) → all_below 3 (marks_from m values t n) ≡ true
unfolding marks_from
marks_below m values t zero = refl
marks_below m values t (suc n) = rw (lt-ltb (mark_of (m.guard t values)) 3 (mark_below (m.guard t values))) (marks_below m values (suc t) n)

module _ (m : Meaning) where
  long : (values : List ℤ) → length (marks_of m values) ≡ m.transitions
  long values = length_marks m (take (length m.declarations) values) 0 m.transitions

  -- whatever marks were held
  pub refreshed_holds : (values : List ℤ) (r : Run) → HoldsMarks m (refreshed m values r)
  refreshed_holds values r = take_at (marks_of m values) (drop m.transitions r.marks) m.transitions (long values)

  module _ (r : Run) (h : HoldsMarks m r) where
    pub marks_enough : m.transitions ≤ length r.marks
    marks_enough = omega (arith, sym (length-take m.transitions r.marks) ∙ ap length h ∙ long r.values)

    pub marks_within_lem : marks_within m.transitions r.marks ≡ true
    marks_within_lem = ap (all_below 3) h ∙ marks_below m (take (length m.declarations) r.values) 0 m.transitions
