-- Pick, by the tests that the code makes: it looks at one guard after another, and on a file it answers alone.
use mathlib.Core.Path.{◌≡◌, refl, sym, ap, ap₂, ◌∙◌}
use mathlib.Core.Bool.{true, cond}
use mathlib.Core.List.{List}
use Rattle.std.specs.Prelude.{Option, Some, None}
use Prim.Native.Nat.{ℕ, suc, ◌+◌, ◌-◌, ◌≤◌, ◌<◌}
use native.Mathlib.Numerals.{add-one}
use native.Mathlib.Omega.{arith}
use borrow.Author.Tests.{eq-eqb, ne_eqb, le-ltb}
use lib.Dec.{eqb}
use lib.IntN.{ℤ}
use lib.ListN.{length, take}
use Rattle.model.specs.Check.{Verdict}
use Rattle.model.specs.Check.Verdict.{refusal, accepted}
use Rattle.semantics.specs.Meanings.{Meaning}
use Rattle.standing.specs.declared.Declared.{Declared}
use Rattle.standing.specs.Runs.{Run, Answer, answered}
use Rattle.standing.specs.Runs.Answer.{picked}
use Rattle.standing.specs.Holding.{IsEnough, declared_by, holds, holds_declared}
use Rattle.marking.specs.Marks.{mark_of, marks_from, marks_of}
use Rattle.steps.specs.Declarations.{Declares}
use Rattle.steps.proofs.Declarations.{rows_declared, holds_same}
use Rattle.tables.specs.declared.Tables.{Tables}
use Rattle.steps.specs.Answers.{on_file, on_file_answer}
use Rattle.inspection.specs.Queries.{first_fireable, pick}

-- what is declared by tables is as many rows and transitions as they have
pub as_many : (t : Tables) {d : Declared} → d ≡ declared_by t → (length d.variables.now ≡ length t.variables.now) × (d.transitions ≡ length t.guards.now)
as_many t e = (ap (λ (d : Declared). length d.variables.now) e, ap (λ (d : Declared). d.transitions) e)

-- ---- what is found on a run, over what is declared

module _ (m : Meaning) (d : Declared) (s : Declares m d) (r : Run) (enough : IsEnough d r) where
  pub pick_done : holds_declared d r ≡ true → (t : Option ℕ) → t ≡ first_fireable (marks_of m r.values) 0 → picked t ≡ pick m r
  unfolding pick
  pick_done h t e =
      let values : length m.declarations ≤ length r.values = omega (arith, rows_declared s, enough.0) in
      let marks : m.transitions ≤ length r.marks = omega (arith, s.counted, enough.1) in
      let held : holds m r ≡ true = sym (holds_same s r) ∙ h in
      rw (le-ltb (length r.values) (length m.declarations) values, le-ltb (length r.marks) m.transitions marks, held, e)

-- ---- what the marks that are left come to

module _ (m : Meaning) (values : List ℤ) (total : ℕ) where
  -- the first mark that is 1 among those from i on
  abbrev pub from_on : ℕ → Option ℕ
  from_on i = first_fireable (marks_from m values i (total - i)) i

  module _ (i : ℕ) where
    step : i < total → from_on i ≡ cond (eqb (mark_of (m.guard i values)) 1) (Some i) (from_on (suc i))
    unfolding first_fireable marks_from
    step h = let e : total - i ≡ suc (total - suc i) = omega (arith, h) in rw e

    module _ (mark : ℕ) (marked : mark ≡ mark_of (m.guard i values)) (before : from_on 0 ≡ from_on i) where
      pub found_here : i < total → mark ≡ 1 → Some i ≡ from_on 0
      found_here h e = sym (before ∙ step h ∙ rw (eq-eqb (mark_of (m.guard i values)) 1 (sym marked ∙ e)))

      pub go_on_lem : i < total → (mark ≡ 1 → ⊥) → from_on 0 ≡ from_on (i + 1)
      go_on_lem h n = rw (add-one i) (before ∙ step h ∙ rw (ne_eqb (mark_of (m.guard i values)) 1 (λ e. n (marked ∙ e))))

    pub found_none : total ≤ i → from_on 0 ≡ from_on i → None ≡ from_on 0
    unfolding first_fireable marks_from
    found_none h before = let e : total - i ≡ 0 = omega (arith, h) in sym (before ∙ rw e)

pub all_marks : (m : Meaning) (values : List ℤ) (used total : ℕ) → used ≡ length m.declarations → total ≡ m.transitions
    → from_on m (take used values) total 0 ≡ first_fireable (marks_of m values) 0
all_marks m values used total e q =
    let all : total - 0 ≡ m.transitions = omega (arith, q) in
    ap₂ (λ u n. first_fireable (marks_from m (take u values) 0 n) 0) e all

-- ---- an answer alone

pub alone : {A : Type 0} (v : Verdict) (f : Meaning → Answer) (a : A) → (on_file v (λ m. answered (f m) a) a).answer ≡ on_file_answer v f
unfolding on_file on_file_answer
alone (refusal n) f a = refl
alone (accepted z t) f a = refl
