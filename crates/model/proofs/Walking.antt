-- The laws that the functions of the walk share: one walk after another, the node that is due, walks in a row.
use mathlib.Core.Path.{◌≡◌, refl, sym, ap, ◌∙◌}
use mathlib.Core.Bool.{Bool, true, false, cond}
use mathlib.Core.List.{List}
use Prim.Native.Nat.{ℕ, zero, suc, ◌-◌, ◌<◌}
use native.Mathlib.Omega.{arith}
use borrow.Author.Tests.{ne_eqb, ltb-true, ltb-false}
use denote.Bor.{Bor}
use lib.Dec.{eqb, leb, ltb}
use lib.IntN.{ℤ}
use lib.ListN.{length, get_or}
use Rattle.std.specs.Prelude.{Option, Some, None, Result, Ok, Err, is_some, IfSome, slice_get}
use Rattle.std.specs.Option.{option_copied}
use Rattle.std.proofs.lemmas.Option.{slice_get-get_or, slice_get_past}
use Rattle.results.specs.declared.refusal.Refusal.{Refusal}
use Rattle.results.specs.declared.refusal.Refusal.TheVariants.{MissingNode, TooDeep}
use Rattle.syntax.specs.declared.Cursor.{Cursor}
use Rattle.syntax.specs.declared.Node.{Node}
use Rattle.kinds.specs.Kinds.{children_of, row_of}
use Rattle.model.specs.Walk.{Walk, and_then, unless_refused, outcome, row_at}
use Rattle.syntax.specs.Readings.{reading_at, refusal_at, node_at}
use Rattle.model.specs.Walk.Walk.{refused, found}

-- what a walk comes to
abbrev pub Walked : Type 0
Walked = Result Cursor Refusal

-- ---- one walk after another

-- nothing is both a refusal and a place
pub split : {A : Type 0} {r : Result A Refusal} {n : Refusal} {a : A} → r ≡ Err n → r ≡ Ok a → ⊥
split e h = cc

pub same_place : {r : Walked} {m : ℕ} {c : Cursor} → r ≡ Ok (record { at = m }) → r ≡ Ok c → m ≡ c.at
same_place {m = m} {c = c} e h = let q : record { at = m } ≡ c = cc in ap (λ (x : Cursor). x.at) q

-- one step, and the next where it is not refused
abbrev pub and_step : {A B : Type 0} → Result A Refusal → (A → Result B Refusal) → Result B Refusal
and_step (Ok a) f = f a
and_step (Err r) f = Err r

-- of what follows a walk the place alone tells the outcome
pub outcome_next : {A B : Type 0} (w : Walk A) (k : A → ℕ → Walk B) (f : Cursor → Walked) → ((a : A) (n : ℕ) → outcome (k a n) ≡ f (record { at = n }))
    → outcome (and_then w k) ≡ and_step (outcome w) f
unfolding outcome and_then
outcome_next (refused m) k f e = refl
outcome_next (found a next) k f e = e a next

-- what follows only builds a tree
pub outcome_last : {A B : Type 0} (w : Walk A) (f : A → B) → outcome (and_then w (λ a next. found (f a) next)) ≡ outcome w
unfolding outcome and_then
outcome_last (refused m) f = refl
outcome_last (found a next) f = refl

-- ---- the node that is due

-- what its refusal leaves
pub step_due : {A B : Type 0} (answer : Walk A → Result B Refusal) → ((r : Refusal) → answer (refused r) ≡ Err r)
    → (ks : List ℕ) (ps : List ℤ) (o : Option Refusal) (at : ℕ) (w : Walk A) (f : Node → Result B Refusal) → (o ≡ None → answer w ≡ f (node_at ks ps at))
    → answer (unless_refused o w) ≡ and_step (reading_at ks ps o at) f
unfolding unless_refused reading_at
step_due answer q ks ps None at w f e = e refl
step_due answer q ks ps (Some r) at w f e = q r

pub outcome_due : {A : Type 0} (ks : List ℕ) (ps : List ℤ) (o : Option Refusal) (at : ℕ) (w : Walk A) (f : Node → Walked)
    → (o ≡ None → outcome w ≡ f (node_at ks ps at)) → outcome (unless_refused o w) ≡ and_step (reading_at ks ps o at) f
unfolding outcome
outcome_due = step_due outcome (λ r. refl)

-- with no depth left every node is refused
pub no_depth : (ks : List ℕ) (ps : List ℤ) (allowed : ℕ → Bool) (fits : ℕ → ℤ → Bool) (at : ℕ) → refusal_at ks ps allowed fits 0 at ≡ None → ⊥
unfolding refusal_at
no_depth ks ps allowed fits at e = by (leb (length ks) at) e
  where
    by : (t : Bool) → cond t (Some MissingNode) (Some TooDeep) ≡ None → ⊥
    by true e = cc
    by false e = cc

-- the depth of a child
pub one_less : (left : ℕ) → suc left - 1 ≡ left
one_less left = omega arith

pub not_zero : (n : ℕ) → eqb (suc n) 0 ≡ false
not_zero n = ne_eqb (suc n) 0 (λ e. omega arith)

-- the number of children by the row
pub children_of_lem : (k : ℕ) → (row_of k).children ≡ children_of k
unfolding row_of
children_of_lem k = refl

-- what a look-up in a slice gives
pub looked_up : {A : Type 0} (l : List A) (i : ℕ) (o : Option (Bor A)) → is_some o ≡ ltb i (length l) → IfSome o (λ x. x.now ≡ get_or l i x.now)
    → option_copied o ≡ slice_get l i
looked_up l i None e h = sym (slice_get_past l i (ltb-false i (length l) (sym e)))
looked_up l i (Some x) e h = ap Some h ∙ sym (slice_get-get_or l i x.now (ltb-true i (length l) (sym e)))

-- ---- walks in a row

module _ {A : Type 0} (item : ℕ → Walk A) where
  pub row_none : (n at : ℕ) → n ≡ 0 → outcome (row_at item n at) ≡ Ok (record { at = at })
  unfolding row_at outcome
  row_none n at e = rw e

  pub row_more : (n at : ℕ) → 0 < n → outcome (row_at item n at) ≡ and_step (outcome (item at)) (λ c. outcome (row_at item (n - 1) c.at))
  unfolding row_at
  row_more zero at l = absurd (omega arith)
  row_more (suc n) at l = rw (one_less n) (outcome_next _ _ _ (λ a m. outcome_last _ _))
