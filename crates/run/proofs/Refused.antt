-- A refused call leaves all that was lent: theorem RefusedLeaves.
use mathlib.Core.Path.{◌≡◌, refl, sym, ap, ◌∙◌}
use Prim.Native.Nat.{ℕ}
use Rattle.model.specs.declared.Sizes.{Sizes}
use Rattle.model.specs.Check.{Verdict, verdict}
use Rattle.model.specs.Check.Verdict.{refusal, accepted}
use Rattle.semantics.specs.Meanings.{Meaning, meaning_of}
use Rattle.run.specs.declared.Call.{Call}
use Rattle.run.specs.declared.Call.TheVariants.{Check, Start, Fire, Undo, Marks, Value, Pick, FirstOutside}
use Rattle.standing.specs.Runs.{Store, Done, store}
use Rattle.standing.specs.Runs.Answer.{refused}
use Rattle.replaying.proofs.Tests.{clash}
use Rattle.run.specs.Lists.{call_on, call_by}
use Rattle.run.specs.Theorems.{RefusedLeaves}
use Rattle.run.proofs.Cases.{start_cases, fire_cases, undo_cases, marks_cases}

-- what is left, if this was refused, is what was there
abbrev Leaves : {A : Type 0} → ℕ → A → Done A → Type 0
Leaves k a d = d.answer ≡ refused k → d.left ≡ a

module _ (m : Meaning) (z : Sizes) (s : Store) (k : ℕ) where
  leaves : (c : Call) → Leaves k s (call_on z m c s)
  unfolding call_on
  leaves Check e = refl
  leaves Start e = ap (λ r. store r s.buffer) (start_cases m s.run (Leaves k s.run) (λ n o e. refl) (λ n f e. clash cc) e)
  leaves (Fire t) e =
      ap (λ r. store r s.buffer)
      (fire_cases m s.run (Leaves k s.run) (λ n o e. refl) (λ h e. refl) t (λ below held free n f e. clash cc) e)
  leaves Undo e =
      ap (λ r. store r s.buffer)
      (undo_cases m s.run (Leaves k s.run) (λ n o e. refl) (λ h e. refl) (λ h f e. refl) (λ held h values f e. clash cc) e)
  leaves Marks e =
      ap (store s.run)
      (marks_cases m s.run s.buffer (Leaves k s.buffer) (λ n o e. refl) (λ h e. refl) (λ e. clash cc) e)
  leaves (Value x) e = refl
  leaves Pick e = refl
  leaves FirstOutside e = refl

leaves_by : (v : Verdict) (s : Store) (k : ℕ) (c : Call) → Leaves k s (call_by v c s)
unfolding call_by
leaves_by (refusal n) s k c e = refl
leaves_by (accepted z t) s k c e = leaves (meaning_of t) z s k c e

pub refused_leaves : RefusedLeaves
refused_leaves m c s d k p e =
    ap (λ (d : Done Store). d.left) p ∙ leaves_by (verdict m) s k c (ap (λ (d : Done Store). d.answer) (sym p) ∙ e)
