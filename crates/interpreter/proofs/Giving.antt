-- An active assignment: the flags and the cell.
use Rattle.std.proofs.Common.{Option as Optional, Some, None, get_or, int_eq}
use Rattle.std.specs.Option.{option_eq}
use Rattle.std.specs.Bool.{one_answer}
use Rattle.std.specs.Cmp.{signed_Decides}
use mathlib.Core.Path.{◌≡◌, refl, sym, subst, ◌∙◌}
use mathlib.Core.Bool.{Bool, true, not, ◌||◌}
use mathlib.Core.List.{List}
use Prim.Native.Nat.{ℕ}
use lib.IntN.{ℤ}
use mir.Syntax.{w32}
use mir.Val.{to_z, of_z, SFits}
use mir.ValLaws.{to_z-of_z}
use Rattle.evaluation.specs.Numbers.{eq_z}
use Rattle.evaluation.proofs.Laws.{eq_z_refl, eq_z_true}
use Rattle.evaluation.proofs.Signed.{read_one}
use Rattle.variables.specs.Rows.{within_ends}
use Rattle.interpreter.specs.declared.Gathered.{Gathered}
use Rattle.interpreter.specs.Instructions.Effect.{gives}
use Rattle.interpreter.specs.Gathering.{gathering, gather, taken}

-- the equality of numbers that the code asks, and ours
same_test : (w v : ℤ) → int_eq w v ≡ eq_z v w
same_test w v =
    one_answer (int_eq w v) (eq_z v w) (signed_Decides w v) (λ h. sym (eq_z_true v w h), λ e. subst (λ z. eq_z z w ≡ true) e (eq_z_refl w))

module _ (lows highs : List ℤ) (given : List (Optional ℤ)) (x : ℕ) {v : ℤ} (f : SFits w32 v) (found : Gathered)
    {within : Bool} (told : within ≡ within_ends lows highs x (to_z w32 (of_z w32 v))) where
  inside : within ≡ within_ends lows highs x v
  inside = told ∙ read_one (within_ends lows highs x) f

  pub keeps : (c : Optional ℤ) → get_or given x None ≡ c → (c ≡ None → ⊥) → {t : Bool} → t ≡ not (option_eq int_eq c (Some (to_z w32 (of_z w32 v))))
      → gathering (record { zero_divisor = found.zero_divisor; too_large = found.too_large; outside = found.outside || not within; conflict = found.conflict || t; fresh = found.fresh }) given
      ≡ gather lows highs (gives x v) (gathering found given)
  unfolding gather taken
  keeps None e n t = absurd (n refl)
  keeps (Some w) e n t = rw (inside, e, t, to_z-of_z w32 v f, same_test w v)
