-- What the run of a model takes.
use mathlib.Core.Path.{◌≡◌, refl, sym, ap}
use mathlib.Core.List.{List}
use Prim.Native.Nat.{ℕ, ◌+◌, ◌≤◌}
use native.Mathlib.Omega.{arith}
use Rattle.model.specs.declared.Sizes.{Sizes}
use Rattle.results.specs.declared.refusal.Refusal.{Refusal}
use Rattle.std.proofs.Common.{Ok, Err}
use Rattle.model.specs.Sizes.{max_variables, max_transitions}
use Rattle.model.specs.Check.{Verdict, verdict, answer_of}
use Rattle.model.specs.Check.Verdict.{refusal, accepted}
use Rattle.model.proofs.Verdicts.{answer_accepted}
use Rattle.decoding.proofs.Sizing.{enough_most}
use Rattle.dialogue.specs.Cells.{dimensions, dimensions_of}

pub refused_dimensions : (bytes : ℕ) (v : Verdict) {r : Refusal} → answer_of v ≡ Err r → dimensions bytes 0 0 ≡ dimensions_of bytes v
unfolding answer_of dimensions_of
refused_dimensions bytes (refusal k) e = refl
refused_dimensions bytes (accepted z t) e = absurd (let q : ◌≡◌ {A = ℕ} 0 1 = cc in omega arith)

module _ (z : Sizes) where
  pub known_dimensions : (bytes : ℕ) (v : Verdict) → answer_of v ≡ Ok z
      → dimensions bytes (z.states + z.flows) z.transitions ≡ dimensions_of bytes v
  unfolding dimensions_of
  known_dimensions bytes v e = sym (ap (dimensions_of bytes) (answer_accepted z v e).1)

  -- they keep the limits
  pub few_cells : (m : List ℕ) → answer_of (verdict m) ≡ Ok z → (z.states + z.flows ≤ max_variables) × (z.transitions ≤ max_transitions)
  few_cells m e =
      let enough = enough_most m z e in
      (enough.0.for_variables, enough.1)
