-- The count is below 2^31, and the other two cells are what the front has.
use mathlib.Core.Path.{◌≡◌, sym, ap, ap₂, ◌∙◌}
use mathlib.Core.List.{[], ◌∷◌}
use Prim.Native.Nat.{◌<◌, ◌-◌}
use native.Mathlib.Omega.{arith}
use lib.IntN.{ℤ, pos}
use mir.Syntax.{w32}
use mir.Val.{SFits}
use mir.ValLaws.{to_z-of_z}
use Rattle.std.specs.Prelude.{Option, Some, None}
use Rattle.std.proofs.Common.{rules, to_z, of_z}
use Rattle.std.proofs.lemmas.Int.{to_z_pos}
use Rattle.windows.specs.Figures.{marked}
use Rattle.windows.proofs.Rings.{ring_length}
use Rattle.windows.proofs.sliding.Sliding.figures.Goals as goal
use Rattle.windows.proofs.sliding.Sliding.figures.Goals.{in-Some, in-None}

none_cells : (p : ℤ × ℤ) (front : Option ℤ) → p ≡ (pos 0, pos 0) → front ≡ None → to_z w32 (of_z w32 p.0) ∷ to_z w32 (of_z w32 p.1) ∷ [] ≡ marked front
unfolding marked
none_cells p front e f = rw (e, f)

some_cells : (p : ℤ × ℤ) (front : Option ℤ) (v : ℤ) → p ≡ (to_z w32 (of_z w32 v), pos 1) → SFits w32 v → front ≡ Some v
    → to_z w32 (of_z w32 p.0) ∷ to_z w32 (of_z w32 p.1) ∷ [] ≡ marked front
unfolding marked
some_cells p front v e k f =
    let read = to_z-of_z w32 v k in
    rw (e ∙ ap (λ x. (x, pos 1)) read, f) (ap (λ x. x ∷ pos 1 ∷ []) read)

pub overflow_cast-result : goal.overflow_cast-result
overflow_cast-result c =
    let q = c.args.self.now.trues in
    record { sfits = omega (arith, c.len.ensures, ring_length q.entries q.first (q.entered - q.departed), c.requires.trues.room) }

pub returns : goal.returns
returns c =
    let q = c.args.self.now.trues in
    let small : c.len.result < 2147483648 = omega (arith, c.len.ensures, ring_length q.entries q.first (q.entered - q.departed), c.requires.trues.room) in
    ap₂ (λ n l. n ∷ l) (to_z_pos w32 c.len.result small ∙ ap (λ n. pos n) c.len.ensures)
    (elim c.match-front_value.branch [
      | in-Some w ↦
          let kept : SFits w32 w.in-Some.value = search rules in
          some_cells _ _ w.in-Some.value w.largest-is kept (sym c.front_value.ensures ∙ w.in-Some.is)
      | in-None w ↦ none_cells _ _ w.largest-is (sym c.front_value.ensures ∙ w.in-None.is)
    ])
