-- A line for which there is room.
use mathlib.Core.Path.{◌≡◌, ap, ◌∙◌}
use mathlib.Core.Bool.{Bool, false, cond, ◌||◌}
use mathlib.Core.List.{List}
use Prim.Native.Nat.{ℕ, ◌+◌, ◌≤◌}
use native.Mathlib.Omega.{arith}
use borrow.Author.Tests.{le-ltb}
use lib.Dec.{ltb}
use lib.ListN.{length, take, drop, length-take, length-append}
use Rattle.results.specs.Results.{Answered, answered}
use Rattle.model.specs.Sizes.{max_variables, max_transitions}
use Rattle.standing.specs.Runs.{Store}
use Rattle.std.specs.Prelude.{Option, None}
use Rattle.std.specs.Option.{unwrap_or}
use Rattle.lines.specs.Lines.{room, value_width, mark_width, Output, written_into}
use Rattle.replies.specs.Replies.{Reply}
use Rattle.replies.specs.Printing.{is_short, text_into, reply_into}
use Rattle.dialogue.specs.declared.Dimensions.{Dimensions}
use Rattle.dialogue.specs.Sizes.{line_bytes}
use Rattle.dialogue.specs.Cells.{in_use, into}

-- ---- room

module _ (out : List ℕ) (d : Dimensions) (s : Store) (l : length out ≡ line_bytes)
    (v : length s.run.values ≡ max_variables) (t : length s.buffer ≡ max_transitions) where
  pub roomy : is_short out (in_use d s) ≡ false
  roomy =
      ap (λ (b : Bool). b || ltb (length out) (room mark_width (length (take d.transitions s.buffer))))
      (le-ltb (length out) (room value_width (length (take d.variables s.run.values))) (omega (arith, l, v, length-take d.variables s.run.values)))
      ∙ le-ltb (length out) (room mark_width (length (take d.transitions s.buffer))) (omega (arith, l, t, length-take d.transitions s.buffer))

  -- a line for which there is room is told by its length
  pub told : {w : Option ℕ} {new : List ℕ} {left : Store} (r : Reply) {n : ℕ} → n ≡ unwrap_or w 0
      → answered (written_into w new) left ≡ reply_into out (in_use d s) r → answered (answered n new) left ≡ into out r
  unfolding reply_into
  told {w} {new} {left} r e p =
      ap (λ k. answered (answered k new) left) e
      ∙ ap (λ (x : Answered Output Store). answered (answered (unwrap_or x.answer.answer 0) x.answer.left) x.left)
      (p ∙ ap (λ (b : Bool). cond b (answered (written_into None out) (in_use d s)) (answered (text_into r.answer out) r.left)) roomy)

-- what is written leaves the slice as long as it was, so it fits
pub printed_fits : (out : List ℕ) (r : Reply) {n : ℕ} {new : List ℕ} {left : Store} → length new ≡ line_bytes → answered (answered n new) left ≡ into out r → n ≤ line_bytes
printed_fits out r {n} {new} {left} l p =
    let told : n ≡ length r.answer = ap (λ x. x.answer.answer) p in
    let cells : length new ≡ length r.answer + length (drop (length r.answer) out) =
    ap (λ x. length x.answer.left) p ∙ length-append r.answer (drop (length r.answer) out) in
    omega arith
