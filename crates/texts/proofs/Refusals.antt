-- A refused text leaves every cell.
use mathlib.Core.Path.{◌≡◌, refl}
use mathlib.Core.Bool.{true, false, ◌||◌, true≢false}
use mathlib.Core.List.{List}
use Prim.Native.Nat.{ℕ}
use lib.Dec.{ltb}
use lib.ListN.{length}
use Rattle.results.specs.Results.{Answered}
use Rattle.model.specs.Trees.{variables, sorts_of}
use Rattle.model.specs.Check.Verdict.{refusal, accepted}
use Rattle.grammar.specs.Reading.{phrase_of}
use Rattle.composition.proofs.Branches.{either}
use Rattle.results.specs.declared.refusal.Refusal.{Refusal}
use Rattle.kinds.specs.declared.Sort.{Sort}
use Rattle.std.proofs.Common.{Result, Err}
use Rattle.texts.specs.Texts.{Meant, meant_by, Slices, written_into, typed_over, typed_in, max_text, min_nodes}
use Rattle.texts.specs.Texts.Meant.{refused, meant}
use Rattle.texts.specs.Theorems.{RefusedLeavesCells}

-- an answer that leaves these slices if it is a refusal
Leaves : Slices → Answered (Result ℕ Refusal) Slices → Type 0
Leaves s a = (r : Refusal) → a.answer ≡ Err r → a.left ≡ s

-- nodes are no refusal
leaves_written : (s : Slices) (m : Meant) → Leaves s (written_into s m)
unfolding Leaves written_into
leaves_written s (refused k) = λ n e. refl
leaves_written s (meant x) = λ n e. let z : true ≡ false = cc in absurd (true≢false z)

-- by the tests in their order
leaves_over : (vs : List Sort) (text : List ℕ) (s : Slices) → Leaves s (typed_over vs text s)
unfolding Leaves typed_over
leaves_over vs text s =
    either (Leaves s) (ltb max_text (length text)) (λ n e. refl)
    (either (Leaves s) (ltb (length s.kinds) min_nodes || ltb (length s.parameters) min_nodes) (λ n e. refl) (leaves_written s (meant_by vs (phrase_of text))))

-- of any model
pub refused_leaves_cells : RefusedLeavesCells
unfolding Leaves typed_in
refused_leaves_cells (refusal k) text s n e = refl
refused_leaves_cells (accepted z t) text s n e = leaves_over (sorts_of (variables t)) text s n e
