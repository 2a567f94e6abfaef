-- A text gets nodes exactly where the grammar has it and no refusal is due.
use mathlib.Core.Path.{◌≡◌, refl, sym, ap, ◌∙◌}
use mathlib.Core.Bool.{true, false, true≢false}
use mathlib.Core.List.{List}
use Prim.Native.Nat.{ℕ}
use borrow.Author.Tests.{le-ltb}
use lib.ListN.{length}
use Rattle.model.specs.Trees.{Expression, depth_of_expression}
use Rattle.model.specs.Nodes.{nodes_of_expression}
use Rattle.model.specs.Check.{max_depth}
use Rattle.grammar.specs.Reading.{phrase_of}
use Rattle.grammar.proofs.Tests.{is_true}
use Rattle.grammar.proofs.Readings.{reading_exact}
use Rattle.composition.specs.Typing.{sort_in, variables_below, expression_of}
use Rattle.results.specs.declared.refusal.Refusal.{Refusal}
use Rattle.kinds.specs.declared.Sort.{Sort}
use Rattle.std.proofs.Common.{is_some, Ok, Err}
use Rattle.texts.specs.Texts.{Meant, meant_by, Slices, written_into, typed_over}
use Rattle.texts.specs.Texts.Meant.{refused, meant}
use Rattle.texts.specs.Theorems.{AcceptedAs, TextAccepted}
use Rattle.texts.proofs.Limits.{within_read, answer_within}
use Rattle.texts.proofs.Meanings.{meant_phrase}

-- a refusal is no count
not_nodes : {r : Refusal} {n : ℕ} → Err r ≡ Ok n → ⊥
not_nodes h = let z : true ≡ false = cc in true≢false z

-- nodes are written for what is meant
record WrittenFor (m : Meant) (n : ℕ) : Type 0 where
  what : Expression
  is : m ≡ meant what
  counted : n ≡ length (nodes_of_expression what)

written_for : (s : Slices) (m : Meant) (n : ℕ) → (written_into s m).answer ≡ Ok n → WrittenFor m n
unfolding written_into
written_for s (refused k) n h = absurd (not_nodes h)
written_for s (meant x) n h = record { what = x; is = refl; counted = cc }

module _ (vs : List Sort) (text : List ℕ) (s : Slices) (n : ℕ) where
  -- from the answer
  accepted_as : (typed_over vs text s).answer ≡ Ok n → AcceptedAs vs text s n
  accepted_as h =
      let b = answer_within vs text s (Ok n) not_nodes not_nodes h in
      let w = written_for s (meant_by vs (phrase_of text)) n (sym (ap (λ a. a.answer) (within_read vs text s b)) ∙ h) in
      let (p, o, m) = meant_phrase vs (phrase_of text) w.what w.is in
      record {
        phrase = p;
        reads = (reading_exact text p).0 o;
        short = b.short;
        kinds = b.kinds;
        parameters = b.parameters;
        below = m.below;
        fits = m.sorted;
        deep = m.deep;
        counted = rw m.is w.counted;
      }

  -- what is written then
  pub accepted_written : (a : AcceptedAs vs text s n) → typed_over vs text s ≡ written_into s (meant (expression_of vs a.phrase))
  unfolding meant_by
  accepted_written a =
      let p = a.phrase in
      rw (
        within_read vs text s (record { short = a.short; kinds = a.kinds; parameters = a.parameters }),
        (reading_exact text p).1 a.reads,
        is_true (variables_below (length vs) p) a.below,
        is_true (is_some (sort_in vs p)) a.fits,
        le-ltb max_depth (depth_of_expression (expression_of vs p)) a.deep,
      )

  -- to the answer
  as_accepted : AcceptedAs vs text s n → (typed_over vs text s).answer ≡ Ok n
  unfolding written_into
  as_accepted a = ap (λ r. r.answer) (accepted_written a) ∙ ap Ok (sym a.counted)

-- both ways
pub text_accepted : TextAccepted
text_accepted vs text s n = (accepted_as vs text s n, as_accepted vs text s n)
