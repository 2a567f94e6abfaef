-- What is written for a text is accepted where an expression is handed outside a model.
use mathlib.Core.Path.{◌≡◌}
use mathlib.Core.Logic.{◌↔◌}
use mathlib.Core.List.{List}
use Prim.Native.Nat.{ℕ}
use lib.ListN.{take}
use Rattle.model.specs.Trees.{Expression, variables, sorts_of}
use Rattle.model.specs.Walk.Walk.{found}
use Rattle.model.specs.Check.{expression_given}
use Rattle.std.proofs.Common.{Option, Some}
use Rattle.kinds.specs.declared.Sort.{Sort}
use Rattle.grammar.specs.Phrases.{Phrase}
use Rattle.grammar.specs.Theorems.{Reads}
use Rattle.grammar.proofs.Readings.{one_reading}
use Rattle.composition.specs.Typing.{sort_in, expression_of}
use Rattle.texts.specs.Texts.{Slices, typed_over, typed_in}
use Rattle.texts.specs.Theorems.{AcceptedAs, WrittenAccepted}
use Rattle.texts.proofs.Small.{read_small}
use Rattle.texts.proofs.Sorting.{phrase_sorted}
use Rattle.texts.proofs.Given.{given_exact}
use Rattle.texts.proofs.Accepting.{text_accepted}
use Rattle.texts.proofs.Cells.{kinds_begun, parameters_begun}

-- the nodes of an accepted text, by whatever derivation it is read
text_given : (vs : List Sort) (text : List ℕ) (s : Slices) (n : ℕ) → AcceptedAs vs text s n → (p : Phrase) → Reads text p
    → (wanted : Option Sort) (f : Expression) (next : ℕ)
    → (expression_given (take n (typed_over vs text s).left.kinds) (take n (typed_over vs text s).left.parameters) vs wanted ≡ found f next)
    ↔ ((sort_in vs p ≡ wanted) × (f ≡ expression_of vs p) × (next ≡ n))
text_given vs text s n a p r wanted f next =
    let q = a.phrase in
    let sorted = phrase_sorted vs q (read_small text q a.reads) a.below a.fits in
    rw ((one_reading text p q r a.reads).0, (kinds_begun vs text s n a).begins, (parameters_begun vs text s n a).begins, a.counted)
    (given_exact vs (expression_of vs q) (sort_in vs q) sorted a.deep wanted f next)

-- 02: "its nodes follow the grammar"
pub written_accepted : WrittenAccepted
unfolding typed_in
written_accepted m z t b v text s n h p r wanted f next =
    let vs = sorts_of (variables t) in
    let a = (text_accepted vs text s n).0 (rw v at h) in
    rw v (text_given vs text s n a p r (Some wanted) f next)
