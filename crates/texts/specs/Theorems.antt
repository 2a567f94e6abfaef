-- The statements on typed texts. Proved in proofs/.
use Rattle.std.specs.Prelude.{◌≡◌, ◌↔◌, List, [], ◌∷◌, ℕ, ◌≤◌, ◌<◌, ◌*◌, T, length, take, drop, Some, is_some, Result, Ok, Err}
use Rattle.results.specs.Results.{Answered}
use Rattle.results.specs.declared.refusal.Refusal.{Refusal}
use Rattle.results.specs.declared.refusal.Refusal.TheVariants.{NotInGrammar}
use Rattle.kinds.specs.declared.Sort.{Sort}
use Rattle.model.specs.declared.Sizes.{Sizes}
use Rattle.model.specs.Trees.{Expression, System, variables, sorts_of, depth_of_expression}
use Rattle.model.specs.Nodes.{nodes_of_expression}
use Rattle.model.specs.Walk.Walk.{found}
use Rattle.model.specs.Check.{Verdict, verdict, max_depth, expression_given}
use Rattle.model.specs.Check.Verdict.{accepted}
use Rattle.model.specs.Theorems.{Bytes, ShuffledFile}
use Rattle.grammar.specs.Phrases.{Phrase}
use Rattle.grammar.specs.Theorems.{Reads}
use Rattle.composition.specs.Typing.{sort_in, variables_below, expression_of}
use Rattle.texts.specs.Texts.{Slices, typed_over, typed_in, max_text, min_nodes}

-- 02: "its nodes follow the grammar": the nodes that are written pass the check of an expression handed outside the model, as the
-- expression of the text's one reading, for its own type and no other
abbrev pub WrittenAccepted : Type 0
WrittenAccepted =
    (m : List ℕ) (z : Sizes) (t : System) → Bytes m → verdict m ≡ accepted z t → (text : List ℕ) (s : Slices) (n : ℕ)
    → (typed_in (verdict m) text s).answer ≡ Ok n → (p : Phrase) → Reads text p → (wanted : Sort) (f : Expression) (next : ℕ)
    → (expression_given (take n (typed_in (verdict m) text s).left.kinds) (take n (typed_in (verdict m) text s).left.parameters) (sorts_of (variables t)) (Some wanted) ≡ found f next)
    ↔ ((sort_in (sorts_of (variables t)) p ≡ Some wanted) × (f ≡ expression_of (sorts_of (variables t)) p) × (next ≡ n))

-- 01: "cells past a result stay": those past the nodes are as they were, and each slice is as long
abbrev pub CellsStay : Type 0
CellsStay =
    (v : Verdict) (text : List ℕ) (s : Slices) (n : ℕ) → (typed_in v text s).answer ≡ Ok n
    → (drop n (typed_in v text s).left.kinds ≡ drop n s.kinds)
    × (drop n (typed_in v text s).left.parameters ≡ drop n s.parameters)
    × (length (typed_in v text s).left.kinds ≡ length s.kinds)
    × (length (typed_in v text s).left.parameters ≡ length s.parameters)

-- 400 nodes are room for every text that is read, also where 12, 33 or 34 is due then: it has fewer than two nodes for a byte
abbrev pub RoomEnough : Type 0
RoomEnough = (vs : List Sort) (text : List ℕ) (p : Phrase) → Reads text p → length (nodes_of_expression (expression_of vs p)) < 2 * length text

-- what 02 asks of a text over variables of these sorts, for n nodes into these slices
pub record AcceptedAs (vs : List Sort) (text : List ℕ) (s : Slices) (n : ℕ) : Type 0 where
  pub phrase : Phrase
  pub reads : Reads text phrase
  pub short : length text ≤ max_text
  pub kinds : min_nodes ≤ length s.kinds
  pub parameters : min_nodes ≤ length s.parameters
  pub below : T (variables_below (length vs) phrase)
  pub fits : T (is_some (sort_in vs phrase))
  pub deep : depth_of_expression (expression_of vs phrase) ≤ max_depth
  pub counted : n ≡ length (nodes_of_expression (expression_of vs phrase))

-- a text gets nodes exactly where the grammar has it and no refusal is due
abbrev pub TextAccepted : Type 0
TextAccepted = (vs : List Sort) (text : List ℕ) (s : Slices) (n : ℕ) → ((typed_over vs text s).answer ≡ Ok n) ↔ AcceptedAs vs text s n

-- 02: "32 not in the grammar": it is answered exactly where no derivation of the text exists and neither 34 nor 10 comes before
pub record OutsideGrammar (text : List ℕ) (s : Slices) : Type 0 where
  pub short : length text ≤ max_text
  pub kinds : min_nodes ≤ length s.kinds
  pub parameters : min_nodes ≤ length s.parameters
  pub underived : (p : Phrase) → Reads text p → ⊥

abbrev pub TextOutside : Type 0
TextOutside = (vs : List Sort) (text : List ℕ) (s : Slices) → ((typed_over vs text s).answer ≡ Err NotInGrammar) ↔ OutsideGrammar text s

-- a refusal leaves every cell, whatever the model, the text and the slices are
abbrev pub RefusedLeavesCells : Type 0
RefusedLeavesCells = (v : Verdict) (text : List ℕ) (s : Slices) (r : Refusal) → (typed_in v text s).answer ≡ Err r → (typed_in v text s).left ≡ s

-- texts typed one after another into the same slices
unfoldable pub typed_all : List ℕ → List (List ℕ) → Slices → List (Answered (Result ℕ Refusal) Slices)
typed_all m [] s = []
typed_all m (text ∷ texts) s = typed_in (verdict m) text s ∷ typed_all m texts (typed_in (verdict m) text s).left

-- no order in which the model is written changes what a text becomes
abbrev pub TextsOrderIndependent : Type 0
TextsOrderIndependent =
    (m m' : List ℕ) → Bytes m → ShuffledFile m m' → (texts : List (List ℕ)) (s : Slices) → typed_all m texts s ≡ typed_all m' texts s
