-- A text has fewer than two nodes for each byte.
use mathlib.Core.Path.{◌≡◌}
use mathlib.Core.List.{List, [], ◌∷◌, ◌++◌, map}
use Prim.Native.Nat.{ℕ, ◌+◌, ◌*◌, ◌≤◌, ◌<◌}
use native.Mathlib.Omega.{arith}
use lib.ListN.{length, length-append, length-map}
use Rattle.evaluation.specs.declared.Operator.{Operator}
use Rattle.model.specs.Trees.{Expression}
use Rattle.model.specs.Trees.Expression.{binary, negation}
use Rattle.model.specs.Standing.{size_of_expression}
use Rattle.model.proofs.NodeTrees.{expression_size}
use Rattle.grammar.specs.Words.{Spelled, is_word, is_run, is_among, two_byte_signs}
use Rattle.grammar.specs.Words.Spelled.{nothing, space, word as spelt}
use Rattle.std.proofs.Common.{Option, Some, None}
use Rattle.kinds.specs.declared.Sort.{Sort}
use Rattle.kinds.specs.declared.Sort.TheVariants.{Boolean, Number}
use Rattle.grammar.specs.declared.Token.{Token}
use Rattle.grammar.specs.declared.Token.TheVariants.{Close, Comma, Then, Else, Not, Minus, Equal, Unequal, Greater, GreaterOrEqual}
use Rattle.grammar.specs.Tokens.{token_of}
use Rattle.grammar.specs.Phrases.{Phrase, Derives}
use Rattle.grammar.specs.Phrases.Derives.{by_tighter, by_number, by_variable, by_true, by_false, by_parentheses, by_call, by_chain, by_sign, by_relation, by_negation, by_conditional}
use Rattle.composition.specs.Typing.{equal, sort_in, prefixed_by, operated_by, expression_of}
use Rattle.texts.specs.Theorems.{RoomEnough}

-- ---- a word has a byte

-- so there are no more words than bytes
words_bytes : {text : List ℕ} {ws : List (List ℕ)} → Spelled text ws → length ws ≤ length text
unfolding is_word is_run is_among two_byte_signs Rattle.ascii.specs.Ascii.same
words_bytes nothing = omega arith
words_bytes (space s) = let h = words_bytes s in omega arith
words_bytes (spelt [] text ws h s) = absurd h.is_one
words_bytes (spelt (b ∷ w) text ws h s) = let g = words_bytes s in omega (arith, length-append w text)

-- ---- at most two nodes for an operator

record AtMost (n : ℕ) (e : Expression) : Type 0 where
  size : size_of_expression e ≤ n

module _ (a b : Expression) where
  abbrev most : ℕ
  most = 2 + (size_of_expression a + size_of_expression b)

  pair : (op : Operator) → AtMost most (binary op a b)
  unfolding size_of_expression
  pair op = record { size = omega arith }

  swapped : (op : Operator) → AtMost most (binary op b a)
  unfolding size_of_expression
  swapped op = record { size = omega arith }

  negated : (op : Operator) → AtMost most (negation (binary op a b))
  unfolding size_of_expression
  negated op = record { size = omega arith }

  equal_size : (o : Option Sort) → AtMost most (equal o a b)
  unfolding equal
  equal_size (Some Number) = pair _
  equal_size (Some Boolean) = pair _
  equal_size None = pair _

  negated_size : (o : Option Sort) → AtMost most (negation (equal o a b))
  unfolding equal
  negated_size (Some Number) = negated _
  negated_size (Some Boolean) = negated _
  negated_size None = negated _

  -- an operator between operands
  operated_size : (c : Token) (sort : Option Sort) → AtMost most (operated_by c sort a b)
  unfolding operated_by
  operated_size Equal sort = equal_size sort
  operated_size Unequal sort = negated_size sort
  operated_size Greater sort = swapped _
  operated_size GreaterOrEqual sort = swapped _
  operated_size _ sort = pair _

-- a sign, or not
prefixed_size : (c : Token) (a : Expression) → AtMost (2 + size_of_expression a) (prefixed_by c a)
unfolding prefixed_by size_of_expression
prefixed_size Not a = record { size = omega arith }
prefixed_size Minus a = record { size = omega arith }
prefixed_size _ a = record { size = omega arith }

-- ---- fewer than two nodes for a word, and for a byte

module _ (vs : List Sort) where
  abbrev nodes : Phrase → ℕ
  nodes p = size_of_expression (expression_of vs p)

  -- by induction on the derivation
  derived_size : {l : ℕ} {ts : List Token} {p : Phrase} → Derives l ts p → nodes p < 2 * length ts
  unfolding expression_of size_of_expression
  derived_size (by_tighter m d) = derived_size d
  derived_size by_number = omega arith
  derived_size by_variable = omega arith
  derived_size by_true = omega arith
  derived_size by_false = omega arith
  derived_size (by_parentheses ts p d) = let g = derived_size d in omega (arith, length-append ts (Close ∷ []))
  derived_size (by_call c ts us p q t d e) =
      let g = derived_size d in
      let h = derived_size e in
      omega (arith, length-append ts (Comma ∷ us ++ (Close ∷ [])), length-append us (Close ∷ []))
  derived_size (by_chain l c ts us p q t d e) =
      let g = derived_size d in
      let h = derived_size e in
      omega (arith, length-append ts (c ∷ us), (operated_size (expression_of vs p) (expression_of vs q) c (sort_in vs p)).size)
  derived_size (by_sign c ts p t d) = let g = derived_size d in omega (arith, (prefixed_size c (expression_of vs p)).size)
  derived_size (by_relation c ts us p q t d e) =
      let g = derived_size d in
      let h = derived_size e in
      omega (arith, length-append ts (c ∷ us), (operated_size (expression_of vs p) (expression_of vs q) c (sort_in vs p)).size)
  derived_size (by_negation ts p d) = let g = derived_size d in omega (arith, (prefixed_size Not (expression_of vs p)).size)
  derived_size (by_conditional ts us ws p q r d e f) =
      let g = derived_size d in
      let h = derived_size e in
      let i = derived_size f in
      omega (arith, length-append ts (Then ∷ us ++ (Else ∷ ws)), length-append us (Else ∷ ws))

-- by the words of the text
pub room_enough : RoomEnough
room_enough vs text p r =
    let g = derived_size vs r.derived in
    let n : length (map token_of r.words) ≡ length r.words = length-map r.words token_of in
    let b = words_bytes r.spelled in
    rw (expression_size (expression_of vs p)) (omega arith)
