-- The nodes of a text are held as they are: each has a kind, and its parameter is a number below 2147483648.
use mathlib.Core.Path.{◌≡◌, refl, ap, ap₂, subst}
use mathlib.Core.Bool.{◌&&◌}
use mathlib.Core.List.{List, [], ◌∷◌, ◌++◌, map}
use Prim.Native.Nat.{ℕ, ◌≤◌, ◌<◌, min}
use native.Mathlib.Omega.{arith}
use lib.Dec.{T, ltb→lt}
use lib.IntN.{ℤ, pos}
use lib.ListN.{length}
use Rattle.evaluation.specs.declared.Operator.{Operator}
use Rattle.evaluation.specs.declared.Operator.TheVariants as operator
use Rattle.evaluation.specs.declared.Operator.TheVariants.{Difference}
use Rattle.kinds.specs.declared.kind.Kind.{Kind}
use Rattle.kinds.specs.declared.kind.Kind.TheVariants as kind
use Rattle.kinds.specs.Kinds.{code_of, kind_of}
use Rattle.model.specs.Sizes.{max_variables}
use Rattle.model.specs.Trees.{Expression}
use Rattle.model.specs.Trees.Expression.{numeral as number, truth as boolean, variable as cell, negation, binary, if_then_else}
use Rattle.model.specs.Nodes as nodes
use Rattle.model.specs.Nodes.{node, nodes_of_expression}
use Rattle.std.proofs.Common.{Option, Some, None}
use Rattle.kinds.specs.declared.Sort.{Sort}
use Rattle.kinds.specs.declared.Sort.TheVariants.{Boolean, Number}
use Rattle.grammar.specs.declared.Token.{Token}
use Rattle.grammar.specs.declared.Token.TheVariants.{Not, Minus, Equal, Unequal, Greater, GreaterOrEqual}
use Rattle.grammar.specs.Phrases.{Phrase}
use Rattle.grammar.specs.Phrases.Phrase.{numeral, truth, variable, enclosed, prefixed, operation, call, conditional}
use Rattle.grammar.proofs.Tests.{and_left, and_right}
use Rattle.composition.specs.Typing.{equal, sort_in, variables_below, prefixed_by, operated_by, call_operator, expression_of}
use Rattle.composition.specs.Parts.{held}
use Rattle.composition.proofs.Bytes.{kind_itself}
use Rattle.texts.proofs.Small.{Small}

-- ---- nodes

-- a node that is held as it is: its byte is that of a kind, its parameter a number of 31 bits
record Narrow (n : nodes.Node) : Type 0 where
  kind : Kind
  byte : n.kind ≡ code_of kind
  value : ℕ
  is : n.parameter ≡ pos value
  small : value < 2147483648

-- all of them
unfoldable Narrows : List nodes.Node → Type 0
Narrows [] = Unit {0}
Narrows (n ∷ ns) = Narrow n × Narrows ns

parameter_held : (n : nodes.Node) → Narrow n → (held n).parameter ≡ n.parameter
unfolding held
parameter_held n h =
    let same : min h.value 2147483647 ≡ h.value = omega (arith, h.small) in
    rw h.is (ap (λ (k : ℕ). pos k) same)

kind_held : (n : nodes.Node) → Narrow n → code_of (held n).kind ≡ n.kind
unfolding held
kind_held n h = rw h.byte (ap code_of (kind_itself h.kind))

kinds_held : (ns : List nodes.Node) → Narrows ns → map (λ n. code_of n.kind) (map held ns) ≡ map (λ n. n.kind) ns
unfolding Narrows
kinds_held [] h = refl
kinds_held (n ∷ ns) h = ap₂ (λ (k : ℕ) (ks : List ℕ). k ∷ ks) (kind_held n h.0) (kinds_held ns h.1)

parameters_held : (ns : List nodes.Node) → Narrows ns → map (λ n. n.parameter) (map held ns) ≡ map (λ n. n.parameter) ns
unfolding Narrows
parameters_held [] h = refl
parameters_held (n ∷ ns) h = ap₂ (λ (p : ℤ) (ps : List ℤ). p ∷ ps) (parameter_held n h.0) (parameters_held ns h.1)

narrow_append : (ns ms : List nodes.Node) → Narrows ns → Narrows ms → Narrows (ns ++ ms)
unfolding Narrows
narrow_append [] ms g h = h
narrow_append (n ∷ ns) ms g h = (g.0, narrow_append ns ms g.1 h)

-- ---- expressions

record NarrowNodes (e : Expression) : Type 0 where
  nodes : Narrows (nodes_of_expression e)

-- a node with this parameter
valued : (kind : Kind) (v : ℕ) → v < 2147483648 → Narrow (node (code_of kind) (pos v))
valued kind v h = record { kind = kind; byte = refl; value = v; is = refl; small = h }

-- a node without a parameter
plain : (kind : Kind) → Narrow (node (code_of kind) (pos 0))
plain kind = valued kind 0 (omega arith)

-- of an operator
kind_named : Operator → Kind
kind_named operator.Conjunction = kind.Conjunction
kind_named operator.Disjunction = kind.Disjunction
kind_named operator.Equality = kind.Equality
kind_named operator.Less = kind.Less
kind_named operator.LessOrEqual = kind.LessOrEqual
kind_named operator.Sum = kind.Sum
kind_named operator.Difference = kind.Difference
kind_named operator.Product = kind.Product
kind_named operator.Quotient = kind.Quotient
kind_named operator.Remainder = kind.Remainder
kind_named operator.Equivalence = kind.Equivalence

named_byte : (op : Operator) → code_of (kind_named op) ≡ kind_of op
unfolding kind_of kind_named
named_byte operator.Conjunction = refl
named_byte operator.Disjunction = refl
named_byte operator.Equality = refl
named_byte operator.Less = refl
named_byte operator.LessOrEqual = refl
named_byte operator.Sum = refl
named_byte operator.Difference = refl
named_byte operator.Product = refl
named_byte operator.Quotient = refl
named_byte operator.Remainder = refl
named_byte operator.Equivalence = refl

narrow_number : (n : ℕ) → n < 2147483648 → NarrowNodes (number (pos n))
unfolding nodes_of_expression Narrows
narrow_number n h = record { nodes = (valued kind.Numeral n h, tt) }

narrow_boolean : (n : ℕ) → n < 2147483648 → NarrowNodes (boolean (pos n))
unfolding nodes_of_expression Narrows
narrow_boolean n h = record { nodes = (valued kind.Truth n h, tt) }

narrow_cell : (x : ℕ) → x < 2147483648 → NarrowNodes (cell x)
unfolding nodes_of_expression Narrows
narrow_cell x h = record { nodes = (valued kind.Variable x h, tt) }

narrow_negation : {a : Expression} → NarrowNodes a → NarrowNodes (negation a)
unfolding nodes_of_expression Narrows
narrow_negation f = record { nodes = (plain kind.Negation, f.nodes) }

narrow_binary : (op : Operator) {a b : Expression} → NarrowNodes a → NarrowNodes b → NarrowNodes (binary op a b)
unfolding nodes_of_expression Narrows
narrow_binary op {a} {b} f g =
    record { nodes = (subst (λ k. Narrow (node k (pos 0))) (named_byte op) (plain (kind_named op)), narrow_append (nodes_of_expression a) (nodes_of_expression b) f.nodes g.nodes) }

narrow_choice : {c a b : Expression} → NarrowNodes c → NarrowNodes a → NarrowNodes b → NarrowNodes (if_then_else c a b)
unfolding nodes_of_expression Narrows
narrow_choice {c} {a} {b} e f g =
    record {
      nodes = (
        plain kind.Conditional,
        narrow_append (nodes_of_expression c) (nodes_of_expression a ++ nodes_of_expression b) e.nodes
            (narrow_append (nodes_of_expression a) (nodes_of_expression b) f.nodes g.nodes),
      );
    }

-- ---- phrases

narrow_prefixed : (c : Token) {a : Expression} → NarrowNodes a → NarrowNodes (prefixed_by c a)
unfolding prefixed_by
narrow_prefixed Not f = narrow_negation f
narrow_prefixed Minus f = narrow_binary Difference (narrow_number 0 (omega arith)) f
narrow_prefixed _ f = f

narrow_equal : (o : Option Sort) {a b : Expression} → NarrowNodes a → NarrowNodes b → NarrowNodes (equal o a b)
unfolding equal
narrow_equal (Some Number) f g = narrow_binary _ f g
narrow_equal (Some Boolean) f g = narrow_binary _ f g
narrow_equal None f g = narrow_binary _ f g

narrow_operated : (c : Token) (sort : Option Sort) {a b : Expression} → NarrowNodes a → NarrowNodes b → NarrowNodes (operated_by c sort a b)
unfolding operated_by
narrow_operated Equal sort f g = narrow_equal sort f g
narrow_operated Unequal sort f g = narrow_negation (narrow_equal sort f g)
narrow_operated Greater sort f g = narrow_binary _ g f
narrow_operated GreaterOrEqual sort f g = narrow_binary _ g f
narrow_operated _ sort f g = narrow_binary _ f g

module _ (vs : List Sort) (few : length vs ≤ max_variables) where
  narrow_phrase : (p : Phrase) → Small p → T (variables_below (length vs) p) → NarrowNodes (expression_of vs p)
  unfolding Small variables_below expression_of
  narrow_phrase (numeral n) m v = narrow_number n (omega arith)
  narrow_phrase (truth b) m v = narrow_boolean b (omega arith)
  narrow_phrase (variable x) m v = narrow_cell x (omega (arith, ltb→lt x (length vs) v))
  narrow_phrase (enclosed p) m v = narrow_phrase p m v
  narrow_phrase (prefixed c p) m v = narrow_prefixed c (narrow_phrase p m v)
  narrow_phrase (operation c p q) m v =
      let n = variables_below (length vs) in
      narrow_operated c (sort_in vs p) (narrow_phrase p m.0 (and_left (n p) (n q) v)) (narrow_phrase q m.1 (and_right (n p) (n q) v))
  narrow_phrase (call c p q) m v =
      let n = variables_below (length vs) in
      narrow_binary (call_operator c) (narrow_phrase p m.0 (and_left (n p) (n q) v))
      (narrow_phrase q m.1 (and_right (n p) (n q) v))
  narrow_phrase (conditional p q r) m v =
      let n = variables_below (length vs) in
      let w = and_right (n p) (n q && n r) v in
      narrow_choice (narrow_phrase p m.0 (and_left (n p) (n q && n r) v)) (narrow_phrase q m.1 (and_left (n q) (n r) w))
      (narrow_phrase r m.2 (and_right (n q) (n r) w))

  -- the kinds and the parameters that are written of a phrase
  module _ (p : Phrase) (m : Small p) (v : T (variables_below (length vs) p)) where
    pub phrase_kinds : map (λ n. code_of n.kind) (map held (nodes_of_expression (expression_of vs p))) ≡ map (λ n. n.kind) (nodes_of_expression (expression_of vs p))
    phrase_kinds = kinds_held (nodes_of_expression (expression_of vs p)) (narrow_phrase p m v).nodes

    pub phrase_parameters : map (λ n. n.parameter) (map held (nodes_of_expression (expression_of vs p))) ≡ map (λ n. n.parameter) (nodes_of_expression (expression_of vs p))
    phrase_parameters = parameters_held (nodes_of_expression (expression_of vs p)) (narrow_phrase p m v).nodes
