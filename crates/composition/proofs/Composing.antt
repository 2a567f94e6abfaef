-- The nodes of a phrase, of those of its parts.
use mathlib.Core.Path.{◌≡◌, refl, sym, ap, ◌∙◌, subst}
use mathlib.Core.Bool.{Bool, true, false, ◌&&◌, and_assoc}
use mathlib.Core.List.{List, [], ◌∷◌, ◌++◌, map, map-append, append_assoc}
use Rattle.std.proofs.Common.{Option, Some, slice_get}
use Rattle.std.proofs.lemmas.Option.{slice_get-get_or, slice_get_past}
use Prim.Native.Nat.{ℕ, ◌+◌, ◌≤◌, ◌<◌, min, max}
use native.Mathlib.Omega.{arith}
use borrow.Author.Tests.{lt-ltb, le-ltb}
use lib.IntN.{pos}
use lib.ListN.{length, take, drop, get_or}
use lib.Seq.{take_at, drop_at}
use Rattle.kinds.specs.declared.kind.Kind.{Kind}
use Rattle.kinds.specs.declared.kind.Kind.TheVariants as kind
use Rattle.kinds.specs.declared.Sort.{Sort}
use Rattle.kinds.specs.Kinds.{code_of, kind_of, boolean_sort, number_sort, no_sort}
use Rattle.kinds.specs.Sameness.{same_sort}
use Rattle.model.specs.Trees.{Expression, depth_of_expression}
use Rattle.model.specs.Trees.Expression.{numeral as number, truth as boolean, variable as cell, negation, binary, if_then_else}
use Rattle.model.specs.Nodes as nodes
use Rattle.model.specs.Nodes.{node, nodes_of_expression}
use Rattle.grammar.specs.declared.Token.{Token}
use Rattle.grammar.specs.declared.Token.TheVariants.{Not, Minus}
use Rattle.grammar.specs.Phrases.{Phrase}
use Rattle.grammar.specs.Phrases.Phrase.{numeral, truth, variable, prefixed, operation, call, conditional}
use Rattle.grammar.specs.Held.{capped}
use Rattle.composition.specs.declared.Node.{Node}
use Rattle.composition.specs.declared.Part.{Part}
use Rattle.composition.specs.Typing.{provided, sort_in, variables_below, prefix_sort, prefixed_by, operation_sort, call_operator, expression_of}
use Rattle.composition.specs.Parts.{Nodes, kind_at, held, cells_of, written, Holds}
use Rattle.composition.specs.Arranging.{plain, operator_cells, arranged}
use Rattle.composition.proofs.Bytes.{kind_itself}
use Rattle.composition.proofs.Putting.{front, back, put_before}
use Rattle.composition.proofs.Operators.{operator_nodes, operator_depth}

-- a part that was made of these
abbrev pub made : ℕ → ℕ → ℕ → Option Sort → Bool → Part
made next from depth sort below = record { next = next; from = from; depth = depth; sort = sort; below = below }

-- ---- one node

-- a number that is held in 32 bits
abbrev pub numbered : Kind → ℕ → Node
numbered kind value = held (node (code_of kind) (pos value))

same_number : (kind : Kind) (value n : ℕ) → value ≡ capped n → numbered kind value ≡ numbered kind n
unfolding held
same_number kind value n e =
    let m : min value 2147483647 ≡ min n 2147483647 = omega (arith, e) in
    ap (λ (k : ℕ). record { kind = kind_at (code_of kind); parameter = pos k }) m

module _ (old new : Nodes) (next number : ℕ) where
  pub number_holds : (vs : List Sort) (n : ℕ) → number ≡ capped n → written new ≡ written old ++ (numbered kind.Numeral number ∷ [])
      → Holds vs (numeral n) (written old) new (made next (length (written old)) 1 number_sort true)
  unfolding expression_of sort_in variables_below nodes_of_expression depth_of_expression
  number_holds vs n e put =
      record {
        begins = refl;
        nodes = put ∙ ap (λ k. written old ++ (k ∷ [])) (same_number kind.Numeral number n e);
        depth = refl;
        sort = refl;
        below = refl;
      }

  pub truth_holds : (vs : List Sort) → written new ≡ written old ++ (numbered kind.Truth number ∷ [])
      → Holds vs (truth number) (written old) new (made next (length (written old)) 1 boolean_sort true)
  unfolding expression_of sort_in variables_below nodes_of_expression depth_of_expression
  truth_holds vs put = record { begins = refl; nodes = put; depth = refl; sort = refl; below = refl }

  module _ (sorts : List Sort) (few : length sorts ≤ 4294967295) (x : ℕ) (e : number ≡ capped x)
      (put : written new ≡ written old ++ (numbered kind.Variable number ∷ [])) where
    -- of a variable, be there one of its number or not
    variable_nodes : written new ≡ written old ++ cells_of sorts (variable x)
    unfolding expression_of nodes_of_expression
    variable_nodes = put ∙ ap (λ k. written old ++ (k ∷ [])) (same_number kind.Variable number x e)

    pub known_holds : (d : Sort) → number < length sorts
        → Holds sorts (variable x) (written old) new (made next (length (written old)) 1 (Some (get_or sorts number d)) true)
    unfolding expression_of sort_in variables_below depth_of_expression
    known_holds d h =
        let same : number ≡ x = omega arith in
        record {
          begins = refl;
          nodes = variable_nodes;
          depth = refl;
          sort = sym (slice_get-get_or sorts number d h) ∙ ap (λ k. slice_get sorts k) same;
          below = sym (lt-ltb x (length sorts) (omega arith));
        }

    pub unknown_holds : length sorts ≤ number
        → Holds sorts (variable x) (written old) new (made next (length (written old)) 1 no_sort false)
    unfolding expression_of sort_in variables_below depth_of_expression
    unknown_holds h =
        record {
          begins = refl;
          nodes = variable_nodes;
          depth = refl;
          sort = sym (slice_get_past sorts x (omega arith));
          below = sym (le-ltb x (length sorts) (omega arith));
        }

-- ---- more nodes

plain_held : (k : Kind) → held (node (code_of k) (pos 0)) ≡ plain k
unfolding held
plain_held k = ap (λ (x : Kind). record { kind = x; parameter = pos 0 }) (kind_itself k)

-- a node of two operands
binary_nodes : (k : Kind) (l m : List nodes.Node) → map held (node (code_of k) (pos 0) ∷ l ++ m) ≡ plain k ∷ (map held l ++ map held m)
binary_nodes k l m = ap (λ x. x ∷ map held (l ++ m)) (plain_held k) ∙ ap (λ r. plain k ∷ r) (map-append held l m)

-- a plus sign gives no node, and wants a number
no_prefix : (c : Token) (a : Expression) → (c ≡ Not → ⊥) → (c ≡ Minus → ⊥) → prefixed_by c a ≡ a
unfolding prefixed_by
no_prefix Not a g h = absurd (g refl)
no_prefix Minus a g h = absurd (h refl)
no_prefix _ a g h = refl

number_prefix : (c : Token) (sort : Option Sort) → (c ≡ Not → ⊥) → provided (same_sort sort number_sort) number_sort ≡ prefix_sort c sort
unfolding prefix_sort
number_prefix Not sort g = absurd (g refl)
number_prefix _ sort g = refl

depth_least : (e : Expression) → 1 ≤ depth_of_expression e
unfolding depth_of_expression
depth_least (number v) = omega arith
depth_least (boolean v) = omega arith
depth_least (cell x) = omega arith
depth_least (negation a) = omega arith
depth_least (binary op a b) = omega arith
depth_least (if_then_else c a b) = omega arith

module _ (before : List Node) where
  module _ (vs : List Sort) (p : Phrase) (old : Nodes) (part : Part) (holds : Holds vs p before old part)
      (next : ℕ) (c : Token) (sort : Option Sort) where
    pub not_holds : (new : Nodes) → c ≡ Not → sort ≡ provided (same_sort part.sort boolean_sort) boolean_sort
        → written new ≡ take part.from (written old) ++ (plain kind.Negation ∷ drop part.from (written old))
        → Holds vs (prefixed c p) before new (made next part.from (part.depth + 1) sort part.below)
    unfolding expression_of sort_in variables_below prefix_sort prefixed_by nodes_of_expression depth_of_expression held kind_at
    not_holds new e s put =
        subst (λ k. Holds vs (prefixed k p) before new (made next part.from (part.depth + 1) sort part.below)) (sym e)
        (record {
          begins = holds.begins;
          nodes = put_before before part.from (sym holds.begins) (written old) (cells_of vs p) (written new) (plain kind.Negation ∷ []) holds.nodes put;
          depth = ap (λ d. d + 1) holds.depth ∙ omega arith;
          sort = s ∙ ap (λ s. provided (same_sort s boolean_sort) boolean_sort) holds.sort;
          below = holds.below;
        })

    -- 0 minus the operand, whose depth is at least that of 0
    pub minus_holds : (middle new : Nodes) → c ≡ Minus → sort ≡ provided (same_sort part.sort number_sort) number_sort
        → written middle ≡ take part.from (written old) ++ (plain kind.Numeral ∷ drop part.from (written old))
        → written new ≡ take part.from (written middle) ++ (plain kind.Difference ∷ drop part.from (written middle))
        → Holds vs (prefixed c p) before new (made next part.from (part.depth + 1) sort part.below)
    unfolding expression_of sort_in variables_below prefix_sort prefixed_by nodes_of_expression depth_of_expression held kind_of kind_at
    minus_holds middle new e s first second =
        let one = put_before before part.from (sym holds.begins) (written old) (cells_of vs p) (written middle) (plain kind.Numeral ∷ []) holds.nodes first in
        let two = put_before before part.from (sym holds.begins) (written middle) (plain kind.Numeral ∷ cells_of vs p) (written new) (plain kind.Difference ∷ []) one second in
        subst (λ k. Holds vs (prefixed k p) before new (made next part.from (part.depth + 1) sort part.below)) (sym e)
        (record {
          begins = holds.begins;
          nodes = two;
          depth = ap (λ d. d + 1) holds.depth ∙ omega (arith, depth_least (expression_of vs p));
          sort = s ∙ ap (λ s. provided (same_sort s number_sort) number_sort) holds.sort;
          below = holds.below;
        })

    -- no node more
    pub plus_holds : (c ≡ Not → ⊥) → (c ≡ Minus → ⊥) → sort ≡ provided (same_sort part.sort number_sort) number_sort
        → Holds vs (prefixed c p) before old (made next part.from part.depth sort part.below)
    unfolding expression_of sort_in variables_below
    plus_holds g h s =
        record {
          begins = holds.begins;
          nodes = rw (no_prefix c (expression_of vs p) g h) holds.nodes;
          depth = rw (no_prefix c (expression_of vs p) g h) holds.depth;
          sort = s ∙ ap (λ s. provided (same_sort s number_sort) number_sort) holds.sort ∙ number_prefix c (sort_in vs p) g;
          below = holds.below;
        }

  -- two parts, the second after the first
  module _ (vs : List Sort) (p q : Phrase) (cells old : Nodes) (left right : Part)
      (first : Holds vs p before cells left) (second : Holds vs q (written cells) old right)
      (next : ℕ) (c : Token) (depth : ℕ) (sort : Option Sort) (below : Bool) (isDepth : depth ≡ max left.depth right.depth) (isBelow : below ≡ (left.below && right.below)) where
    -- both parts' cells
    both : written old ≡ before ++ (cells_of vs p ++ cells_of vs q)
    both = second.nodes ∙ ap (λ l. l ++ cells_of vs q) first.nodes ∙ append_assoc before (cells_of vs p) (cells_of vs q)

    both_below : below ≡ (variables_below (length vs) p && variables_below (length vs) q)
    both_below = isBelow ∙ ap (λ b. b && right.below) first.below ∙ ap (λ b. variables_below (length vs) p && b) second.below

    both_depth : depth ≡ max (depth_of_expression (expression_of vs p)) (depth_of_expression (expression_of vs q))
    both_depth = isDepth ∙ ap (λ d. max d right.depth) first.depth ∙ ap (max (depth_of_expression (expression_of vs p))) second.depth

    pub call_holds : (kind : Kind) (new : Nodes) → code_of kind ≡ kind_of (call_operator c)
        → sort ≡ provided (same_sort left.sort number_sort && same_sort right.sort number_sort) number_sort
        → written new ≡ take left.from (written old) ++ (plain kind ∷ drop left.from (written old))
        → Holds vs (call c p q) before new (made next left.from (depth + 1) sort below)
    unfolding expression_of sort_in variables_below nodes_of_expression depth_of_expression
    call_holds kind new k s put =
        record {
          begins = first.begins;
          nodes =
              put_before before left.from (sym first.begins) (written old) (cells_of vs p ++ cells_of vs q) (written new) (plain kind ∷ []) both put
              ∙ ap (λ l. before ++ l)
              (sym (binary_nodes kind (nodes_of_expression (expression_of vs p)) (nodes_of_expression (expression_of vs q)))
              ∙ ap (λ n. map held (node n (pos 0) ∷ nodes_of_expression (expression_of vs p) ++ nodes_of_expression (expression_of vs q))) k);
          depth = ap (λ d. d + 1) both_depth ∙ omega arith;
          sort =
              s ∙ ap (λ a. provided (same_sort a number_sort && same_sort right.sort number_sort) number_sort) first.sort
              ∙ ap (λ b. provided (same_sort (sort_in vs p) number_sort && same_sort b number_sort) number_sort) second.sort;
          below = both_below;
        }

    -- the operands' nodes are told apart where the right one begins
    pub operation_holds : (middle new : Nodes) (more : ℕ) → sort ≡ operation_sort c left.sort right.sort
        → written middle ≡ take left.from (written old) ++ arranged c (drop left.from (take right.from (written old))) (drop right.from (written old))
        → more ≡ length (operator_cells c left.sort)
        → written new ≡ take left.from (written middle) ++ (operator_cells c left.sort ++ drop left.from (written middle))
        → Holds vs (operation c p q) before new (made next left.from (depth + more) sort below)
    unfolding expression_of sort_in variables_below
    operation_holds middle new more s arrange ended put =
        let a = cells_of vs p in
        let b = cells_of vs q in
        let lower : take right.from (written old) ≡ before ++ a =
        ap (take right.from) second.nodes ∙ take_at (written cells) b right.from (sym second.begins) ∙ first.nodes in
        let upper : drop right.from (written old) ≡ b =
        ap (drop right.from) second.nodes ∙ drop_at (written cells) b right.from (sym second.begins) in
        let ordered : written middle ≡ before ++ arranged c a b =
        arrange ∙ ap (λ f. f ++ arranged c (drop left.from (take right.from (written old))) (drop right.from (written old))) (front before left.from (sym first.begins) (written old) (a ++ b) both)
        ∙ ap (λ l. before ++ arranged c l (drop right.from (written old))) (back before left.from (sym first.begins) (take right.from (written old)) a lower)
        ∙ ap (λ r. before ++ arranged c a r) upper in
        record {
          begins = first.begins;
          nodes =
              put_before before left.from (sym first.begins) (written middle) (arranged c a b) (written new) (operator_cells c left.sort) ordered put
              ∙ ap (λ s. before ++ (operator_cells c s ++ arranged c a b)) first.sort
              ∙ ap (λ l. before ++ l) (sym (operator_nodes (sort_in vs p) (expression_of vs p) (expression_of vs q) c));
          depth =
              ap (λ d. d + more) both_depth
              ∙ ap (λ n. max (depth_of_expression (expression_of vs p)) (depth_of_expression (expression_of vs q)) + n)
              (ended ∙ ap (λ s. length (operator_cells c s)) first.sort)
              ∙ operator_depth (sort_in vs p) (expression_of vs p) (expression_of vs q) c;
          sort = s ∙ ap (λ a. operation_sort c a right.sort) first.sort ∙ ap (operation_sort c (sort_in vs p)) second.sort;
          below = both_below;
        }

  -- three parts, each after the one before
  module _ (vs : List Sort) (p q r : Phrase) (cells others old : Nodes) (condition first second : Part)
      (asked : Holds vs p before cells condition) (one : Holds vs q (written cells) others first)
      (other : Holds vs r (written others) old second) where
    pub conditional_holds : (new : Nodes) (next deep depth : ℕ) (sort : Option Sort) (below : Bool)
        → deep ≡ max first.depth second.depth → depth ≡ max condition.depth deep
        → below ≡ ((condition.below && first.below) && second.below)
        → sort ≡ provided (same_sort condition.sort boolean_sort && same_sort first.sort second.sort) first.sort
        → written new ≡ take condition.from (written old) ++ (plain kind.Conditional ∷ drop condition.from (written old))
        → Holds vs (conditional p q r) before new (made next condition.from (depth + 1) sort below)
    unfolding expression_of sort_in variables_below nodes_of_expression depth_of_expression
    conditional_holds new next deep depth sort below d e g s put =
        let a = cells_of vs p in
        let b = cells_of vs q in
        let l = cells_of vs r in
        let all : written old ≡ before ++ (a ++ (b ++ l)) =
        other.nodes ∙ ap (λ x. x ++ l) (one.nodes ∙ ap (λ x. x ++ b) asked.nodes)
        ∙ append_assoc (before ++ a) b l ∙ append_assoc before a (b ++ l) in
        record {
          begins = asked.begins;
          nodes =
              put_before before condition.from (sym asked.begins) (written old) (a ++ (b ++ l)) (written new) (plain kind.Conditional ∷ []) all put
              ∙ ap (λ x. before ++ (plain kind.Conditional ∷ (a ++ x))) (sym (map-append held (nodes_of_expression (expression_of vs q)) (nodes_of_expression (expression_of vs r))))
              ∙ ap (λ x. before ++ x)
              (sym (binary_nodes kind.Conditional (nodes_of_expression (expression_of vs p)) (nodes_of_expression (expression_of vs q) ++ nodes_of_expression (expression_of vs r))));
          depth = omega (arith, asked.depth, one.depth, other.depth);
          sort =
              s ∙ ap (λ x. provided (same_sort x boolean_sort && same_sort first.sort second.sort) first.sort) asked.sort
              ∙ ap (λ x. provided (same_sort (sort_in vs p) boolean_sort && same_sort x second.sort) x) one.sort
              ∙ ap (λ x. provided (same_sort (sort_in vs p) boolean_sort && same_sort (sort_in vs q) x) (sort_in vs q)) other.sort;
          below =
              g ∙ and_assoc condition.below first.below second.below
              ∙ ap (λ x. x && (first.below && second.below)) asked.below
              ∙ ap (λ x. variables_below (length vs) p && x)
              (ap (λ x. x && second.below) one.below ∙ ap (λ x. variables_below (length vs) q && x) other.below);
        }
