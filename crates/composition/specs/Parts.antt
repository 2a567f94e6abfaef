-- How the code holds a phrase: the nodes of its expression, and what is known of it.
use Rattle.std.specs.Prelude.{◌≡◌, cond, List, ◌++◌, map, ℕ, ◌+◌, ◌≤◌, eqb, min, pos, nat_abs, length}
use Rattle.arrayvec.specs.ArrayVec.{ArrayVec}
use Rattle.model.specs.Trees.{depth_of_expression}
use Rattle.model.specs.Nodes as nodes
use Rattle.model.specs.Nodes.{nodes_of_expression}
use Rattle.kinds.specs.declared.kind.Kind.{Kind}
use Rattle.kinds.specs.declared.kind.Kind.TheVariants as kind
use Rattle.kinds.specs.declared.Sort.{Sort}
use Rattle.grammar.specs.Phrases.{Phrase}
use Rattle.composition.specs.declared.Cells.{Cells}
use Rattle.composition.specs.declared.Node.{Node}
use Rattle.composition.specs.declared.Part.{Part}
use Rattle.composition.specs.Typing.{sort_in, variables_below, expression_of}

-- the kind of a byte, the inverse of `code_of`; of a byte that stands for no kind it has no meaning
unfoldable pub kind_at : ℕ → Kind
kind_at k =
    cond (eqb k 1) kind.BooleanVariable
    (cond (eqb k 2) kind.LowEnd
    (cond (eqb k 3) kind.HighEnd
    (cond (eqb k 4) kind.FirstValue
    (cond (eqb k 5) kind.Transition
    (cond (eqb k 16) kind.Skip
    (cond (eqb k 17) kind.Assignment
    (cond (eqb k 18) kind.IfThen
    (cond (eqb k 19) kind.Block
    (cond (eqb k 32) kind.Numeral
    (cond (eqb k 33) kind.Truth
    (cond (eqb k 34) kind.Variable
    (cond (eqb k 35) kind.Negation
    (cond (eqb k 36) kind.Conjunction
    (cond (eqb k 37) kind.Disjunction
    (cond (eqb k 38) kind.Equality
    (cond (eqb k 39) kind.Less
    (cond (eqb k 40) kind.LessOrEqual
    (cond (eqb k 41) kind.Sum
    (cond (eqb k 42) kind.Difference
    (cond (eqb k 43) kind.Product
    (cond (eqb k 44) kind.Quotient
    (cond (eqb k 45) kind.Remainder
    (cond (eqb k 46) kind.Conditional kind.Equivalence)))))))))))))))))))))))

-- a node as the code holds it: the greatest parameter of 31 bits stands for all from there on. It is enough, since numbers are at most
-- 2147483647 and variables below S+F
unfoldable pub held : nodes.Node → Node
held n = record { kind = kind_at n.kind; parameter = pos (min (nat_abs n.parameter) 2147483647) }

-- the nodes of a phrase, over variables of these sorts
abbrev pub cells_of : List Sort → Phrase → List Node
cells_of vs p = map held (nodes_of_expression (expression_of vs p))

-- nodes that are written one after another
abbrev pub Nodes : Type 0
Nodes = ArrayVec Node

-- the nodes that are written
abbrev pub written : Nodes → List Node
written n = n.items

-- The part is this phrase: its nodes begin after those before it and are the last ones written, and its depth, its sort and whether
-- its variables are all below S+F are the phrase's.
pub record Holds (vs : List Sort) (p : Phrase) (before : List Node) (cells : Nodes) (part : Part) : Type 0 where
  pub begins : part.from ≡ length before
  pub nodes : written cells ≡ before ++ cells_of vs p
  pub depth : part.depth ≡ depth_of_expression (expression_of vs p)
  pub sort : part.sort ≡ sort_in vs p
  pub below : part.below ≡ variables_below (length vs) p

-- a part whose nodes end before place `end`: it is no deeper than it has nodes
abbrev pub Placed : ℕ → Part → Type 0
Placed end part = part.from + part.depth ≤ end

-- a part composed of others, the last nodes of `last`: at most two nodes more
pub record Composed (last next : ℕ) (nodes : Nodes) (part : Part) : Type 0 where
  pub placed : Placed (length (written nodes)) part
  pub least : last ≤ length (written nodes)
  pub most : length (written nodes) ≤ last + 2
  pub ends : part.next ≡ next

-- the same two slices
pub record SameCells (old new : Cells) : Type 0 where
  pub kinds : new.kinds.ghost_name ≡ old.kinds.ghost_name
  pub parameters : new.parameters.ghost_name ≡ old.parameters.ghost_name
