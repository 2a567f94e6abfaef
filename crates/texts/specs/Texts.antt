-- The call. 02: "Errors: 34 text over 200 bytes, tried first after the model's check, or nodes deeper than 32, tried last; 32 not in the
-- grammar; 33 types that don't fit, after 32; number 12 stands between 32 and 33, and number 10, for a slice under 400 nodes, right after
-- the first 34."
use Rattle.std.specs.Prelude.{cond, not, ◌||◌, List, map, ℕ, ltb, ℤ, length, is_some, Result, Ok, Err}
use Rattle.std.proofs.Math.Option.{Option, some, none}
use Rattle.results.specs.Results.{Answered, answered, over}
use Rattle.results.specs.declared.refusal.Refusal.{Refusal}
use Rattle.results.specs.declared.refusal.Refusal.TheVariants.{ShortSlice, NoSuchVariable, NotInGrammar, TypesDoNotFit, TextTooLarge}
use Rattle.kinds.specs.declared.Sort.{Sort}
use Rattle.model.specs.Trees.{Expression, variables, sorts_of, depth_of_expression}
use Rattle.model.specs.Nodes.{nodes_of_expression}
use Rattle.model.specs.Check.{Verdict, max_depth}
use Rattle.model.specs.Check.Verdict.{refusal, accepted}
use Rattle.grammar.specs.Phrases.{Phrase}
use Rattle.grammar.specs.Reading.{phrase_of}
use Rattle.composition.specs.Typing.{sort_in, variables_below, expression_of}

-- 02: "34 text over 200 bytes"
abbrev pub max_text : ℕ
max_text = 200

-- 02: "a slice under 400 nodes"
abbrev pub min_nodes : ℕ
min_nodes = 400

-- why it is refused, or the expression
pub data Meant : Type 0 where
  refused : Refusal → Meant
  meant : Expression → Meant

-- 32 for no phrase; else 12, 33, 34 (too deep) of what the text reads as, in this order
unfoldable pub meant_by : List Sort → Option Phrase → Meant
meant_by vs none = refused NotInGrammar
meant_by vs (some p) =
    cond (not (variables_below (length vs) p)) (refused NoSuchVariable)
    (cond (not (is_some (sort_in vs p))) (refused TypesDoNotFit)
    (cond (ltb max_depth (depth_of_expression (expression_of vs p))) (refused TextTooLarge)
    (meant (expression_of vs p))))

-- the two slices lent
pub record Slices : Type 0 where
  pub kinds : List ℕ
  pub parameters : List ℤ

abbrev pub slices : List ℕ → List ℤ → Slices
slices kinds parameters = record { kinds = kinds; parameters = parameters }

-- the nodes stand at the beginning; a refusal leaves every cell
unfoldable pub written_into : Slices → Meant → Answered (Result ℕ Refusal) Slices
written_into old (refused r) = answered (Err r) old
written_into old (meant e) =
    answered (Ok (length (nodes_of_expression e)))
    (slices (over (map (λ n. n.kind) (nodes_of_expression e)) old.kinds) (over (map (λ n. n.parameter) (nodes_of_expression e)) old.parameters))

-- 34 (too long), 10, then the text
unfoldable pub typed_over : List Sort → List ℕ → Slices → Answered (Result ℕ Refusal) Slices
typed_over vs text old =
    cond (ltb max_text (length text)) (answered (Err TextTooLarge) old)
    (cond (ltb (length old.kinds) min_nodes || ltb (length old.parameters) min_nodes) (answered (Err ShortSlice) old)
    (written_into old (meant_by vs (phrase_of text))))

-- the check's refusal, then the text over the variables' sorts
unfoldable pub typed_in : Verdict → List ℕ → Slices → Answered (Result ℕ Refusal) Slices
typed_in (refusal r) text old = answered (Err r) old
typed_in (accepted z t) text old = typed_over (sorts_of (variables t)) text old
