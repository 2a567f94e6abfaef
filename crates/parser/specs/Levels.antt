-- What the code of a level promises: the reading of its words, as the grammar has it.
use Rattle.std.specs.Prelude.{◌≡◌, false, List, [], ◌∷◌, ℕ, suc, ◌+◌, ◌*◌, ◌<◌, ◌≤◌, length, drop, Option, MatchOption}
use Rattle.std.proofs.Math.Option.{some, none}
use Rattle.std.proofs.Math.Option as maybe
use Rattle.kinds.specs.declared.Sort.{Sort}
use Rattle.grammar.specs.declared.Token.{Token}
use Rattle.grammar.specs.Tokens.{tokens_of}
use Rattle.grammar.specs.Phrases.{Phrase, call_level, product_level, negation_level, conjunction_level, is_chained}
use Rattle.grammar.specs.Reading.{Parse, is_next, chain, read_level}
use Rattle.grammar.specs.Reading.Parse.{failed, parsed}
use Rattle.composition.specs.declared.Node.{Node}
use Rattle.composition.specs.declared.Part.{Part}
use Rattle.composition.specs.Parts.{Nodes, written, Holds, Placed}
use Rattle.parser.specs.declared.source.Source.{Source}
use Rattle.parser.specs.declared.Level.{Level}
use Rattle.parser.specs.declared.Level.TheVariants.{Product, Sum, Conjunction, Disjunction}

-- a place of the text to read from, and nodes to write after: at most two for a byte
pub record Place (s : Source) (nodes : Nodes) (at : ℕ) : Type 0 where
  pub within : at ≤ length s.text.now
  pub room : length (written nodes) ≤ 2 * at

-- a part that was read, whose nodes are the last ones
pub record Handed (s : Source) (nodes : Nodes) (part : Part) : Type 0 where
  pub within : part.next ≤ length s.text.now
  pub room : length (written nodes) ≤ 2 * part.next
  pub placed : Placed (length (written nodes)) part

-- the part read from place `at` of a text of this size, its nodes after `before`
pub record Stands (vs : List Sort) (size at : ℕ) (before : List Node) (p : Phrase) (part : Part) (cells : Nodes) : Type 0 where
  pub after : at < part.next
  pub within : part.next ≤ size
  pub placed : Placed (length (written cells)) part
  pub room : length (written cells) + 2 * at ≤ length before + 2 * part.next
  pub holds : Holds vs p before cells part

-- what was read is this part, and the words after it follow
pub record ReadAs (s : Source) (at : ℕ) (before : List Node) (cells : Nodes) (parse : Parse) (part : Part) : Type 0 where
  pub phrase : Phrase
  pub reads : parse ≡ parsed phrase (tokens_of (drop part.next s.text.now))
  pub stands : Stands s.sorts.now (length s.text.now) at before phrase part cells

-- what a reading comes to: no part where nothing can be read
abbrev pub Reached : Source → ℕ → List Node → Nodes → Parse → Option Part → Type 0
Reached s at before cells parse r = MatchOption r (parse ≡ failed) (λ part. ReadAs s at before cells parse part)

-- this token stands at place `at`, and the words from place `next` on follow it
pub record Next (text : List ℕ) (c : Token) (at next : ℕ) : Type 0 where
  pub first : tokens_of (drop at text) ≡ c ∷ tokens_of (drop next text)
  pub after : at < next
  pub within : next ≤ length text

-- the same, or that it does not stand there
abbrev pub Follows : List ℕ → Token → ℕ → Option ℕ → Type 0
Follows text c at r = MatchOption r (is_next c (tokens_of (drop at text)) ≡ false) (λ next. Next text c at next)

-- the level of the operands after the first
abbrev pub operand_level : Level → ℕ
operand_level Product = call_level
operand_level Sum = product_level
operand_level Conjunction = negation_level
operand_level Disjunction = conjunction_level

-- operators of the level above this one, after a first operand
unfoldable pub chain_from : ℕ → Phrase → List Token → Parse
chain_from below p ts = chain (λ us. read_level below us) (is_chained (suc below)) (length ts) p ts

-- the part that a whole text is
pub record TextReadAs (vs : List Sort) (cells : Nodes) (o : maybe.Option Phrase) (part : Part) : Type 0 where
  pub phrase : Phrase
  pub reads : o ≡ some phrase
  pub room : length (written cells) ≤ 400
  pub holds : Holds vs phrase [] cells part

-- no part exactly where the text is not in the grammar
abbrev pub TextRead : List Sort → Nodes → maybe.Option Phrase → Option Part → Type 0
TextRead vs cells o r = MatchOption r (o ≡ none) (λ part. TextReadAs vs cells o part)
