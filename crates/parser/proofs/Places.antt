-- Parts that were read: where they end, and that there is room for what is composed of them.
use mathlib.Core.Path.{◌≡◌}
use mathlib.Core.List.{List}
use Prim.Native.Nat.{ℕ, ◌+◌, ◌*◌, ◌-◌, ◌≤◌, ◌<◌}
use native.Mathlib.Omega.{arith}
use lib.ListN.{length}
use Rattle.kinds.specs.declared.Sort.{Sort}
use Rattle.grammar.specs.Phrases.{Phrase}
use Rattle.grammar.specs.Phrases.Phrase.{enclosed}
use Rattle.grammar.specs.Reading.{Parse}
use Rattle.composition.specs.declared.Node.{Node}
use Rattle.composition.specs.declared.Part.{Part}
use Rattle.composition.specs.Typing.{sort_in, variables_below, expression_of}
use Rattle.composition.specs.Parts.{Nodes, written, Holds, Composed}
use Rattle.parser.specs.declared.source.Source.{Source}
use Rattle.parser.specs.Levels.{Place, Handed, Stands, ReadAs}

-- ---- what falls

-- further on in the text
pub further : (size at next l k t : ℕ) → 9 * (size - at) + l ≡ t → at < next → next ≤ size → k ≤ l + 8 → 9 * (size - next) + k < t
further size at next l k t e a b h = omega (arith, e)

module _ (source : Source) where
  abbrev text : List ℕ
  text = source.text.now

  abbrev vs : List Sort
  vs = source.sorts.now

  -- ---- room for what is read next

  -- a word further on
  pub place_next : {nodes : Nodes} {at next : ℕ} → Place source nodes at → at < next → next ≤ length text → Place source nodes next
  place_next p a b = record { within = b; room = omega (arith, p.room) }

  -- a part that was read may be handed on
  pub handed_read : {nodes cells : Nodes} {at : ℕ} {p : Phrase} {part : Part} → Place source nodes at
      → Stands vs (length text) at (written nodes) p part cells → Handed source cells part
  handed_read q s =
      record {
        within = s.within;
        room = omega (arith, s.room, q.room);
        placed = s.placed;
      }

  -- from a word after a part on
  pub place_after : {cells : Nodes} {next : ℕ} {part : Part} → Handed source cells part → part.next < next → next ≤ length text → Place source cells next
  place_after h a b = record { within = b; room = omega (arith, h.room) }

  -- a part after another may be handed on
  pub handed_after : {cells nodes : Nodes} {next : ℕ} {part other : Part} {q : Phrase} → Handed source cells part → part.next < next → next ≤ length text
      → Stands vs (length text) next (written cells) q other nodes → Handed source nodes other
  handed_after h a b s = handed_read (place_after h a b) s

  -- ---- what stands when parts were composed

  -- of one operand, after a word
  pub one_stands : {nodes cells others : Nodes} {at next : ℕ} {p : Phrase} {part r : Part} (x : Phrase) → Place source nodes at → at < next
      → Stands vs (length text) next (written nodes) p part cells → Composed (length (written cells)) part.next others r → Holds vs x (written nodes) others r
      → Stands vs (length text) at (written nodes) x r others
  one_stands x q a s c h =
      record {
        after = omega (arith, s.after, c.ends);
        within = omega (arith, s.within, c.ends);
        placed = c.placed;
        room = omega (arith, s.room, c.most, c.ends);
        holds = h;
      }

  -- of a single word
  pub word_stands : {before : List Node} {cells : Nodes} {at next : ℕ} {r : Part} (x : Phrase) → at < next → next ≤ length text
      → Composed (length before) next cells r → Holds vs x before cells r → Stands vs (length text) at before x r cells
  word_stands x a b c h =
      record {
        after = omega (arith, c.ends);
        within = omega (arith, c.ends);
        placed = c.placed;
        room = omega (arith, c.most, c.ends);
        holds = h;
      }

  -- of two operands, with a word between them
  module _ {cells nodes : Nodes} {next : ℕ} {left right : Part} {q : Phrase} (h : Handed source cells left) (a : left.next < next)
      (b : next ≤ length text) (s : Stands vs (length text) next (written cells) q right nodes) where
    -- up to a place where they end, or a later one
    pub two_stand : {others : Nodes} {before : List Node} {at past : ℕ} {p : Phrase} {r : Part} (x : Phrase) → right.next ≤ past → past ≤ length text
        → Stands vs (length text) at before p left cells → Composed (length (written nodes)) past others r → Holds vs x before others r
        → Stands vs (length text) at before x r others
    two_stand x f g l c o =
        record {
          after = omega (arith, l.after, s.after, c.ends);
          within = omega (arith, c.ends);
          placed = c.placed;
          room = omega (arith, l.room, s.room, c.most, c.ends);
          holds = o;
        }

    pub two_handed : {others : Nodes} {r : Part} → Composed (length (written nodes)) right.next others r → Handed source others r
    two_handed c =
        record {
          within = omega (arith, s.within, c.ends);
          room = omega (arith, s.room, h.room, c.most, c.ends);
          placed = c.placed;
        }

  -- of three, with a word between each two
  module _ {cells nodes others : Nodes} {next past : ℕ} {first second third : Part} {q u : Phrase} (h : Handed source cells first)
      (a : first.next < next) (b : next ≤ length text)
      (s : Stands vs (length text) next (written cells) q second nodes) (c : second.next < past) (d : past ≤ length text)
      (v : Stands vs (length text) past (written nodes) u third others) where
    pub three_stand : {left : Nodes} {before : List Node} {at : ℕ} {p : Phrase} {r : Part} (x : Phrase)
        → Stands vs (length text) at before p first cells → Composed (length (written others)) third.next left r → Holds vs x before left r
        → Stands vs (length text) at before x r left
    three_stand x l o g =
        record {
          after = omega (arith, l.after, s.after, v.after, o.ends);
          within = omega (arith, v.within, o.ends);
          placed = o.placed;
          room = omega (arith, l.room, s.room, v.room, o.most, o.ends);
          holds = g;
        }

  -- in parentheses
  pub enclosed_stands : {before : List Node} {cells : Nodes} {at next : ℕ} {p : Phrase} {part : Part} → Stands vs (length text) at before p part cells → part.next < next → next ≤ length text
      → Stands vs (length text) at before (enclosed p) (record { next = next; from = part.from; depth = part.depth; sort = part.sort; below = part.below }) cells
  unfolding expression_of sort_in variables_below
  enclosed_stands s a b =
      record {
        after = omega (arith, s.after);
        within = b;
        placed = s.placed;
        room = omega (arith, s.room);
        holds = record { begins = s.holds.begins; nodes = s.holds.nodes; depth = s.holds.depth; sort = s.holds.sort; below = s.holds.below };
      }

  -- read from an earlier place on
  pub stands_earlier : {before : List Node} {cells : Nodes} {at later : ℕ} {p : Phrase} {part : Part} → at ≤ later → Stands vs (length text) later before p part cells
      → Stands vs (length text) at before p part cells
  stands_earlier e s =
      record { after = omega (arith, s.after); within = s.within; placed = s.placed; room = omega (arith, s.room); holds = s.holds }

  pub read_earlier : {before : List Node} {cells : Nodes} {at later : ℕ} {x : Parse} {part : Part} → at ≤ later → ReadAs source later before cells x part
      → ReadAs source at before cells x part
  read_earlier e a = record { phrase = a.phrase; reads = a.reads; stands = stands_earlier e a.stands }
