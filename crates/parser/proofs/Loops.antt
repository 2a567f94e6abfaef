-- Operators that group from the left: what the loop keeps.
use mathlib.Core.Path.{◌≡◌, sym, ap, ◌∙◌}
use mathlib.Core.Bool.{true}
use mathlib.Core.List.{List}
use Prim.Native.Nat.{ℕ, suc, ◌≤◌}
use native.Mathlib.Omega.{arith}
use lib.ListN.{length}
use Rattle.kinds.specs.declared.Sort.{Sort}
use Rattle.grammar.specs.declared.Token.{Token}
use Rattle.grammar.specs.Phrases.{Phrase, whole_level, is_chained}
use Rattle.grammar.specs.Phrases.Phrase.{operation}
use Rattle.grammar.specs.Reading.{read_level}
use Rattle.grammar.specs.Reading.Parse.{failed, parsed}
use Rattle.composition.specs.declared.Node.{Node}
use Rattle.composition.specs.declared.Part.{Part}
use Rattle.composition.specs.Parts.{Nodes, written, Holds, Composed}
use Rattle.parser.specs.declared.source.Source.{Source}
use Rattle.parser.specs.Levels.{Next, Handed, Stands, ReadAs, chain_from}
use Rattle.parser.proofs.Steps.{then_failed, then_parsed, words_at}
use Rattle.parser.proofs.Grouping.{chain_goes}
use Rattle.parser.proofs.Places.{two_stand, two_handed}

-- the phrase so far, from which the operators go on as from the first operand
pub record Further (below : ℕ) (source : Source) (at : ℕ) (before : List Node) (p : Phrase) (first left : Part) (cells : Nodes) : Type 0 where
  pub phrase : Phrase
  pub stands : Stands source.sorts.now (length source.text.now) at before phrase left cells
  pub goes : chain_from below p (words_at source.text.now first.next) ≡ chain_from below phrase (words_at source.text.now left.next)

-- the same for every beginning
pub record Grouped (below : ℕ) (source : Source) (old : Nodes) (first : Part) (cells : Nodes) (left : Part) : Type 0 where
  pub handed : Handed source cells left
  pub later : first.next ≤ left.next
  pub further : (at : ℕ) (before : List Node) (p : Phrase) → Stands source.sorts.now (length source.text.now) at before p first old
      → Further below source at before p first left cells

module _ (below : ℕ) (source : Source) (old : Nodes) (first : Part) where
  abbrev text : List ℕ
  text = source.text.now

  abbrev vs : List Sort
  vs = source.sorts.now

  module _ {cells : Nodes} {left : Part} (g : Grouped below source old first cells left) where
    -- another word follows, or none
    pub grouped_ends : ((q : Phrase) → chain_from below q (words_at text left.next) ≡ parsed q (words_at text left.next))
        → (at : ℕ) (before : List Node) (p : Phrase) → Stands vs (length text) at before p first old
        → ReadAs source at before cells (chain_from below p (words_at text first.next)) left
    grouped_ends n at before p h =
        let f = g.further at before p h in
        record { phrase = f.phrase; reads = f.goes ∙ n f.phrase; stands = f.stands }

    module _ (c : Token) (next : ℕ) (h : below ≤ whole_level) (f : Next text c left.next next) (o : is_chained (suc below) c ≡ true) where
      -- no operand follows the operator
      pub grouped_refused : read_level below (words_at text next) ≡ failed
          → (at : ℕ) (before : List Node) (p : Phrase) → Stands vs (length text) at before p first old
          → chain_from below p (words_at text first.next) ≡ failed
      grouped_refused x at before p s =
          let k = g.further at before p s in
          k.goes ∙ chain_goes text left.next below next c k.phrase f o h
          ∙ then_failed (read_level below (words_at text next)) (λ q us. chain_from below (operation c k.phrase q) us) x

      -- one does
      pub grouped_again : {nodes others : Nodes} {right r : Part}
          → (a : ReadAs source next (written cells) nodes (read_level below (words_at text next)) right)
          → Composed (length (written nodes)) right.next others r
          → ((us : List Sort) (p q : Phrase) (before : List Node) (mid : Nodes) → Holds us p before mid left
          → Holds us q (written mid) nodes right → Holds us (operation c p q) before others r)
          → Grouped below source old first others r
      grouped_again {nodes} {others} {right} a d j =
          let s = a.stands in
          record {
            handed = two_handed source g.handed f.after f.within s d;
            later = omega (arith, g.later, f.after, s.after, d.ends);
            further = λ at before p h'.
                let m = g.further at before p h' in
                let x = operation c m.phrase a.phrase in
                record {
                  phrase = x;
                  stands =
                      two_stand source g.handed f.after f.within s x (omega arith) s.within m.stands d
                      (j vs m.phrase a.phrase before cells m.stands.holds s.holds);
                  goes =
                      m.goes ∙ chain_goes text left.next below next c m.phrase f o h
                      ∙ then_parsed (read_level below (words_at text next)) (λ q us. chain_from below (operation c m.phrase q) us) a.phrase
                      (words_at text right.next) a.reads
                      ∙ ap (λ (n : ℕ). chain_from below x (words_at text n)) (sym d.ends);
                };
          }
