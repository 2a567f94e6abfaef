-- What a reading comes to.
use mathlib.Core.Path.{◌≡◌, sym, ap, ◌∙◌}
use mathlib.Core.List.{List}
use Prim.Native.Nat.{ℕ, ◌≤◌}
use lib.ListN.{length}
use Rattle.std.proofs.Common.{Option, Some, None}
use Rattle.grammar.specs.declared.Word.{Word}
use Rattle.grammar.specs.Phrases.{Phrase, call_level}
use Rattle.grammar.specs.Reading.{Parse, read_level}
use Rattle.grammar.specs.Reading.Parse.{parsed}
use Rattle.grammar.specs.Held.{FirstWord}
use Rattle.composition.specs.declared.Node.{Node}
use Rattle.composition.specs.declared.Part.{Part}
use Rattle.composition.specs.Parts.{Nodes, written, Holds, Composed}
use Rattle.parser.specs.declared.source.Source.{Source}
use Rattle.parser.specs.Levels.{Stands, ReadAs, Reached}
use Rattle.parser.proofs.Steps.{words_at}
use Rattle.parser.proofs.Places.{read_earlier, word_stands, one_stands, two_stand, three_stand, enclosed_stands, stands_earlier, handed_read, place_next}

module _ (source : Source) where
  abbrev text : List ℕ
  text = source.text.now

  -- the same reading, from an earlier place on and said in another way
  pub reached_as : {at later : ℕ} (before : List Node) (cells : Nodes) {x y : Parse} (o : Option Part) → x ≡ y → at ≤ later → Reached source later before cells y o
      → Reached source at before cells x o
  reached_as before cells None e l h = e ∙ h
  reached_as before cells (Some part) e l a =
      let earlier = read_earlier source l a in
      record { phrase = earlier.phrase; reads = e ∙ earlier.reads; stands = earlier.stands }

  -- a part that was composed
  pub composed_read : {before : List Node} {cells : Nodes} {at next : ℕ} {x : Parse} {part : Part} (p : Phrase) → x ≡ parsed p (words_at text next) → part.next ≡ next
      → Stands source.sorts.now (length text) at before p part cells → ReadAs source at before cells x part
  composed_read p e n s = record { phrase = p; reads = e ∙ ap (λ (k : ℕ). parsed p (words_at text k)) (sym n); stands = s }

  -- a single word is this phrase
  pub single_read : (nodes : Nodes) {cells : Nodes} {at : ℕ} {w : Word} {r : Part} (p : Phrase) (f : FirstWord text at w)
      → read_level call_level (words_at text at) ≡ parsed p (words_at text w.next) → Composed (length (written nodes)) w.next cells r
      → Holds source.sorts.now p (written nodes) cells r → ReadAs source at (written nodes) cells (read_level call_level (words_at text at)) r
  single_read nodes p f e c h = composed_read p e c.ends (word_stands source p f.after f.within c h)

-- what stands when parts were read, for the search
pub ruleset standings = (reached_as, composed_read, one_stands, two_stand, three_stand, enclosed_stands, stands_earlier, handed_read, place_next)
