-- A whole text.
use mathlib.Core.Path.{◌≡◌}
use mathlib.Core.List.{[]}
use mathlib.Core.Option.{none}
use native.Mathlib.Omega.{arith}
use Rattle.grammar.specs.declared.Word.{Word}
use Rattle.grammar.specs.Phrases.{whole_level}
use Rattle.grammar.specs.Reading.{entire, read_level, phrase_of}
use Rattle.grammar.specs.Held.{FirstWord}
use Rattle.composition.specs.declared.Part.{Part}
use Rattle.composition.specs.Parts.{Nodes}
use Rattle.parser.specs.declared.source.Source.{Source}
use Rattle.parser.specs.Levels.{ReadAs, TextReadAs}
use Rattle.parser.proofs.Steps.{words_at}

module _ (source : Source) {cells : Nodes} {part : Part} (a : ReadAs source 0 [] cells (read_level whole_level (words_at source.text.now 0)) part) where
  -- words are left
  pub words_left : (w : Word) → FirstWord source.text.now part.next w → phrase_of source.text.now ≡ none
  unfolding phrase_of entire
  words_left w f = rw (a.reads, f.first)

  -- none is left
  pub all_read : words_at source.text.now part.next ≡ [] → TextReadAs source.sorts.now cells (phrase_of source.text.now) part
  unfolding phrase_of entire
  all_read e =
      let s = a.stands in
      record { phrase = a.phrase; reads = rw (a.reads, e); room = omega (arith, s.room, s.within, source.short); holds = s.holds }
