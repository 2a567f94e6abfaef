-- What is read from the left is exactly what the grammar derives, and in one way.
use mathlib.Core.Path.{◌≡◌, refl, sym, ◌∙◌}
use mathlib.Core.List.{List, [], ◌∷◌, ◌++◌, map, append-nil}
use mathlib.Core.Option.{some}
use Prim.Native.Nat.{ℕ, suc, ◌+◌, ◌*◌}
use native.Mathlib.Omega.{arith}
use lib.Dec.{lit≤}
use lib.ListN.{length}
use Rattle.grammar.specs.declared.Token.{Token}
use Rattle.grammar.specs.Words.{words_of}
use Rattle.grammar.specs.Tokens.{token_of, tokens_of}
use Rattle.grammar.specs.Phrases.{Phrase, Derives, whole_level}
use Rattle.grammar.specs.Reading.{Parse, read_level, entire, phrase_of}
use Rattle.grammar.specs.Reading.Parse.{failed, parsed}
use Rattle.grammar.specs.Theorems.{ReadingExact, OneReading}
use Rattle.grammar.proofs.Words.{words_exact}
use Rattle.grammar.proofs.Found.{Found, Sound}
use Rattle.grammar.proofs.Found.Sound.{found}
use Rattle.grammar.proofs.Sound.{read_sound}
use Rattle.grammar.proofs.Chains.{reads_with}
use Rattle.grammar.proofs.Complete.{complete}

-- nothing is left
entire_some : (r : Parse) (p : Phrase) → entire r ≡ some p → r ≡ parsed p []
unfolding entire
entire_some failed p e = cc
entire_some (parsed q []) p e = cc
entire_some (parsed q (t ∷ ts)) p e = cc

-- what was read was found
sound_found : {l : ℕ} {ts : List Token} {p : Phrase} {rest : List Token} → Sound l ts (parsed p rest) → Found l ts p rest
sound_found (found p rest f) = f

-- soundness, for a whole text
derived_read : (ts : List Token) (p : Phrase) → entire (read_level whole_level ts) ≡ some p → Derives whole_level ts p
derived_read ts p e =
    let r : read_level whole_level ts ≡ parsed p [] = entire_some (read_level whole_level ts) p e in
    let f : Found whole_level ts p [] = sound_found (rw r at (read_sound (9 * length ts + suc whole_level) whole_level ts (lit≤ tt))) in
    rw (f.parts ∙ append-nil f.used) f.derived

-- completeness, for a whole text
read_derived : (ts : List Token) (p : Phrase) → Derives whole_level ts p → read_level whole_level ts ≡ parsed p []
read_derived ts p d =
    rw (append-nil ts) at (reads_with (complete d) [] tt (9 * length (ts ++ []) + suc whole_level) (omega arith))

-- 02: "32 not in the grammar" is said exactly where no derivation exists
pub reading_exact : ReadingExact
unfolding phrase_of entire
reading_exact text p = (
  λ e.
      record {
        words = words_of text;
        spelled = (words_exact text (words_of text)).0 refl;
        derived = derived_read (tokens_of text) p e;
      },
  λ r. rw ((words_exact text r.words).1 r.spelled, read_derived (map token_of r.words) p r.derived),
)

-- 02: "exactly one reading"
pub one_reading : OneReading
one_reading text p q r s =
    let a : phrase_of text ≡ some p = (reading_exact text p).1 r in
    let b : phrase_of text ≡ some q = (reading_exact text q).1 s in
    (cc, sym ((words_exact text r.words).1 r.spelled) ∙ (words_exact text s.words).1 s.spelled)
