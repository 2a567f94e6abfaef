-- The numbers of a phrase that a text is: 32-bit numbers, and the two Booleans.
use mathlib.Core.Path.{◌≡◌, refl}
use mathlib.Core.Bool.{Bool, true, false, cond, ◌&&◌}
use mathlib.Core.List.{List, [], ◌∷◌, ◌++◌, map}
use Prim.Native.Nat.{ℕ, ◌≤◌}
use native.Mathlib.Omega.{arith}
use borrow.Author.Tests.{leb-true}
use lib.Dec.{leb}
use lib.ListN.{take, drop}
use Rattle.ascii.specs.Ascii.{same, value_of}
use Rattle.std.proofs.Common.{unwrap_or}
use Rattle.grammar.specs.declared.Token.{Token}
use Rattle.grammar.specs.declared.Token.TheVariants.{Unknown, Number, Variable, Close, Comma, Then, Else}
use Rattle.grammar.specs.Tokens.{token_of, other_token, token_among, fixed_words, is_numeral}
use Rattle.grammar.specs.Phrases.{Phrase, Derives}
use Rattle.grammar.specs.Phrases.Phrase.{numeral, truth, variable, enclosed, prefixed, operation, call, conditional}
use Rattle.grammar.specs.Phrases.Derives.{by_tighter, by_number, by_variable, by_true, by_false, by_parentheses, by_call, by_chain, by_sign, by_relation, by_negation, by_conditional}
use Rattle.grammar.specs.Theorems.{Reads}
use Rattle.composition.proofs.Branches.{either}

-- 02: "numbers are digits up to 2147483647"
unfoldable pub Small : Phrase → Type 0
Small (numeral n) = n ≤ 2147483647
Small (truth b) = b ≤ 1
Small (variable x) = Unit {0}
Small (enclosed p) = Small p
Small (prefixed c p) = Small p
Small (operation c p q) = Small p × Small q
Small (call c p q) = Small p × Small q
Small (conditional p q r) = Small p × Small q × Small r

-- of words
abbrev SmallToken : Token → Type 0
SmallToken (Number n) = n ≤ 2147483647
SmallToken _ = Unit {0}

abbrev SmallTokens : List Token → Type 0
SmallTokens [] = Unit {0}
SmallTokens (t ∷ ts) = SmallToken t × SmallTokens ts

-- a word with a meaning of its own is no number
abbrev SmallMeanings : List (List ℕ × Token) → Type 0
SmallMeanings [] = Unit {0}
SmallMeanings (m ∷ ms) = SmallToken m.1 × SmallMeanings ms

small_meanings : SmallMeanings fixed_words
unfolding fixed_words
small_meanings = (tt, (tt, (tt, (tt, (tt, (tt, (tt, (tt, (tt, (tt, (tt, (tt, (tt, (tt, (tt, (tt, (tt, (tt, (tt, (tt, (tt, (tt, tt))))))))))))))))))))))

small_among : (ms : List (List ℕ × Token)) → SmallMeanings ms → (w : List ℕ) (t : Token) → SmallToken t → SmallToken (unwrap_or (token_among ms w) t)
unfolding token_among
small_among [] h w t s = s
small_among ((u, m) ∷ ms) h w t s = either (λ o. SmallToken (unwrap_or o t)) (same u w) h.0 (small_among ms h.1 w t s)

-- another is, if it is one, a numeral that is small
small_other : (w : List ℕ) → SmallToken (other_token w)
unfolding other_token
small_other w = by (is_numeral w) (leb (value_of w) 2147483647) refl (same (take 1 w) (118 ∷ []) && is_numeral (drop 1 w))
  where
    by : (b c : Bool) → leb (value_of w) 2147483647 ≡ c → (d : Bool)
        → SmallToken (cond (b && c) (Number (value_of w)) (cond d (Variable (value_of (drop 1 w))) Unknown))
    by true true e d = leb-true (value_of w) 2147483647 e
    by true false e true = tt
    by true false e false = tt
    by false c e true = tt
    by false c e false = tt

small_token : (w : List ℕ) → SmallToken (token_of w)
unfolding token_of
small_token w = small_among fixed_words small_meanings w (other_token w) (small_other w)

-- every word of a text
small_words : (ws : List (List ℕ)) → SmallTokens (map token_of ws)
small_words [] = tt
small_words (w ∷ ws) = (small_token w, small_words ws)

-- words one after another
small_parts : (ts us : List Token) → SmallTokens (ts ++ us) → SmallTokens ts × SmallTokens us
small_parts [] us h = (tt, h)
small_parts (t ∷ ts) us h = let g = small_parts ts us h.1 in ((h.0, g.0), g.1)

-- by induction on the derivation
derived_small : {l : ℕ} {ts : List Token} {p : Phrase} → Derives l ts p → SmallTokens ts → Small p
unfolding Small
derived_small (by_tighter m d) h = derived_small d h
derived_small by_number h = h.0
derived_small by_variable h = tt
derived_small by_true h = omega arith
derived_small by_false h = omega arith
derived_small (by_parentheses ts p d) h = derived_small d (small_parts ts (Close ∷ []) h.1).0
derived_small (by_call c ts us p q t d e) h =
    let g = small_parts ts (Comma ∷ us ++ (Close ∷ [])) h.1.1 in
    (derived_small d g.0, derived_small e (small_parts us (Close ∷ []) g.1.1).0)
derived_small (by_chain l c ts us p q t d e) h = let g = small_parts ts (c ∷ us) h in (derived_small d g.0, derived_small e g.1.1)
derived_small (by_sign c ts p t d) h = derived_small d h.1
derived_small (by_relation c ts us p q t d e) h = let g = small_parts ts (c ∷ us) h in (derived_small d g.0, derived_small e g.1.1)
derived_small (by_negation ts p d) h = derived_small d h.1
derived_small (by_conditional ts us vs p q r d e f) h =
    let g = small_parts ts (Then ∷ us ++ (Else ∷ vs)) h.1 in
    let i = small_parts us (Else ∷ vs) g.1.1 in
    (derived_small d g.0, derived_small e i.0, derived_small f i.1.1)

-- the phrase of a text
pub read_small : (text : List ℕ) (p : Phrase) → Reads text p → Small p
read_small text p r = derived_small r.derived (small_words r.words)
