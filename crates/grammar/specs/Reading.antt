-- How a text is read, from the left. The fuel is nine times the words that are left, plus the level, plus one; it falls at each call.
use Rattle.std.specs.Prelude.{Bool, false, cond, List, [], ◌∷◌, ℕ, zero, suc, ◌+◌, ◌*◌, eqb, length}
use Rattle.std.proofs.Math.Option.{Option, some, none}
use Rattle.grammar.specs.declared.Token.{Token}
use Rattle.grammar.specs.declared.Token.TheVariants.{Number, Variable, True, False, Div, Mod, If, Then, Else, Not, Open, Close, Comma}
use Rattle.grammar.specs.Tokens.{alike, tokens_of}
use Rattle.grammar.specs.Phrases.{Phrase, call_level, product_level, sum_level, sign_level, relation_level, negation_level, conjunction_level, disjunction_level, whole_level, is_sign, is_relation, is_chained}
use Rattle.grammar.specs.Phrases.Phrase.{numeral, truth, variable, enclosed, prefixed, operation, call, conditional}

-- no phrase, or one with the words that follow it
pub data Parse : Type 0 where
  failed : Parse
  parsed : Phrase → List Token → Parse

-- what follows where a phrase was found
unfoldable pub and_then : Parse → (Phrase → List Token → Parse) → Parse
and_then failed k = failed
and_then (parsed p ts) k = k p ts

-- the first word is this one
unfoldable pub is_next : Token → List Token → Bool
is_next c [] = false
is_next c (t ∷ ts) = alike t c

unfoldable pub after_next : List Token → List Token
after_next [] = []
after_next (t ∷ ts) = ts

-- this word must follow
abbrev pub expecting : Token → List Token → (List Token → Parse) → Parse
expecting c ts k = cond (is_next c ts) (k (after_next ts)) failed

-- operators of one level, grouped from the left, after the first operand; the fuel is the unread words
unfoldable pub chain : (List Token → Parse) → (Token → Bool) → ℕ → Phrase → List Token → Parse
chain operand groups zero p ts = parsed p ts
chain operand groups (suc n) p [] = parsed p []
chain operand groups (suc n) p (t ∷ ts) =
    cond (groups t) (and_then (operand ts) (λ q us. chain operand groups n (operation t p q) us)) (parsed p (t ∷ ts))

module _ (read : ℕ → List Token → Parse) where
  -- `( a , b )` of a call
  unfoldable pub arguments_by : Token → List Token → Parse
  arguments_by c ts =
      expecting Open ts (λ us.
      and_then (read whole_level us) (λ p vs.
      expecting Comma vs (λ ws.
      and_then (read whole_level ws) (λ q xs.
      expecting Close xs (λ ys. parsed (call c p q) ys)))))

  -- single words, parentheses, calls
  unfoldable pub call_by : List Token → Parse
  call_by [] = failed
  call_by (Open ∷ ts) = and_then (read whole_level ts) (λ p us. expecting Close us (λ vs. parsed (enclosed p) vs))
  call_by (Div ∷ ts) = arguments_by Div ts
  call_by (Mod ∷ ts) = arguments_by Mod ts
  call_by (Number n ∷ ts) = parsed (numeral n) ts
  call_by (Variable x ∷ ts) = parsed (variable x) ts
  call_by (True ∷ ts) = parsed (truth 1) ts
  call_by (False ∷ ts) = parsed (truth 0) ts
  call_by (_ ∷ ts) = failed

  -- times, plus and minus, and, or
  unfoldable pub chain_by : ℕ → ℕ → List Token → Parse
  chain_by l below ts = and_then (read below ts) (λ p us. chain (read below) (is_chained l) (length us) p us)

  -- signs, and not: a prefix of this level, or the level below
  unfoldable pub prefix_by : (Token → Bool) → ℕ → ℕ → List Token → Parse
  prefix_by is_one l below [] = failed
  prefix_by is_one l below (t ∷ ts) =
      cond (is_one t) (and_then (read l ts) (λ p us. parsed (prefixed t p) us)) (read below (t ∷ ts))

  -- the second operand of a relation, where there is one
  unfoldable pub related_by : Phrase → List Token → Parse
  related_by p [] = parsed p []
  related_by p (t ∷ ts) =
      cond (is_relation t) (and_then (read sign_level ts) (λ q us. parsed (operation t p q) us)) (parsed p (t ∷ ts))

  -- what follows `if`
  abbrev pub conditional_by : List Token → Parse
  conditional_by ts =
      and_then (read whole_level ts) (λ p us.
      expecting Then us (λ vs.
      and_then (read whole_level vs) (λ q ws.
      expecting Else ws (λ xs.
      and_then (read whole_level xs) (λ r ys. parsed (conditional p q r) ys)))))

  -- if-then-else, or the level below
  unfoldable pub whole_by : List Token → Parse
  whole_by ts = cond (is_next If ts) (conditional_by (after_next ts)) (read disjunction_level ts)

  -- each level by the levels that it calls
  unfoldable pub level_by : ℕ → List Token → Parse
  level_by l ts =
      cond (eqb l call_level) (call_by ts)
      (cond (eqb l product_level) (chain_by product_level call_level ts)
      (cond (eqb l sum_level) (chain_by sum_level product_level ts)
      (cond (eqb l sign_level) (prefix_by is_sign sign_level sum_level ts)
      (cond (eqb l relation_level) (and_then (read sign_level ts) related_by)
      (cond (eqb l negation_level) (prefix_by (λ c. alike c Not) negation_level relation_level ts)
      (cond (eqb l conjunction_level) (chain_by conjunction_level negation_level ts)
      (cond (eqb l disjunction_level) (chain_by disjunction_level conjunction_level ts)
      (whole_by ts))))))))

-- with fuel
unfoldable pub read_at : ℕ → ℕ → List Token → Parse
read_at zero l ts = failed
read_at (suc fuel) l ts = level_by (λ k us. read_at fuel k us) l ts

-- at a level, with fuel enough
abbrev pub read_level : ℕ → List Token → Parse
read_level l ts = read_at (9 * length ts + suc l) l ts

-- all words were read
unfoldable pub entire : Parse → Option Phrase
entire failed = none
entire (parsed p []) = some p
entire (parsed p (t ∷ ts)) = none

-- the phrase that a text is; none is number 32, "not in the grammar"
unfoldable pub phrase_of : List ℕ → Option Phrase
phrase_of text = entire (read_level whole_level (tokens_of text))
