-- The grammar. 02: "Operators bind as in section 5.6 of source document 001, tightest first: calls div(a,b) and mod(a,b); times (*); plus
-- and minus; sign; relations; not; and; or; if-then-else." "Operators of one level group from the left, sign and not may repeat, a looser
-- operand needs parentheses; a chain of relations is no expression."
use Rattle.std.specs.Prelude.{Bool, true, false, cond, List, [], ◌∷◌, ◌++◌, ℕ, suc, ◌<◌, T, eqb}
use Rattle.grammar.specs.declared.Token.{Token}
use Rattle.grammar.specs.declared.Token.TheVariants.{Number, Variable, True, False, Div, Mod, If, Then, Else, Not, And, Or, Open, Close, Comma, Plus, Minus, Times, Equal, Unequal, Less, LessOrEqual, Greater, GreaterOrEqual}
use Rattle.grammar.specs.Tokens.{alike}

-- What a text is read as. A parenthesis stays (`enclosed`), so that two readings never look alike; commas, `then`, `else` and the
-- parentheses of a call do not, since the form tells them.
pub data Phrase : Type 0 where
  numeral : ℕ → Phrase
  truth : ℕ → Phrase
  variable : ℕ → Phrase
  enclosed : Phrase → Phrase
  prefixed : Token → Phrase → Phrase
  operation : Token → Phrase → Phrase → Phrase
  call : Token → Phrase → Phrase → Phrase
  conditional : Phrase → Phrase → Phrase → Phrase

-- the levels, tightest first
abbrev pub call_level : ℕ
call_level = 0

abbrev pub product_level : ℕ
product_level = 1

abbrev pub sum_level : ℕ
sum_level = 2

abbrev pub sign_level : ℕ
sign_level = 3

abbrev pub relation_level : ℕ
relation_level = 4

abbrev pub negation_level : ℕ
negation_level = 5

abbrev pub conjunction_level : ℕ
conjunction_level = 6

abbrev pub disjunction_level : ℕ
disjunction_level = 7

abbrev pub whole_level : ℕ
whole_level = 8

abbrev pub is_sign : Token → Bool
is_sign Plus = true
is_sign Minus = true
is_sign _ = false

abbrev pub is_relation : Token → Bool
is_relation Equal = true
is_relation Unequal = true
is_relation Less = true
is_relation LessOrEqual = true
is_relation Greater = true
is_relation GreaterOrEqual = true
is_relation _ = false

abbrev pub is_call : Token → Bool
is_call Div = true
is_call Mod = true
is_call _ = false

-- the operators that group from the left, with the level of their left operand; the right one is one level tighter
unfoldable pub is_chained : ℕ → Token → Bool
is_chained l c =
    cond (eqb l product_level) (alike c Times)
    (cond (eqb l sum_level) (is_sign c)
    (cond (eqb l conjunction_level) (alike c And)
    (cond (eqb l disjunction_level) (alike c Or) false)))

-- these words are this phrase, at this level or a tighter one
pub data Derives : ℕ → List Token → Phrase → Type 0 where
  by_tighter : {l : ℕ} {ts : List Token} {p : Phrase} → l < whole_level → Derives l ts p → Derives (suc l) ts p
  by_number : {n : ℕ} → Derives call_level (Number n ∷ []) (numeral n)
  by_variable : {n : ℕ} → Derives call_level (Variable n ∷ []) (variable n)
  by_true : Derives call_level (True ∷ []) (truth 1)
  by_false : Derives call_level (False ∷ []) (truth 0)
  by_parentheses : (ts : List Token) (p : Phrase) → Derives whole_level ts p
      → Derives call_level (Open ∷ ts ++ (Close ∷ [])) (enclosed p)
  by_call : (c : Token) (ts us : List Token) (p q : Phrase) → T (is_call c) → Derives whole_level ts p → Derives whole_level us q
      → Derives call_level (c ∷ Open ∷ ts ++ (Comma ∷ us ++ (Close ∷ []))) (call c p q)
  by_chain : (l : ℕ) (c : Token) (ts us : List Token) (p q : Phrase) → T (is_chained (suc l) c) → Derives (suc l) ts p → Derives l us q
      → Derives (suc l) (ts ++ (c ∷ us)) (operation c p q)
  by_sign : (c : Token) (ts : List Token) (p : Phrase) → T (is_sign c) → Derives sign_level ts p → Derives sign_level (c ∷ ts) (prefixed c p)
  by_relation : (c : Token) (ts us : List Token) (p q : Phrase) → T (is_relation c) → Derives sign_level ts p → Derives sign_level us q
      → Derives relation_level (ts ++ (c ∷ us)) (operation c p q)
  by_negation : (ts : List Token) (p : Phrase) → Derives negation_level ts p → Derives negation_level (Not ∷ ts) (prefixed Not p)
  by_conditional : (ts us vs : List Token) (p q r : Phrase) → Derives whole_level ts p → Derives whole_level us q → Derives whole_level vs r
      → Derives whole_level (If ∷ ts ++ (Then ∷ us ++ (Else ∷ vs))) (conditional p q r)
