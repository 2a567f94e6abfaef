-- What a word is. 02: "Variables are v0, v1 and so on; numbers are digits up to 2147483647, both without leading zeros; Booleans are true
-- and false".
use Rattle.std.specs.Prelude.{Bool, cond, ◌&&◌, ◌||◌, List, [], ◌∷◌, map, ℕ, eqb, leb, ltb, get_or, take, drop, Option, Some, None, unwrap_or}
use Rattle.ascii.specs.Ascii.{same, are_digits, value_of}
use Rattle.grammar.specs.declared.Token.{Token}
use Rattle.grammar.specs.declared.Token.TheVariants.{Unknown, Number, Variable, True, False, Div, Mod, If, Then, Else, Not, And, Or, Open, Close, Comma, Plus, Minus, Times, Equal, Unequal, Less, LessOrEqual, Greater, GreaterOrEqual}
use Rattle.grammar.specs.Words.{words_of}

-- which of the 25 sorts of tokens this is; numbers are one sort, variables another
abbrev pub ordinal : Token → ℕ
ordinal Unknown = 0
ordinal (Number n) = 1
ordinal (Variable x) = 2
ordinal True = 3
ordinal False = 4
ordinal Div = 5
ordinal Mod = 6
ordinal If = 7
ordinal Then = 8
ordinal Else = 9
ordinal Not = 10
ordinal And = 11
ordinal Or = 12
ordinal Open = 13
ordinal Close = 14
ordinal Comma = 15
ordinal Plus = 16
ordinal Minus = 17
ordinal Times = 18
ordinal Equal = 19
ordinal Unequal = 20
ordinal Less = 21
ordinal LessOrEqual = 22
ordinal Greater = 23
ordinal GreaterOrEqual = 24

-- tokens of one sort
abbrev pub alike : Token → Token → Bool
alike t u = eqb (ordinal t) (ordinal u)

-- the words with a meaning of their own
unfoldable pub fixed_words : List (List ℕ × Token)
fixed_words =
    -- `true` `false`
    (116 ∷ 114 ∷ 117 ∷ 101 ∷ [], True) ∷ (102 ∷ 97 ∷ 108 ∷ 115 ∷ 101 ∷ [], False)
    -- `div` `mod`
    ∷ (100 ∷ 105 ∷ 118 ∷ [], Div) ∷ (109 ∷ 111 ∷ 100 ∷ [], Mod)
    -- `if` `then` `else`
    ∷ (105 ∷ 102 ∷ [], If) ∷ (116 ∷ 104 ∷ 101 ∷ 110 ∷ [], Then) ∷ (101 ∷ 108 ∷ 115 ∷ 101 ∷ [], Else)
    -- `not` `and` `or`
    ∷ (110 ∷ 111 ∷ 116 ∷ [], Not) ∷ (97 ∷ 110 ∷ 100 ∷ [], And) ∷ (111 ∷ 114 ∷ [], Or)
    -- `(` `)` `,`
    ∷ (40 ∷ [], Open) ∷ (41 ∷ [], Close) ∷ (44 ∷ [], Comma)
    -- `+` `-` `*`
    ∷ (43 ∷ [], Plus) ∷ (45 ∷ [], Minus) ∷ (42 ∷ [], Times)
    -- `==` `!=`
    ∷ (61 ∷ 61 ∷ [], Equal) ∷ (33 ∷ 61 ∷ [], Unequal)
    -- `<` `<=` `>` `>=`
    ∷ (60 ∷ [], Less) ∷ (60 ∷ 61 ∷ [], LessOrEqual) ∷ (62 ∷ [], Greater) ∷ (62 ∷ 61 ∷ [], GreaterOrEqual) ∷ []

-- the token of a word among these
unfoldable pub token_among : List (List ℕ × Token) → List ℕ → Option Token
token_among [] w = None
token_among ((s, t) ∷ ss) w = cond (same s w) (Some t) (token_among ss w)

-- digits without leading zeros
unfoldable pub is_numeral : List ℕ → Bool
is_numeral w = are_digits w && (same w (48 ∷ []) || ltb 48 (get_or w 0 0))

-- a word without a meaning of its own: a number, a variable, or nothing
unfoldable pub other_token : List ℕ → Token
other_token w =
    cond (is_numeral w && leb (value_of w) 2147483647) (Number (value_of w))
    (cond (same (take 1 w) (118 ∷ []) && is_numeral (drop 1 w)) (Variable (value_of (drop 1 w))) Unknown)

unfoldable pub token_of : List ℕ → Token
token_of w = unwrap_or (token_among fixed_words w) (other_token w)

abbrev pub tokens_of : List ℕ → List Token
tokens_of text = map token_of (words_of text)
