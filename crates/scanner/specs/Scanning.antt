-- A word as the code finds it: how long it is, and the number that it holds.
use Rattle.std.specs.Prelude.{Bool, cond, List, ℕ, ◌<◌, ◌≤◌, eqb, length, take, drop, Option, Some, None}
use Rattle.ascii.specs.Ascii.{space_byte, value_of}
use Rattle.grammar.specs.Words.{Longest}
use Rattle.grammar.specs.Tokens.{is_numeral}
use Rattle.grammar.specs.Held.{capped}

-- the byte is a space
abbrev pub is_space : ℕ → Bool
is_space b = eqb b space_byte

-- digits without leading zeros, as the code holds their number
unfoldable pub numeral_of : List ℕ → Option ℕ
numeral_of w = cond (is_numeral w) (Some (capped (value_of w))) None

-- a text begins with a word of this length
pub record WordLength (text : List ℕ) (n : ℕ) : Type 0 where
  pub some : 0 < n
  pub within : n ≤ length text
  pub longest : Longest (take n text) (drop n text)
