-- How the code holds words.
use Rattle.std.specs.Prelude.{◌≡◌, List, [], ◌∷◌, ℕ, ◌<◌, ◌≤◌, length, drop, Option, MatchOption}
pub use Rattle.ascii.specs.Ascii.{capped}
use Rattle.grammar.specs.declared.Token.{Token}
use Rattle.grammar.specs.declared.Token.TheVariants.{Number, Variable}
use Rattle.grammar.specs.declared.Word.{Word}
use Rattle.grammar.specs.Tokens.{tokens_of}

-- a token with its number in 32 bits
unfoldable pub held : Token → Token
held (Number n) = Number (capped n)
held (Variable x) = Variable (capped x)
held t = t

-- the first word from place `at` on
pub record FirstWord (text : List ℕ) (at : ℕ) (w : Word) : Type 0 where
  pub token : Token
  pub is_held : w.token ≡ held token
  pub first : tokens_of (drop at text) ≡ token ∷ tokens_of (drop w.next text)
  pub after : at < w.next
  pub within : w.next ≤ length text

-- the same, or that no word is left
abbrev pub Scanned : List ℕ → ℕ → Option Word → Type 0
Scanned text at r = MatchOption r (tokens_of (drop at text) ≡ []) (λ w. FirstWord text at w)
