-- 02: "a word is a longest run of letters and digits or a longest operator sign, and spaces may stand around words".
use Rattle.std.specs.Prelude.{◌≡◌, Bool, true, false, cond, not, ◌&&◌, ◌||◌, List, [], ◌∷◌, ◌++◌, ℕ, suc, T, eqb, ltb, length}
use Rattle.ascii.specs.Ascii.{space_byte, same, is_digit, is_letter}

abbrev pub is_letter_or_digit : ℕ → Bool
is_letter_or_digit b = is_digit b || is_letter b

-- letters and digits only
unfoldable pub is_run : List ℕ → Bool
is_run [] = true
is_run (b ∷ w) = is_letter_or_digit b && is_run w

-- one of these
unfoldable pub is_among : List (List ℕ) → List ℕ → Bool
is_among [] w = false
is_among (s ∷ ss) w = same s w || is_among ss w

-- `==` `!=` `<=` `>=`
unfoldable pub two_byte_signs : List (List ℕ)
two_byte_signs = (61 ∷ 61 ∷ []) ∷ (33 ∷ 61 ∷ []) ∷ (60 ∷ 61 ∷ []) ∷ (62 ∷ 61 ∷ []) ∷ []

-- a run, a sign of two bytes, or one byte other than a space; a byte that is no sign is a word that means nothing
unfoldable pub is_word : List ℕ → Bool
is_word w =
    (ltb 0 (length w) && is_run w)
    || (is_among two_byte_signs w || (eqb (length w) 1 && not (same w (space_byte ∷ []))))

-- this word by itself, or none where nothing is begun
abbrev pub alone : List ℕ → List (List ℕ)
alone w = cond (eqb (length w) 0) [] (w ∷ [])

-- what a byte begins: a word, or nothing if it is a space
abbrev pub begun : ℕ → List ℕ
begun b = cond (eqb b space_byte) [] (b ∷ [])

-- the words of a text, after the beginning of one: it goes on as long as it can
unfoldable pub words_after : List ℕ → List ℕ → List (List ℕ)
words_after [] w = alone w
words_after (b ∷ text) w = cond (is_word (w ++ (b ∷ []))) (words_after text (w ++ (b ∷ []))) (alone w ++ words_after text (begun b))

abbrev pub words_of : List ℕ → List (List ℕ)
words_of text = words_after text []

-- the same as a relation: no byte that follows a word would make it a longer one
pub record Longest (w text : List ℕ) : Type 0 where
  pub is_one : T (is_word w)
  pub ends : (b : ℕ) (rest : List ℕ) → text ≡ b ∷ rest → T (is_word (w ++ (b ∷ []))) → ⊥

pub data Spelled : List ℕ → List (List ℕ) → Type 0 where
  nothing : Spelled [] []
  space : {text : List ℕ} {ws : List (List ℕ)} → Spelled text ws → Spelled (space_byte ∷ text) ws
  word : (w text : List ℕ) (ws : List (List ℕ)) → Longest w text → Spelled text ws → Spelled (w ++ text) (w ∷ ws)

-- how often a byte stands in a text
unfoldable pub times_in : ℕ → List ℕ → ℕ
times_in k [] = 0
times_in k (b ∷ text) = cond (eqb k b) (suc (times_in k text)) (times_in k text)
