-- The token of a word, looked up in a table.
use mathlib.Core.Path.{◌≡◌, refl, ap, ◌∙◌}
use mathlib.Core.Bool.{Bool, true, false, cond}
use mathlib.Core.List.{List, [], ◌∷◌, map}
use Prim.Native.Nat.{ℕ}
use denote.Ref.{Bor}
use Rattle.std.specs.Prelude.{Option, Some, None}
use Rattle.std.specs.Option.{option_map}
use Rattle.std.specs.List.{find}
use Rattle.std.specs.Str.{bytes_eq}
use Rattle.ascii.specs.Ascii.{same}
use Rattle.ascii.proofs.Sameness.{same_bytes}
use Rattle.grammar.specs.declared.Token.{Token}
use Rattle.grammar.specs.Tokens.{token_among}

-- a row of the table, as the grammar has it
abbrev pub row : Bor (List ℕ) × Token → List ℕ × Token
row r = (r.0.now, r.1)

module _ (w : List ℕ) where
  abbrev pub spells : Bor (List ℕ) × Token → Bool
  spells r = bytes_eq r.0.now w

  -- the first row with this spelling
  pub found_token : (rows : List (Bor (List ℕ) × Token)) → option_map (λ r. r.1) (find spells rows) ≡ token_among (map row rows) w
  unfolding token_among
  found_token [] = refl
  found_token (r ∷ rows) = rw (same_bytes r.0.now w) (by (same r.0.now w) (found_token rows))
    where
      by : (t : Bool) → option_map (λ q. q.1) (find spells rows) ≡ token_among (map row rows) w
          → option_map (λ q. q.1) (cond t (Some r) (find spells rows)) ≡ cond t (Some r.1) (token_among (map row rows) w)
      by true e = refl
      by false e = e

  -- what a search of the table finds
  pub looked_up : (rows : List (Bor (List ℕ) × Token)) (found : Option (Bor (Bor (List ℕ) × Token))) → option_map (λ r. r.now) found ≡ find spells rows
      → option_map (λ r. r.now.1) found ≡ token_among (map row rows) w
  looked_up rows None e = ap (option_map (λ r. r.1)) e ∙ found_token rows
  looked_up rows (Some r) e = ap (option_map (λ r. r.1)) e ∙ found_token rows
