-- What a program prints that is made of these functions, by their promises: it reads the file, opens the run, takes the input part by part,
-- each part piece by piece (a piece ends with a line feed, or where the part ends), and closes, with one array for all lines. After each
-- call it prints the text at the beginning of the array.
use Rattle.std.specs.Prelude.{cond, ℕ, zero, suc, ◌+◌, ltb, pos, length, take, drop, replicate}
use mathlib.Core.List.{List, [], ◌∷◌, ◌++◌, map, flatten}
use Rattle.results.specs.Results.{Answered}
use Rattle.model.specs.Sizes.{max_variables, max_transitions}
use Rattle.model.specs.Check.{verdict}
use Rattle.standing.specs.Runs.{Store, run, store}
use Rattle.replies.specs.Replies.{opening, is_started}
use Rattle.dialogue.specs.declared.Dimensions.{Dimensions}
use Rattle.dialogue.specs.Sizes.{places}
use Rattle.dialogue.specs.Turns.{Progress, progress, turns, closing, to_line_feed, first_line}
use Rattle.dialogue.specs.Cells.{dimensions_of, in_use, into}

-- the text at the beginning of a slice
abbrev pub text_in : Answered ℕ (List ℕ) → List ℕ
text_in a = take a.answer a.left

-- what the calls of `take_line` take of a part, each from the place where the one before it ended, while bytes are left; at most `calls` of them
unfoldable pub pieces_from : ℕ → List ℕ → ℕ → List (List ℕ)
pieces_from zero part from = []
pieces_from (suc calls) part from =
    cond (ltb from (length part)) (first_line (drop from part) ∷ pieces_from calls part (from + to_line_feed (drop from part))) []

-- each call takes a byte at least, so there are no more calls than bytes
abbrev pub pieces : List ℕ → List (List ℕ)
pieces part = pieces_from (length part) part 0

-- the pieces of all parts
abbrev pub pieces_of : List (List ℕ) → List (List ℕ)
pieces_of ps = flatten (map pieces ps)

-- the pieces of the input, then its end
unfoldable pub pieces_text : List ℕ → List (List ℕ) → List ℕ → Progress → List ℕ
pieces_text m [] out s = text_in (into out (closing m s)).answer
pieces_text m (p ∷ ps) out s =
    let t = into out (turns m p s) in
    text_in t.answer ++ pieces_text m ps t.answer.left t.left

-- the arrays before the start: 0 in every cell
abbrev pub empty : Store
empty = store (run (replicate max_variables (pos 0)) (replicate max_transitions 0) (replicate places 0) 0) (replicate max_transitions 0)

-- "It stops after a refused start."
unfoldable pub open_text : List ℕ → Dimensions → List (List ℕ) → List ℕ → List ℕ
open_text m d ps out =
    let o = into out (opening m (in_use d empty)) in
    text_in o.answer ++ cond (is_started m (in_use d empty)) (pieces_text m (pieces_of ps) o.answer.left (progress [] o.left)) []

-- by the bytes kept of the file, the parts of the input and the array for the lines
abbrev pub program_text : List ℕ → List (List ℕ) → List ℕ → List ℕ
program_text m ps out = open_text m (dimensions_of (length m) (verdict m)) ps out
