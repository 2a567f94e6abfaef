-- The pieces of a part are the part: theorem PiecesOfPart.
use mathlib.Core.Path.{◌≡◌, refl, sym, ap, ap₂, ◌∙◌}
use mathlib.Core.Bool.{Bool, true, false, cond}
use mathlib.Core.List.{List, [], ◌∷◌, ◌++◌, append_assoc, flatten}
use Prim.Native.Nat.{ℕ, zero, suc, ◌+◌, ◌≤◌, ◌<◌}
use native.Mathlib.Omega.{arith}
use borrow.Author.Tests.{ltb-true, ltb-false}
use lib.Dec.{ltb}
use lib.ListN.{length, drop, take-append-drop, drop_of_length-le}
use lib.Seq.{drop-drop}
use Rattle.dialogue.specs.Turns.{to_line_feed, first_line}
use Rattle.dialogue.specs.Program.{pieces_from, pieces, pieces_of}
use Rattle.dialogue.specs.Theorems.{PiecesOfPart}
use Rattle.dialogue.proofs.Scanning.{line_taken}

-- with calls enough, all that is left is taken
from_joined : (part : List ℕ) (calls from : ℕ) → length part ≤ from + calls → flatten (pieces_from calls part from) ≡ drop from part
unfolding pieces_from flatten
from_joined part zero from h = sym (drop_of_length-le part {i = from} (omega arith))
from_joined part (suc calls) from h = by (ltb from (length part)) refl (from_joined part calls)
  where
    by : (t : Bool) → ltb from (length part) ≡ t
        → ((from : ℕ) → length part ≤ from + calls → flatten (pieces_from calls part from) ≡ drop from part)
        → flatten (cond t (first_line (drop from part) ∷ pieces_from calls part (from + to_line_feed (drop from part))) []) ≡ drop from part
    by true e rest =
        let next = from + to_line_feed (drop from part) in
        let some : from < next = line_taken part from (ltb-true from (length part) e) in
        ap (λ x. first_line (drop from part) ++ x) (rest next (omega arith) ∙ sym (drop-drop (to_line_feed (drop from part)) from part))
        ∙ take-append-drop (to_line_feed (drop from part)) (drop from part)
    by false e rest = sym (drop_of_length-le part (ltb-false from (length part) e))

pub pieces_of_part : PiecesOfPart
pieces_of_part part = from_joined part (length part) 0 (omega arith)

flatten_append : (xs ys : List (List ℕ)) → flatten (xs ++ ys) ≡ flatten xs ++ flatten ys
unfolding flatten
flatten_append [] ys = refl
flatten_append (x ∷ xs) ys = ap (λ z. x ++ z) (flatten_append xs ys) ∙ sym (append_assoc x (flatten xs) (flatten ys))

pub pieces_joined : (ps : List (List ℕ)) → flatten (pieces_of ps) ≡ flatten ps
unfolding flatten
pieces_joined [] = refl
pieces_joined (p ∷ ps) = flatten_append (pieces p) (pieces_of ps) ∙ ap₂ (λ (x y : List ℕ). x ++ y) (pieces_of_part p) (pieces_joined ps)
