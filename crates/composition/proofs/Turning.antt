-- Two runs of a slice that change places, or stay.
use Rattle.std.proofs.Common.{◌≡◌, ℕ, ◌-◌, ◌≤◌, List, ◌++◌, length, take, drop, sym, ap, ◌∙◌, arith, append-nil, append_assoc, drop_of_length-le}
use Rattle.std.proofs.lemmas.List.{take-append-drop, take-take, take_all, drop-drop, length-drop, places}
use Rattle.std.proofs.lemmas.Slice.{between_is}
use Rattle.std.specs.List.{refill}
use Rattle.arrayvec.proofs.ArrayVecLemmas.{items-with_items}
use borrow.Rule.Slice.PartMut.{put_mid}

module _ {A : Type 0} (l : List A) (from middle : ℕ) (g : from ≤ middle) (h : middle ≤ length l) where
  -- the two runs after the cells before them
  pub runs : l ≡ take from l ++ (drop from (take middle l) ++ drop middle l)
  runs =
      sym (take-append-drop middle l)
      ∙ ap (λ m. m ++ drop middle l) (sym (take-append-drop from (take middle l)) ∙ ap (λ m. m ++ drop from (take middle l)) (take-take from middle l g))
      ∙ append_assoc (take from l) (drop from (take middle l)) (drop middle l)

  -- after a rotation of the last cells, which are lent
  pub turned : (new : List A) → new ≡ drop (middle - from) (take (length l - from) (drop from l)) ++ take (middle - from) (take (length l - from) (drop from l))
      → refill (length l) l (put_mid from (length l - from) l new) ≡ take from l ++ (drop middle l ++ drop from (take middle l))
  turned new is =
      let size = length-drop from l in
      let all = take from l ++ (drop middle l ++ drop from (take middle l)) in
      let whole : take (length l - from) (drop from l) ≡ drop from l = take_all (length l - from) (drop from l) (omega arith) in
      let right : drop (middle - from) (drop from l) ≡ drop middle l = drop-drop (middle - from) from l ∙ ap (λ n. drop n l) (omega arith) in
      let put : put_mid from (length l - from) l new ≡ all =
      ap (λ m. take from l ++ (new ++ m)) (drop_of_length-le (drop from l) (omega arith))
      ∙ ap (λ m. take from l ++ m) (append-nil new ∙ is ∙ ap (λ m. drop (middle - from) m ++ take (middle - from) m) whole
      ∙ ap (λ m. m ++ take (middle - from) (drop from l)) right ∙ ap (λ m. drop middle l ++ m) (between_is l from middle)) in
      ap (refill (length l) l) put ∙ items-with_items (record { items = l }) all (grind (arith, places))
