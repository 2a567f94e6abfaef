-- What is written on a tape: numbers, and fields one after another, each after a space.
use mathlib.Core.Path.{◌≡◌, sym, ap, ◌∙◌}
use mathlib.Core.List.{List, ◌∷◌, ◌++◌, map}
use Prim.Native.Nat.{ℕ, ◌+◌, ◌*◌, ◌≤◌, ◌<◌}
use native.Mathlib.Numerals.{add-one}
use native.Mathlib.Omega.{arith}
use lib.ListN.{length, get_or, drop, drop_of_length-le, length-append}
use lib.Seq.{drop-cons}
use Rattle.tapes.specs.Tapes.{Tape, put_all}
use Rattle.tapes.proofs.Tapes.{put_append}
use Rattle.lines.specs.Lines.{spaced}

-- ---- fields

module _ {A : Type 0} (text : A → List ℕ) (width : ℕ) where
  -- those before the i-th have been written, none wider than `width` with its space
  pub record FieldsPut (xs : List A) (old new : Tape ℕ) (i : ℕ) : Type 0 where
    pub within : i ≤ length xs
    pub left : put_all (spaced (map text (drop i xs))) new ≡ put_all (spaced (map text xs)) old
    pub bound : length (spaced (map text xs)) ≤ width * i + length (spaced (map text (drop i xs)))

  module _ {xs : List A} {old new : Tape ℕ} {i : ℕ} (s : FieldsPut xs old new i) where
    pub all_put : length xs ≤ i → (new ≡ put_all (spaced (map text xs)) old) × (length (spaced (map text xs)) ≤ width * length xs)
    unfolding spaced put_all
    all_put h =
        let e : i ≡ length xs = omega (arith, s.within) in
        let bound : length (spaced (map text xs)) ≤ width * length xs + length (spaced (map text (drop i xs))) = rw (← e) s.bound in
        (rw (drop_of_length-le xs h) at s.left, omega (arith, rw (drop_of_length-le xs h) at bound))

    pub one_more_put : (other : A) → i < length xs → {next : Tape ℕ} → next ≡ put_all (32 ∷ text (get_or xs i other)) new
        → length (32 ∷ text (get_or xs i other)) ≤ width → FieldsPut xs old next (i + 1)
    unfolding spaced
    one_more_put other h {next} p b =
        let x = get_or xs i other in
        let rest = spaced (map text (drop (i + 1) xs)) in
        let parts : spaced (map text (drop i xs)) ≡ (32 ∷ text x) ++ rest = ap (λ l. spaced (map text l)) (drop-cons xs i other h) ∙ ap (λ (k : ℕ). (32 ∷ text x) ++ spaced (map text (drop k xs))) (sym (add-one i)) in
        record {
          within = omega arith;
          left = ap (put_all rest) p ∙ sym (put_append (32 ∷ text x) rest new) ∙ ap (λ l. put_all l new) (sym parts) ∙ s.left;
          bound = omega (arith, s.bound, ap length parts, length-append (32 ∷ text x) rest);
        }
