-- The loop that takes nodes apart: those before the present one are done, the other cells are as they were.
use mathlib.Core.Path.{◌≡◌, sym, ◌∙◌}
use mathlib.Core.List.{List, [], ◌∷◌, ◌++◌, map, map-append, append_assoc}
use Prim.Native.Nat.{ℕ, suc, ◌+◌, ◌≤◌, ◌<◌}
use native.Mathlib.Numerals.{add-one}
use native.Mathlib.Omega.{arith}
use lib.ListN.{length, get_or, set, take, drop, length-map}
use lib.Seq.{take-suc, drop-cons, set_at, length-take-le}

module _ {A B : Type 0} (f : A → B) (cells : List A) (old : List B) where
  -- what the first i cells give stands in the first i places
  pub record TakenApart (i : ℕ) (new : List B) : Type 0 where
    pub within : i ≤ length cells
    pub room : length cells ≤ length old
    pub is : new ≡ map f (take i cells) ++ drop i old

  module _ (i : ℕ) (new : List B) (t : TakenApart i new) where
    done : length (map f (take i cells)) ≡ i
    done = length-map (take i cells) f ∙ length-take-le i cells t.within

    -- one cell more
    pub apart_turn : (d : A) → i < length cells → TakenApart (i + 1) (set new i (f (get_or cells i d)))
    apart_turn d h =
        record {
          within = omega arith;
          room = t.room;
          is =
              rw (t.is, drop-cons old i (f d) (omega (arith, t.room)), add-one i, take-suc cells i d h, map-append f (take i cells) (get_or cells i d ∷ []))
              (set_at (map f (take i cells)) (get_or old i (f d)) (drop (suc i) old) (f (get_or cells i d)) i done
              ∙ sym (append_assoc (map f (take i cells)) (f (get_or cells i d) ∷ []) (drop (suc i) old)));
        }
