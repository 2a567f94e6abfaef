-- What is written on a tape, piece by piece and as a whole.
use mathlib.Core.Path.{◌≡◌, refl, sym, ap, ◌∙◌}
use mathlib.Core.Bool.{Bool, true, false, cond}
use mathlib.Core.List.{List, [], ◌∷◌, ◌++◌, append_assoc, flat_map}
use Prim.Native.Nat.{ℕ, suc, ◌+◌, ◌-◌, ◌≤◌, ◌<◌}
use native.Mathlib.Nat.{zero-add}
use native.Mathlib.Numerals.{add-one}
use native.Mathlib.Omega.{arith}
use borrow.Author.Tests.{lt-ltb, le-ltb, ltb-true, ltb-false}
use lib.Dec.{ltb}
use lib.ListN.{length, take, drop, set, get_or, length-set, take-append-drop, drop_of_length-le}
use lib.Seq.{sets, sets-eq, length-sets, drop-cons, drop-drop, length-take-le}
use borrow.Rule.Slice.PartMut.{put_mid}
use Rattle.results.specs.Results.{over}
use Rattle.tapes.specs.Tapes.{Tape, tape, put, put_all}

-- ---- one cell

pub put_here : {A : Type 0} (cells : List A) (at : ℕ) (a : A) → at < length cells → tape (set cells at a) (at + 1) ≡ put a (tape cells at)
unfolding put
put_here cells at a h = rw (lt-ltb at (length cells) h)

pub put_past : {A : Type 0} (cells : List A) (at : ℕ) (a : A) → length cells ≤ at → tape cells at ≡ put a (tape cells at)
unfolding put
put_past cells at a h = rw (le-ltb at (length cells) h)

-- ---- several, one after another

pub put_append : {A : Type 0} (front back : List A) (t : Tape A) → put_all (front ++ back) t ≡ put_all back (put_all front t)
unfolding put_all
put_append [] back t = refl
put_append (a ∷ front) back t = put_append front back (put a t)

-- past the last cell nothing is
pub put_none : {A : Type 0} (l cells : List A) (at : ℕ) → length cells ≤ at → tape cells at ≡ put_all l (tape cells at)
unfolding put_all
put_none [] cells at h = refl
put_none (a ∷ l) cells at h = put_none l cells at h ∙ ap (put_all l) (put_past cells at a h)

-- ---- all of them

-- where there is room, one store after another
put_room : {A : Type 0} (new cells : List A) (at : ℕ) → at + length new ≤ length cells
    → put_all new (tape cells at) ≡ tape (sets cells at new) (at + length new)
unfolding put_all
put_room [] cells at h = ap (tape cells) (omega arith)
put_room (a ∷ new) cells at h =
    let place : at + 1 + length new ≡ at + suc (length new) = omega arith in
    ap (put_all new) (sym (put_here cells at a (omega arith)))
    ∙ put_room new (set cells at a) (at + 1) (omega (arith, length-set cells at a))
    ∙ ap (λ n. tape (sets (set cells at a) n new) (at + 1 + length new)) (add-one at)
    ∙ ap (tape (sets cells at (a ∷ new))) place

-- where there is room, copied at once
pub put_part : {A : Type 0} (new cells : List A) (at : ℕ) (part : List A) → at + length new ≤ length cells → part ≡ new
    → tape (put_mid at (at + length new - at) cells part) (at + length new) ≡ put_all new (tape cells at)
put_part {A} new cells at part h e =
    let width : at + length new - at ≡ length new = omega arith in
    let copied : sets cells at new ≡ put_mid at (at + length new - at) cells part
    = sets-eq new cells at h ∙ append_assoc (take at cells) new (drop (at + length new) cells)
    ∙ ap (λ (l : List A). take at cells ++ l) (ap (λ (l : List A). new ++ l) (sym (drop-drop (length new) at cells))
    ∙ ap (λ n. new ++ drop n (drop at cells)) (sym width) ∙ ap (λ (l : List A). l ++ drop (at + length new - at) (drop at cells)) (sym e)) in
    sym (put_room new cells at h ∙ ap (λ (l : List A). tape l (at + length new)) copied)

-- of more than has room, what has no room is not written
pub put_first : {A : Type 0} (new cells : List A) (at : ℕ) {t : Tape A} → at ≤ length cells → length cells - at ≤ length new
    → t ≡ put_all (take (length cells - at) new) (tape cells at) → t ≡ put_all new (tape cells at)
put_first {A} new cells at {t} h g e =
    let room = length cells - at in
    let many : length (take room new) ≡ room = length-take-le room new g in
    let full : put_all (take room new) (tape cells at) ≡ tape (sets cells at (take room new)) (at + length (take room new))
    = put_room (take room new) cells at (omega (arith, many)) in
    e ∙ full
    ∙ put_none (drop room new) (sets cells at (take room new)) (at + length (take room new)) (omega (arith, many, length-sets cells at (take room new)))
    ∙ ap (put_all (drop room new)) (sym full)
    ∙ sym (put_append (take room new) (drop room new) (tape cells at))
    ∙ ap (λ (l : List A). put_all l (tape cells at)) (take-append-drop room new)

-- from the first cell on
pub put_over : {A : Type 0} (new cells : List A) → length new ≤ length cells → put_all new (tape cells 0) ≡ tape (over new cells) (length new)
put_over new cells h =
    put_room new cells 0 (omega arith) ∙ ap (λ (l : List _). tape l (0 + length new)) (sets-eq new cells 0 (omega arith))
    ∙ ap (λ n. tape (new ++ drop n cells) n) (zero-add (length new))

-- where there is none, the place stops at the end
pub put_full : {A : Type 0} (new cells : List A) (at : ℕ) → at ≤ length cells → length cells ≤ at + length new
    → (put_all new (tape cells at)).at ≡ length cells
unfolding put_all put
put_full [] cells at h g = omega arith
put_full (a ∷ new) cells at h g =
    by (ltb at (length cells)) refl
    (λ l. put_full new (set cells at a) (at + 1) (omega (arith, length-set cells at a)) (omega (arith, length-set cells at a)) ∙ length-set cells at a)
    (λ l. put_full new cells at h (omega arith))
  where
    by : (b : Bool) → ltb at (length cells) ≡ b → (at < length cells → (put_all new (tape (set cells at a) (at + 1))).at ≡ length cells)
        → (length cells ≤ at → (put_all new (tape cells at)).at ≡ length cells)
        → (put_all new (cond b (tape (set cells at a) (at + 1)) (tape cells at))).at ≡ length cells
    by true e p q = p (ltb-true at (length cells) e)
    by false e p q = q (ltb-false at (length cells) e)

-- ---- the pieces of a file

-- the piece of the first of those that are left has been written
pub pieces_more : {A B : Type 0} (f : A → List B) (l : List A) (i : ℕ) (d : A) (t : Tape B) {u v : Tape B} → i < length l → u ≡ put_all (f (get_or l i d)) t
    → put_all (flat_map f (drop i l)) t ≡ v → put_all (flat_map f (drop (i + 1) l)) u ≡ v
unfolding flat_map
pieces_more f l i d t h e g =
    ap (put_all (flat_map f (drop (i + 1) l))) e
    ∙ sym (put_append (f (get_or l i d)) (flat_map f (drop (i + 1) l)) t)
    ∙ ap (λ n. put_all (f (get_or l i d) ++ flat_map f (drop n l)) t) (add-one i)
    ∙ sym (ap (λ (rest : List _). put_all (flat_map f rest) t) (drop-cons l i d h)) ∙ g

pub pieces_done : {A B : Type 0} (f : A → List B) (l : List A) (i : ℕ) {t u : Tape B} → length l ≤ i → put_all (flat_map f (drop i l)) t ≡ u → t ≡ u
unfolding flat_map put_all
pieces_done f l i {t} h e = sym (ap (λ (rest : List _). put_all (flat_map f rest) t) (drop_of_length-le l h)) ∙ e
