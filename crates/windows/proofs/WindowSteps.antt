-- The queues hold what they should of the window as rows go by: theorem SlidingRight.
use mathlib.Core.Path.{◌≡◌, refl, sym, ap, ap₂, subst, ◌∙◌}
use mathlib.Core.Bool.{Bool, true, false, cond}
use mathlib.Core.List.{List, [], ◌∷◌, ◌++◌}
use Prim.Native.Nat.{ℕ, zero, suc, ◌+◌, ◌-◌, ◌≤◌, ◌<◌}
use native.Mathlib.Omega.{arith}
use borrow.Author.Tests.{leb-true, leb-false}
use lib.Dec.{leb}
use lib.ListN.{length, get_or, take, drop, length-drop}
use lib.Seq.{take-suc, drop-cons, drop-nil, drop-append-le, get_or-take, length-take-le}
use Rattle.evaluation.specs.declared.Evaluation.{Evaluation}
use Rattle.evaluation.specs.declared.Evaluation.TheVariants.{Unknown}
use Rattle.evaluation.specs.Meaning.{is_true}
use Rattle.windows.specs.declared.queue.Entry.{Entry}
use Rattle.windows.specs.Logs.{last_of}
use Rattle.windows.specs.Figures.{value_in}
use Rattle.windows.specs.Sliding.{Queues, queues, true_rows, candidates, with_true, with_value, without, entering, left_behind, slid}
use Rattle.windows.specs.Theorems.{SlidingRight}
use Rattle.windows.proofs.Candidates.{queue_right}

-- ---- the last entries: before row n those that its window has, w - 1 at most

module _ (w n : ℕ) (p : 0 < w) (l : List Evaluation) (long : n < length l) where
  taken : length (take n l) ≡ n
  taken = length-take-le n l (omega (arith, long))

  -- with row n
  last_more : last_of w (suc n) l ≡ last_of (w - 1) n l ++ (get_or l n Unknown ∷ [])
  last_more =
      let a : suc n - w ≡ n - (w - 1) = omega (arith, p) in
      let k : n - (w - 1) ≤ length (take n l) = omega (arith, taken) in
      ap₂ (λ i x. drop i x) a (take-suc l n Unknown long) ∙ drop-append-le (n - (w - 1)) (take n l) (get_or l n Unknown ∷ []) k

  -- with the row that row n's window leaves behind
  first_leaves : w ≤ n → last_of w n l ≡ get_or l (n - w) Unknown ∷ last_of (w - 1) n l
  first_leaves h =
      let k : n - w < n = omega (arith, h, p) in
      let a : suc (n - w) ≡ n - (w - 1) = omega (arith, h, p) in
      drop-cons (take n l) (n - w) Unknown (subst (λ x. n - w < x) (sym taken) k)
      ∙ ap₂ (λ x i. x ∷ drop i (take n l)) (get_or-take n l (n - w) Unknown k) a

  none_leaves : n < w → last_of w n l ≡ last_of (w - 1) n l
  none_leaves h = let a : n - w ≡ n - (w - 1) = omega (arith, h) in ap (λ i. drop i (take n l)) a

  length_last : (n - (w - 1)) + length (last_of (w - 1) n l) ≡ n
  length_last = omega (arith, taken, length-drop (n - (w - 1)) (take n l))

-- ---- a queue: what it holds of a window goes on as a row enters and leaves

record GoesOn {X : Type 0} (Q : ℕ → List Evaluation → List Entry) (told : Evaluation → X) (enter : ℕ → X → List Entry → List Entry) : Type 0 where
  enters : (row : ℕ) (es : List Evaluation) (e : Evaluation) → Q row (es ++ (e ∷ [])) ≡ enter (row + length es) (told e) (Q row es)
  leaves : (row : ℕ) (es : List Evaluation) (e : Evaluation) → Q (1 + row) es ≡ without row (Q row (e ∷ es))

module _ {X : Type 0} (Q : ℕ → List Evaluation → List Entry) (told : Evaluation → X) (enter : ℕ → X → List Entry → List Entry) (right : GoesOn Q told enter)
    (w n : ℕ) (p : 0 < w) (l : List Evaluation) (long : n < length l) where
  queue_enters : enter n (told (get_or l n Unknown)) (Q (n - (w - 1)) (last_of (w - 1) n l)) ≡ Q (suc n - w) (last_of w (suc n) l)
  queue_enters =
      let a : n - (w - 1) ≡ suc n - w = omega (arith, p) in
      ap (λ k. enter k (told (get_or l n Unknown)) (Q (n - (w - 1)) (last_of (w - 1) n l))) (sym (length_last w n p l long))
      ∙ sym (right.enters (n - (w - 1)) (last_of (w - 1) n l) (get_or l n Unknown))
      ∙ ap₂ Q a (sym (last_more w n p l long))

  queue_leaves : w ≤ n → without (n - w) (Q (n - w) (last_of w n l)) ≡ Q (n - (w - 1)) (last_of (w - 1) n l)
  queue_leaves h =
      let a : 1 + (n - w) ≡ n - (w - 1) = omega (arith, h, p) in
      ap (λ es. without (n - w) (Q (n - w) es)) (first_leaves w n p l long h)
      ∙ sym (right.leaves (n - w) (last_of (w - 1) n l) (get_or l (n - w) Unknown))
      ∙ ap (λ k. Q k (last_of (w - 1) n l)) a

  queue_stays : n < w → Q (n - w) (last_of w n l) ≡ Q (n - (w - 1)) (last_of (w - 1) n l)
  queue_stays h = let a : n - w ≡ n - (w - 1) = omega (arith, h) in ap₂ Q a (none_leaves w n p l long h)

-- ---- both queues

true_rows_go_on : GoesOn true_rows is_true with_true
true_rows_go_on = record { enters = λ row es. (queue_right row es).2; leaves = λ row es. (queue_right row es).4 }

candidates_go_on : GoesOn candidates value_in with_value
candidates_go_on = record { enters = λ row es. (queue_right row es).3; leaves = λ row es. (queue_right row es).5 }

-- what they hold of the last w of n rows
abbrev pub of_last : ℕ → List Evaluation → List Evaluation → ℕ → Queues
of_last w bs xs n = queues (true_rows (n - w) (last_of w n bs)) (candidates (n - w) (last_of w n xs))

module _ (w n : ℕ) (p : 0 < w) (bs xs : List Evaluation) (lb : n < length bs) (lx : n < length xs) where
  pub left_of_last : left_behind w n (of_last w bs xs n) ≡ of_last (w - 1) bs xs n
  unfolding left_behind
  left_of_last = go (leb w n) refl
    where
      go : (t : Bool) → leb w n ≡ t
          → cond t (queues (without (n - w) (of_last w bs xs n).trues) (without (n - w) (of_last w bs xs n).values)) (of_last w bs xs n) ≡ of_last (w - 1) bs xs n
      go true e =
          let h = leb-true w n e in
          ap₂ (λ t v. queues t v) (queue_leaves true_rows is_true with_true true_rows_go_on w n p bs lb h) (queue_leaves candidates value_in with_value candidates_go_on w n p xs lx h)
      go false e =
          let h = leb-false w n e in
          ap₂ (λ t v. queues t v) (queue_stays true_rows is_true with_true true_rows_go_on w n p bs lb h) (queue_stays candidates value_in with_value candidates_go_on w n p xs lx h)

  pub entered_last : entering n (get_or bs n Unknown) (get_or xs n Unknown) (of_last (w - 1) bs xs n) ≡ of_last w bs xs (suc n)
  entered_last =
      ap₂ (λ t v. queues t v) (queue_enters true_rows is_true with_true true_rows_go_on w n p bs lb) (queue_enters candidates value_in with_value candidates_go_on w n p xs lx)

pub sliding_right : SlidingRight
unfolding slid true_rows candidates
sliding_right w bs xs zero p a b =
    ap₂ (λ t v. queues t v) (sym (ap (true_rows (0 - w)) (drop-nil (0 - w)))) (sym (ap (candidates (0 - w)) (drop-nil (0 - w))))
sliding_right w bs xs (suc n) p a b =
    ap (entering n (get_or bs n Unknown) (get_or xs n Unknown))
    (ap (left_behind w n) (sliding_right w bs xs n p (omega arith) (omega arith)) ∙ left_of_last w n p bs xs (omega arith) (omega arith))
    ∙ entered_last w n p bs xs (omega arith) (omega arith)
