-- The queues hold what they should of a window, also when a row enters or leaves: theorem QueueRight.
use mathlib.Core.Path.{◌≡◌, refl, sym, ap, ap₂, subst, ◌∙◌}
use mathlib.Core.Bool.{Bool, true, false, cond, not, true≢false}
use mathlib.Core.List.{List, [], ◌∷◌, ◌++◌}
use Prim.Native.Nat.{ℕ, suc, ◌+◌, ◌<◌}
use native.Mathlib.Omega.{arith}
use borrow.Author.Tests.{eq-eqb, ne_eqb}
use lib.IntN.{ℤ}
use lib.Signed.{le_z}
use lib.ListN.{length}
use Rattle.std.specs.Prelude.{Option, Some, None}
use Rattle.std.proofs.lemmas.List.Sums.{sum_by-append}
use Rattle.evaluation.specs.declared.Evaluation.{Evaluation}
use Rattle.evaluation.specs.Meaning.{is_true}
use Rattle.windows.specs.declared.queue.Entry.{Entry}
use Rattle.windows.specs.Figures.{count_true, value_in, larger, largest}
use Rattle.windows.specs.Sliding.{entry, unread, true_rows, beats, kept_by, candidates, above, with_value, with_true, without, front_value}
use Rattle.windows.specs.Theorems.{QueueRight}
use Rattle.windows.proofs.Orders.{le_trans, not_reached}

-- ---- how many are true

true_count : (row : ℕ) (es : List Evaluation) → length (true_rows row es) ≡ count_true es
unfolding true_rows
true_count row [] = refl
true_count row (e ∷ es) = go (is_true e) (true_count (suc row) es) ∙ sym (sum_by-append (λ e. cond (is_true e) 1 0) (e ∷ []) es)
  where
    go : (b : Bool) → length (true_rows (suc row) es) ≡ count_true es
        → length (cond b (entry row unread ∷ true_rows (suc row) es) (true_rows (suc row) es)) ≡ 0 + cond b 1 0 + count_true es
    go true h = omega (arith, h)
    go false h = omega (arith, h)

-- ---- the front is the largest value

front_step : (row : ℕ) (v later : Option ℤ) (rest : List Entry) → front_value rest ≡ later → front_value (kept_by row v later rest) ≡ larger v later
unfolding front_value kept_by larger beats
front_step row None later rest h = h
front_step row (Some v) None rest h = refl
front_step row (Some v) (Some w) rest h = go (le_z v w) refl
  where
    go : (b : Bool) → le_z v w ≡ b → front_value (cond (not b) (entry row v ∷ rest) rest) ≡ Some (cond b w v)
    go true e = h
    go false e = refl

front_largest : (row : ℕ) (es : List Evaluation) → front_value (candidates row es) ≡ largest es
unfolding front_value candidates largest
front_largest row [] = refl
front_largest row (e ∷ es) = front_step row (value_in e) (largest es) (candidates (suc row) es) (front_largest (suc row) es)

-- ---- a row enters at the back

true_enters : (row : ℕ) (es : List Evaluation) (e : Evaluation) → true_rows row (es ++ (e ∷ [])) ≡ with_true (row + length es) (is_true e) (true_rows row es)
unfolding true_rows
true_enters row [] e = let n : row + 0 ≡ row = omega arith in rw n
true_enters row (x ∷ es) e =
    let n : suc row + length es ≡ row + suc (length es) = omega arith in
    ap (λ ts. cond (is_true x) (entry row unread ∷ ts) ts) (true_enters (suc row) es e)
    ∙ ahead (is_true x) (is_true e) (true_rows (suc row) es) (suc row + length es)
    ∙ ap (λ k. with_true k (is_true e) (cond (is_true x) (entry row unread ∷ true_rows (suc row) es) (true_rows (suc row) es))) n
  where
    ahead : (a b : Bool) (ts : List Entry) (k : ℕ) → cond a (entry row unread ∷ with_true k b ts) (with_true k b ts) ≡ with_true k b (cond a (entry row unread ∷ ts) ts)
    ahead true true ts k = refl
    ahead true false ts k = refl
    ahead false b ts k = refl

larger_none : (v : Option ℤ) → larger v None ≡ v
unfolding larger
larger_none None = refl
larger_none (Some v) = refl

larger_assoc : (a b c : Option ℤ) → larger a (larger b c) ≡ larger (larger a b) c
unfolding larger
larger_assoc None b c = refl
larger_assoc (Some a) None c = refl
larger_assoc (Some a) (Some b) None = refl
larger_assoc (Some a) (Some b) (Some c) = ap Some (go (le_z a b) (le_z b c) refl refl)
  where
    go : (s t : Bool) → le_z a b ≡ s → le_z b c ≡ t
        → cond (le_z a (cond t c b)) (cond t c b) a ≡ cond (le_z (cond s b a) c) c (cond s b a)
    go true true e f = rw (le_trans a b c e f, f)
    go true false e f = rw (e, f)
    go false true e f = refl
    go false false e f = rw (e, not_reached a b c e f)

largest_end : (es : List Evaluation) (e : Evaluation) → largest (es ++ (e ∷ [])) ≡ larger (largest es) (value_in e)
unfolding largest larger
largest_end [] e = larger_none (value_in e)
largest_end (x ∷ es) e = ap (larger (value_in x)) (largest_end es e) ∙ larger_assoc (value_in x) (largest es) (value_in e)

enter_step : (row : ℕ) (x later : Option ℤ) (v : ℤ) (cs : List Entry) (last : Entry)
    → kept_by row x (larger later (Some v)) (above v cs ++ (last ∷ [])) ≡ above v (kept_by row x later cs) ++ (last ∷ [])
unfolding kept_by larger beats above
enter_step row None later v cs last = refl
enter_step row (Some x) None v cs last = go (le_z x v)
  where
    go : (b : Bool) → cond (not b) (entry row x ∷ above v cs ++ (last ∷ [])) (above v cs ++ (last ∷ [])) ≡ cond b (above v cs) (entry row x ∷ above v cs) ++ (last ∷ [])
    go true = refl
    go false = refl
enter_step row (Some x) (Some w) v cs last = go (le_z x w) (le_z w v) (le_z x v) refl refl refl
  where
    go : (s t u : Bool) → le_z x w ≡ s → le_z w v ≡ t → le_z x v ≡ u
        → cond (not (le_z x (cond t v w))) (entry row x ∷ above v cs ++ (last ∷ [])) (above v cs ++ (last ∷ []))
        ≡ above v (cond (not s) (entry row x ∷ cs) cs) ++ (last ∷ [])
    go true true true e f g = rw g
    go true true false e f g = absurd (true≢false (sym (le_trans x w v e f) ∙ g))
    go true false u e f g = rw e
    go false true true e f g = rw g
    go false true false e f g = rw g
    go false false true e f g = absurd (true≢false (sym g ∙ not_reached x w v e f))
    go false false false e f g = rw (e, g)

enter_kept : (row : ℕ) (x later : Option ℤ) (end : Option ℤ) (n : ℕ) (cs : List Entry)
    → kept_by row x (larger later end) (with_value n end cs) ≡ with_value n end (kept_by row x later cs)
unfolding with_value
enter_kept row x later None n cs = rw (larger_none later)
enter_kept row x later (Some v) n cs = enter_step row x later v cs (entry n v)

enter_first : (row n : ℕ) (v : Option ℤ) → row ≡ n → kept_by row v (largest []) [] ≡ with_value n v []
unfolding kept_by largest with_value beats above
enter_first row n None h = refl
enter_first row n (Some v) h = ap (λ k. entry k v ∷ []) h

enters : (row : ℕ) (es : List Evaluation) (e : Evaluation) → candidates row (es ++ (e ∷ [])) ≡ with_value (row + length es) (value_in e) (candidates row es)
unfolding candidates
enters row [] e = enter_first row (row + 0) (value_in e) (omega arith)
enters row (x ∷ es) e =
    let n : suc row + length es ≡ row + suc (length es) = omega arith in
    ap₂ (λ l cs. kept_by row (value_in x) l cs) (largest_end es e) (enters (suc row) es e)
    ∙ enter_kept row (value_in x) (largest es) (value_in e) (suc row + length es) (candidates (suc row) es)
    ∙ ap (λ k. with_value k (value_in e) (kept_by row (value_in x) (largest es) (candidates (suc row) es))) n

-- ---- a row leaves at the front: later ones stay

stay_kept : (row k : ℕ) (b : Bool) (v : ℤ) (rest : List Entry) → row < k → without row rest ≡ rest
    → without row (cond b (entry k v ∷ rest) rest) ≡ cond b (entry k v ∷ rest) rest
unfolding without
stay_kept row k false v rest h i = i
stay_kept row k true v rest h i = let n : k ≡ row → ⊥ = (λ q. absurd (omega (arith, q))) in rw (ne_eqb k row n)

leave_kept : (row : ℕ) (b : Bool) (v : ℤ) (rest : List Entry) → without row rest ≡ rest → rest ≡ without row (cond b (entry row v ∷ rest) rest)
unfolding without
leave_kept row false v rest i = sym i
leave_kept row true v rest i = rw (eq-eqb row row refl)

true_stays : (row k : ℕ) (es : List Evaluation) → row < k → without row (true_rows k es) ≡ true_rows k es
unfolding without true_rows
true_stays row k [] h = refl
true_stays row k (e ∷ es) h = stay_kept row k (is_true e) unread (true_rows (suc k) es) h (true_stays row (suc k) es (omega arith))

true_leaves : (row : ℕ) (e : Evaluation) (es : List Evaluation) → true_rows (1 + row) es ≡ without row (true_rows row (e ∷ es))
unfolding true_rows
true_leaves row e es =
    let n : suc row ≡ 1 + row = omega arith in
    subst (λ k. true_rows k es ≡ without row (true_rows row (e ∷ es))) n
    (leave_kept row (is_true e) unread (true_rows (suc row) es) (true_stays row (suc row) es (omega arith)))

stay_step : (row k : ℕ) (v later : Option ℤ) (rest : List Entry) → row < k → without row rest ≡ rest
    → without row (kept_by k v later rest) ≡ kept_by k v later rest
unfolding kept_by
stay_step row k None later rest h i = i
stay_step row k (Some v) later rest h i = stay_kept row k (beats v later) v rest h i

stays : (row k : ℕ) (es : List Evaluation) → row < k → without row (candidates k es) ≡ candidates k es
unfolding without candidates
stays row k [] h = refl
stays row k (e ∷ es) h = stay_step row k (value_in e) (largest es) (candidates (suc k) es) h (stays row (suc k) es (omega arith))

leave_step : (row : ℕ) (v later : Option ℤ) (rest : List Entry) → without row rest ≡ rest → rest ≡ without row (kept_by row v later rest)
unfolding kept_by
leave_step row None later rest i = sym i
leave_step row (Some v) later rest i = leave_kept row (beats v later) v rest i

leaves : (row : ℕ) (e : Evaluation) (es : List Evaluation) → candidates (1 + row) es ≡ without row (candidates row (e ∷ es))
unfolding candidates
leaves row e es =
    let n : suc row ≡ 1 + row = omega arith in
    subst (λ k. candidates k es ≡ without row (kept_by row (value_in e) (largest es) (candidates (suc row) es))) n
    (leave_step row (value_in e) (largest es) (candidates (suc row) es) (stays row (suc row) es (omega arith)))

pub queue_right : QueueRight
queue_right row es = (
  true_count row es,
  front_largest row es,
  true_enters row es,
  enters row es,
  λ e. true_leaves row e es,
  λ e. leaves row e es,
)
