-- None enters a queue but the row that goes by, and none comes back: theorem EntersOnce.
use mathlib.Core.Bool.{Bool, true, false, cond, ◌&&◌}
use mathlib.Core.List.{List, [], ◌∷◌, ◌++◌}
use Prim.Native.Nat.{ℕ, zero, suc, ◌-◌}
use native.Mathlib.Omega.{arith}
use lib.Ieee.Fits.{and_i, and_l, and_r}
use lib.Dec.{T, eqb, leb, ltb, lt→ltb, ltb→lt}
use lib.IntN.{ℤ}
use lib.Signed.{le_z}
use Rattle.std.specs.Prelude.{Option, Some, None, get_or}
use Rattle.std.specs.List.{list_all}
use Rattle.std.proofs.lemmas.List.Folds.{list_all-append}
use Rattle.evaluation.specs.declared.Evaluation.{Evaluation}
use Rattle.evaluation.specs.declared.Evaluation.TheVariants.{Unknown}
use Rattle.evaluation.specs.Meaning.{is_true}
use Rattle.windows.specs.declared.queue.Entry.{Entry}
use Rattle.windows.specs.Figures.{value_in}
use Rattle.windows.specs.Sliding.{Queues, queues, entry, unread, above, with_true, with_value, without, left_behind, slid}
use Rattle.windows.specs.Theorems.{EntersOnce}

-- whatever all pass that are there, all pass that are left, and one more does that passes it
module _ (p : Entry → Bool) where
  all_end : (cs : List Entry) (c : Entry) → T (list_all p cs) → T (p c) → T (list_all p (cs ++ (c ∷ [])))
  all_end cs c h i = rw (list_all-append p cs (c ∷ [])) (and_i (list_all p cs) (list_all p (c ∷ [])) h (and_i (p c) true i tt))

  all_above : (v : ℤ) (cs : List Entry) → T (list_all p cs) → T (list_all p (above v cs))
  unfolding above
  all_above v [] h = tt
  all_above v (c ∷ cs) h = go (le_z c.value v) (all_above v cs (and_r (p c) (list_all p cs) h))
    where
      go : (b : Bool) → T (list_all p (above v cs)) → T (list_all p (cond b (above v cs) (c ∷ above v cs)))
      go true i = i
      go false i = and_i (p c) (list_all p (above v cs)) (and_l (p c) (list_all p cs) h) i

  all_without : (row : ℕ) (cs : List Entry) → T (list_all p cs) → T (list_all p (without row cs))
  unfolding without
  all_without row [] h = tt
  all_without row (c ∷ cs) h = go (eqb c.row row)
    where
      go : (b : Bool) → T (list_all p (cond b cs (c ∷ cs)))
      go true = and_r (p c) (list_all p cs) h
      go false = h

  -- row n goes by
  module _ (w n : ℕ) (own : (v : ℤ) → T (p (entry n v))) where
    all_true : (b : Bool) (cs : List Entry) → T (list_all p cs) → T (list_all p (with_true n b cs))
    all_true true cs h = all_end cs (entry n unread) h (own unread)
    all_true false cs h = h

    all_value : (v : Option ℤ) (cs : List Entry) → T (list_all p cs) → T (list_all p (with_value n v cs))
    unfolding with_value
    all_value None cs h = h
    all_value (Some v) cs h = all_end (above v cs) (entry n v) (all_above v cs h) (own v)

    trues_left : (q : Queues) → T (list_all p q.trues) → T (list_all p (left_behind w n q).trues)
    unfolding left_behind
    trues_left q h = go (leb w n)
      where
        go : (b : Bool) → T (list_all p (cond b (queues (without (n - w) q.trues) (without (n - w) q.values)) q).trues)
        go true = all_without (n - w) q.trues h
        go false = h

    values_left : (q : Queues) → T (list_all p q.values) → T (list_all p (left_behind w n q).values)
    unfolding left_behind
    values_left q h = go (leb w n)
      where
        go : (b : Bool) → T (list_all p (cond b (queues (without (n - w) q.trues) (without (n - w) q.values)) q).values)
        go true = all_without (n - w) q.values h
        go false = h

    module _ (bs xs : List Evaluation) where
      trues_enter : T (list_all p (slid w bs xs n).trues) → T (list_all p (slid w bs xs (suc n)).trues)
      unfolding slid
      trues_enter h = all_true (is_true (get_or bs n Unknown)) (left_behind w n (slid w bs xs n)).trues (trues_left (slid w bs xs n) h)

      values_enter : T (list_all p (slid w bs xs n).values) → T (list_all p (slid w bs xs (suc n)).values)
      unfolding slid
      values_enter h = all_value (value_in (get_or xs n Unknown)) (left_behind w n (slid w bs xs n)).values (values_left (slid w bs xs n) h)

-- ---- those that are there have gone by

sooner : (n : ℕ) (cs : List Entry) → T (list_all (λ c. ltb c.row n) cs) → T (list_all (λ c. ltb c.row (suc n)) cs)
sooner n [] h = tt
sooner n (c ∷ cs) h =
    let below = ltb→lt c.row n (and_l (ltb c.row n) (list_all (λ c. ltb c.row n) cs) h) in
    and_i (ltb c.row (suc n)) (list_all (λ c. ltb c.row (suc n)) cs) (lt→ltb c.row (suc n) (omega (arith, below)))
    (sooner n cs (and_r (ltb c.row n) (list_all (λ c. ltb c.row n) cs) h))

module _ (w : ℕ) (bs xs : List Evaluation) where
  own_row : (n : ℕ) (v : ℤ) → T (ltb (entry n v).row (suc n))
  own_row n v = lt→ltb n (suc n) (omega arith)

  trues_gone_by : (n : ℕ) → T (list_all (λ c. ltb c.row n) (slid w bs xs n).trues)
  unfolding slid
  trues_gone_by zero = tt
  trues_gone_by (suc n) = trues_enter (λ c. ltb c.row (suc n)) w n (own_row n) bs xs (sooner n (slid w bs xs n).trues (trues_gone_by n))

  values_gone_by : (n : ℕ) → T (list_all (λ c. ltb c.row n) (slid w bs xs n).values)
  unfolding slid
  values_gone_by zero = tt
  values_gone_by (suc n) = values_enter (λ c. ltb c.row (suc n)) w n (own_row n) bs xs (sooner n (slid w bs xs n).values (values_gone_by n))

pub enters_once : EntersOnce
enters_once w bs xs n = (
  trues_gone_by w bs xs n,
  values_gone_by w bs xs n,
  λ p own. (trues_enter p w n own bs xs, values_enter p w n own bs xs),
)
