-- Rows that go by one after another: what is left of the log, what the queues hold and have counted, and what is written.
use mathlib.Core.Path.{◌≡◌, refl, sym, ap, ap₂, subst, ◌∙◌}
use mathlib.Core.Bool.{Bool, true, false, cond}
use mathlib.Core.List.{List, [], ◌∷◌, ◌++◌}
use Prim.Native.Nat.{ℕ, suc, ◌+◌, ◌-◌, ◌*◌, ◌/◌, ◌^◌, ◌≤◌, ◌<◌}
use native.Mathlib.Omega.{arith}
use borrow.Rule.Slice.PartMut.{put_mid}
use lib.IntN.{ℤ, pos}
use lib.ListN.{length, get_or, take, drop, length-map, length-drop}
use lib.Seq.{drop-cons, length-take-le}
use Rattle.std.specs.Prelude.{Option, Some, None, is_some}
use Rattle.std.specs.List.{count_by}
use Rattle.std.proofs.lemmas.List.{get_or-map}
use Rattle.std.proofs.lemmas.List.Sums.{count_by-le-length, count_by_more_yes, count_by_more_no}
use Rattle.results.specs.Results.{over}
use Rattle.evaluation.specs.declared.Evaluation.{Evaluation}
use Rattle.evaluation.specs.declared.Evaluation.TheVariants.{Unknown}
use Rattle.evaluation.specs.Meaning.{is_true}
use Rattle.model.specs.Trees.{Expression}
use Rattle.expressions.specs.Expressions.{evaluate, known_from}
use Rattle.windows.specs.declared.queue.Entry.{Entry}
use Rattle.windows.specs.declared.queue.Queue.{Queue}
use Rattle.windows.specs.declared.sliding.Sliding.{Sliding}
use Rattle.windows.specs.Logs.{max_window, rows_over, evaluations, last_of}
use Rattle.windows.specs.Figures.{count_true, value_in, largest, marked, row_figures, figures_from}
use Rattle.windows.specs.Sliding.{queues, candidates, beats, kept_by, with_true, with_value, entering, left_behind, slid, count_values}
use Rattle.windows.specs.Lent.{ring_from, held, queues_in, AllFit, HasRoom, CanCount, IsEmpty, Passed, GoneBy, entering_held, yielding_to, one_more_if, figures_held}
use Rattle.windows.proofs.Candidates.{queue_right}
use Rattle.windows.proofs.Falling.{candidates_yielded}
use Rattle.windows.specs.Reports.{figures_over}
use Rattle.windows.proofs.Rings.{ring_length}
use Rattle.windows.proofs.LogRows.{rows_length, row_length, rows_more, rows_none, figures_length, figures_more, written_over}
use Rattle.windows.proofs.WindowSteps.{of_last, left_of_last, entered_last, sliding_right}

-- ---- a queue holds no more than there are rows

kept_short : (row : ℕ) (x later : Option ℤ) (rest : List Entry) (n : ℕ) → length rest ≤ n → length (kept_by row x later rest) ≤ suc n
unfolding kept_by
kept_short row None later rest n h = omega (arith, h)
kept_short row (Some x) later rest n h = go (beats x later)
  where
    go : (b : Bool) → length (cond b (record { row = row; value = x } ∷ rest) rest) ≤ suc n
    go true = omega (arith, h)
    go false = omega (arith, h)

candidates_short : (row : ℕ) (es : List Evaluation) → length (candidates row es) ≤ length es
unfolding candidates
candidates_short row [] = omega arith
candidates_short row (e ∷ es) = kept_short row (value_in e) (largest es) (candidates (suc row) es) (length es) (candidates_short (suc row) es)

last_short : (w n : ℕ) (l : List Evaluation) → n < length l → length (last_of w n l) ≤ w
last_short w n l h = omega (arith, length-drop (n - w) (take n l), length-take-le n l (omega (arith, h)))

-- ---- where entries at the back give way, those do that are reached

yields_same : (row r : ℕ) (x : Option ℤ) (es : List Evaluation) → yielding_to row x (candidates r es) ≡ with_value row x (candidates r es)
unfolding yielding_to with_value
yields_same row r None es = refl
yields_same row r (Some v) es = ap (λ cs. cs ++ (record { row = row; value = v } ∷ [])) (candidates_yielded v r es)

-- ---- one row more is counted

count_more : (p : Evaluation → Bool) (l : List Evaluation) (n : ℕ) → n < length l → one_more_if (p (get_or l n Unknown)) (count_by p (take n l)) ≡ count_by p (take (suc n) l)
count_more p l n h = go (p (get_or l n Unknown)) refl ∙ ap (λ k. count_by p (take k l)) k
  where
    k : n + 1 ≡ suc n
    k = omega arith

    go : (b : Bool) → p (get_or l n Unknown) ≡ b → one_more_if b (count_by p (take n l)) ≡ count_by p (take (n + 1) l)
    go true e = sym (count_by_more_yes p l n Unknown h e)
    go false e = sym (count_by_more_no p l n Unknown h e)

count_below : (p : Evaluation → Bool) (l : List Evaluation) (n : ℕ) → n < length l → count_by p (take n l) ≤ n
count_below p l n h = omega (arith, count_by-le-length p (take n l), length-take-le n l (omega (arith, h)))

-- ---- before the first row

nothing_held : (q : Queue) → IsEmpty q → held q ≡ []
unfolding ring_from
nothing_held q e =
    let none : q.entered - q.departed ≡ 0 = omega (arith, e.entered) in
    ap (ring_from q.entries q.first) none

-- ---- the rows

module _ (w : ℕ) (b x : Expression) (width : ℕ) (log old : List ℤ) where
  abbrev rows : List (List ℤ)
  rows = rows_over width log

  abbrev bs : List Evaluation
  bs = evaluations b rows

  abbrev xs : List Evaluation
  xs = evaluations x rows

  -- n rows have gone by, and this is left
  pub record Gone (n : ℕ) (rest : List ℤ) (s : Sliding) (figures : List ℤ) : Type 0 where
    pub left : rows_over width rest ≡ drop n rows
    pub within : n ≤ length rows
    pub queues : queues_in s ≡ slid w bs xs n
    pub trues : s.trues.entered ≡ count_true (take n bs)
    pub values : s.values.entered ≡ count_values (take n xs)
    pub written : figures ≡ over (figures_from w bs xs 0 n) old

  -- a row is there, and then the rest
  module _ (n : ℕ) (rest row after : List ℤ) (s : Sliding) (figures : List ℤ) (p : 0 < w) (q : 0 < width) (most : w ≤ max_window)
      (g : Gone n rest s figures) (split : rest ≡ row ++ after) (size : length row ≡ width) where
    row_next : drop n rows ≡ row ∷ rows_over width after
    row_next = sym g.left ∙ ap (rows_over width) split ∙ rows_more width row after q size

    pub below : n < length rows
    below = omega (arith, length-drop n rows, ap length row_next)

    -- below in the evaluations
    below_evaluations : (e : Expression) → n < length (evaluations e rows)
    below_evaluations e = omega (arith, below, length-map rows (λ row. evaluate e (known_from row)))

    here : get_or rows n [] ≡ row
    here = ap (λ l. get_or l 0 []) (sym (drop-cons rows n [] below) ∙ row_next)

    rest_left : rows_over width after ≡ drop (suc n) rows
    rest_left = ap (drop 1) (sym row_next ∙ drop-cons rows n [] below)

    evaluated : (e : Expression) → get_or (evaluations e rows) n Unknown ≡ evaluate e (known_from row)
    evaluated e = get_or-map (λ row. evaluate e (known_from row)) rows n [] Unknown below ∙ ap (λ r. evaluate e (known_from r)) here

    left : left_behind w n (queues_in s) ≡ of_last (w - 1) bs xs n
    left =
        ap (left_behind w n) (g.queues ∙ sliding_right w bs xs n p (omega (arith, below_evaluations b)) (omega (arith, below_evaluations x)))
        ∙ left_of_last w n p bs xs (below_evaluations b) (below_evaluations x)

    pub room : HasRoom (left_behind w n (queues_in s))
    room =
        subst HasRoom (sym left)
        (record {
          trues = omega (arith, (queue_right (n - (w - 1)) (last_of (w - 1) n bs)).0, count_by-le-length is_true (last_of (w - 1) n bs), last_short (w - 1) n bs (below_evaluations b), p, most);
          values = omega (arith, candidates_short (n - (w - 1)) (last_of (w - 1) n xs), last_short (w - 1) n xs (below_evaluations x), p, most);
        })

    pub counts : n + 1 < 2 ^ 64 → CanCount s
    counts h =
        record {
          trues = omega (arith, g.trues, count_below is_true bs n (below_evaluations b), h);
          values = omega (arith, g.values, count_below (λ e. is_some (value_in e)) xs n (below_evaluations x), h);
        }

    -- the row has gone by too, and its cells are written
    module _ (t : Sliding) (by : Passed w n (evaluate b (known_from row)) (evaluate x (known_from row)) s t) where
      entered : queues_in t ≡ of_last w bs xs (suc n)
      entered =
          by.queues
          ∙ ap (entering_held n (is_true (evaluate b (known_from row))) (evaluate x (known_from row))) left
          ∙ ap (λ v. queues (with_true n (is_true (evaluate b (known_from row))) (of_last (w - 1) bs xs n).trues) v)
          (yields_same n (n - (w - 1)) (value_in (evaluate x (known_from row))) (last_of (w - 1) n xs))
          ∙ ap₂ (λ e f. entering n e f (of_last (w - 1) bs xs n)) (sym (evaluated b)) (sym (evaluated x))
          ∙ entered_last w n p bs xs (below_evaluations b) (below_evaluations x)

      cells : figures_held (queues_in t) ≡ row_figures (last_of w (suc n) bs) (last_of w (suc n) xs)
      cells =
          ap figures_held entered
          ∙ ap₂ (λ c v. pos c ∷ marked v) (queue_right (suc n - w) (last_of w (suc n) bs)).0 (queue_right (suc n - w) (last_of w (suc n) xs)).1

      pub gone_on : (part : List ℤ) (at k : ℕ) → part ≡ figures_held (queues_in t) → at ≡ 3 * n → k ≡ 3 → Gone (suc n) after t (put_mid at k figures part)
      gone_on part at k e i j =
          let front = figures_from w bs xs 0 n in
          let z : 0 + n ≡ n = omega arith in
          record {
            left = rest_left;
            within = below;
            queues = entered ∙ sym (sliding_right w bs xs (suc n) p (below_evaluations b) (below_evaluations x));
            trues = by.trues ∙ ap₂ (λ e c. one_more_if (is_true e) c) (sym (evaluated b)) g.trues ∙ count_more is_true bs n (below_evaluations b);
            values = by.values ∙ ap₂ (λ e c. one_more_if (is_some (value_in e)) c) (sym (evaluated x)) g.values
                ∙ count_more (λ e. is_some (value_in e)) xs n (below_evaluations x);
            written = ap₂ (λ f l. put_mid at k f l) g.written (e ∙ cells)
                ∙ written_over front (row_figures (last_of w (suc n) bs) (last_of w (suc n) xs)) old at k (i ∙ sym (figures_length w bs xs 0 n))
                (j ∙ sym (row_length (last_of w (suc n) bs) (last_of w (suc n) xs)))
                ∙ ap (λ k. over (front ++ row_figures (last_of w (suc k) bs) (last_of w (suc k) xs)) old) (sym z)
                ∙ ap (λ l. over l old) (sym (figures_more w bs xs 0 n));
          }

  -- ---- all rows have gone by

  module _ (n : ℕ) (rest : List ℤ) (s : Sliding) (figures : List ℤ) (p : 0 < w) (g : Gone n rest s figures) (short : length rest < width) where
    all : n ≡ length log / width
    all =
        omega (arith, g.within, rows_length width (length log / width) log, length-drop n rows, ap length (sym g.left ∙ rows_none width rest short))

    pub all_written : figures ≡ over (figures_over w b x width log) old
    all_written = g.written ∙ ap (λ k. over (figures_from w bs xs 0 k) old) all

    long : (e : Expression) → n ≤ length (evaluations e rows)
    long e = omega (arith, g.within, length-map rows (λ row. evaluate e (known_from row)))

    last : queues_in s ≡ of_last w bs xs n
    last = g.queues ∙ sliding_right w bs xs n p (long b) (long x)

    pub all_gone : AllFit s → GoneBy w bs xs (length log / width) s
    all_gone f =
        subst (λ k. GoneBy w bs xs k s) all
        (record {
          slid = g.queues;
          trues = g.trues;
          values = g.values;
          true_left = omega (
            arith,
            g.trues,
            f.trues.departed,
            ring_length s.trues.entries s.trues.first (s.trues.entered - s.trues.departed),
            ap (λ q. length q.trues) last,
            (queue_right (n - w) (last_of w n bs)).0,
          );
          value_left = omega (
            arith,
            g.values,
            f.values.departed,
            ring_length s.values.entries s.values.first (s.values.entered - s.values.departed),
            ap (λ q. length q.values) last,
          );
        })

  -- ---- none has

  pub none_gone : (s : Sliding) → IsEmpty s.trues → IsEmpty s.values → Gone 0 log s old
  unfolding slid figures_from
  none_gone s t v =
      record {
        left = refl;
        within = omega arith;
        queues = ap₂ (λ a b. queues a b) (nothing_held s.trues t) (nothing_held s.values v);
        trues = t.entered;
        values = v.entered;
        written = refl;
      }
