-- The rows of a log one by one, and the cells that are written for them.
use mathlib.Core.Path.{◌≡◌, refl, sym, ap, ap₂, ◌∙◌}
use mathlib.Core.List.{List, [], ◌∷◌, ◌++◌}
use Prim.Native.Nat.{ℕ, zero, suc, ◌+◌, ◌*◌, ◌/◌, ◌<◌}
use native.Mathlib.Omega.{arith}
use borrow.Rule.Slice.PartMut.{put_mid}
use lib.IntN.{ℤ}
use lib.ListN.{length, get_or, take, drop, length-append}
use Rattle.std.specs.declared.slice.ChunksExact.{ChunksExact}
use Rattle.std.specs.Slice.Iter.{chunks_exact_rest, chunks_exact_size, chunks_exact_steps}
use Rattle.std.specs.Iterator.{AlwaysYields}
use Rattle.std.proofs.Math.Nat.{div-eq_of_lt, add-div_left}
use Rattle.std.proofs.Math.Seq.{take-append_seam, drop-append_seam}
use Rattle.std.proofs.lemmas.List.{drop-drop}
use Rattle.std.proofs.Common.{append-nil, append_assoc}
use Rattle.std.specs.Prelude.{Option, Some, None}
use Rattle.std.proofs.lemmas.Iterator.{YieldsList}
use Rattle.results.specs.Results.{over}
use Rattle.evaluation.specs.declared.Evaluation.{Evaluation}
use Rattle.windows.specs.Logs.{rows_of, rows_over, last_of}
use Rattle.windows.specs.Figures.{marked, largest, row_figures, figures_from}

-- ---- the rows

pub rows_length : (width n : ℕ) (log : List ℤ) → length (rows_of width n log) ≡ n
unfolding rows_of
rows_length width zero log = refl
rows_length width (suc n) log = ap suc (rows_length width n (drop width log))

-- one row, then the others
pub rows_more : (width : ℕ) (row rest : List ℤ) → 0 < width → length row ≡ width → rows_over width (row ++ rest) ≡ row ∷ rows_over width rest
unfolding rows_of
rows_more width row rest p e =
    let size : length (row ++ rest) ≡ width + length rest = omega (arith, length-append row rest, e) in
    let many : length (row ++ rest) / width ≡ suc (length rest / width) = ap (λ n. n / width) size ∙ add-div_left (length rest) p ∙ omega arith in
    ap (λ n. rows_of width n (row ++ rest)) many
    ∙ ap₂ (λ r l. r ∷ rows_of width (length rest / width) l)
    (ap (λ w. take w (row ++ rest)) (sym e) ∙ take-append_seam row rest)
    (ap (λ w. drop w (row ++ rest)) (sym e) ∙ drop-append_seam row rest)

-- too little for a row
pub rows_none : (width : ℕ) (rest : List ℤ) → length rest < width → rows_over width rest ≡ []
unfolding rows_of
rows_none width rest h = ap (λ n. rows_of width n rest) (div-eq_of_lt h)

-- an iterator over such pieces of a log gives its rows
rows_yielded : (width : ℕ) → 0 < width → (rows : List (List ℤ)) (s : ChunksExact ℤ) → chunks_exact_size s ≡ width → rows_over width (chunks_exact_rest s) ≡ rows
    → AlwaysYields (chunks_exact_steps {A = ℤ}) (λ piece. piece.now) s rows
rows_yielded width p [] s e l = λ x t h.
    let more : rows_over width (chunks_exact_rest s) ≡ x.now ∷ rows_over width (chunks_exact_rest t) =
    ap (rows_over width) h.1.0 ∙ rows_more width x.now (chunks_exact_rest t) p (h.1.1 ∙ e) in
    absurd (omega (arith, ap length (sym l ∙ more)))
rows_yielded width p (row ∷ rows) s e l = (
  λ t h. absurd (omega (arith, ap length (sym l ∙ rows_none width (chunks_exact_rest s) (omega (arith, h.1.0, e))))),
  λ x t h.
      let more : rows_over width (chunks_exact_rest s) ≡ x.now ∷ rows_over width (chunks_exact_rest t) =
      ap (rows_over width) h.1.0 ∙ rows_more width x.now (chunks_exact_rest t) p (h.1.1 ∙ e) in
      let same : x.now ∷ rows_over width (chunks_exact_rest t) ≡ row ∷ rows = sym more ∙ l in
      (ap (λ l. get_or l 0 []) same, rows_yielded width p rows t (h.0 ∙ e) (ap (drop 1) same)),
)

pub yields_rows : (width : ℕ) (log : List ℤ) (s : ChunksExact ℤ) → 0 < width → chunks_exact_size s ≡ width → chunks_exact_rest s ≡ log
    → YieldsList (chunks_exact_steps {A = ℤ}) (λ piece. piece.now) s (rows_over width log)
yields_rows width log s p e l = record { runs = rows_yielded width p (rows_over width log) s e (ap (rows_over width) l) }

-- ---- the cells

marked_length : (o : Option ℤ) → length (marked o) ≡ 2
unfolding marked
marked_length None = refl
marked_length (Some v) = refl

pub row_length : (bs xs : List Evaluation) → length (row_figures bs xs) ≡ 3
row_length bs xs = ap suc (marked_length (largest xs))

pub figures_length : (w : ℕ) (bs xs : List Evaluation) (before n : ℕ) → length (figures_from w bs xs before n) ≡ 3 * n
unfolding figures_from
figures_length w bs xs before zero = refl
figures_length w bs xs before (suc n) =
    let l = last_of w (suc before) bs in
    let r = last_of w (suc before) xs in
    omega (arith, length-append (row_figures l r) (figures_from w bs xs (suc before) n), marked_length (largest r), figures_length w bs xs (suc before) n)

-- those of one row more
pub figures_more : (w : ℕ) (bs xs : List Evaluation) (before n : ℕ)
    → figures_from w bs xs before (suc n) ≡ figures_from w bs xs before n ++ row_figures (last_of w (suc (before + n)) bs) (last_of w (suc (before + n)) xs)
unfolding figures_from
figures_more w bs xs before zero =
    let n : before ≡ before + 0 = omega arith in
    append-nil _ ∙ ap (λ k. row_figures (last_of w (suc k) bs) (last_of w (suc k) xs)) n
figures_more w bs xs before (suc n) =
    let k : suc before + n ≡ before + suc n = omega arith in
    let row = row_figures (last_of w (suc before) bs) (last_of w (suc before) xs) in
    ap (λ l. row ++ l) (figures_more w bs xs (suc before) n ∙ ap (λ k. figures_from w bs xs (suc before) n ++ row_figures (last_of w (suc k) bs) (last_of w (suc k) xs)) k)
    ∙ sym (append_assoc row (figures_from w bs xs (suc before) n) _)

-- a part that is written past those written before
pub written_over : {A : Type 0} (front part old : List A) (at k : ℕ) → at ≡ length front → k ≡ length part
    → put_mid at k (over front old) part ≡ over (front ++ part) old
written_over front part old at k e f =
    rw (e, f, take-append_seam front (drop (length front) old), drop-append_seam front (drop (length front) old), drop-drop (length part) (length front) old, sym (length-append front part))
    (sym (append_assoc front part (drop (length (front ++ part)) old)))
