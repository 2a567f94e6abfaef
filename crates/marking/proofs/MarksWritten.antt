-- The marks of a run: the cells that the guards are evaluated over hold the values in use, and the marks are written one after another.
use mathlib.Core.Path.{◌≡◌, refl, sym, ap, ap₂, ◌∙◌}
use mathlib.Core.Bool.{Bool, true, false, cond}
use mathlib.Core.List.{List, [], ◌∷◌, ◌++◌, append-nil}
use Prim.Native.Nat.{ℕ, zero, suc, ◌+◌, ◌≤◌, ◌<◌}
use native.Mathlib.Numerals.{add-one}
use native.Mathlib.Omega.{arith}
use lib.IntN.{ℤ}
use lib.ListN.{length, get_or, take, drop, set, replicate, length-replicate, length-take, drop_of_length-le}
use lib.Seq.{length-take-le, set_at, drop-cons, append_snoc}
use mir.Val.{bool_byte}
use Rattle.evaluation.specs.declared.Evaluation.{Evaluation}
use Rattle.evaluation.specs.declared.Manner.{Manner}
use Rattle.evaluation.specs.declared.Evaluation.TheVariants.{Unknown, Failed, Value}
use Rattle.evaluation.specs.Numbers.{eq_z, boolean}
use Rattle.evaluation.specs.Meaning.{is_true}
use Rattle.results.specs.Results.{over}
use Rattle.scratch.specs.Blank.{unknown_cell}
use Rattle.expressions.specs.Cells.{valuation_of}
use Rattle.model.specs.declared.Model.{Model}
use Rattle.std.specs.Prelude.{Option}
use Rattle.propagation.specs.Cells.{cells_of}
use Rattle.propagation.proofs.Overwriting.{cell_count}
use Rattle.propagation.proofs.Finishing.{over_all}
use Rattle.propagation.proofs.Valuations.{known_values}
use Rattle.semantics.specs.Meanings.{Meaning, guard_over, meaning_of}
use Rattle.engine.specs.Cells.{Loaded}
use Rattle.engine.proofs.Counts.{meaning}
use Rattle.marking.specs.Marks.{mark_of, marks_from, marks_over}
use Rattle.variables.specs.declared.VariableRow.{VariableRow}

-- ---- one mark

byte : (b : Bool) → bool_byte b ≡ cond b 1 0
byte true = refl
byte false = refl

-- where the guard did not fail
pub marked_by_truth : {b : Bool} {n : ℕ} (g : Evaluation) → ((m : Manner) → g ≡ Failed m → ⊥) → b ≡ is_true g → n ≡ bool_byte b → n ≡ mark_of g
unfolding mark_of is_true
marked_by_truth Unknown f t h = h ∙ ap bool_byte t
marked_by_truth (Failed manner) f t h = absurd (f manner refl)
marked_by_truth (Value v) f t h = h ∙ ap bool_byte t ∙ byte (eq_z v (boolean true))

-- ---- the marks, one after another

module _ (m : Meaning) (values : List ℤ) where
  pub length_marks : (t n : ℕ) → length (marks_from m values t n) ≡ n
  unfolding marks_from
  length_marks t zero = refl
  length_marks t (suc n) = ap suc (length_marks (suc t) n)

  marks_suc : (t n k : ℕ) → k ≡ t + n → marks_from m values t (suc n) ≡ marks_from m values t n ++ (mark_of (m.guard k values) ∷ [])
  unfolding marks_from
  marks_suc t zero k e = let s : k ≡ t = omega arith in rw s
  marks_suc t (suc n) k e = ap (λ l. mark_of (m.guard t values) ∷ l) (marks_suc (suc t) n k (omega arith))

  module _ (old : List ℕ) where
    pub marks_before : old ≡ marks_from m values 0 0 ++ drop 0 old
    unfolding marks_from
    marks_before = refl

    pub marks_step : (i : ℕ) → i < length old → (new : List ℕ) → new ≡ marks_from m values 0 i ++ drop i old
        → (x : ℕ) → x ≡ mark_of (m.guard i values) → set new i x ≡ marks_from m values 0 (i + 1) ++ drop (i + 1) old
    marks_step i h new e x marked =
        let done = marks_from m values 0 i in
        ap (λ l. set l i x) e
        ∙ ap (λ l. set (done ++ l) i x) (drop-cons old i 0 h)
        ∙ set_at done (get_or old i 0) (drop (suc i) old) x i (length_marks 0 i)
        ∙ ap (λ x. done ++ x ∷ drop (suc i) old) marked
        ∙ sym (append_snoc done (mark_of (m.guard i values)) (drop (suc i) old))
        ∙ ap (λ l. l ++ drop (suc i) old) (sym (marks_suc 0 i i (omega arith)))
        ∙ ap (λ n. marks_from m values 0 n ++ drop n old) (sym (add-one i))

module _ (m : Meaning) (values : List ℤ) (old : List ℕ) where
  -- the first cells are all marked, and the others stand after them
  pub marks_all : (v : ℕ) → v ≡ length m.declarations → (i count : ℕ) → i ≡ count → count ≡ m.transitions → (items : List ℕ)
      → items ≡ marks_from m (take v values) 0 i ++ drop i (take count old) → items ++ drop count old ≡ marks_over m values old
  marks_all v p i count r q items e =
      let past : drop i (take count old) ≡ [] = drop_of_length-le (take count old) {i = i} (omega (arith, length-take count old)) in
      let marked : items ≡ marks_from m (take v values) 0 i = e ∙ ap (λ l. marks_from m (take v values) 0 i ++ l) past ∙ append-nil _ in
      ap (λ l. l ++ drop count old) marked
      ∙ ap (λ v. marks_from m (take v values) 0 i ++ drop count old) p
      ∙ ap₂ (λ i count. marks_from m (take (length m.declarations) values) 0 i ++ drop count old) (r ∙ q) q

-- ---- the cells that the guards are evaluated over

module _ {model : Model} {kinds : List ℕ} {parameters : List ℤ} {rows : List VariableRow} {nexts guards : List ℕ}
    (d : Loaded model kinds parameters rows nexts guards) (values : List ℤ) (enough : length rows ≤ length values)
    (cells array : List (Option ℤ)) (long : length array ≡ length rows) (is : cells ≡ over (cells_of (take (length rows) values)) array) where
  cells_hold : cells ≡ cells_of (take (length rows) values)
  cells_hold =
      is ∙ over_all (cells_of (take (length rows) values)) array (omega (arith, cell_count (take (length rows) values), length-take-le (length rows) values enough, long))

  -- the guard over the cells is the guard over the values
  pub guard_held : (i : ℕ) (g : Evaluation) → g ≡ guard_over d.decoded.system i (valuation_of cells)
      → (x : ℕ) → x ≡ mark_of g → x ≡ mark_of ((meaning d).guard i (take (length rows) values))
  unfolding meaning_of
  guard_held i g e x marked =
      marked ∙ ap mark_of (e ∙ ap (λ l. guard_over d.decoded.system i (valuation_of l)) cells_hold
      ∙ ap (guard_over d.decoded.system i) (known_values (take (length rows) values)))

-- ---- the cells are blank again

module _ (n : ℕ) (blank : List (Option ℤ)) (unknown : blank ≡ replicate n unknown_cell) where
  pub length_blank : length blank ≡ n
  length_blank = ap length unknown ∙ length-replicate n unknown_cell
