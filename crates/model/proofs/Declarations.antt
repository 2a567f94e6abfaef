-- What the functions that walk over variables answer: a law for each, step by step as they go; for the row of them one for each
-- place where it returns.
use mathlib.Core.Path.{◌≡◌, refl, sym, ap, ◌∙◌}
use mathlib.Core.List.{List, [], ◌∷◌, ◌++◌, append_assoc, append-nil}
use Prim.Native.Nat.{ℕ, zero, suc, ◌+◌, ◌-◌, ◌≤◌, ◌<◌}
use native.Mathlib.Nat.{add_assoc}
use native.Mathlib.Numerals.{add-one}
use native.Mathlib.Omega.{arith}
use mathlib.Core.Bool.{Bool, true, false, cond}
use lib.Dec.{eqb}
use lib.IntN.{ℤ, pos}
use lib.ListN.{length, take, set}
use lib.Seq.{take-suc-set, take_all}
use Rattle.std.specs.Prelude.{Result, Ok, Err}
use Rattle.results.specs.declared.refusal.Refusal.{Refusal}
use Rattle.evaluation.specs.Numbers.{greatest}
use Rattle.syntax.specs.declared.Cursor.{Cursor}
use Rattle.kinds.specs.declared.Sort.{Sort}
use Rattle.kinds.specs.declared.Sort.TheVariants.{Boolean, Number}
use Rattle.kinds.specs.declared.Place.TheVariants.{HighEnd, FirstValue}
use Rattle.model.specs.declared.Declaration.{Declaration}
use Rattle.model.specs.Trees.{Variable, sorts_of}
use Rattle.model.specs.Walk.{Walk, and_then, outcome, declaration_of, range_at, variable_at, row_at}
use Rattle.syntax.specs.Readings.{kind_at, parameter_at, variable_reading, variable_refusal, end_reading, end_refusal}
use Rattle.model.specs.Walk.Walk.{refused, found}
use Rattle.model.proofs.Walking.{Walked, split, and_step, step_due, one_less, row_none, row_more}

-- what a walk over a variable tells
abbrev pub Declared : Type 0
Declared = Result Declaration Refusal

module _ (ks : List ℕ) (ps : List ℤ) where
  -- the ends and the first value of a number
  pub range_declared : (low : ℤ) (at : ℕ) → declaration_of (range_at ks ps low at)
      ≡ and_step (end_reading ks ps HighEnd low greatest at) (λ high. and_step (end_reading ks ps FirstValue low high.parameter high.next.at)
      (λ first. Ok (record { sort = Number; low = low; high = high.parameter; first = first.parameter; next = first.next })))
  unfolding range_at declaration_of
  range_declared low at =
      step_due declaration_of (λ r. refl) ks ps (end_refusal ks ps HighEnd low greatest at) at _ _ (λ e.
      step_due declaration_of (λ r. refl) ks ps (end_refusal ks ps FirstValue low (parameter_at ks ps at) (at + 1)) (at + 1) _ _ (λ f.
      rw (add_assoc at 1 1)))

  pub variable_declared : (at : ℕ) → declaration_of (variable_at ks ps at)
      ≡ and_step (variable_reading ks ps at) (λ node. cond (eqb node.kind 1)
      (Ok (record { sort = Boolean; low = pos 0; high = pos 1; first = node.parameter; next = node.next }))
      (declaration_of (range_at ks ps node.parameter node.next.at)))
  unfolding variable_at declaration_of
  variable_declared at = step_due declaration_of (λ r. refl) ks ps (variable_refusal ks ps at) at _ _ (λ e. by (eqb (kind_at ks ps at) 1) _ _ _)
    where
      by : (t : Bool) (v : Variable) (n : ℕ) (w : Walk Variable) → declaration_of (cond t (found v n) w)
          ≡ cond t (Ok (record { sort = v.sort; low = v.low; high = v.high; first = v.first; next = record { at = n } })) (declaration_of w)
      by true v n w = refl
      by false v n w = refl

-- ---- the variables in a row

-- what a declaration tells of the walk
declared_refused : (w : Walk Variable) {r : Declared} {n : Refusal} → r ≡ declaration_of w → r ≡ Err n → Err n ≡ outcome w
unfolding declaration_of outcome
declared_refused (refused m) {n = n} e h = let q : m ≡ n = cc in ap Err (sym q)
declared_refused (found v next) e h = absurd (split h e)

module _ {r : Declared} {d : Declaration} (h : r ≡ Ok d) where
  declared_found : (w : Walk Variable) → r ≡ declaration_of w → w ≡ found (record { sort = d.sort; low = d.low; high = d.high; first = d.first }) d.next.at
  unfolding declaration_of
  declared_found (refused m) e = absurd (split e h)
  declared_found (found v next) e =
      let q : record { sort = v.sort; low = v.low; high = v.high; first = v.first; next = record { at = next } } ≡ d = cc in
      ap (λ (x : Declaration). found (record { sort = x.sort; low = x.low; high = x.high; first = x.first }) x.next.at) q

-- `x` is the outcome of the whole row, of which n are left, from place `at` on
module _ {A : Type 0} (item : ℕ → Walk A) where
  row_refused : (n at : ℕ) {x : Walked} {m : Refusal} → 0 < n → x ≡ outcome (row_at item n at) → outcome (item at) ≡ Err m → Err m ≡ x
  row_refused zero at l i e = absurd (omega arith)
  row_refused (suc n) at l i e = rw (i, row_more item (suc n) at l, e)

  row_next : (n at : ℕ) {x : Walked} {c : Cursor} → 0 < n → x ≡ outcome (row_at item n at) → outcome (item at) ≡ Ok c → x ≡ outcome (row_at item (n - 1) c.at)
  row_next zero at l i e = absurd (omega arith)
  row_next (suc n) at l i e = i ∙ rw (row_more item (suc n) at l, e)

  row_done : (n at : ℕ) {x : Walked} → n ≤ 0 → x ≡ outcome (row_at item n at) → Ok (record { at = at }) ≡ x
  row_done zero at l i = sym (i ∙ row_none item 0 at refl)
  row_done (suc n) at l i = absurd (omega arith)

-- a row that was read, without its first
rest_of : {A : Type 0} (item : ℕ → Walk A) (n at : ℕ) {place next : ℕ} {a : A} {list : List A} → 0 < n → item at ≡ found a place
    → row_at item n at ≡ found list next → (rest : List A) × (row_at item (n - 1) place ≡ found rest next) × (a ∷ rest ≡ list)
unfolding row_at and_then
rest_of item zero at l f e = absurd (omega arith)
rest_of {A} item (suc n) at {place} {next} {a} {list} l f e = rw (one_less n) (by (row_at item n place) (rw f at e))
  where
    by : (w : Walk (List A)) → and_then w (λ rest last. found (a ∷ rest) last) ≡ found list next → (rest : List A) × (w ≡ found rest next) × (a ∷ rest ≡ list)
    by (refused m) e = cc
    by (found rest last) e = let q : last ≡ next = cc in (rest, ap (found rest) q, cc)

rest_none : {A : Type 0} (item : ℕ → Walk A) (n at : ℕ) {next : ℕ} {list : List A} → n ≤ 0 → row_at item n at ≡ found list next → list ≡ []
unfolding row_at
rest_none item zero at l e = cc
rest_none item (suc n) at l e = absurd (omega arith)

-- one more sort stored
one_more : (sorts : List Sort) (i : ℕ) (sort : Sort) (tail : List Sort) → i < length sorts → take (i + 1) (set sorts i sort) ++ tail ≡ take i sorts ++ (sort ∷ tail)
one_more sorts i sort tail b = rw (add-one, take-suc-set sorts i sort b, append_assoc)

-- The sorts of the i variables read so far stand in front; `n` variables are left, from place `at` on.
pub record Stored (item : ℕ → Walk Variable) (row : Walk (List Variable)) (sorts : List Sort) (i n at : ℕ) : Type 0 where
  pub outcomes : outcome row ≡ outcome (row_at item n at)
  pub stored : (vs : List Variable) (next : ℕ) → row ≡ found vs next
      → (rest : List Variable) × (row_at item n at ≡ found rest next) × (take i sorts ++ sorts_of rest ≡ sorts_of vs)

-- what is to be shown: the outcome, and the sorts where the variables were read
abbrev Post : Walk (List Variable) → Walked → List Sort → Type 0
Post row r sorts = (r ≡ outcome row) × ((vs : List Variable) (next : ℕ) → row ≡ found vs next → sorts ≡ sorts_of vs)

refused_nothing : (row : Walk (List Variable)) {m : Refusal} {vs : List Variable} {next : ℕ} → Err m ≡ outcome row → row ≡ found vs next → ⊥
unfolding outcome
refused_nothing row {m} {vs} {next} q f = let z : ◌≡◌ {A = Walked} (Err m) (Ok (record { at = next })) = q ∙ ap outcome f in cc

module _ (item : ℕ → Walk Variable) where
  pub stored_none : (sorts : List Sort) (count n at : ℕ) → n ≡ count → Stored item (row_at item count at) sorts 0 n at
  stored_none sorts count n at e = rw e (record { outcomes = refl; stored = λ vs next e. (vs, e, refl) })

  module _ {row : Walk (List Variable)} (sorts : List Sort) (i n at : ℕ) (S : Stored item row sorts i n at) where
    module _ (l : 0 < n) {r : Declared} (e : r ≡ declaration_of (item at)) where
      pub stored_refused : {m : Refusal} (sorts : List Sort) → r ≡ Err m → Post row (Err m) sorts
      stored_refused sorts h =
          let q : Err _ ≡ outcome row = row_refused item n at l S.outcomes (sym (declared_refused (item at) e h)) in
          (q, λ vs next f. absurd (refused_nothing row q f))

      pub stored_next : {d : Declaration} (m : ℕ) → m ≡ n - 1 → r ≡ Ok d → i < length sorts
          → Stored item row (set sorts i d.sort) (i + 1) m d.next.at
      unfolding outcome
      stored_next {d} m k h b =
          let v : Variable = record { sort = d.sort; low = d.low; high = d.high; first = d.first } in
          let f : item at ≡ found v d.next.at = declared_found h (item at) e in
          rw k (record {
            outcomes = row_next item n at l S.outcomes (ap outcome f);
            stored = λ vs next q.
                let s = S.stored vs next q in
                let t = rest_of item n at l f s.1 in
                (t.0, t.1, one_more sorts i d.sort (sorts_of t.0) b ∙ ap (λ (x : List Variable). take i sorts ++ sorts_of x) t.2 ∙ s.2);
          })

    pub stored_whole : length sorts ≤ i → n ≤ 0 → Post row (Ok (record { at = at })) sorts
    stored_whole k l = (
      row_done item n at l S.outcomes,
      λ vs next q.
          let s = S.stored vs next q in
          sym (append-nil sorts)
          ∙ (ap (λ (x : List Sort). x ++ []) (sym (take_all i sorts k)) ∙ ap (λ (x : List Variable). take i sorts ++ sorts_of x) (sym (rest_none item n at l s.1)) ∙ s.2),
    )
