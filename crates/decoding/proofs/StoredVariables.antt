-- The loops of the decoding that store something of each variable, its sort or its row, by what is left to store.
use mathlib.Core.Path.{◌≡◌, refl, sym, ap, ◌∙◌, subst}
use mathlib.Core.Bool.{Bool, true, false, cond}
use mathlib.Core.List.{List, [], ◌∷◌, ◌++◌, map, append-nil}
use Prim.Native.Nat.{ℕ, zero, suc, ◌+◌, ◌-◌, ◌≤◌, ◌<◌}
use native.Mathlib.Numerals.{add-one}
use native.Mathlib.Nat.{zero-add}
use native.Mathlib.Omega.{arith}
use Rattle.std.proofs.lemmas.Bool.{true≢false}
use lib.Dec.{eqb}
use lib.IntN.{ℤ, pos}
use lib.ListN.{length, get_or, set, drop, length-set, length-map, drop_of_length-le}
use lib.Seq.{sets, sets-eq}
use Rattle.kinds.specs.declared.Sort.TheVariants.{Boolean, Number}
use Rattle.results.specs.Results.{over}
use Rattle.syntax.specs.Readings.{variable_refusal, end_refusal}
use Rattle.model.specs.Trees.{Variable}
use Rattle.model.specs.Walk.{Walk, and_then, row_at, range_at, variable_at}
use Rattle.model.specs.Walk.Walk.{refused, found}
use Rattle.model.proofs.WalkClaims.{Holds, holds_found, holds_unless, no_refusal}
use Rattle.variables.specs.declared.VariableRow.{VariableRow}
use Rattle.variables.specs.Rows.{variable_row}
use Rattle.decoding.specs.Decoding.{VariablesRead}

-- ---- rows of anything

record RowStep {A : Type 0} (item : ℕ → Walk A) (n at : ℕ) (list : List A) (next : ℕ) : Type 0 where
  first : A
  second : ℕ
  rest : List A
  read : item at ≡ found first second
  parts : list ≡ first ∷ rest
  row : row_at item n second ≡ found rest next

module _ {A : Type 0} (item : ℕ → Walk A) where
  row_rest : (n at : ℕ) (list : List A) (next : ℕ) (first : A) (second : ℕ) → item at ≡ found first second → (w : Walk (List A)) → row_at item n second ≡ w
      → and_then w (λ rest last. found (first ∷ rest) last) ≡ found list next → RowStep item n at list next
  unfolding and_then
  row_rest n at list next first second r (refused k) h e = cc
  row_rest n at list next first second r (found rest last) h e =
      let p : first ∷ rest ≡ list = cc in
      let q : last ≡ next = cc in
      record { first = first; second = second; rest = rest; read = r; parts = sym p; row = h ∙ ap (found rest) q }

  row_first : (n at : ℕ) (list : List A) (next : ℕ) (w : Walk A) → item at ≡ w
      → and_then w (λ a next. and_then (row_at item n next) (λ rest last. found (a ∷ rest) last)) ≡ found list next → RowStep item n at list next
  unfolding and_then
  row_first n at list next (refused k) h e = cc
  row_first n at list next (found first second) h e = row_rest n at list next first second h (row_at item n second) refl e

  row_step : (n at : ℕ) (list : List A) (next : ℕ) → row_at item (suc n) at ≡ found list next → RowStep item n at list next
  unfolding row_at
  row_step n at list next e = row_first n at list next (item at) refl e

  row_length : (n at : ℕ) (list : List A) (next : ℕ) → row_at item n at ≡ found list next → length list ≡ n
  unfolding row_at
  row_length zero at list next e = let p : [] ≡ list = cc in ap length (sym p)
  row_length (suc n) at list next e =
      let r = row_step n at list next e in ap length r.parts ∙ ap suc (row_length n r.second r.rest next r.row)

-- ---- one variable

module _ (ks : List ℕ) (ps : List ℤ) where
  -- the variable of one node, and of three
  abbrev boolean_at : ℕ → Variable
  boolean_at at = record { sort = Boolean; low = pos 0; high = pos 1; first = get_or ps at (pos 0) }

  abbrev number_at : ℕ → Variable
  number_at at = record { sort = Number; low = get_or ps at (pos 0); high = get_or ps (at + 1) (pos 0); first = get_or ps (at + 2) (pos 0) }

  record VariableRead (at : ℕ) (v : Variable) (next : ℕ) : Type 0 where
    within : at < length ks
    boolean : eqb (get_or ks at 0) 1 ≡ true → found v next ≡ found (boolean_at at) (at + 1)
    number : eqb (get_or ks at 0) 1 ≡ false → (at + 2 < length ks) × (found v next ≡ found (number_at at) (at + 3))

  variable_found : (at : ℕ) → Holds (VariableRead at) (variable_at ks ps at)
  unfolding Holds variable_at variable_refusal range_at end_refusal
  variable_found at =
      holds_unless (VariableRead at) _ _
      (λ e.
      let d = no_refusal ks ps _ _ 1 at e in
      go d.within (eqb (get_or ks at 0) 1) refl)
    where
      go : at < length ks → (b : Bool) → eqb (get_or ks at 0) 1 ≡ b
          → Holds (VariableRead at) (cond b (found (boolean_at at) (at + 1)) (range_at ks ps (get_or ps at (pos 0)) (at + 1)))
      go l true e = record { within = l; boolean = λ k. refl; number = λ k. absurd (true≢false (sym e ∙ k)) }
      go l false e =
          holds_unless (VariableRead at) _ _
          (λ f.
          holds_unless (VariableRead at) _ _
          (λ g.
          let d = no_refusal ks ps _ _ 1 (at + 1 + 1) g in
          let two : at + 1 + 1 ≡ at + 2 = omega arith in
          let three : at + 1 + 2 ≡ at + 3 = omega arith in
          record {
            within = l;
            boolean = λ k. absurd (true≢false (sym k ∙ e));
            number = λ k. (
              omega (arith, d.within),
              (λ i. found (record { sort = Number; low = get_or ps at (pos 0); high = get_or ps (at + 1) (pos 0); first = get_or ps (two i) (pos 0) }) (three i)),
            );
          }))

-- ---- stores

-- as many as there are cells
pub sets_all : {A : Type 0} (new old : List A) → length new ≡ length old → sets old 0 new ≡ new
sets_all new old e =
    sets-eq new old 0 (omega (arith, e))
    ∙ ap (λ n. new ++ drop n old) (zero-add (length new))
    ∙ ap (λ l. new ++ l) (drop_of_length-le old {i = length new} (omega (arith, e)))
    ∙ append-nil new

-- what fills the first cells, which were lent alone, stands over all of them
pub cells_over : {A : Type 0} {part new : List A} (old : List A) {n : ℕ} → part ≡ new → length new ≡ n → part ++ drop n old ≡ over new old
cells_over {new = new} old {n = n} e h = ap (λ part. part ++ drop n old) e ∙ ap (λ n. new ++ drop n old) (sym h)

record VariablesLeft {A : Type 0} (f : Variable → A) (ks : List ℕ) (ps : List ℤ) (n at i : ℕ) (now then : List A) (vs : List Variable) (next : ℕ) : Type 0 where
  rest : List Variable
  row : row_at (variable_at ks ps) n at ≡ found rest next
  same : sets now i (map f rest) ≡ sets then 0 (map f vs)

-- what f tells of each variable before number i is stored
pub record VariablesStored {A : Type 0} (f : Variable → A) (ks : List ℕ) (ps : List ℤ) (i at : ℕ) (now then : List A) : Type 0 where
  pub bound : i ≤ length then
  pub long : length now ≡ length then
  left : (r : VariablesRead ks ps (length then)) → VariablesLeft f ks ps (length then - i) at i now then r.variables r.next

module _ {A : Type 0} (f : Variable → A) (ks : List ℕ) (ps : List ℤ) where
  pub variables_begin : (cells : List A) → VariablesStored f ks ps 0 0 cells cells
  variables_begin cells =
      let e : length cells ≡ length cells - 0 = omega arith in
      record {
        bound = omega arith;
        long = refl;
        left = λ r. record { rest = r.variables; row = subst (λ n. row_at (variable_at ks ps) n 0 ≡ found r.variables r.next) e r.row; same = refl };
      }

  -- the variable that is left first is the one that was read
  left_turn : (n at i : ℕ) (now then : List A) (vs : List Variable) (next : ℕ) (v : Variable) (second : ℕ) → variable_at ks ps at ≡ found v second
      → VariablesLeft f ks ps (suc n) at i now then vs next → VariablesLeft f ks ps n second (i + 1) (set now i (f v)) then vs next
  left_turn n at i now then vs next v second h l =
      let r = row_step (variable_at ks ps) n at l.rest next l.row in
      let p : r.first ≡ v = cc (h, r.read) in
      let q : r.second ≡ second = cc (h, r.read) in
      record {
        rest = r.rest;
        row = ap (row_at (variable_at ks ps) n) (sym q) ∙ r.row;
        same =
            ap (λ k. sets (set now i (f v)) k (map f r.rest)) (add-one i)
            ∙ ap (λ v. sets now i (map f (v ∷ r.rest))) (sym p)
            ∙ ap (λ vs. sets now i (map f vs)) (sym r.parts)
            ∙ l.same;
      }

  module _ (i at : ℕ) (now then : List A) (s : VariablesStored f ks ps i at now then) (l : i < length then) where
    more : length then - i ≡ suc (length then - (i + 1))
    more = omega arith

    left_now : (r : VariablesRead ks ps (length then)) → VariablesLeft f ks ps (suc (length then - (i + 1))) at i now then r.variables r.next
    left_now r = subst (λ n. VariablesLeft f ks ps n at i now then r.variables r.next) more (s.left r)

    first_left : (r : VariablesRead ks ps (length then)) → RowStep (variable_at ks ps) (length then - (i + 1)) at (left_now r).rest r.next
    first_left r = row_step (variable_at ks ps) (length then - (i + 1)) at (left_now r).rest r.next (left_now r).row

    first_read : (r : VariablesRead ks ps (length then)) → VariableRead ks ps at (first_left r).first (first_left r).second
    first_read r = holds_found (VariableRead ks ps at) (variable_found ks ps at) (first_left r).read

    -- the node, or the three nodes, are there
    pub node_left : VariablesRead ks ps (length then) → at < length ks
    node_left r = (first_read r).within

    pub nodes_left : VariablesRead ks ps (length then) → {b : Bool} → b ≡ eqb (get_or ks at 0) 1 → b ≡ false → at + 2 < length ks
    nodes_left r e n = ((first_read r).number (sym e ∙ n)).0

    turn : (v : Variable) (second : ℕ) → ((r : VariablesRead ks ps (length then)) → variable_at ks ps at ≡ found v second)
        → VariablesStored f ks ps (i + 1) second (set now i (f v)) then
    turn v second h =
        record {
          bound = omega arith;
          long = length-set now i (f v) ∙ s.long;
          left = λ r. left_turn (length then - (i + 1)) at i now then r.variables r.next v second (h r) (left_now r);
        }

    pub boolean_turn : eqb (get_or ks at 0) 1 ≡ true → VariablesStored f ks ps (i + 1) (at + 1) (set now i (f (boolean_at ks ps at))) then
    boolean_turn k = turn (boolean_at ks ps at) (at + 1) (λ r. (first_left r).read ∙ (first_read r).boolean k)

    pub number_turn : eqb (get_or ks at 0) 1 ≡ false → VariablesStored f ks ps (i + 1) (at + 3) (set now i (f (number_at ks ps at))) then
    number_turn k = turn (number_at ks ps at) (at + 3) (λ r. (first_left r).read ∙ ((first_read r).number k).1)

  -- the same, by other names
  pub stored_same : {i at at' : ℕ} {now now' then : List A} → now' ≡ now → at' ≡ at
      → VariablesStored f ks ps i at now then → VariablesStored f ks ps i at' now' then
  stored_same a b s = rw (a, b) s

  -- what the loop has stored at its end
  pub variables_end : (i at : ℕ) (now old : List A) → VariablesStored f ks ps i at now old → length old ≤ i
      → (r : VariablesRead ks ps (length old)) → (at ≡ r.next) × (now ≡ map f r.variables)
  unfolding row_at
  variables_end i at now old s h r =
      let l = s.left r in
      let none : length old - i ≡ 0 = omega arith in
      let e : found [] at ≡ found l.rest r.next = subst (λ n. row_at (variable_at ks ps) n at ≡ found l.rest r.next) none l.row in
      let p : [] ≡ l.rest = cc in
      let q : at ≡ r.next = cc in
      let n : length (map f r.variables) ≡ length old = length-map r.variables f ∙ row_length (variable_at ks ps) (length old) 0 r.variables r.next r.row in (
        q,
        ap (λ vs. sets now i (map f vs)) p ∙ l.same ∙ sets_all (map f r.variables) old n,
      )

-- ---- a turn that stores a row, by what was read of it

module _ (ks : List ℕ) (ps : List ℤ) (i at : ℕ) (now then : List VariableRow) (s : VariablesStored variable_row ks ps i at now then) (l : i < length then) where
  pub boolean_row : (first : ℤ) → first ≡ get_or ps at (pos 0) → eqb (get_or ks at 0) 1 ≡ true
      → VariablesStored variable_row ks ps (i + 1) (at + 1) (set now i (record { low = pos 0; high = pos 1; first = first })) then
  boolean_row first e k = rw e (boolean_turn variable_row ks ps i at now then s l k)

  pub number_row : (low high first : ℤ) → low ≡ get_or ps at (pos 0) → high ≡ get_or ps (at + 1) (pos 0) → first ≡ get_or ps (at + 2) (pos 0)
      → eqb (get_or ks at 0) 1 ≡ false → VariablesStored variable_row ks ps (i + 1) (at + 3) (set now i (record { low = low; high = high; first = first })) then
  number_row low high first a b c k = rw (a, b, c) (number_turn variable_row ks ps i at now then s l k)
