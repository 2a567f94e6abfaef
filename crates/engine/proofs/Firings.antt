-- Starting and firing on a loaded model: what the code answers and leaves is as the definitions `begun` and `fired` have it.
use Rattle.std.specs.Prelude.{Err, Result, Ok, Option}
use Rattle.std.specs.Result.{is_ok, MatchResult}
use Rattle.std.proofs.lemmas.Result.{MatchResult-at_ok}
use mathlib.Core.Bool.{true, false, true≢false}
use mathlib.Core.Path.{◌≡◌, refl, sym, ap, ap₂, subst, ◌∙◌}
use mathlib.Core.List.{List, ◌++◌}
use mathlib.Core.Logic.{⊎_elim}
use Prim.Native.Nat.{ℕ, ◌+◌, ◌-◌, ◌≤◌, ◌<◌}
use native.Mathlib.Omega.{arith}
use borrow.Author.Tests.{lt-ltb, le-ltb, eq-eqb, ne_eqb}
use lib.IntN.{ℤ, pos}
use lib.ListN.{length, take, drop, replicate, length-take, length-replicate}
use Rattle.model.specs.declared.Model.{Model}
use Rattle.model.specs.Trees.{variables}
use Rattle.semantics.specs.declared.NotFired.{NotFired}
use Rattle.semantics.specs.declared.NotFired.TheVariants.{Disabled, AssertionFault}
use Rattle.interpreter.specs.declared.Fault.{Fault}
use Rattle.semantics.specs.Propagation.{settle}
use Rattle.semantics.specs.Meanings.{meaning_of}
use Rattle.semantics.specs.Firing.{Firing, left_by_settling, fired, begun}
use Rattle.scratch.specs.Blank.{unknown_cell, BlankFiring}
use Rattle.waiting.proofs.Mentions.{le_or_lt}
use Rattle.propagation.specs.Cells.{PropagationStands, flows_by_settling}
use Rattle.results.specs.Results.{answered}
use Rattle.engine.specs.Cells.{Loaded, LeftByChanging}
use Rattle.engine.proofs.Loading.{loaded_states, loaded_flows, assertion_stands}
use Rattle.engine.proofs.Guards.{length_all, all_rows}
use Rattle.engine.proofs.Entering.{flow_part, with_flows, part_stands, enter_refused, enter_settled}
use Rattle.variables.specs.declared.VariableRow.{VariableRow}

-- ---- an error that is mapped: which result was there before

module _ {T E D : Type 0} (r : Result T E) (out : Result T D) (variant : is_ok out ≡ is_ok r) where
  -- the error that there was
  pub err_of : {d : D} → out ≡ Err d → (e : E) × (r ≡ Err e)
  err_of {d} is = by r (sym variant ∙ ap is_ok is)
    where
      by : (r : Result T E) → is_ok r ≡ false → (e : E) × (r ≡ Err e)
      by (Ok x) h = absurd (true≢false h)
      by (Err e) h = (e, refl)

  -- a value stays
  pub ok_of : (Q : E → Type 0) → MatchResult r (λ x. out ≡ Ok x) Q → {y : T} → out ≡ Ok y → r ≡ Ok y
  ok_of Q same {y} is = by r refl (sym variant ∙ ap is_ok is)
    where
      by : (s : Result T E) → r ≡ s → is_ok s ≡ true → r ≡ Ok y
      by (Ok x) e h =
          let z : out ≡ Ok x = MatchResult-at_ok (λ x. out ≡ Ok x) Q x e same in
          let w : x ≡ y = cc (z, is) in
          e ∙ ap Ok w
      by (Err x) e h = absurd (true≢false (sym h))

module _ {model : Model} {kinds : List ℕ} {parameters : List ℤ} {rows : List VariableRow} {nexts guards : List ℕ}
    (d : Loaded model kinds parameters rows nexts guards) where
  pub length_rows : length rows ≡ model.sizes.states + model.sizes.flows
  length_rows = all_rows d ∙ length_all d

  -- ---- starting

  module _ (ss old : List ℤ) where
    pub begin_short : length old < model.sizes.states + model.sizes.flows → answered (Err Disabled) old ≡ begun (meaning_of d.decoded.system) ss old
    unfolding begun meaning_of
    begin_short h = rw (lt-ltb (length old) (length (variables d.decoded.system)) (omega (arith, length_all d)))

    -- more or fewer values than there are states
    pub begin_other : model.sizes.states + model.sizes.flows ≤ length old → (length ss ≡ model.sizes.states → ⊥)
        → answered (Err Disabled) old ≡ begun (meaning_of d.decoded.system) ss old
    unfolding begun meaning_of
    begin_other h n =
        rw (
          le-ltb (length old) (length (variables d.decoded.system)) (omega (arith, length_all d)),
          ne_eqb (length ss) (length d.decoded.system.states) (λ e. n (e ∙ sym (loaded_states d))),
        )

    module _ (room : model.sizes.states + model.sizes.flows ≤ length old) (long : length ss ≡ model.sizes.states) where
      begun_is : begun (meaning_of d.decoded.system) ss old ≡ left_by_settling old ((meaning_of d.decoded.system).propagate ss)
      unfolding begun meaning_of
      begun_is =
          rw (
            le-ltb (length old) (length (variables d.decoded.system)) (omega (arith, length_all d)),
            eq-eqb (length ss) (length d.decoded.system.states) (long ∙ loaded_states d),
          )

      pub begin_entered : (r : Firing) (left : List ℤ) → answered r left ≡ left_by_settling old (settle d.decoded.system ss)
          → answered r left ≡ begun (meaning_of d.decoded.system) ss old
      unfolding meaning_of
      begin_entered r left e = e ∙ sym begun_is

      module _ (n : ℕ) (all : n ≡ model.sizes.states + model.sizes.flows) where
        abbrev pub begin_stands : PropagationStands kinds parameters nexts rows model.assertion (length ss) (n - model.sizes.states)
        begin_stands =
            record {
              assertion = assertion_stands d;
              state_cells = long ∙ loaded_states d;
              flow_cells = omega (arith, all, loaded_flows d);
            }

        pub rows_all : length rows ≡ n
        rows_all = length_rows ∙ sym all

        pub within : n ≤ length old
        within = omega (arith, all, room)

        abbrev pub flows_stand : PropagationStands kinds parameters nexts rows model.assertion (length ss) (length (flow_part model.sizes.states n old))
        flows_stand = part_stands _ _ ss old long rows_all begin_stands within

        module _ (r : Result ℕ Fault) (flows : List ℤ)
            (left : answered r flows ≡ flows_by_settling (length ss) (flow_part model.sizes.states n old) (settle d.decoded.system ss)) where
          pub begin_refused : (f : Fault) → r ≡ Err f
              → answered (Err (AssertionFault f)) (with_flows model.sizes.states n old flows) ≡ begun (meaning_of d.decoded.system) ss old
          begin_refused f k = begin_entered _ _ (enter_refused _ _ ss old long rows_all begin_stands within r flows left f k)

          pub begin_settled : (count : ℕ) → r ≡ Ok count → (first : List ℤ) → first ≡ ss
              → answered (Ok count) (first ++ drop model.sizes.states (with_flows model.sizes.states n old flows)) ≡ begun (meaning_of d.decoded.system) ss old
          begin_settled count k first h =
              begin_entered _ _ (enter_settled _ _ ss old long rows_all begin_stands within r flows left count k _
              (ap₂ (λ l n'. l ++ drop n' (with_flows model.sizes.states n old flows)) h (sym long)))

    -- the states are the first of those worked in
    pub begun_first : (cells : List ℤ) → ss ≡ take (model.sizes.states - 0) cells
        → begun (meaning_of d.decoded.system) ss old ≡ begun (meaning_of d.decoded.system) (take (meaning_of d.decoded.system).states cells) old
    unfolding meaning_of
    begun_first cells e =
        let s : model.sizes.states - 0 ≡ length d.decoded.system.states = omega (arith, loaded_states d) in
        ap (λ ss. begun (meaning_of d.decoded.system) ss old) (e ∙ ap (λ s. take s cells) s)

  -- fewer cells than there are states
  pub begin_few : (cells old : List ℤ) → length cells < model.sizes.states
      → answered (Err Disabled) old ≡ begun (meaning_of d.decoded.system) (take (meaning_of d.decoded.system).states cells) old
  begin_few cells old few =
      let n = (meaning_of d.decoded.system).states in
      ⊎_elim (λ h. begin_other (take n cells) old h (λ e. omega (arith, e, length-take n cells, few))) (λ h. begin_short (take n cells) old h)
      (le_or_lt (model.sizes.states + model.sizes.flows) (length old))

  -- ---- firing

  module _ (k : ℕ) (old : List ℤ) {nodes : ℕ} {states : List ℤ} {blank given : List (Option ℤ)} {queue waits : List ℕ}
      (b : BlankFiring (length rows) nodes states blank given queue waits) where
    length_blank : length blank ≡ length rows
    length_blank = ap length b.valuation.nothing_known ∙ length-replicate (length rows) unknown_cell

    pub nothing_known_lem : (cells forgotten : List (Option ℤ)) → length cells ≡ length blank → forgotten ≡ replicate (length cells) unknown_cell
        → forgotten ≡ replicate (length rows) unknown_cell
    nothing_known_lem cells forgotten l e = e ∙ ap (λ n. replicate n unknown_cell) (l ∙ length_blank)

    module _ (x : Result (Unit {0}) NotFired) (new : List ℤ) (kept : length new ≡ length states) (changed : LeftByChanging (meaning_of d.decoded.system) k old new x) where
      length_new : length new ≡ length rows
      length_new = kept ∙ ap length b.zeros ∙ length-replicate (length rows) (pos 0)

      module _ (r : NotFired) (over : x ≡ Err r) where
        is_over : LeftByChanging (meaning_of d.decoded.system) k old new (Err r)
        is_over = subst (λ x. LeftByChanging (meaning_of d.decoded.system) k old new x) over changed

        pub over_left : answered (Err r) old ≡ fired (meaning_of d.decoded.system) k old
        unfolding LeftByChanging
        over_left = is_over.0

        pub over_zeros : new ≡ replicate (length rows) (pos 0)
        unfolding LeftByChanging meaning_of
        over_zeros = is_over.1 ∙ ap (λ n. replicate n (pos 0)) (sym (all_rows d))

      length_states : model.sizes.states ≡ length (take model.sizes.states new)
      length_states = simp length-take (omega (arith, length_new, all_rows d, length_all d))

      module _ (going : x ≡ Ok tt) where
        is_open : LeftByChanging (meaning_of d.decoded.system) k old new (Ok tt)
        is_open = subst (λ x. LeftByChanging (meaning_of d.decoded.system) k old new x) going changed

        room : model.sizes.states + model.sizes.flows ≤ length old
        unfolding LeftByChanging meaning_of
        room = omega (arith, is_open.0, length_all d)

        pub fire_entered : (r : Firing) (left : List ℤ)
            → answered r left ≡ begun (meaning_of d.decoded.system) (take (meaning_of d.decoded.system).states new) old
            → answered r left ≡ fired (meaning_of d.decoded.system) k old
        unfolding LeftByChanging meaning_of
        fire_entered r left e =
            e ∙ begun_is (take (meaning_of d.decoded.system).states new) old room (sym long)
            ∙ is_open.1
          where
            long : model.sizes.states ≡ length (take (meaning_of d.decoded.system).states new)
            long = length_states ∙ ap (λ s. length (take s new)) (loaded_states d)
