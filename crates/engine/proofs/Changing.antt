-- The states of a transition are made: where its guard is true the old ones are stored in cells of their own, and its action over
-- the values of all variables changes them.
use Rattle.std.specs.Prelude.{Result, Ok, Err, Option}
use mathlib.Core.Path.{◌≡◌, refl, sym, ap, ◌∙◌}
use mathlib.Core.Bool.{Bool, true, false, true≢false}
use mathlib.Core.List.{List, ◌++◌}
use mathlib.Core.Option.{some}
use Prim.Native.Nat.{ℕ, ◌+◌, ◌≤◌, ◌<◌}
use native.Mathlib.Omega.{arith}
use borrow.Author.Tests.{lt-ltb, le-ltb, ltb-true, ltb-false}
use lib.Dec.{ltb}
use lib.IntN.{ℤ, pos}
use lib.ListN.{length, take, drop, get_or, get_elem?, replicate, length-append, length-take, length-drop, length-replicate}
use lib.Seq.{take_at, take-take}
use Rattle.evaluation.specs.declared.Evaluation.{Evaluation}
use Rattle.model.specs.declared.Model.{Model}
use Rattle.model.specs.Trees.{Transition, System, variables}
use Rattle.interpreter.specs.declared.Fault.{Fault}
use Rattle.expressions.specs.Cells.{valuation_of}
use Rattle.expressions.proofs.Evaluating.{expression_within}
use Rattle.semantics.specs.declared.NotFired.{NotFired}
use Rattle.semantics.specs.declared.NotFired.TheVariants.{Disabled, ActionFault}
use Rattle.semantics.specs.Actions.{Acted, act}
use Rattle.semantics.specs.Actions.Acted.{faulty, states}
use Rattle.semantics.specs.Meanings.{Meaning, guard_over, action_in, meaning_of}
use Rattle.semantics.specs.Firing.{left_by_settling, left_by_acting, left_by_guard, fired}
use Rattle.semantics.proofs.Knowing.{element_below}
use Rattle.propagation.specs.Cells.{states_by_acting, ActionStands}
use Rattle.propagation.proofs.Valuations.{known_values}
use Rattle.results.specs.Results.{answered}
use Rattle.engine.specs.Cells.{Loaded, AllHeld, admission, LeftByChanging}
use Rattle.engine.proofs.Loading.{loaded_well_formed, loaded_states, loaded_places, loaded_guards, loaded_guard, loaded_action, loaded_scoped}
use Rattle.engine.proofs.Counts.{rows_count}
use Rattle.engine.proofs.Guards.{length_all, all_rows, guard_missing, left_over, left_open, not_unknown}
use Rattle.variables.specs.declared.VariableRow.{VariableRow}

-- ---- by what the action comes to

faulty_by : (m : Meaning) (old ss new : List ℤ) (x : Acted) (f : Fault) → answered (Err f) new ≡ states_by_acting ss x
    → answered (Err (ActionFault f)) old ≡ left_by_acting m old x
unfolding states_by_acting left_by_acting
faulty_by m old ss new (faulty g) f e =
    let a : Err f ≡ Err g = ap (λ l. l.answer) e in
    let b : f ≡ g = cc in rw b
faulty_by m old ss new (states n) f e =
    let a : Err f ≡ Ok tt = ap (λ l. l.answer) e in
    let z : true ≡ false = cc in absurd (true≢false z)

clear_by : (m : Meaning) (old ss new : List ℤ) (x : Acted) → answered (Ok tt) new ≡ states_by_acting ss x
    → left_by_settling old (m.propagate new) ≡ left_by_acting m old x
unfolding states_by_acting left_by_acting
clear_by m old ss new (faulty g) e =
    let a : Ok tt ≡ Err g = ap (λ l. l.answer) e in
    let z : true ≡ false = cc in absurd (true≢false z)
clear_by m old ss new (states n) e = rw (ap (λ l. l.left) e)

action_of : (s : System) (k : ℕ) (t : Transition) → get_elem? s.transitions k ≡ some t → (values : List ℤ)
    → act s t.action values ≡ (meaning_of s).action k values
unfolding meaning_of action_in
action_of s k t e values = rw e

module _ {model : Model} {kinds : List ℕ} {parameters : List ℤ} {rows : List VariableRow} {nexts guards : List ℕ}
    (d : Loaded model kinds parameters rows nexts guards) (k : ℕ) (old blank : List ℤ) (zeros : blank ≡ replicate (length rows) (pos 0)) where
  no_states : (l : List ℤ) → l ≡ replicate (length rows) (pos 0) → l ≡ replicate (length (meaning_of d.decoded.system).declarations) (pos 0)
  unfolding meaning_of
  no_states l e = e ∙ ap (λ n. replicate n (pos 0)) (all_rows d)

  length_blank : length blank ≡ length rows
  length_blank = ap length zeros ∙ length-replicate (length rows) (pos 0)

  pub few_states : model.sizes.states ≤ length blank
  few_states = omega (arith, length_blank, all_rows d, length_all d)

  pub over_by_room : length old < model.sizes.states + model.sizes.flows → LeftByChanging (meaning_of d.decoded.system) k old blank (Err Disabled)
  unfolding LeftByChanging fired
  over_by_room h = (rw (lt-ltb (length old) (length (meaning_of d.decoded.system).declarations) short), no_states blank zeros)
    where
      short : length old < length (meaning_of d.decoded.system).declarations
      short = omega (arith, length_all d, rows_count d, all_rows d)

  -- the guard was evaluated over the values of all variables, held as cells
  module _ (fits : model.sizes.states + model.sizes.flows ≤ length old) (cells : List (Option ℤ))
      (held : length rows ≤ length old → AllHeld (length rows) old cells) (x : Evaluation)
      (guarded : x ≡ guard_over d.decoded.system k (valuation_of cells)) (stage : Result (Unit {0}) NotFired) (admitted : stage ≡ admission x) where
    pub length_rows : length rows ≡ model.sizes.states + model.sizes.flows
    length_rows = all_rows d ∙ length_all d

    pub room : length rows ≤ length old
    room = omega (arith, length_rows)

    by_guard_lem : left_by_guard (meaning_of d.decoded.system) k old x ≡ fired (meaning_of d.decoded.system) k old
    unfolding fired meaning_of
    by_guard_lem =
        rw (guarded, (held room).held, known_values (take (length rows) old), all_rows d, le-ltb (length old) (length (variables d.decoded.system)) (omega (arith, length_all d)))

    pub over_by_guard : (r : NotFired) → stage ≡ Err r → LeftByChanging (meaning_of d.decoded.system) k old blank (Err r)
    unfolding LeftByChanging
    over_by_guard r e = (left_over _ k old x r (sym e ∙ admitted) ∙ by_guard_lem, no_states blank zeros)

    -- ---- the firing goes on

    module _ (going : stage ≡ Ok tt) where
      pub within : k < length guards
      within = by (ltb k (length guards)) refl
        where
          by : (t : Bool) → ltb k (length guards) ≡ t → k < length guards
          by true e = ltb-true k (length guards) e
          by false e =
              absurd (not_unknown (sym going ∙ admitted ∙ ap admission (guarded ∙ sym (guard_missing d k (ltb-false k (length guards) e) _))))

      pub transition : (t : Transition) × (get_elem? d.decoded.system.transitions k ≡ some t)
      transition = element_below d.decoded.system.transitions k (omega (arith, within, loaded_guards d))

      pub guard_within_lem : get_or guards k 0 < length nexts
      guard_within_lem =
          rw (loaded_places d).long (expression_within kinds parameters transition.0.guard (get_or guards k 0) (loaded_guard d k transition.0 transition.1)).0

      pub states_within : model.sizes.states ≤ length old
      states_within = omega (arith, room, length_rows)

      pub length_states : model.sizes.states ≡ length (take model.sizes.states old)
      length_states = simp length-take (omega (arith, states_within))

      -- the old states are stored, and the place of the action is looked up
      module _ (array : List ℤ) (stored : array ≡ take model.sizes.states old ++ drop model.sizes.states blank) (at : ℕ) (noted : at ≡ get_or nexts (get_or guards k 0) 0) where
        length_array : length array ≡ length blank
        length_array = ap length stored ∙ simp (length-append, length-drop) (omega (arith, few_states, length_states))

        pub old_states : take model.sizes.states array ≡ take model.sizes.states old
        old_states = ap (take model.sizes.states) stored ∙ take_at (take model.sizes.states old) _ model.sizes.states (sym length_states)

        pub old_within : model.sizes.states ≤ length array
        old_within = omega (arith, length_array, few_states, length_states)

        pub length_old : model.sizes.states ≡ length (take model.sizes.states array)
        length_old = length_states ∙ ap length (sym old_states)

        abbrev pub action_stands : ActionStands kinds parameters nexts rows cells (take model.sizes.states array) at
        action_stands =
            record {
              values = take (length rows) old;
              system = d.decoded.system;
              action = transition.0.action;
              well_formed = loaded_well_formed d;
              scoped = loaded_scoped d k transition.0 transition.1;
              stands = rw noted (loaded_action d k transition.0 transition.1);
              places = loaded_places d;
              rows_held = d.decoded.variables_decoded;
              held = (held room).held;
              long = simp length-take (omega (arith, room, all_rows d));
              states =
                  old_states
                  ∙ rw (← loaded_states d) (sym (take-take model.sizes.states (length rows) old (omega (arith, length_rows))));
            }

        same : take (length rows) old ≡ take (length (variables d.decoded.system)) old
        same = ap (λ n. take n old) (all_rows d)

        acted : left_by_acting (meaning_of d.decoded.system) old (act d.decoded.system transition.0.action (take (length rows) old)) ≡ fired (meaning_of d.decoded.system) k old
        unfolding meaning_of
        acted =
            ap (left_by_acting (meaning_of d.decoded.system) old)
            (action_of d.decoded.system k transition.0 transition.1 (take (length rows) old) ∙ ap ((meaning_of d.decoded.system).action k) same)
            ∙ left_open (meaning_of d.decoded.system) k old x (sym going ∙ admitted)
            ∙ by_guard_lem

        module _ (new : List ℤ) (kept : length new ≡ length (take model.sizes.states array)) (r : Result (Unit {0}) Fault)
            (left : answered r new ≡ states_by_acting (take model.sizes.states array) (act d.decoded.system transition.0.action (take (length rows) old))) where
          length_new : length new ≡ model.sizes.states
          length_new = kept ∙ sym length_old

          pub length_joined : length (new ++ drop model.sizes.states array) ≡ length blank
          length_joined = omega (arith, length-append new (drop model.sizes.states array), length_new, length-drop model.sizes.states array, length_array, old_within)

          new_states : take (meaning_of d.decoded.system).states (new ++ drop model.sizes.states array) ≡ new
          unfolding meaning_of
          new_states = take_at new (drop model.sizes.states array) _ (length_new ∙ loaded_states d)

          enough : length (meaning_of d.decoded.system).declarations ≤ length old
          enough = omega (arith, room, rows_count d)

          pub over_by_action : (f : Fault) → r ≡ Err f → (cleared : List ℤ) → cleared ≡ replicate (length (new ++ drop model.sizes.states array)) (pos 0)
              → LeftByChanging (meaning_of d.decoded.system) k old cleared (Err (ActionFault f))
          unfolding LeftByChanging
          over_by_action f e cleared h = (
            faulty_by _ old _ new _ f (ap (λ r. answered r new) (sym e) ∙ left) ∙ acted,
            no_states cleared (h ∙ ap (λ n. replicate n (pos 0)) (length_joined ∙ length_blank)),
          )

          pub changed : r ≡ Ok tt → LeftByChanging (meaning_of d.decoded.system) k old (new ++ drop model.sizes.states array) (Ok tt)
          unfolding LeftByChanging
          changed e = (
            enough,
            ap (λ ss. left_by_settling old ((meaning_of d.decoded.system).propagate ss)) new_states
                ∙ clear_by _ old _ new _ (ap (λ r. answered r new) (sym e) ∙ left)
                ∙ acted,
          )
