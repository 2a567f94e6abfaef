-- New states are entered: the flow part of the values is lent to the assertion, and the states are stored when it settles. What is
-- left is as `left_by_settling` has it.
use Rattle.std.specs.Prelude.{Result, Ok, Err}
use mathlib.Core.Path.{◌≡◌, refl, sym, ap, subst, ◌∙◌}
use mathlib.Core.Bool.{true, false, true≢false}
use mathlib.Core.List.{List, [], ◌∷◌, ◌++◌, append_assoc}
use mathlib.Core.Option.{some}
use Prim.Native.Nat.{ℕ, zero, suc, ◌+◌, ◌-◌, ◌≤◌}
use native.Mathlib.Nat.{not-suc-le-zero, le_of_suc-le-suc}
use native.Mathlib.Omega.{arith}
use lib.IntN.{ℤ}
use lib.ListN.{length, take, drop, get_elem?, length-append, length-take, length-drop, take-append-drop}
use lib.Seq.{drop_at, drop-drop}
use Rattle.model.specs.Trees.{Instruction, Variable, System, variables}
use Rattle.model.specs.WellFormed.{WellFormed}
use Rattle.interpreter.specs.declared.Fault.{Fault}
use Rattle.semantics.specs.declared.NotFired.TheVariants.{AssertionFault}
use Rattle.expressions.specs.Expressions.{Valuation, known_from}
use Rattle.interpreter.specs.Instructions.{first_of}
use Rattle.semantics.specs.Actions.{cells, value_or0}
use Rattle.semantics.specs.Propagation.{Reached, Settled as Settling, reset_by, finish, settled_from, settle}
use Rattle.semantics.specs.Propagation.Settled.{refused, settled}
use Rattle.semantics.specs.Firing.{left_by_settling}
use Rattle.propagation.specs.Cells.{flows_by_settling, PropagationStands}
use Rattle.results.specs.Results.{answered, over}
use Rattle.variables.proofs.Columns.{row_count}
use Rattle.rounds.proofs.Propagating.{rows_counted}
use Rattle.semantics.proofs.Derived.{derived_extends}
use Rattle.semantics.proofs.Rounds.{Outcome, outcome, assertion_targets, finished, rounds_bounded_tree}
use Rattle.semantics.proofs.Rounds.Outcome.{fault, rest}
use Rattle.variables.specs.declared.VariableRow.{VariableRow}

-- ---- what settles keeps the states

cells_known : (ρ : Valuation) (ss : List ℤ) (n x : ℕ) → length ss ≤ n → ((k : ℕ) (v : ℤ) → get_elem? ss k ≡ some v → ρ (x + k) ≡ some v)
    → take (length ss) (cells ρ n x) ≡ ss
unfolding cells value_or0
cells_known ρ [] n x l h = refl
cells_known ρ (v ∷ ss) zero x l h = absurd (not-suc-le-zero l)
cells_known ρ (v ∷ ss) (suc n) x l h =
    let e : x + 0 ≡ x = omega arith in
    rw (ap ρ (sym e) ∙ h 0 v refl)
    (ap (λ l. v ∷ l) (cells_known ρ ss n (suc x) (le_of_suc-le-suc l) (λ k w g. let e : suc x + k ≡ x + suc k = omega arith in rw e (h (suc k) w g))))

pub settled_states : (t : System) → WellFormed t → (ss : List ℤ) → length ss ≡ length t.states → (count : ℕ) (new : List ℤ)
    → settle t ss ≡ settled count new → take (length ss) new ≡ ss
unfolding settle settled_from finish first_of
settled_states t w ss long count new e = go _ (outcome vs i S F (assertion_targets t w) (known_from ss) (suc F) (omega arith)) e
  where
    vs : List Variable
    vs = variables t

    i : Instruction
    i = t.assertion

    S : ℕ
    S = length t.states

    F : ℕ
    F = length t.flows

    go : (r : Reached) → Outcome vs i F (known_from ss) r → settled_from vs i r ≡ settled count new → take (length ss) new ≡ ss
    go r (fault τ d f) e = let z : true ≡ false = cc in absurd (true≢false z)
    go r (rest {c} {τ} d a l u) e =
        rw (← (finished c (cells (reset_by vs τ) (length vs) 0) _ count new e).1)
        (cells_known (reset_by vs τ) ss (length vs) 0 (omega (arith, length-append t.states t.flows))
        (λ k v g. let z : 0 + k ≡ k = omega arith in rw z (kept k v (derived_extends i (known_from ss) τ d k v g))))
      where
        kept : (k : ℕ) (v : ℤ) → τ k ≡ some v → reset_by vs τ k ≡ some v
        kept k v h = rw h

-- ---- the flow part

-- the part of the values from s up to n, and the values with another list in its place
abbrev pub flow_part : ℕ → ℕ → List ℤ → List ℤ
flow_part s n old = take (n - s) (drop s old)

abbrev pub with_flows : ℕ → ℕ → List ℤ → List ℤ → List ℤ
with_flows s n old flows = take s old ++ (flows ++ drop (n - s) (drop s old))

with_same : (s n : ℕ) (old : List ℤ) → with_flows s n old (flow_part s n old) ≡ old
with_same s n old = rw (take-append-drop (n - s) (drop s old)) (take-append-drop s old)

stored : (s n : ℕ) (old ss new : List ℤ) → s ≤ n → n ≤ length old → length ss ≡ s → take (length ss) new ≡ ss → length new ≡ n
    → over ss (with_flows s n old (drop (length ss) new)) ≡ over new old
stored s n old ss new l u h t k =
    let e : s + (n - s) ≡ n = omega arith in
    let front : length (take s old) ≡ s = simp length-take (omega arith) in
    let first : take s new ≡ ss = subst (λ m. take m new ≡ ss) h t in
    rw (h, drop_at (take s old) (drop s new ++ drop (n - s) (drop s old)) s front, drop-drop (n - s) s old, e, k, ← append_assoc ss (drop s new) (drop n old), ← first, take-append-drop s new)

module _ {ks : List ℕ} {ps : List ℤ} {nexts : List ℕ} {rows : List VariableRow} {at : ℕ} (s n : ℕ) (ss old : List ℤ) (long : length ss ≡ s)
    (all : length rows ≡ n) (p : PropagationStands ks ps nexts rows at (length ss) (n - s)) (room : n ≤ length old) where
  pub states_first : s ≤ n
  states_first = omega (arith, long, all, p.state_cells, rows_counted p.assertion)

  pub length_flow_part : length (flow_part s n old) ≡ n - s
  length_flow_part = simp (length-take, length-drop) (omega arith)

  abbrev pub part_stands : PropagationStands ks ps nexts rows at (length ss) (length (flow_part s n old))
  part_stands =
      record { assertion = p.assertion; state_cells = p.state_cells; flow_cells = length_flow_part ∙ p.flow_cells }

  length_settled : (count : ℕ) (new : List ℤ) → settle p.assertion.system ss ≡ settled count new → length new ≡ n
  length_settled count new e =
      (rounds_bounded_tree p.assertion.system p.assertion.well_formed ss count new e).2
      ∙ sym (row_count (variables p.assertion.system) p.assertion.rows_held) ∙ all

  refused_by_lem : (x : Settling) (f : Fault) (flows : List ℤ) → answered (Err f) flows ≡ flows_by_settling (length ss) (flow_part s n old) x
      → answered (Err (AssertionFault f)) (with_flows s n old flows) ≡ left_by_settling old x
  unfolding flows_by_settling left_by_settling
  refused_by_lem (refused g) f flows e =
      let a : Err f ≡ Err g = ap (λ l. l.answer) e in
      let b : f ≡ g = cc in
      rw (b, ap (λ l. l.left) e, with_same s n old)
  refused_by_lem (settled c new) f flows e =
      let a : Err f ≡ Ok c = ap (λ l. l.answer) e in
      let z : true ≡ false = cc in absurd (true≢false z)

  settled_by : (x : Settling) → settle p.assertion.system ss ≡ x → (count : ℕ) (flows : List ℤ)
      → answered (Ok count) flows ≡ flows_by_settling (length ss) (flow_part s n old) x
      → answered (Ok count) (over ss (with_flows s n old flows)) ≡ left_by_settling old x
  unfolding flows_by_settling left_by_settling
  settled_by (refused g) k count flows e =
      let a : Ok count ≡ Err g = ap (λ l. l.answer) e in
      let z : true ≡ false = cc in absurd (true≢false z)
  settled_by (settled c new) k count flows e =
      let a : Ok count ≡ Ok c = ap (λ l. l.answer) e in
      let b : count ≡ c = cc in
      rw (
        b,
        ap (λ l. l.left) e,
        stored s n old ss new states_first room long
            (settled_states p.assertion.system p.assertion.well_formed ss p.state_cells c new k) (length_settled c new k),
      )

  module _ (r : Result ℕ Fault) (flows : List ℤ)
      (left : answered r flows ≡ flows_by_settling (length ss) (flow_part s n old) (settle p.assertion.system ss)) where
    pub enter_refused : (f : Fault) → r ≡ Err f
        → answered (Err (AssertionFault f)) (with_flows s n old flows) ≡ left_by_settling old (settle p.assertion.system ss)
    enter_refused f k = refused_by_lem (settle p.assertion.system ss) f flows (ap (λ r. answered r flows) (sym k) ∙ left)

    pub enter_settled : (count : ℕ) → r ≡ Ok count → (new : List ℤ) → new ≡ over ss (with_flows s n old flows)
        → answered (Ok count) new ≡ left_by_settling old (settle p.assertion.system ss)
    enter_settled count k new h =
        ap (answered (Ok count)) h
        ∙ settled_by (settle p.assertion.system ss) refl count flows (ap (λ r. answered r flows) (sym k) ∙ left)
