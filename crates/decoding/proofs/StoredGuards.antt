-- The loop of the decoding that stores the places of the guards, by the transitions that are left.
use mathlib.Core.Path.{◌≡◌, refl, sym, ap, ◌∙◌, subst}
use mathlib.Core.List.{List, [], ◌∷◌, ◌++◌, append_assoc}
use Prim.Native.Nat.{ℕ, suc, ◌+◌, ◌-◌, ◌≤◌, ◌<◌}
use native.Mathlib.Numerals.{add-one}
use native.Mathlib.Omega.{arith}
use lib.ListN.{length, get_or, set, take, drop, length-set, length-append, length-drop}
use lib.Seq.{sets, drop-drop, drop_at, get_or-drop, length-take-le}
use Rattle.model.specs.Trees.{Expression, Instruction, Instructions, Transition}
use Rattle.model.specs.Trees.Expression.{numeral, truth, variable, negation, binary, if_then_else}
use Rattle.model.specs.Trees.Instruction.{skip, assign, if_then, block}
use Rattle.model.specs.Trees.Instructions.{none, more}
use Rattle.model.specs.Standing.{size_of_expression, size_of, size_of_all, size_of_transition, size_of_transitions}
use Rattle.decoding.specs.Decoding.{guard_places, nexts_of_transitions, nexts_of_expression, nexts_of, nexts_of_all}
use Rattle.decoding.proofs.Decoded.{guards_length}
use Rattle.results.specs.Results.{over}
use Rattle.decoding.proofs.StoredVariables.{sets_all, cells_over}

expression_nexts_length : (e : Expression) (at : ℕ) → length (nexts_of_expression e at) ≡ size_of_expression e
unfolding nexts_of_expression size_of_expression
expression_nexts_length (numeral v) at = refl
expression_nexts_length (truth v) at = refl
expression_nexts_length (variable x) at = refl
expression_nexts_length (negation a) at = ap suc (expression_nexts_length a (at + 1))
expression_nexts_length (binary op a b) at =
    simp length-append (omega (arith, expression_nexts_length a (at + 1), expression_nexts_length b (at + 1 + size_of_expression a)))
expression_nexts_length (if_then_else c a b) at =
    simp length-append
    (omega (
      arith,
      expression_nexts_length c (at + 1),
      expression_nexts_length a (at + 1 + size_of_expression c),
      expression_nexts_length b (at + 1 + size_of_expression c + size_of_expression a),
    ))

mutual
  unfolding nexts_of nexts_of_all size_of size_of_all

  instruction_nexts_length : (i : Instruction) (at : ℕ) → length (nexts_of i at) ≡ size_of i
  instruction_nexts_length skip at = refl
  instruction_nexts_length (assign x e) at = ap suc (expression_nexts_length e (at + 1))
  instruction_nexts_length (if_then c i) at =
      simp length-append (omega (arith, expression_nexts_length c (at + 1), instruction_nexts_length i (at + 1 + size_of_expression c)))
  instruction_nexts_length (block is) at = ap suc (branches_nexts_length is (at + 1))

  branches_nexts_length : (is : Instructions) (at : ℕ) → length (nexts_of_all is at) ≡ size_of_all is
  branches_nexts_length none at = refl
  branches_nexts_length (more i is) at =
      simp length-append (omega (arith, instruction_nexts_length i at, branches_nexts_length is (at + size_of i)))

-- the entries from this place on are those of these transitions, and others
abbrev Entries : List ℕ → List Transition → ℕ → List ℕ → Type 0
Entries nexts ts at rest = drop at nexts ≡ nexts_of_transitions ts at ++ rest

module _ (nexts rest : List ℕ) (t : Transition) (ts : List Transition) (at : ℕ) (h : Entries nexts (t ∷ ts) at rest) where
  -- the entries of the first transition
  abbrev own : List ℕ
  own =
      (at + size_of_transition t)
      ∷ nexts_of_expression t.guard (at + 1) ++ nexts_of t.action (at + 1 + size_of_expression t.guard)

  own_length : length own ≡ size_of_transition t
  unfolding size_of_transition
  own_length =
      simp length-append (omega (arith, expression_nexts_length t.guard (at + 1), instruction_nexts_length t.action (at + 1 + size_of_expression t.guard)))

  entries : drop at nexts ≡ own ++ (nexts_of_transitions ts (at + size_of_transition t) ++ rest)
  unfolding nexts_of_transitions
  entries = h ∙ append_assoc own (nexts_of_transitions ts (at + size_of_transition t)) rest

  entry_within : at < length nexts
  entry_within = let e = ap length entries in omega (arith, length-drop at nexts)

  entry_first : get_or nexts at 0 ≡ at + size_of_transition t
  entry_first =
      let e : at ≡ at + 0 = omega arith in
      ap (λ k. get_or nexts k 0) e ∙ sym (get_or-drop at nexts 0 0) ∙ ap (λ l. get_or l 0 0) entries

  entries_rest : Entries nexts ts (at + size_of_transition t) rest
  entries_rest =
      sym (drop-drop (size_of_transition t) at nexts)
      ∙ ap (drop (size_of_transition t)) entries
      ∙ drop_at own (nexts_of_transitions ts (at + size_of_transition t) ++ rest) (size_of_transition t) own_length

record GuardsLeft (nexts : List ℕ) (n from at i : ℕ) (now then : List ℕ) (ts : List Transition) (rest : List ℕ) : Type 0 where
  transitions : List Transition
  number : length transitions ≡ n
  entries : Entries nexts transitions at rest
  same : sets now i (guard_places transitions at) ≡ sets then 0 (guard_places ts from)
  after : at + size_of_transitions transitions ≡ from + size_of_transitions ts

pub record GuardsStored (nexts : List ℕ) (from i at : ℕ) (now then : List ℕ) : Type 0 where
  pub bound : i ≤ length then
  pub same : length now ≡ length then
  left : (ts : List Transition) (rest : List ℕ) → length ts ≡ length then → Entries nexts ts from rest → GuardsLeft nexts (length then - i) from at i now then ts rest

module _ (nexts : List ℕ) (from : ℕ) where
  pub guards_begin : (cells : List ℕ) → GuardsStored nexts from 0 from cells cells
  guards_begin cells =
      record {
        bound = omega arith;
        same = refl;
        left = λ ts rest n e. record { transitions = ts; number = omega arith; entries = e; same = refl; after = refl };
      }

  turn_by : (us : List Transition) (n at i : ℕ) (now then : List ℕ) (ts : List Transition) (rest : List ℕ) → length us ≡ n → 0 < n → Entries nexts us at rest
      → sets now i (guard_places us at) ≡ sets then 0 (guard_places ts from) → at + size_of_transitions us ≡ from + size_of_transitions ts
      → GuardsLeft nexts (n - 1) from (get_or nexts at 0) (i + 1) (set now i (at + 1)) then ts rest
  unfolding guard_places size_of_transitions
  turn_by [] n at i now then ts rest e h f g k = absurd (omega arith)
  turn_by (u ∷ us) n at i now then ts rest e h f g k =
      let p = entry_first nexts rest u us at f in
      record {
        transitions = us;
        number = omega arith;
        entries = subst (λ at. Entries nexts us at rest) (sym p) (entries_rest nexts rest u us at f);
        same =
            ap (λ j. sets (set now i (at + 1)) j (guard_places us (get_or nexts at 0))) (add-one i)
            ∙ ap (λ at'. sets (set now i (at + 1)) (suc i) (guard_places us at')) p
            ∙ g;
        after = omega (arith, p);
      }

  stop_by : (us : List Transition) (n at : ℕ) (rest : List ℕ) → length us ≡ n → 0 < n → Entries nexts us at rest → length nexts ≤ at → ⊥
  stop_by [] n at rest e h f l = omega arith
  stop_by (u ∷ us) n at rest e h f l = omega (arith, entry_within nexts rest u us at f)

  end_by : (us : List Transition) (n at i : ℕ) (now then : List ℕ) (ts : List Transition) → length us ≡ n → n ≤ 0
      → sets now i (guard_places us at) ≡ sets then 0 (guard_places ts from) → at + size_of_transitions us ≡ from + size_of_transitions ts
      → (at ≡ from + size_of_transitions ts) × (now ≡ sets then 0 (guard_places ts from))
  unfolding guard_places size_of_transitions
  end_by [] n at i now then ts e h g k = (omega arith, g)
  end_by (u ∷ us) n at i now then ts e h g k = absurd (omega arith)

  module _ (i at : ℕ) (now then : List ℕ) (s : GuardsStored nexts from i at now then) (l : i < length then) where
    pub guards_turn : GuardsStored nexts from (i + 1) (get_or nexts at 0) (set now i (at + 1)) then
    guards_turn =
        let e : length then - i - 1 ≡ length then - (i + 1) = omega arith in
        record {
          bound = omega arith;
          same = length-set now i (at + 1) ∙ s.same;
          left = λ ts rest n h.
              let g = s.left ts rest n h in
              subst (λ n. GuardsLeft nexts n from (get_or nexts at 0) (i + 1) (set now i (at + 1)) then ts rest) e
              (turn_by g.transitions (length then - i) at i now then ts rest g.number (omega arith) g.entries g.same g.after);
        }

    pub guards_stop : length nexts ≤ at → (ts : List Transition) (rest : List ℕ) → length ts ≡ length then → Entries nexts ts from rest → ⊥
    guards_stop h ts rest n e =
        let g = s.left ts rest n e in
        stop_by g.transitions (length then - i) at rest g.number (omega arith) g.entries h

  pub guards_end : {count : ℕ} (i at : ℕ) (now old : List ℕ) → count ≤ length old → GuardsStored nexts from i at now (take count old) → length (take count old) ≤ i
      → (ts : List Transition) (rest : List ℕ) → length ts ≡ count → Entries nexts ts from rest
      → (at ≡ from + size_of_transitions ts) × (now ++ drop count old ≡ over (guard_places ts from) old)
  guards_end {count} i at now old within s h ts rest n e =
      let many = length-take-le count old within in
      let g = s.left ts rest (n ∙ sym many) e in
      let r = end_by g.transitions (length (take count old) - i) at i now (take count old) ts g.number (omega arith) g.same g.after in
      let long : length (guard_places ts from) ≡ count = guards_length ts from ∙ n in
      (r.0, cells_over old (r.1 ∙ sets_all (guard_places ts from) (take count old) (long ∙ sym many)) long)
