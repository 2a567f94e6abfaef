-- The nodes of the new transition and of the new model, as the code puts them: piece by piece.
use mathlib.Core.Path.{◌≡◌, refl, sym, ap, ◌∙◌}
use mathlib.Core.List.{List, [], ◌∷◌, ◌++◌, flat_map, append_assoc, append-nil}
use Prim.Native.Nat.{ℕ, suc, ◌+◌, ◌≤◌}
use native.Mathlib.Omega.{arith}
use lib.IntN.{ℤ, pos}
use lib.ListN.{length, length-append}
use Rattle.model.specs.Trees.{Transition, System, count, variables}
use Rattle.model.specs.Nodes.{Node, node, nodes_of_expression, nodes_of, nodes_of_all, nodes_of_variable, nodes_of_transition, nodes_of_system}
use Rattle.model.proofs.NodeTrees.{branches_size}
use Rattle.model.proofs.Representable.{count_size}
use Rattle.synchronisation.specs.Synchronisations.{guard_of, optional_branches, branches_of, together, extended_by}
use Rattle.synchronisation.specs.Members.{Sheet, put_nodes}
use Rattle.synchronisation.proofs.Sheets.{nodes_put}

-- ---- the branches

branches_apart : (ts os : List Transition) → nodes_of_all (branches_of ts os) ≡ nodes_of_all (branches_of ts []) ++ nodes_of_all (optional_branches os)
unfolding branches_of optional_branches nodes_of_all
branches_apart [] os = refl
branches_apart (t ∷ ts) os =
    ap (λ (ns : List Node). nodes_of t.action ++ ns) (branches_apart ts os)
    ∙ sym (append_assoc (nodes_of t.action) (nodes_of_all (branches_of ts [])) (nodes_of_all (optional_branches os)))

optional_count : (os : List Transition) → count (optional_branches os) ≡ length os
unfolding optional_branches count
optional_count [] = refl
optional_count (o ∷ os) = ap suc (optional_count os)

branches_count : (ts os : List Transition) → count (branches_of ts os) ≡ length ts + length os
unfolding branches_of count
branches_count [] os = optional_count os ∙ omega arith
branches_count (t ∷ ts) os = omega (arith, branches_count ts os)

-- ---- the new transition

-- with the numbers of its event and of its branches as they were read
module _ (e : ℕ) (ts os : List Transition) (s : Sheet) {s₁ s₂ s₃ s₄ s₅ : Sheet} {x y : ℤ} where
  pub transition_put : x ≡ pos e → y ≡ pos (length ts + length os) → s₁ ≡ put_nodes (node 5 x ∷ []) s
      → s₂ ≡ put_nodes (nodes_of_expression (guard_of ts os)) s₁ → s₃ ≡ put_nodes (node 19 y ∷ []) s₂
      → s₄ ≡ put_nodes (nodes_of_all (branches_of ts [])) s₃ → s₅ ≡ put_nodes (nodes_of_all (optional_branches os)) s₄
      → s₅ ≡ put_nodes (nodes_of_transition (together e ts os)) s
  unfolding nodes_of_transition nodes_of
  transition_put event branches p q r u v =
      let a = node 5 x ∷ [] in
      let b = nodes_of_expression (guard_of ts os) in
      let c = node 19 y ∷ [] in
      let f = nodes_of_all (branches_of ts []) in
      let g = nodes_of_all (optional_branches os) in
      v ∙ ap (put_nodes g) (u ∙ ap (put_nodes f) (r ∙ ap (put_nodes c) (q ∙ ap (put_nodes b) p)))
      ∙ sym (nodes_put a (b ++ (c ++ (f ++ g))) s ∙ nodes_put b (c ++ (f ++ g)) (put_nodes a s)
      ∙ nodes_put c (f ++ g) (put_nodes b (put_nodes a s)) ∙ nodes_put f g (put_nodes c (put_nodes b (put_nodes a s))))
      ∙ ap (λ (x : ℤ). put_nodes (node 5 x ∷ (b ++ (c ++ (f ++ g)))) s) event
      ∙ ap (λ (y : ℤ). put_nodes (node 5 (pos e) ∷ (b ++ (node 19 y ∷ (f ++ g)))) s) (branches ∙ ap pos (sym (branches_count ts os)))
      ∙ ap (λ (l : List Node). put_nodes (node 5 (pos e) ∷ (b ++ (node 19 (pos (count (branches_of ts os))) ∷ l))) s) (sym (branches_apart ts os))

-- ---- the new model

flat_append : {A B : Type 0} (f : A → List B) (xs ys : List A) → flat_map f (xs ++ ys) ≡ flat_map f xs ++ flat_map f ys
unfolding flat_map
flat_append f [] ys = refl
flat_append f (x ∷ xs) ys = ap (λ (r : List _). f x ++ r) (flat_append f xs ys) ∙ sym (append_assoc (f x) (flat_map f xs) (flat_map f ys))

-- its new transition stands before the assertion
pub extended_nodes : (t : System) (u : Transition)
    → nodes_of_system (extended_by t u)
    ≡ (flat_map nodes_of_variable (variables t) ++ flat_map nodes_of_transition t.transitions) ++ (nodes_of_transition u ++ nodes_of t.assertion)
unfolding nodes_of_system flat_map
extended_nodes t u =
    let vs = flat_map nodes_of_variable (variables t) in
    let ts = flat_map nodes_of_transition t.transitions in
    let a = nodes_of t.assertion in
    ap (λ (l : List Node). vs ++ (l ++ a))
    (flat_append nodes_of_transition t.transitions (u ∷ []) ∙ ap (λ (l : List Node). ts ++ l) (append-nil (nodes_of_transition u)))
    ∙ ap (λ (l : List Node). vs ++ l) (append_assoc ts (nodes_of_transition u) a)
    ∙ sym (append_assoc vs ts (nodes_of_transition u ++ a))

module _ (t : System) (u : Transition) (s : Sheet) {s₁ s₂ s₃ : Sheet} where
  pub system_put : s₁ ≡ put_nodes (flat_map nodes_of_variable (variables t) ++ flat_map nodes_of_transition t.transitions) s
      → s₂ ≡ put_nodes (nodes_of_transition u) s₁ → s₃ ≡ put_nodes (nodes_of t.assertion) s₂ → s₃ ≡ put_nodes (nodes_of_system (extended_by t u)) s
  system_put p q r =
      let a = flat_map nodes_of_variable (variables t) ++ flat_map nodes_of_transition t.transitions in
      let b = nodes_of_transition u in
      let c = nodes_of t.assertion in
      r ∙ ap (put_nodes c) (q ∙ ap (put_nodes b) p)
      ∙ sym (nodes_put a (b ++ c) s ∙ nodes_put b c (put_nodes a s))
      ∙ ap (λ (l : List Node). put_nodes l s) (sym (extended_nodes t u))

-- every member has a node
pub members_few : (t : System) (e : ℕ) (ts os : List Transition) → length ts + length os ≤ length (nodes_of_system (extended_by t (together e ts os)))
unfolding nodes_of_transition nodes_of
members_few t e ts os =
    let u = together e ts os in
    let is = branches_of ts os in
    omega (
      arith,
      ap length (extended_nodes t u),
      length-append (flat_map nodes_of_variable (variables t) ++ flat_map nodes_of_transition t.transitions) (nodes_of_transition u ++ nodes_of t.assertion),
      length-append (nodes_of_transition u) (nodes_of t.assertion),
      length-append (nodes_of_expression (guard_of ts os)) (nodes_of u.action),
      branches_size is,
      count_size is,
      branches_count ts os,
    )
