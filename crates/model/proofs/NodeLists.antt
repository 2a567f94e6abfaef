-- Nodes that stand among kinds and parameters: those of transitions, and those of a list.
use mathlib.Core.Path.{◌≡◌, sym, ◌∙◌, subst}
use mathlib.Core.List.{List, [], ◌∷◌, ◌++◌, map}
use Prim.Native.Nat.{ℕ, zero, suc, ◌+◌, ◌≤◌, ◌<◌}
use native.Mathlib.Nat.{zero-add, add-zero}
use native.Mathlib.Omega.{arith}
use lib.IntN.{ℤ, pos}
use lib.ListN.{length, get_or, length-map, get_or-map}
use lib.Seq.{ext_get_or}
use Rattle.model.specs.Nodes.{Node, node}
use Rattle.model.specs.Trees.{Transition}
use Rattle.model.specs.Standing.{NodeAt, ExpressionAt, InstructionAt, size_of_expression, size_of}

module _ (ks : List ℕ) (ps : List ℤ) where
  -- the nodes of these transitions stand from this place on, each with its event, its guard and its action
  unfoldable pub TransitionsAt : List Transition → ℕ → Type 0
  TransitionsAt [] at = Unit {0}
  TransitionsAt (t ∷ ts) at =
      NodeAt ks ps at 5 (pos t.event) × ExpressionAt ks ps t.guard (at + 1)
      × InstructionAt ks ps t.action (at + 1 + size_of_expression t.guard)
      × TransitionsAt ts (at + 1 + size_of_expression t.guard + size_of t.action)

  unfoldable pub NodesAt : List Node → ℕ → Type 0
  NodesAt [] at = Unit {0}
  NodesAt (n ∷ ns) at = NodeAt ks ps at n.kind n.parameter × NodesAt ns (at + 1)

  pub nodes_append : (xs ys : List Node) (at : ℕ) → NodesAt xs at → NodesAt ys (at + length xs) → NodesAt (xs ++ ys) at
  unfolding NodesAt
  nodes_append [] ys at h g = subst (NodesAt ys) (omega arith) g
  nodes_append (x ∷ xs) ys at h g = (h.0, nodes_append xs ys (at + 1) h.1 (subst (NodesAt ys) (omega arith) g))

  pub nodes_split : (xs ys : List Node) (at : ℕ) → NodesAt (xs ++ ys) at → NodesAt xs at × NodesAt ys (at + length xs)
  unfolding NodesAt
  nodes_split [] ys at h = (tt, subst (NodesAt ys) (omega arith) h)
  nodes_split (x ∷ xs) ys at h =
      let r = nodes_split xs ys (at + 1) h.1 in ((h.0, r.0), subst (NodesAt ys) (omega arith) r.1)

  -- a list of nodes ends before the kinds do
  pub nodes_within : (ns : List Node) (at : ℕ) → at ≤ length ks → NodesAt ns at → at + length ns ≤ length ks
  unfolding NodesAt
  nodes_within [] at h n = omega arith
  nodes_within (x ∷ xs) at h n = omega (arith, nodes_within xs (at + 1) (omega (arith, n.0.within)) n.1)

  -- one by one
  pub nodes_each : (ns : List Node) (at i : ℕ) → NodesAt ns at → i < length ns
      → (get_or ks (at + i) 0 ≡ (get_or ns i (node 0 (pos 0))).kind) × (get_or ps (at + i) (pos 0) ≡ (get_or ns i (node 0 (pos 0))).parameter)
  unfolding NodesAt
  nodes_each [] at i n h = absurd (omega arith)
  nodes_each (x ∷ xs) at zero n h = rw add-zero (n.0.kind, n.0.parameter)
  nodes_each (x ∷ xs) at (suc i) n h =
      let e : at + suc i ≡ at + 1 + i = omega arith in rw e (nodes_each xs (at + 1) i n.1 (omega arith))

  pub each_node : (ns : List Node) (at : ℕ)
      → ((i : ℕ) → i < length ns → NodeAt ks ps (at + i) (get_or ns i (node 0 (pos 0))).kind (get_or ns i (node 0 (pos 0))).parameter) → NodesAt ns at
  unfolding NodesAt
  each_node [] at h = tt
  each_node (x ∷ xs) at h = (
    subst (λ at. NodeAt ks ps at x.kind x.parameter) (add-zero at) (h 0 (omega arith)),
    each_node xs (at + 1)
        (λ i l.
        subst (λ at. NodeAt ks ps at (get_or xs i (node 0 (pos 0))).kind (get_or xs i (node 0 (pos 0))).parameter) (omega arith) (h (suc i) (omega arith))),
  )

-- nodes that stand from 0 to the end are all the nodes
pub all_kinds : (ks : List ℕ) (ps : List ℤ) (ns : List Node) → NodesAt ks ps ns 0 → length ks ≡ length ns → ks ≡ map (λ n. n.kind) ns
all_kinds ks ps ns n l =
    ext_get_or 0 ks (map (λ n. n.kind) ns) (l ∙ sym (length-map ns (λ n. n.kind)))
    (λ i h. each i (nodes_each ks ps ns 0 i n (omega arith)).0 ∙ sym (get_or-map (λ n. n.kind) ns i (node 0 (pos 0))))
  where
    each : (i : ℕ) {k : ℕ} → get_or ks (0 + i) 0 ≡ k → get_or ks i 0 ≡ k
    each i e = rw zero-add at e

pub all_parameters : (ks : List ℕ) (ps : List ℤ) (ns : List Node) → NodesAt ks ps ns 0 → length ps ≡ length ns → ps ≡ map (λ n. n.parameter) ns
all_parameters ks ps ns n l =
    ext_get_or (pos 0) ps (map (λ n. n.parameter) ns) (l ∙ sym (length-map ns (λ n. n.parameter)))
    (λ i h. each i (nodes_each ks ps ns 0 i n (omega arith)).1 ∙ sym (get_or-map (λ n. n.parameter) ns i (node 0 (pos 0))))
  where
    each : (i : ℕ) {p : ℤ} → get_or ps (0 + i) (pos 0) ≡ p → get_or ps i (pos 0) ≡ p
    each i e = rw zero-add at e

-- a list of nodes stands among its own kinds and parameters
pub own_nodes : (ns : List Node) → NodesAt (map (λ n. n.kind) ns) (map (λ n. n.parameter) ns) ns 0
own_nodes ns =
    each_node (map (λ n. n.kind) ns) (map (λ n. n.parameter) ns) ns 0
    (λ i h.
    record {
      within = omega (arith, length-map ns (λ n. n.kind));
      within_parameters = omega (arith, length-map ns (λ n. n.parameter));
      kind = rw zero-add (get_or-map (λ n. n.kind) ns i (node 0 (pos 0)));
      parameter = rw zero-add (get_or-map (λ n. n.parameter) ns i (node 0 (pos 0)));
    })
