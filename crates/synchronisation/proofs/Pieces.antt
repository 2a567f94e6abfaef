-- What is left to put as the loops go over the members.
use mathlib.Core.Path.{◌≡◌, refl, sym, ap, ◌∙◌}
use mathlib.Core.List.{List, [], ◌∷◌, ◌++◌}
use Prim.Native.Nat.{ℕ, zero, suc, ◌+◌, ◌≤◌, ◌<◌}
use native.Mathlib.Numerals.{add-one}
use native.Mathlib.Omega.{arith}
use lib.IntN.{ℤ, pos}
use lib.ListN.{length, get_or, drop, drop_of_length-le}
use Rattle.evaluation.specs.declared.Operator.{Operator}
use Rattle.evaluation.specs.declared.Operator.TheVariants.{Conjunction, Disjunction}
use Rattle.kinds.specs.Kinds.{kind_of}
use Rattle.model.specs.Trees.{Transition}
use Rattle.model.specs.Nodes.{Node, node, nodes_of_expression, nodes_of, nodes_of_all}
use Rattle.tables.specs.declared.Tables.{Tables}
use Rattle.tapes.specs.Tapes.{put_all}
use Rattle.synchronisation.specs.Synchronisations.{nested, guard_of, optional_branches, branches_of}
use Rattle.synchronisation.specs.Members.{Sheet, put_nodes, MemberStands, MembersStand, MembersIn}
use Rattle.synchronisation.proofs.Sheets.{nodes_put}

-- ---- the members, one by one

module _ (ks : List ℕ) (ps : List ℤ) (nexts guards : List ℕ) where
  -- the member at place i of a list
  pub record MemberAt (numbers : List ℕ) (ts : List Transition) (i : ℕ) : Type 0 where
    pub member : Transition
    pub split : drop i ts ≡ member ∷ drop (suc i) ts
    pub stands : MemberStands ks ps nexts guards (get_or numbers i 0) member

  pub member_at : (numbers : List ℕ) (ts : List Transition) (i : ℕ) → i < length numbers → MembersStand ks ps nexts guards numbers ts
      → MemberAt numbers ts i
  unfolding MembersStand
  member_at [] ts i h s = absurd (omega arith)
  member_at (k ∷ rest) [] i h s = absurd s
  member_at (k ∷ rest) (t ∷ ts) zero h s = record { member = t; split = refl; stands = s.0 }
  member_at (k ∷ rest) (t ∷ ts) (suc i) h s =
      let r = member_at rest ts i (omega arith) s.1 in record { member = r.member; split = r.split; stands = r.stands }

  pub members_long : (numbers : List ℕ) (ts : List Transition) → MembersStand ks ps nexts guards numbers ts → length numbers ≡ length ts
  unfolding MembersStand
  members_long [] [] s = refl
  members_long [] (t ∷ ts) s = absurd s
  members_long (k ∷ rest) [] s = absurd s
  members_long (k ∷ rest) (t ∷ ts) s = ap suc (members_long rest ts s.1)

-- the same over the tables that are lent
pub member_in : (t : Tables) (numbers : List ℕ) (ts : List Transition) (i : ℕ) → i < length numbers → MembersIn t numbers ts
    → MemberAt t.kinds.now t.parameters.now t.nexts.now t.guards.now numbers ts i
member_in t = member_at t.kinds.now t.parameters.now t.nexts.now t.guards.now

-- ---- one piece of a whole

-- the first piece has been put
more_put : (whole piece rest : List Node) (s : Sheet) {t v : Sheet} → whole ≡ piece ++ rest → t ≡ put_nodes piece s → put_nodes whole s ≡ v → put_nodes rest t ≡ v
more_put whole piece rest s e p q = ap (put_nodes rest) p ∙ sym (nodes_put piece rest s) ∙ ap (λ (l : List Node). put_nodes l s) (sym e) ∙ q

none_put : (whole : List Node) (s : Sheet) {v : Sheet} → whole ≡ [] → put_nodes whole s ≡ v → s ≡ v
unfolding put_all
none_put whole s e q = ap (λ (l : List Node). put_nodes l s) (sym e) ∙ q

-- of a list that is made of one piece for each transition
module _ (f : List Transition → List Node) (piece : Transition → List Node) (step : (t : Transition) (ts : List Transition) → f (t ∷ ts) ≡ piece t ++ f ts) where
  pub member_put : (ts : List Transition) (i : ℕ) (t : Transition) (s : Sheet) {u v : Sheet} → drop i ts ≡ t ∷ drop (suc i) ts → u ≡ put_nodes (piece t) s
      → put_nodes (f (drop i ts)) s ≡ v → put_nodes (f (drop (i + 1) ts)) u ≡ v
  member_put ts i t s e p q =
      more_put (f (drop i ts)) (piece t) (f (drop (i + 1) ts)) s
      (ap f e ∙ step t (drop (suc i) ts) ∙ ap (λ n. piece t ++ f (drop n ts)) (sym (add-one i))) p q

  pub members_put : (ts : List Transition) (i : ℕ) (s : Sheet) {v : Sheet} → f [] ≡ [] → length ts ≤ i → put_nodes (f (drop i ts)) s ≡ v → s ≡ v
  members_put ts i s e h q = none_put (f (drop i ts)) s (ap f (drop_of_length-le ts h) ∙ e) q

-- ---- the mandatory actions, and the optional ones under their guards

abbrev pub action_nodes : List Transition → List Node
action_nodes ts = nodes_of_all (branches_of ts [])

pub action_step : (t : Transition) (ts : List Transition) → action_nodes (t ∷ ts) ≡ nodes_of t.action ++ action_nodes ts
unfolding branches_of nodes_of_all
action_step t ts = refl

pub no_action : action_nodes [] ≡ []
unfolding branches_of optional_branches nodes_of_all
no_action = refl

abbrev pub guarded_nodes : List Transition → List Node
guarded_nodes ts = nodes_of_all (optional_branches ts)

abbrev pub guarded_piece : Transition → List Node
guarded_piece t = node 18 (pos 0) ∷ nodes_of_expression t.guard ++ nodes_of t.action

pub guarded_step : (t : Transition) (ts : List Transition) → guarded_nodes (t ∷ ts) ≡ guarded_piece t ++ guarded_nodes ts
unfolding optional_branches nodes_of_all nodes_of
guarded_step t ts = refl

pub no_guarded : guarded_nodes [] ≡ []
unfolding optional_branches nodes_of_all
no_guarded = refl

-- an if-then node, a guard and an action have been put
pub guarded_put : (t : Transition) (s : Sheet) {s₁ s₂ s₃ : Sheet} → s₁ ≡ put_nodes (node 18 (pos 0) ∷ []) s → s₂ ≡ put_nodes (nodes_of_expression t.guard) s₁
    → s₃ ≡ put_nodes (nodes_of t.action) s₂ → s₃ ≡ put_nodes (guarded_piece t) s
guarded_put t s p q r =
    let a = node 18 (pos 0) ∷ [] in
    let b = nodes_of_expression t.guard in
    let c = nodes_of t.action in
    r ∙ ap (put_nodes c) (q ∙ ap (put_nodes b) p) ∙ sym (nodes_put a (b ++ c) s ∙ nodes_put b c (put_nodes a s))

-- ---- the guards, joined by an operator

unfoldable pub guard_nodes : Operator → List Transition → List Node
guard_nodes op [] = []
guard_nodes op (t ∷ ts) = nodes_of_expression (nested op t ts)

-- of two or more: the operator, the first guard, the others
module _ (op : Operator) (ts : List Transition) (i : ℕ) where
  pub guard_put : (t u : Transition) (s : Sheet) {s₁ s₂ v : Sheet} → drop i ts ≡ t ∷ drop (suc i) ts → drop (suc i) ts ≡ u ∷ drop (suc (suc i)) ts
      → s₁ ≡ put_nodes (node (kind_of op) (pos 0) ∷ []) s → s₂ ≡ put_nodes (nodes_of_expression t.guard) s₁
      → put_nodes (guard_nodes op (drop i ts)) s ≡ v → put_nodes (guard_nodes op (drop (i + 1) ts)) s₂ ≡ v
  unfolding guard_nodes nested nodes_of_expression
  guard_put t u s {s₂ = s₂} e f p q whole =
      let a = node (kind_of op) (pos 0) ∷ [] in
      let g = nodes_of_expression t.guard in
      let rest = guard_nodes op (u ∷ drop (suc (suc i)) ts) in
      let step : guard_nodes op (drop i ts) ≡ a ++ (g ++ rest) = ap (guard_nodes op) (e ∙ ap (λ (l : List Transition). t ∷ l) f) in
      let next : drop (i + 1) ts ≡ u ∷ drop (suc (suc i)) ts = ap (λ n. drop n ts) (add-one i) ∙ f in
      ap (λ (l : List Transition). put_nodes (guard_nodes op l) s₂) next
      ∙ ap (put_nodes rest) (q ∙ ap (put_nodes g) p)
      ∙ sym (nodes_put a (g ++ rest) s ∙ nodes_put g rest (put_nodes a s))
      ∙ ap (λ (l : List Node). put_nodes l s) (sym step) ∙ whole

  -- the last one stands alone
  pub last_guard_put : (t : Transition) (s : Sheet) {s₁ v : Sheet} → drop i ts ≡ t ∷ drop (suc i) ts → length ts ≤ suc i
      → s₁ ≡ put_nodes (nodes_of_expression t.guard) s → put_nodes (guard_nodes op (drop i ts)) s ≡ v → s₁ ≡ v
  unfolding guard_nodes nested
  last_guard_put t s e h p whole =
      p
      ∙ ap (λ (l : List Transition). put_nodes (guard_nodes op l) s) (sym (e ∙ ap (λ (l : List Transition). t ∷ l) (drop_of_length-le ts h)))
      ∙ whole

-- ---- the guard of the new transition

module _ (ks : List ℕ) (ps : List ℤ) (nexts guards numbers : List ℕ) (s x : Sheet) where
  -- these members' guards have been put, joined by an operator
  abbrev pub JoinedBy : Operator → Type 0
  JoinedBy op =
      (t : Transition) (us : List Transition) → MembersStand ks ps nexts guards numbers (t ∷ us) → x ≡ put_nodes (nodes_of_expression (nested op t us)) s

  pub mandatory_guard : (ts os : List Transition) → 0 < length numbers → MembersStand ks ps nexts guards numbers ts → JoinedBy Conjunction
      → x ≡ put_nodes (nodes_of_expression (guard_of ts os)) s
  unfolding guard_of
  mandatory_guard [] os h stands e = absurd (omega (arith, members_long ks ps nexts guards numbers [] stands))
  mandatory_guard (t ∷ ts) os h stands e = e t ts stands

  pub optional_guard : (ts os : List Transition) → length ts ≤ 0 → 0 < length numbers → MembersStand ks ps nexts guards numbers os
      → JoinedBy Disjunction → x ≡ put_nodes (nodes_of_expression (guard_of ts os)) s
  unfolding guard_of
  optional_guard (t ∷ ts) os none h stands e = absurd (omega arith)
  optional_guard [] [] none h stands e = absurd (omega (arith, members_long ks ps nexts guards numbers [] stands))
  optional_guard [] (o ∷ os) none h stands e = e o os stands
