-- A variable that an instruction's own expression mentions has a node there, and that node's owner is the instruction.
use mathlib.Core.Path.{◌≡◌, refl, sym, ap, subst, ◌∙◌}
use mathlib.Core.Logic.{◌⊎◌, inl, inr, ⊎_elim}
use mathlib.Core.Bool.{Bool, true, false, false≢true, ◌||◌}
use mathlib.Core.List.{List}
use Prim.Native.Nat.{ℕ, zero, suc, ◌+◌, ◌≤◌, ◌<◌}
use native.Mathlib.Omega.{arith}
use borrow.Author.Tests.{eqb-true}
use lib.IntN.{ℤ, nat_abs}
use lib.ListN.{get_or}
use Rattle.evaluation.specs.declared.Operator.{Operator}
use Rattle.evaluation.specs.declared.Operator.TheVariants.{Conjunction, Disjunction, Equality, Less, LessOrEqual, Sum, Difference, Product, Quotient, Remainder, Equivalence}
use Rattle.kinds.specs.Kinds.{kind_of}
use Rattle.model.specs.Trees.{Expression, Instruction}
use Rattle.model.specs.Trees.Expression.{numeral, truth, variable, negation, binary, if_then_else}
use Rattle.model.specs.Trees.Instruction.{skip, assign, if_then, block}
use Rattle.model.specs.Standing.{NodeAt, ExpressionAt, InstructionAt, size_of_expression}
use Rattle.expressions.specs.Expressions.{Valuation}
use Rattle.waiting.specs.Waiting.{mentions, Waits, Untouched}
use Rattle.waiting.specs.Index.{Mention, OwnerOf}

operator_kind_lem : (op : Operator) → 32 ≤ kind_of op
unfolding kind_of
operator_kind_lem Conjunction = omega arith
operator_kind_lem Disjunction = omega arith
operator_kind_lem Equality = omega arith
operator_kind_lem Less = omega arith
operator_kind_lem LessOrEqual = omega arith
operator_kind_lem Sum = omega arith
operator_kind_lem Difference = omega arith
operator_kind_lem Product = omega arith
operator_kind_lem Quotient = omega arith
operator_kind_lem Remainder = omega arith
operator_kind_lem Equivalence = omega arith

pub le_or_lt : (m n : ℕ) → (m ≤ n) ⊎ (n < m)
le_or_lt zero n = inl (omega arith)
le_or_lt (suc m) zero = inr (omega arith)
le_or_lt (suc m) (suc n) = ⊎_elim (λ h. inl (omega (arith, h))) (λ h. inr (omega (arith, h))) (le_or_lt m n)

or_cases : {A : Type 0} (a b : Bool) → (a || b) ≡ true → (a ≡ true → A) → (b ≡ true → A) → A
or_cases true b h f g = f refl
or_cases false b h f g = g h

module _ (ks : List ℕ) (ps : List ℤ) where
  -- a mention of the variable among these places
  pub record Found (x from to : ℕ) : Type 0 where
    pub place : ℕ
    pub start : from ≤ place
    pub end : place < to
    pub mention : Mention ks ps x place

  wider : {x from to from' to' : ℕ} → from' ≤ from → to ≤ to' → Found x from to → Found x from' to'
  wider l u f = record { place = f.place; start = omega (arith, f.start); end = omega (arith, f.end); mention = f.mention }

  pub find_mention : (e : Expression) (x at : ℕ) → ExpressionAt ks ps e at → mentions e x ≡ true → Found x at (at + size_of_expression e)
  unfolding mentions ExpressionAt size_of_expression
  find_mention (numeral v) x at h m = absurd (false≢true m)
  find_mention (truth v) x at h m = absurd (false≢true m)
  find_mention (variable y) x at h m =
      record {
        place = at;
        start = omega arith;
        end = omega arith;
        mention = record { within = h.within; kind = h.kind; parameter = ap nat_abs h.parameter ∙ sym (eqb-true x y m) };
      }
  find_mention (negation a) x at h m = wider (omega arith) (omega arith) (find_mention a x (at + 1) h.1 m)
  find_mention (binary op a b) x at h m =
      or_cases (mentions a x) (mentions b x) m
      (λ n. wider (omega arith) (omega arith) (find_mention a x (at + 1) h.1 n))
      (λ n. wider (omega arith) (omega arith) (find_mention b x (at + 1 + size_of_expression a) h.2 n))
  find_mention (if_then_else c a b) x at h m =
      or_cases (mentions c x) (mentions a x || mentions b x) m
      (λ n. wider (omega arith) (omega arith) (find_mention c x (at + 1) h.1 n))
      (λ k. or_cases (mentions a x) (mentions b x) k
      (λ n. wider (omega arith) (omega arith) (find_mention a x (at + 1 + size_of_expression c) h.2 n))
      (λ n. wider (omega arith) (omega arith) (find_mention b x (at + 1 + size_of_expression c + size_of_expression a) h.3 n)))

  -- no node of an expression is an instruction
  node_kind : (p at : ℕ) {k : ℕ} {z : ℤ} → NodeAt ks ps at k z → 32 ≤ k → at ≤ p → p < at + 1 → 32 ≤ get_or ks p 0
  node_kind p at {k} n h l u = let e : p ≡ at = omega arith in subst (λ q. 32 ≤ get_or ks q 0) (sym e) (omega (arith, n.kind))

  pub expression_kinds : (e : Expression) (at p : ℕ) → ExpressionAt ks ps e at → at ≤ p → p < at + size_of_expression e → 32 ≤ get_or ks p 0
  unfolding ExpressionAt size_of_expression
  expression_kinds (numeral v) at p h l u = node_kind p at h (omega arith) l u
  expression_kinds (truth v) at p h l u = node_kind p at h (omega arith) l u
  expression_kinds (variable x) at p h l u = node_kind p at h (omega arith) l u
  expression_kinds (negation a) at p h l u =
      ⊎_elim (λ q. expression_kinds a (at + 1) p h.1 q (omega arith)) (λ q. node_kind p at h.0 (omega arith) l q) (le_or_lt (at + 1) p)
  expression_kinds (binary op a b) at p h l u =
      ⊎_elim
      (λ q. ⊎_elim (λ k. expression_kinds b (at + 1 + size_of_expression a) p h.2 k (omega arith)) (λ k. expression_kinds a (at + 1) p h.1 q k)
      (le_or_lt (at + 1 + size_of_expression a) p))
      (λ q. node_kind p at h.0 (operator_kind_lem op) l q) (le_or_lt (at + 1) p)
  expression_kinds (if_then_else c a b) at p h l u =
      ⊎_elim
      (λ q. ⊎_elim
      (λ k. ⊎_elim (λ j. expression_kinds b (at + 1 + size_of_expression c + size_of_expression a) p h.3 j (omega arith))
      (λ j. expression_kinds a (at + 1 + size_of_expression c) p h.2 k j) (le_or_lt (at + 1 + size_of_expression c + size_of_expression a) p))
      (λ k. expression_kinds c (at + 1) p h.1 q k) (le_or_lt (at + 1 + size_of_expression c) p))
      (λ q. node_kind p at h.0 (omega arith) l q) (le_or_lt (at + 1) p)

  owns : (e : Expression) (o p : ℕ) → ((get_or ks o 0 ≡ 17) ⊎ (get_or ks o 0 ≡ 18)) → ExpressionAt ks ps e (o + 1) → o + 1 ≤ p → p < o + 1 + size_of_expression e → OwnerOf ks p o
  owns e o p k h l u =
      record {
        before = omega arith;
        owning = λ a b. ⊎_elim a b k;
        last = λ q m n w. let g : 32 ≤ get_or ks q 0 = expression_kinds e (o + 1) q h (omega arith) (omega arith) in w (λ z. omega (arith, g, z)) (λ z. omega (arith, g, z));
      }

  -- what waits is untouched if the variables of the mentions that it owns are as they were
  pub untouched : (i : Instruction) (at : ℕ) (ρ σ τ : Valuation) → InstructionAt ks ps i at → Waits i ρ
      → ((x p : ℕ) → Mention ks ps x p → at < p → OwnerOf ks p at → σ x ≡ τ x) → Untouched i σ τ
  unfolding InstructionAt Waits Untouched
  untouched skip at ρ σ τ h w f = absurd w
  untouched (assign y e) at ρ σ τ h w f =
      λ x m. let k = find_mention e x (at + 1) h.1 m in
      f x k.place k.mention (omega (arith, k.start)) (owns e at k.place (inl h.0.kind) h.1 k.start k.end)
  untouched (if_then c i) at ρ σ τ h w f =
      λ x m. let k = find_mention c x (at + 1) h.1 m in
      f x k.place k.mention (omega (arith, k.start)) (owns c at k.place (inr h.0.kind) h.1 k.start k.end)
  untouched (block is) at ρ σ τ h w f = absurd w
