-- What the walk finds stands among the nodes, has the wanted sorts and is not deeper than the depth that was left.
use mathlib.Core.Path.{◌≡◌, refl, sym, ap, ◌∙◌, subst}
use mathlib.Core.Bool.{Bool, true, false, false≢true, cond, not, ◌&&◌, ◌||◌}
use mathlib.Core.List.{List}
use Prim.Native.Nat.{ℕ, zero, suc, ◌+◌, ◌≤◌, ◌<◌}
use native.Mathlib.Omega.{arith}
use borrow.Author.Tests.{ltb-true, leb-true, eqb-true}
use lib.Dec.{T, eqb, leb, ltb}
use lib.IntN.{ℤ, pos, negsuc, nat_abs}
use lib.Signed.{non_neg}
use lib.ListN.{length, get_or}
use Rattle.evaluation.specs.declared.Operator.{Operator}
use Rattle.evaluation.specs.Numbers.{eq_z, representable}
use Rattle.evaluation.proofs.Laws.{eq_z_true}
use Rattle.kinds.specs.Kinds.{row_of, place_of, children_of, result_of, operand_sort, kind_of}
use Rattle.std.specs.Prelude.{slice_get, Option, Some}
use Rattle.kinds.specs.declared.Sort.{Sort}
use Rattle.kinds.specs.declared.Place.TheVariants.{Instruction as InstructionPlace, Expression as ExpressionPlace}
use Rattle.kinds.proofs.Equality.{one_wanted}
use Rattle.kinds.specs.Kinds.{boolean_sort}
use Rattle.kinds.specs.Sameness.{same_sort}
use Rattle.model.specs.Trees.{Expression, Instruction, Instructions, count, depth_of_expression, depth_of, depth_of_all}
use Rattle.model.specs.Trees.Instruction.{block}
use Rattle.model.specs.Walk.{Walk, Scope, branches_at, parts_at, instruction_at, and_then, leaf, operands_at, expression_at}
use Rattle.syntax.specs.Readings.{stands_at, is_target, instruction_refusal, instruction_fits, is_of_sort, expression_refusal, expression_allowed, expression_fits, kind_at, parameter_at}
use Rattle.model.specs.Walk.Walk.{refused, found}
use Rattle.model.specs.Check.{complete, expression_given, max_depth}
use Rattle.results.specs.declared.refusal.Refusal.TheVariants.{WrongLength, NodesLeftOver}
use Rattle.model.specs.WellFormed.{Sorted, Scoped, AllScoped}
use Rattle.model.specs.Standing.{NodeAt, ExpressionAt, InstructionAt, InstructionsAt, size_of_expression, size_of, size_of_all}
use Rattle.model.proofs.KindCases.{both, standing_place, ExpressionKind, expression_kind, operator_row, InstructionKind, instruction_kind}
use Rattle.model.proofs.KindCases.ExpressionKind.{is_numeral, is_truth as is_truth_kind, is_variable, is_negation, is_binary, is_if_then_else}
use Rattle.model.proofs.KindCases.InstructionKind.{is_skip, is_assign, is_if_then, is_block}
use Rattle.model.proofs.WalkClaims.{Holds, holds_found, holds_then, holds_unless, Due, no_refusal}

-- every parameter is a 32-bit number
abbrev pub AllRepresentable : List ℤ → Type 0
AllRepresentable ps = (i : ℕ) → T (representable (get_or ps i (pos 0)))

-- what a walk for an expression of the wanted sort tells of the expression that it finds
pub record ExpressionFound (ks : List ℕ) (ps : List ℤ) (sorts : List Sort) (left : ℕ) (wanted : Option Sort) (at : ℕ) (e : Expression) (next : ℕ) : Type 0 where
  pub stands : ExpressionAt ks ps e at
  pub after : next ≡ at + size_of_expression e
  pub depth : depth_of_expression e ≤ left
  pub sorted : AllRepresentable ps → Sorted sorts wanted e

-- ---- what the rules for 6 and 7 tell

pub holds_T : {b : Bool} → b ≡ true → T b
holds_T e = subst T (sym e) tt

result : (wanted : Option Sort) (k : ℕ) (place a b : Bool) → a ≡ false → b ≡ false → (place && (a || b || same_sort (result_of k) wanted)) ≡ true → wanted ≡ result_of k
result wanted k true false false p q e = sym (one_wanted (result_of k) wanted e)
result wanted k true false true p q e = absurd (false≢true (sym q))
result wanted k true true b p q e = absurd (false≢true (sym p))
result wanted k false a b p q e = absurd (false≢true e)

-- a kind with a sort of its own has the wanted one
pub allowed_sort : (wanted : Option Sort) (k : ℕ) → eqb k 34 ≡ false → eqb k 46 ≡ false → expression_allowed wanted k ≡ true → wanted ≡ result_of k
unfolding expression_allowed row_of
allowed_sort wanted k p q e = result wanted k (stands_at ExpressionPlace k) (eqb k 34) (eqb k 46) p q e

pub allowed_place : (wanted : Option Sort) (k : ℕ) → expression_allowed wanted k ≡ true → place_of k ≡ ExpressionPlace
unfolding expression_allowed
allowed_place wanted k e = standing_place ExpressionPlace k (both (stands_at ExpressionPlace k) (eqb k 34 || eqb k 46 || same_sort (row_of k).result wanted) e).0

-- a kind other than 32, 33 and 34 has parameter 0
pub fits_zero : (sorts : List Sort) (wanted : Option Sort) (k : ℕ) (p : ℤ) → eqb k 32 ≡ false → eqb k 33 ≡ false → eqb k 34 ≡ false
    → expression_fits sorts wanted k p ≡ true → p ≡ pos 0
unfolding expression_fits
fits_zero sorts wanted k p a b c e =
    let h : eq_z p (pos 0) ≡ true = rw (a, b, c) at e in eq_z_true p (pos 0) h

pub natural : (p : ℤ) → non_neg p ≡ true → p ≡ pos (nat_abs p)
natural (pos n) e = refl
natural (negsuc n) e = absurd (false≢true e)

-- the number of a variable of the wanted sort
pub record OfSort (sorts : List Sort) (wanted : Option Sort) (p : ℤ) : Type 0 where
  pub number : p ≡ pos (nat_abs p)
  pub within : nat_abs p < length sorts
  pub sort : slice_get sorts (nat_abs p) ≡ wanted

pub of_sort : (sorts : List Sort) (wanted : Option Sort) (p : ℤ) → is_of_sort sorts wanted p ≡ true → OfSort sorts wanted p
of_sort sorts wanted p e =
    let h = both (non_neg p) (ltb (nat_abs p) (length sorts) && same_sort (slice_get sorts (nat_abs p)) wanted) e in
    let l = both (ltb (nat_abs p) (length sorts)) (same_sort (slice_get sorts (nat_abs p)) wanted) h.1 in
    record { number = natural p h.0; within = ltb-true (nat_abs p) (length sorts) l.0; sort = one_wanted (slice_get sorts (nat_abs p)) wanted l.1 }

-- ---- expressions

module _ (ks : List ℕ) (ps : List ℤ) (sorts : List Sort) where
  node_zero : (at k : ℕ) (p : ℤ) → p ≡ pos 0 → NodeAt ks ps at k p → NodeAt ks ps at k (pos 0)
  node_zero at k p e n = subst (NodeAt ks ps at k) e n

  module _ (child : Option Sort → ℕ → Walk Expression) (left : ℕ)
      (finds : (wanted : Option Sort) (at : ℕ) → Holds (ExpressionFound ks ps sorts left wanted at) (child wanted at))
      (wanted : Option Sort) (at : ℕ) (p : ℤ) (fits32 : AllRepresentable ps → T (representable p)) where
    -- whatever is found after a node of this kind
    abbrev Claim : ℕ → Type 0
    Claim k =
        NodeAt ks ps at k p → expression_allowed wanted k ≡ true → expression_fits sorts wanted k p ≡ true
        → Holds (ExpressionFound ks ps sorts (suc left) wanted at) (operands_at ks ps child wanted k p (at + 1) (children_of k))

    -- an operand, and what follows it
    operand_then : (w : Option Sort) (next : ℕ) (rest : Expression → ℕ → Walk Expression)
        → ((e : Expression) (last : ℕ) → ExpressionFound ks ps sorts left w next e last → Holds (ExpressionFound ks ps sorts (suc left) wanted at) (rest e last))
        → Holds (ExpressionFound ks ps sorts (suc left) wanted at) (and_then (child w next) rest)
    operand_then w next rest f =
        holds_then (ExpressionFound ks ps sorts left w next) (ExpressionFound ks ps sorts (suc left) wanted at) (child w next) rest (finds w next) f

    numeral_found : Claim 32
    unfolding Holds operands_at children_of leaf ExpressionAt size_of_expression depth_of_expression Sorted result_of
    numeral_found n a f =
        record { stands = n; after = refl; depth = omega arith; sorted = λ h. (allowed_sort wanted 32 refl refl a, fits32 h) }

    truth_found : Claim 33
    unfolding Holds operands_at children_of leaf ExpressionAt size_of_expression depth_of_expression Sorted result_of expression_fits
    truth_found n a f =
        record { stands = n; after = refl; depth = omega arith; sorted = λ h. (allowed_sort wanted 33 refl refl a, holds_T f) }

    variable_found : Claim 34
    unfolding Holds operands_at children_of leaf ExpressionAt size_of_expression depth_of_expression Sorted expression_fits
    variable_found n a f =
        let o = of_sort sorts wanted p f in
        record { stands = subst (NodeAt ks ps at 34) o.number n; after = refl; depth = omega arith; sorted = λ h. (o.within, o.sort) }

    negation_found : Claim 35
    unfolding Holds operands_at children_of ExpressionAt size_of_expression depth_of_expression Sorted result_of operand_sort
    negation_found n a f =
        operand_then boolean_sort (at + 1) _
        (λ x next g.
        record {
          stands = (node_zero at 35 p (fits_zero sorts wanted 35 p refl refl refl f) n, g.stands);
          after = omega (arith, g.after);
          depth = omega (arith, g.depth);
          sorted = λ h. (allowed_sort wanted 35 refl refl a, g.sorted h);
        })

    binary_found : (op : Operator) → Claim (kind_of op)
    unfolding Holds operands_at ExpressionAt size_of_expression depth_of_expression Sorted
    binary_found op n a f =
        let row = operator_row op in
        rw (row.children, row.operator)
        (operand_then (Some (operand_sort (kind_of op))) (at + 1) _
        (λ x second g.
        operand_then (Some (operand_sort (kind_of op))) second _
        (λ y next l.
        record {
          stands = (
            node_zero at (kind_of op) p (fits_zero sorts wanted (kind_of op) p row.no_numeral row.no_truth row.no_variable f) n,
            g.stands,
            subst (ExpressionAt ks ps y) g.after l.stands,
          );
          after = omega (arith, g.after, l.after);
          depth = omega (arith, g.depth, l.depth);
          sorted = λ h. (allowed_sort wanted (kind_of op) row.no_variable row.no_conditional a, g.sorted h, l.sorted h);
        })))

    conditional_found : Claim 46
    unfolding Holds operands_at children_of ExpressionAt size_of_expression depth_of_expression Sorted
    conditional_found n a f =
        operand_then boolean_sort (at + 1) _
        (λ c second g.
        operand_then wanted second _
        (λ x third l.
        operand_then wanted third _
        (λ y next m.
        record {
          stands = (
            node_zero at 46 p (fits_zero sorts wanted 46 p refl refl refl f) n,
            g.stands,
            subst (ExpressionAt ks ps x) g.after l.stands,
            subst (ExpressionAt ks ps y) (omega (arith, g.after, l.after)) m.stands,
          );
          after = omega (arith, g.after, l.after, m.after);
          depth = omega (arith, g.depth, l.depth, m.depth);
          sorted = λ h. (g.sorted h, l.sorted h, m.sorted h);
        })))

    operands_found : (k : ℕ) → ExpressionKind k → Claim k
    operands_found k (is_numeral e) = subst Claim (sym e) numeral_found
    operands_found k (is_truth_kind e) = subst Claim (sym e) truth_found
    operands_found k (is_variable e) = subst Claim (sym e) variable_found
    operands_found k (is_negation e) = subst Claim (sym e) negation_found
    operands_found k (is_binary op e) = subst Claim (sym e) (binary_found op)
    operands_found k (is_if_then_else e) = subst Claim (sym e) conditional_found

module _ (ks : List ℕ) (ps : List ℤ) (long : length ps ≡ length ks) where
  -- the node that is due stands there
  pub due_node : {allowed : ℕ → Bool} {fits : ℕ → ℤ → Bool} {left at : ℕ} → Due ks ps allowed fits left at → NodeAt ks ps at (kind_at ks ps at) (parameter_at ks ps at)
  due_node d = record { within = d.within; within_parameters = omega (arith, d.within); kind = refl; parameter = refl }

  pub expression_found : (sorts : List Sort) (left : ℕ) (wanted : Option Sort) (at : ℕ) → Holds (ExpressionFound ks ps sorts left wanted at) (expression_at ks ps sorts left wanted at)
  unfolding Holds expression_at expression_refusal
  expression_found sorts zero wanted at = holds_unless (ExpressionFound ks ps sorts zero wanted at) (expression_refusal ks ps sorts zero wanted at) _ (λ e. tt)
  expression_found sorts (suc left) wanted at =
      holds_unless (ExpressionFound ks ps sorts (suc left) wanted at) (expression_refusal ks ps sorts (suc left) wanted at) _
      (λ e.
      let d = no_refusal ks ps (expression_allowed wanted) (expression_fits sorts wanted) (suc left) at e in
      operands_found ks ps sorts (λ w next. expression_at ks ps sorts left w next) left (λ w next. expression_found sorts left w next)
      wanted at (parameter_at ks ps at) (λ r. r at) (kind_at ks ps at) (expression_kind (kind_at ks ps at) (allowed_place wanted (kind_at ks ps at) d.allows))
      (due_node d) d.allows d.suits)

-- ---- instructions

pub record InstructionFound (ks : List ℕ) (ps : List ℤ) (s : Scope) (left at : ℕ) (i : Instruction) (next : ℕ) : Type 0 where
  pub stands : InstructionAt ks ps i at
  pub after : next ≡ at + size_of i
  pub depth : depth_of i ≤ left
  pub scoped : AllRepresentable ps → Scoped i s

pub record BranchesFound (ks : List ℕ) (ps : List ℤ) (s : Scope) (left n at : ℕ) (is : Instructions) (next : ℕ) : Type 0 where
  pub stands : InstructionsAt ks ps is at
  pub after : next ≡ at + size_of_all is
  pub counted : count is ≡ n
  pub depth : depth_of_all is ≤ left
  pub scoped : AllRepresentable ps → AllScoped is s

-- a number from `from` up to `past`
pub record Target (from past : ℕ) (p : ℤ) : Type 0 where
  pub number : p ≡ pos (nat_abs p)
  pub above : from ≤ nat_abs p
  pub below : nat_abs p < past

pub target : (from past : ℕ) (p : ℤ) → is_target from past p ≡ true → Target from past p
target from past p e =
    let h = both (non_neg p) (leb from (nat_abs p) && ltb (nat_abs p) past) e in
    let l = both (leb from (nat_abs p)) (ltb (nat_abs p) past) h.1 in
    record { number = natural p h.0; above = leb-true from (nat_abs p) l.0; below = ltb-true (nat_abs p) past l.1 }

module _ (ks : List ℕ) (ps : List ℤ) (s : Scope) (left : ℕ) (child : ℕ → Walk Instruction)
    (finds : (at : ℕ) → Holds (InstructionFound ks ps s left at) (child at)) where
  branches_found : (n at : ℕ) → Holds (BranchesFound ks ps s left n at) (branches_at ks ps child n at)
  unfolding Holds branches_at InstructionsAt size_of_all depth_of_all count AllScoped
  branches_found zero at = record { stands = tt; after = omega arith; counted = refl; depth = omega arith; scoped = λ h. tt }
  branches_found (suc n) at =
      holds_then (InstructionFound ks ps s left at) (BranchesFound ks ps s left (suc n) at) (child at) _ (finds at)
      (λ i next g.
      holds_then (BranchesFound ks ps s left n next) (BranchesFound ks ps s left (suc n) at) (branches_at ks ps child n next) _ (branches_found n next)
      (λ is last l.
      record {
        stands = (g.stands, subst (InstructionsAt ks ps is) g.after l.stands);
        after = omega (arith, g.after, l.after);
        counted = ap suc l.counted;
        depth = omega (arith, g.depth, l.depth);
        scoped = λ h. (g.scoped h, l.scoped h);
      }))

  module _ (expression : Option Sort → ℕ → Walk Expression)
      (yields : (wanted : Option Sort) (at : ℕ) → Holds (ExpressionFound ks ps s.sorts left wanted at) (expression wanted at)) (at : ℕ) (p : ℤ) where
    abbrev Part : ℕ → Type 0
    Part k =
        NodeAt ks ps at k p → instruction_fits s.from s.past k p ≡ true
        → Holds (InstructionFound ks ps s (suc left) at)
        (cond (eqb k 19)
        (and_then (branches_at ks ps child (nat_abs p) (at + 1)) (λ is next. found (block is) next))
        (parts_at ks ps expression child (slice_get s.sorts (nat_abs p)) p (at + 1) (children_of k)))

    -- an expression, and what follows it
    expression_then : (w : Option Sort) (next : ℕ) (rest : Expression → ℕ → Walk Instruction)
        → ((e : Expression) (last : ℕ) → ExpressionFound ks ps s.sorts left w next e last → Holds (InstructionFound ks ps s (suc left) at) (rest e last))
        → Holds (InstructionFound ks ps s (suc left) at) (and_then (expression w next) rest)
    expression_then w next rest f =
        holds_then (ExpressionFound ks ps s.sorts left w next) (InstructionFound ks ps s (suc left) at) (expression w next) rest (yields w next) f

    skip_found : Part 16
    unfolding Holds parts_at children_of InstructionAt size_of depth_of Scoped instruction_fits
    skip_found n f =
        record { stands = subst (NodeAt ks ps at 16) (eq_z_true p (pos 0) f) n; after = refl; depth = omega arith; scoped = λ h. tt }

    assign_found : Part 17
    unfolding Holds parts_at children_of InstructionAt size_of depth_of Scoped instruction_fits
    assign_found n f =
        expression_then (slice_get s.sorts (nat_abs p)) (at + 1) _
        (λ e next g.
        let t = target s.from s.past p f in
        record {
          stands = (subst (NodeAt ks ps at 17) t.number n, g.stands);
          after = omega (arith, g.after);
          depth = omega (arith, g.depth);
          scoped = λ h. (t.above, t.below, g.sorted h);
        })

    if_found : Part 18
    unfolding Holds parts_at children_of InstructionAt size_of depth_of Scoped instruction_fits
    if_found n f =
        expression_then boolean_sort (at + 1) _
        (λ c second g.
        holds_then (InstructionFound ks ps s left second) (InstructionFound ks ps s (suc left) at) (child second) _ (finds second)
        (λ i next l.
        record {
          stands = (subst (NodeAt ks ps at 18) (eq_z_true p (pos 0) f) n, g.stands, subst (InstructionAt ks ps i) g.after l.stands);
          after = omega (arith, g.after, l.after);
          depth = omega (arith, g.depth, l.depth);
          scoped = λ h. (g.sorted h, l.scoped h);
        }))

    block_found : Part 19
    unfolding Holds InstructionAt size_of depth_of Scoped instruction_fits
    block_found n f =
        holds_then (BranchesFound ks ps s left (nat_abs p) (at + 1)) (InstructionFound ks ps s (suc left) at)
        (branches_at ks ps child (nat_abs p) (at + 1)) _ (branches_found (nat_abs p) (at + 1))
        (λ is next g.
        record {
          stands = (subst (NodeAt ks ps at 19) (natural p f ∙ ap pos (sym g.counted)) n, g.stands);
          after = omega (arith, g.after);
          depth = omega (arith, g.depth);
          scoped = g.scoped;
        })

    part_found : (k : ℕ) → InstructionKind k → Part k
    part_found k (is_skip e) = subst Part (sym e) skip_found
    part_found k (is_assign e) = subst Part (sym e) assign_found
    part_found k (is_if_then e) = subst Part (sym e) if_found
    part_found k (is_block e) = subst Part (sym e) block_found

module _ (ks : List ℕ) (ps : List ℤ) (long : length ps ≡ length ks) where
  pub instruction_found : (s : Scope) (left at : ℕ) → Holds (InstructionFound ks ps s left at) (instruction_at ks ps s left at)
  unfolding Holds instruction_at instruction_refusal
  instruction_found s zero at = holds_unless (InstructionFound ks ps s zero at) (instruction_refusal ks ps s.from s.past zero at) _ (λ e. tt)
  instruction_found s (suc left) at =
      holds_unless (InstructionFound ks ps s (suc left) at) (instruction_refusal ks ps s.from s.past (suc left) at) _
      (λ e.
      let d = no_refusal ks ps (stands_at InstructionPlace) (instruction_fits s.from s.past) (suc left) at e in
      part_found ks ps s left (λ next. instruction_at ks ps s left next) (λ next. instruction_found s left next)
      (λ w next. expression_at ks ps s.sorts left w next) (λ w next. expression_found ks ps long s.sorts left w next)
      at (parameter_at ks ps at) (kind_at ks ps at) (instruction_kind (kind_at ks ps at) (standing_place InstructionPlace (kind_at ks ps at) d.allows))
      (due_node ks ps long d) d.suits)

-- ---- an expression handed outside a model

-- one that the check accepts stands at the first node
pub given_stands : (ks : List ℕ) (ps : List ℤ) (sorts : List Sort) (wanted : Option Sort) {e : Expression} {next : ℕ}
    → expression_given ks ps sorts wanted ≡ found e next → ExpressionAt ks ps e 0
unfolding expression_given complete Holds
given_stands ks ps sorts wanted h = holds_found Stands (lengths (eqb (length ks) (length ps)) refl) h
  where
    Stands : Expression → ℕ → Type 0
    Stands e next = ExpressionAt ks ps e 0

    ended : (e : Expression) (next : ℕ) → ExpressionAt ks ps e 0 → (b : Bool) → Holds Stands (cond b (refused NodesLeftOver) (found e next))
    ended e next s true = tt
    ended e next s false = s

    lengths : (b : Bool) → eqb (length ks) (length ps) ≡ b
        → Holds Stands (cond (not b) (refused WrongLength) (complete (length ks) (expression_at ks ps sorts max_depth wanted 0)))
    lengths false e = tt
    lengths true e =
        holds_then (ExpressionFound ks ps sorts max_depth wanted 0) Stands (expression_at ks ps sorts max_depth wanted 0) _
        (expression_found ks ps (sym (eqb-true (length ks) (length ps) e)) sorts max_depth wanted 0) (λ e next f. ended e next f.stands (ltb next (length ks)))
