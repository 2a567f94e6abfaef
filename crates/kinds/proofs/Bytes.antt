-- What a byte tells that stands for another kind, or for none.
use mathlib.Core.Path.{◌≡◌, refl, sym, ap, ◌∙◌}
use mathlib.Core.Bool.{Bool, true, false, cond, ◌&&◌, ◌||◌}
use Prim.Native.Nat.{ℕ, ◌≤◌}
use borrow.Author.Tests.{ne_eqb, leb-true}
use lib.Dec.{eqb, leb}
use Rattle.std.specs.Prelude.{◌≢◌, Result, Ok, Err, MatchResult}
use native.Mathlib.Omega.{arith}
use Rattle.evaluation.specs.declared.Operator.TheVariants.{Equivalence}
use Rattle.kinds.specs.declared.Sort.TheVariants.{Boolean, Number}
use Rattle.kinds.specs.declared.kind.Kind.{Kind}
use Rattle.kinds.specs.declared.kind.Kind.TheVariants as kind
use Rattle.kinds.specs.declared.kind.UnknownKind.{UnknownKind}
use Rattle.kinds.specs.Kinds.{code_of, Decodes, operand_sort, operator_of}

module _ (byte : ℕ) (none : (k : Kind) → code_of k ≡ byte → ⊥) where
  other : (k : Kind) → eqb byte (code_of k) ≡ false
  other k = ne_eqb byte (code_of k) (λ e. none k (sym e))

  pub no_operator : operator_of byte ≡ Equivalence
  unfolding operator_of
  no_operator = rw (
    other kind.Conjunction,
    other kind.Disjunction,
    other kind.Equality,
    other kind.Less,
    other kind.LessOrEqual,
    other kind.Sum,
    other kind.Difference,
    other kind.Product,
    other kind.Quotient,
    other kind.Remainder,
  )

  pub no_operands : operand_sort byte ≡ Number
  unfolding operand_sort
  no_operands = by (leb 35 byte) (leb byte 37) refl refl
    where
      by : (t u : Bool) → leb 35 byte ≡ t → leb byte 37 ≡ u → cond (t && u || eqb byte 47) Boolean Number ≡ Number
      by true true e f =
          let a : byte ≢ 35 = λ q. none kind.Negation (sym q) in
          let b : byte ≢ 36 = λ q. none kind.Conjunction (sym q) in
          let d : byte ≢ 37 = λ q. none kind.Disjunction (sym q) in
          let l : 35 ≤ byte = leb-true 35 byte e in
          let m : byte ≤ 37 = leb-true byte 37 f in
          absurd (omega arith)
      by true false e f = rw (other kind.Equivalence) refl
      by false u e f = rw (other kind.Equivalence) refl

-- a rule over bytes, answered by the kind that the byte stands for, or by none
pub by_kind : {A : Type 0} (rule : ℕ → A) (none : A) (byte : ℕ) → (((k : Kind) → code_of k ≢ byte) → rule byte ≡ none)
    → (r : Result Kind UnknownKind) → Decodes byte r → {answer : A} → MatchResult r (λ k. answer ≡ rule (code_of k)) (λ _. answer ≡ none) → answer ≡ rule byte
by_kind rule none byte n (Ok k) d m = m ∙ ap rule d
by_kind rule none byte n (Err e) d m = m ∙ sym (n d.1)

-- which kind a byte does not stand for, by the kind that it was decoded to
pub other_kind : (byte : ℕ) (r : Result Kind UnknownKind) (found : Kind) → Decodes byte r → r ≡ Ok found → (k : Kind) → eqb (code_of found) (code_of k) ≡ false → eqb byte (code_of k) ≡ false
other_kind byte r found d e k differs = ap (λ b. eqb b (code_of k)) (sym (rw e at d)) ∙ differs

-- or by none
pub no_kind : (byte : ℕ) (r : Result Kind UnknownKind) (unknown : UnknownKind) → Decodes byte r → r ≡ Err unknown → (k : Kind) → eqb byte (code_of k) ≡ false
no_kind byte r unknown d e k = other _ (rw e at d).1 k
