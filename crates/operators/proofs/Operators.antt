-- The operators at each form of their operands, with values as they are read back from their bits.
use mathlib.Core.Path.{◌≡◌, refl, sym, ap, ◌∙◌}
use mathlib.Core.Bool.{Bool, true, false, cond, ◌||◌, or-false, or-true}
use Prim.Native.Nat.{◌<◌, ◌^◌}
use lib.IntN.{ℤ}
use lib.Signed.{mag}
use mir.Syntax.{w32}
use mir.Val.{of_z, SFits}
use Rattle.evaluation.specs.declared.Evaluation.{Evaluation}
use Rattle.evaluation.specs.declared.Evaluation.TheVariants.{Unknown, Failed, Value}
use Rattle.evaluation.specs.declared.Manner.{Manner}
use Rattle.evaluation.specs.declared.Manner.TheVariants.{ZeroDivisor, TooLarge}
use Rattle.evaluation.specs.declared.Operator.{Operator}
use Rattle.evaluation.specs.declared.Operator.TheVariants.{Conjunction, Disjunction, Equality, Less, LessOrEqual, Sum, Difference, Product, Quotient, Remainder, Equivalence}
use Rattle.evaluation.specs.Numbers.{eq_z}
use Rattle.evaluation.specs.Meaning.{operated, decides, decisive, decision, is_unknown, same_manner, failed_in, number, calculated, negated, agree, chosen, is_true}
use Rattle.evaluation.proofs.Laws.{cond_keeps}
use Rattle.evaluation.proofs.Signed.{stored, read_back, read_one, equal_bits, other_bits}

-- no other operator has a deciding operand
pub no_other_decides : (op : Operator) (v : ℤ) → (op ≡ Conjunction → ⊥) → (op ≡ Disjunction → ⊥) → decisive op v ≡ false
unfolding decisive
no_other_decides Conjunction v n m = absurd (n refl)
no_other_decides Disjunction v n m = absurd (m refl)
no_other_decides Equality v n m = refl
no_other_decides Less v n m = refl
no_other_decides LessOrEqual v n m = refl
no_other_decides Sum v n m = refl
no_other_decides Difference v n m = refl
no_other_decides Product v n m = refl
no_other_decides Quotient v n m = refl
no_other_decides Remainder v n m = refl
no_other_decides Equivalence v n m = refl

-- without a value, not hands its operand on
pub handed_on : (a : Evaluation) → ((v : ℤ) → a ≡ Value v → ⊥) → a ≡ negated a
unfolding negated
handed_on Unknown n = refl
handed_on (Failed m) n = refl
handed_on (Value v) n = absurd (n v refl)

-- where the first operand is too large, the other's manner wins
pub other_manner : (op : Operator) (m : Manner) → operated op (Failed TooLarge) (Failed m) ≡ Failed m
unfolding operated decides is_unknown failed_in same_manner
other_manner op ZeroDivisor = refl
other_manner op TooLarge = refl

-- a value decides exactly if it is the one that decides
module _ (op : Operator) {d v : ℤ} (h : SFits w32 d) (g : SFits w32 v) (told : (d ≡ decision op) × ((v : ℤ) → decisive op v ≡ eq_z v d)) where
  pub decides_at : of_z w32 v ≡ of_z w32 d → decisive op v ≡ true
  decides_at e = told.1 v ∙ equal_bits w32 g h e

  pub leaves_at : (of_z w32 v ≡ of_z w32 d → ⊥) → decisive op v ≡ false
  leaves_at n = told.1 v ∙ other_bits w32 g h n

-- and is then the answer
pub decided : (op : Operator) {d : ℤ} → SFits w32 d → d ≡ decision op → Value (stored d) ≡ Value (decision op)
decided op {d} h e = read_one Value h ∙ ap Value e

-- both are values: one of them decides, or none
module _ (op : Operator) (x y : ℤ) where
  pub left_decides : decisive op x ≡ true → Value (decision op) ≡ operated op (Value x) (Value y)
  unfolding operated decides
  left_decides e = rw e

  pub right_decides : decisive op y ≡ true → Value (decision op) ≡ operated op (Value x) (Value y)
  unfolding operated decides
  right_decides e = rw (e, or-true (decisive op x))

  pub neither_decides : decisive op x ≡ false → decisive op y ≡ false → calculated op x y ≡ operated op (Value x) (Value y)
  unfolding operated decides is_unknown failed_in number
  neither_decides e f = rw (e, f)

-- any two evaluations
module _ (op : Operator) {a b : Evaluation} where
  pub unknown_other : (e : Evaluation) → a ≡ Unknown → ((v : ℤ) → e ≡ Value v → ⊥) → b ≡ e → Unknown ≡ operated op a b
  unfolding operated decides is_unknown
  unknown_other Unknown p n q = rw (p, q)
  unknown_other (Failed m) p n q = rw (p, q)
  unknown_other (Value v) p n q = absurd (n v refl)

  pub failed_unknown : {m : Manner} → a ≡ Failed m → b ≡ Unknown → Unknown ≡ operated op a b
  unfolding operated decides is_unknown
  failed_unknown p q = rw (p, q)

  pub failed_failed : {m n o : Manner} → a ≡ Failed m → b ≡ Failed n → operated op (Failed m) (Failed n) ≡ Failed o → Failed o ≡ operated op a b
  failed_failed p q e = sym e ∙ rw (p, q)

  module _ {r : Evaluation} {v : ℤ} (h : mag v < 2 ^ 31) where
    pub unknown_value : a ≡ Unknown → b ≡ Value v
        → r ≡ cond (decisive op (stored v)) (Value (decision op)) Unknown → r ≡ operated op a b
    unfolding operated decides is_unknown
    unknown_value p q e = e ∙ rw (p, q, read_back v h)

    pub failed_value : (m : Manner) → a ≡ Failed m → b ≡ Value v
        → r ≡ cond (decisive op (stored v)) (Value (decision op)) (Failed m) → r ≡ operated op a b
    unfolding operated decides is_unknown failed_in same_manner
    failed_value ZeroDivisor p q e = e ∙ rw (p, q, read_back v h)
    failed_value TooLarge p q e = e ∙ rw (p, q, read_back v h)

    pub value_unknown : a ≡ Value v → b ≡ Unknown
        → r ≡ cond (decisive op (stored v)) (Value (decision op)) Unknown → r ≡ operated op a b
    unfolding operated decides is_unknown
    value_unknown p q e = e ∙ rw (p, q, read_back v h, or-false (decisive op v))

    pub value_failed : (m : Manner) → a ≡ Value v → b ≡ Failed m
        → r ≡ cond (decisive op (stored v)) (Value (decision op)) (Failed m) → r ≡ operated op a b
    unfolding operated decides is_unknown failed_in same_manner
    value_failed ZeroDivisor p q e = e ∙ rw (p, q, read_back v h, or-false (decisive op v))
    value_failed TooLarge p q e = e ∙ rw (p, q, read_back v h, or-false (decisive op v))

  pub value_value : {r : Evaluation} {x y : ℤ} → mag x < 2 ^ 31 → mag y < 2 ^ 31 → a ≡ Value x → b ≡ Value y
      → r ≡ operated op (Value (stored x)) (Value (stored y)) → r ≡ operated op a b
  value_value {x} {y} f g p q e = e ∙ rw (p, q, read_back x f, read_back y g)

-- ---- 46

-- what `undecided` tells
abbrev pub Undecided : Evaluation → Evaluation → Evaluation → Evaluation → Type 0
Undecided a b otherwise r = r ≡ cond (agree a b) a (cond (is_unknown a || is_unknown b) Unknown otherwise)

-- the first branch failed
pub failed_undecided : (otherwise : Evaluation) {a : Evaluation} {m : Manner} (b : Evaluation) → a ≡ Failed m → (b ≡ Unknown → ⊥) → Undecided a b otherwise otherwise
unfolding agree is_unknown
failed_undecided otherwise Unknown p n = absurd (n refl)
failed_undecided otherwise (Failed n) p d = rw p
failed_undecided otherwise (Value v) p n = rw p

-- both branches are values
module _ (otherwise : Evaluation) {a b : Evaluation} {x y : ℤ} (f : mag x < 2 ^ 31) (g : mag y < 2 ^ 31) (p : a ≡ Value x) (q : b ≡ Value y) where
  pub values_agree : of_z w32 x ≡ of_z w32 y → Undecided a b otherwise (Value (stored x))
  unfolding agree
  values_agree e = rw (p, q, read_back x f, equal_bits w32 (record { sfits = f }) (record { sfits = g }) e)

  pub values_differ : (of_z w32 x ≡ of_z w32 y → ⊥) → Undecided a b otherwise otherwise
  unfolding agree is_unknown
  values_differ n = rw (p, q, other_bits w32 (record { sfits = f }) (record { sfits = g }) n)

-- each form of the condition
module _ (a b : Evaluation) {c r : Evaluation} where
  pub unknown_chosen : c ≡ Unknown → Undecided a b Unknown r → r ≡ chosen c a b
  unfolding chosen
  unknown_chosen p e = e ∙ rw (p, cond_keeps (λ x. x ≡ Unknown) (is_unknown a || is_unknown b) Unknown Unknown refl refl)

  pub failed_chosen : {m : Manner} → c ≡ Failed m → Undecided a b (Failed m) r → r ≡ chosen c a b
  unfolding chosen
  failed_chosen p e = e ∙ rw p

module _ (a b : Evaluation) {c : Evaluation} {v : ℤ} {t : Bool} (p : c ≡ Value v) (test : t ≡ is_true c) where
  pub first_chosen : t ≡ true → a ≡ chosen c a b
  unfolding chosen is_true
  first_chosen e = rw (p, sym (rw p at test) ∙ e)

  pub second_chosen : t ≡ false → b ≡ chosen c a b
  unfolding chosen is_true
  second_chosen e = rw (p, sym (rw p at test) ∙ e)
