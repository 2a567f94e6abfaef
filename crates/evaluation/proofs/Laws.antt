-- The laws of specs/Laws.antt.
use mathlib.Core.Path.{◌≡◌, refl, sym, ap, ◌∙◌}
use mathlib.Core.Bool.{Bool, true, false, false≢true, ◌||◌, cond, or_comm}
use Prim.Native.Nat.{ℕ, zero, suc}
use borrow.Author.Tests.{eq-eqb, eqb-true}
use lib.Dec.{eqb, eqb-zero-suc, eqb-suc-zero, eqb-suc-suc}
use lib.IntN.{ℤ, pos, negsuc, +ℤ_comm, *ℤ_comm}
use Rattle.evaluation.specs.declared.Evaluation.{Evaluation}
use Rattle.evaluation.specs.declared.Evaluation.TheVariants.{Unknown, Failed, Value}
use Rattle.evaluation.specs.declared.Manner.{Manner}
use Rattle.evaluation.specs.declared.Manner.TheVariants.{ZeroDivisor, TooLarge}
use Rattle.evaluation.specs.declared.Operator.{Operator}
use Rattle.evaluation.specs.declared.Operator.TheVariants.{Conjunction, Disjunction, Equality, Less, LessOrEqual, Sum, Difference, Product, Quotient, Remainder, Equivalence}
use Rattle.evaluation.specs.Numbers.{checked, eq_z, boolean}
use Rattle.evaluation.specs.Meaning.{operated, negated, chosen, symmetric, decides, decisive, is_unknown, same_manner, failed_in, number, calculated, divided, agree}
use Rattle.evaluation.specs.Laws.{EndsExact, OperandsExchange, Grows, OperatorsGrow, ZeroDivides, MannersPass}
use Rattle.evaluation.specs.Laws.Grows.{stays, known}

pub ends_exact : EndsExact
unfolding checked
ends_exact = (refl, refl, refl, refl)

-- ---- equality of numbers

eqb_comm : (m n : ℕ) → eqb m n ≡ eqb n m
eqb_comm zero zero = refl
eqb_comm zero (suc n) = eqb-zero-suc n ∙ sym (eqb-suc-zero n)
eqb_comm (suc m) zero = eqb-suc-zero m ∙ sym (eqb-zero-suc m)
eqb_comm (suc m) (suc n) = eqb-suc-suc m n ∙ eqb_comm m n ∙ sym (eqb-suc-suc n m)

pub eq_z_comm : (a b : ℤ) → eq_z a b ≡ eq_z b a
unfolding eq_z
eq_z_comm (pos a) (pos b) = eqb_comm a b
eq_z_comm (pos a) (negsuc b) = refl
eq_z_comm (negsuc a) (pos b) = refl
eq_z_comm (negsuc a) (negsuc b) = eqb_comm a b

-- `eq_z` is true exactly for equal numbers
pub eq_z_refl : (a : ℤ) → eq_z a a ≡ true
unfolding eq_z
eq_z_refl (pos a) = eq-eqb a a refl
eq_z_refl (negsuc a) = eq-eqb a a refl

pub eq_z_true : (a b : ℤ) → eq_z a b ≡ true → a ≡ b
unfolding eq_z
eq_z_true (pos a) (pos b) e = ap pos (eqb-true a b e)
eq_z_true (pos a) (negsuc b) e = absurd (false≢true e)
eq_z_true (negsuc a) (pos b) e = absurd (false≢true e)
eq_z_true (negsuc a) (negsuc b) e = ap negsuc (eqb-true a b e)

pub eq_z_false : (a b : ℤ) → (a ≡ b → ⊥) → eq_z a b ≡ false
eq_z_false a b n = by (eq_z a b) refl
  where
    by : (t : Bool) → eq_z a b ≡ t → t ≡ false
    by true e = absurd (n (eq_z_true a b e))
    by false e = refl

-- ---- exchange

calculated_comm : (op : Operator) → symmetric op ≡ true → (a b : ℤ) → calculated op a b ≡ calculated op b a
unfolding symmetric calculated
calculated_comm Conjunction s a b = refl
calculated_comm Disjunction s a b = refl
calculated_comm Equality s a b = ap (λ t. Value (boolean t)) (eq_z_comm a b)
calculated_comm Less s a b = absurd (false≢true s)
calculated_comm LessOrEqual s a b = absurd (false≢true s)
calculated_comm Sum s a b = ap checked (+ℤ_comm a b)
calculated_comm Difference s a b = absurd (false≢true s)
calculated_comm Product s a b = ap checked (*ℤ_comm a b)
calculated_comm Quotient s a b = absurd (false≢true s)
calculated_comm Remainder s a b = absurd (false≢true s)
calculated_comm Equivalence s a b = ap (λ t. Value (boolean t)) (eq_z_comm a b)

pub operands_exchange : OperandsExchange
unfolding operated
operands_exchange op s a b =
    rw (
      or_comm (decides op a) (decides op b),
      or_comm (is_unknown a) (is_unknown b),
      or_comm (failed_in ZeroDivisor a) (failed_in ZeroDivisor b),
      or_comm (failed_in TooLarge a) (failed_in TooLarge b),
      calculated_comm op s (number a) (number b),
    )

-- ---- what holds of both holds of the one chosen

pub cond_keeps : (P : Evaluation → Type 0) (t : Bool) (a b : Evaluation) → P a → P b → P (cond t a b)
cond_keeps P true a b h k = h
cond_keeps P false a b h k = k

-- ---- growth

-- an unknown operand on the left, and on the right, becomes known
left : (d e : Bool) (v r : Evaluation) → Grows (cond e v Unknown) (cond (d || e) v r)
left true true v r = stays
left true false v r = known
left false true v r = stays
left false false v r = known

right : (d e u : Bool) (v r s : Evaluation) → Grows (cond (d || false) v (cond (u || true) Unknown s)) (cond (d || e) v r)
right true e u v r s = stays
right false e true v r s = known
right false e false v r s = known

grows : (op : Operator) (a a' b b' : Evaluation) → Grows a a' → Grows b b' → Grows (operated op a b) (operated op a' b')
unfolding operated decides is_unknown
grows op a a' b b' stays stays = stays
grows op a a' b b' stays known = right (decides op a) (decides op b') (is_unknown a) _ _ _
grows op a a' b b' known stays = left (decides op a') (decides op b) _ _
grows op a a' b b' known known = known

negated_grows : (a a' : Evaluation) → Grows a a' → Grows (negated a) (negated a')
unfolding negated
negated_grows a a' stays = stays
negated_grows a a' known = known

cond_grows : (t : Bool) (a a' b b' : Evaluation) → Grows a a' → Grows b b' → Grows (cond t a b) (cond t a' b')
cond_grows true a a' b b' h k = h
cond_grows false a a' b b' h k = k

-- branches that agree are equal
agree_same : (a b : Evaluation) → agree a b ≡ true → a ≡ b
unfolding agree
agree_same Unknown b e = absurd (false≢true e)
agree_same (Failed m) b e = absurd (false≢true e)
agree_same (Value v) Unknown e = absurd (false≢true e)
agree_same (Value v) (Failed m) e = absurd (false≢true e)
agree_same (Value v) (Value w) e = ap Value (eq_z_true v w e)

-- an unknown second branch leaves 46 unknown, whatever the first is
pub unknown_branch : (m : Manner) (a : Evaluation) → (chosen Unknown a Unknown ≡ Unknown) × (chosen (Failed m) a Unknown ≡ Unknown)
unfolding chosen agree is_unknown
unknown_branch m Unknown = (refl, refl)
unknown_branch m (Failed n) = (refl, refl)
unknown_branch m (Value v) = (refl, refl)

-- where the branches agree, the condition does not matter
agreed : (c a b : Evaluation) → agree a b ≡ true → chosen c a b ≡ a
unfolding chosen
agreed Unknown a b e = rw e
agreed (Failed m) a b e = rw e
agreed (Value v) a b e = cond_keeps (λ x. x ≡ a) (eq_z v (boolean true)) a b refl (sym (agree_same a b e))

-- an unknown condition becomes known
condition_grows : (c a b : Evaluation) → Grows (chosen Unknown a b) (chosen c a b)
unfolding chosen
condition_grows c a b = by (agree a b) refl
  where
    by : (t : Bool) → agree a b ≡ t → Grows (cond t a Unknown) (chosen c a b)
    by true e = rw (agreed c a b e) stays
    by false e = known

-- an unknown branch becomes known
branches_grow : (c a a' b b' : Evaluation) → Grows a a' → Grows b b' → Grows (chosen c a b) (chosen c a' b')
unfolding chosen agree is_unknown
branches_grow Unknown a a' b b' stays stays = stays
branches_grow Unknown a a' b b' known k = known
branches_grow Unknown a a' b b' stays known = rw (unknown_branch ZeroDivisor a).0 known
branches_grow (Failed m) a a' b b' stays stays = stays
branches_grow (Failed m) a a' b b' known k = known
branches_grow (Failed m) a a' b b' stays known = rw (unknown_branch m a).1 known
branches_grow (Value v) a a' b b' h k = cond_grows (eq_z v (boolean true)) a a' b b' h k

grows_trans : {a b c : Evaluation} → Grows a b → Grows b c → Grows a c
grows_trans stays k = k
grows_trans known k = known

chosen_grows : (c c' a a' b b' : Evaluation) → Grows c c' → Grows a a' → Grows b b' → Grows (chosen c a b) (chosen c' a' b')
chosen_grows c c' a a' b b' stays h k = branches_grow c a a' b b' h k
chosen_grows c c' a a' b b' known h k = grows_trans (condition_grows c' a b) (branches_grow c' a a' b b' h k)

pub operators_grow : OperatorsGrow
operators_grow = (grows, negated_grows, chosen_grows)

-- ---- the manner of what failed

pub zero_divides : ZeroDivides
unfolding operated decides decisive is_unknown failed_in number calculated divided eq_z
zero_divides v = (refl, refl)

pub zero_divisor_wins : (op : Operator) (m : Manner)
    → (operated op (Failed ZeroDivisor) (Failed m) ≡ Failed ZeroDivisor) × (operated op (Failed m) (Failed ZeroDivisor) ≡ Failed ZeroDivisor)
unfolding operated decides is_unknown failed_in same_manner
zero_divisor_wins op ZeroDivisor = (refl, refl)
zero_divisor_wins op TooLarge = (refl, refl)

-- one operand failed, the other has a value
failed_beside : (op : Operator) (m : Manner) (v : ℤ) → decisive op v ≡ false
    → (operated op (Failed m) (Value v) ≡ Failed m) × (operated op (Value v) (Failed m) ≡ Failed m)
unfolding operated decides is_unknown failed_in same_manner
failed_beside op ZeroDivisor v e = (rw e, rw e)
failed_beside op TooLarge v e = (rw e, rw e)

pub manners_pass : MannersPass
unfolding operated decides is_unknown failed_in same_manner negated chosen agree
manners_pass = (zero_divisor_wins, λ op. refl, failed_beside, λ m. refl, λ m n o. refl)

-- ---- what holds of unknown, of failed and of both branches holds of 46

pub chosen_keeps : (P : Evaluation → Type 0) → P Unknown → ((m : Manner) → P (Failed m)) → (c a b : Evaluation) → P a → P b → P (chosen c a b)
unfolding chosen
chosen_keeps P u f Unknown a b h k = cond_keeps P (agree a b) a Unknown h u
chosen_keeps P u f (Failed m) a b h k =
    cond_keeps P (agree a b) a _ h (cond_keeps P (is_unknown a || is_unknown b) Unknown (Failed m) u (f m))
chosen_keeps P u f (Value v) a b h k = cond_keeps P (eq_z v (boolean true)) a b h k
