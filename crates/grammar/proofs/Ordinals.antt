-- Tokens told apart by their sort.
use mathlib.Core.Path.{◌≡◌, refl, sym, ap, ◌∙◌}
use mathlib.Core.Bool.{false}
use mathlib.Core.List.{List, [], ◌∷◌}
use Prim.Native.Nat.{ℕ, ◌<◌}
use native.Mathlib.Omega.{arith}
use borrow.Author.Tests.{ne_eqb}
use lib.Dec.{T, eqb→eq}
use lib.ListN.{get_or}
use Rattle.grammar.specs.declared.Token.{Token}
use Rattle.grammar.specs.declared.Token.TheVariants.{Unknown, Number, Variable, True, False, Div, Mod, If, Then, Else, Not, And, Or, Open, Close, Comma, Plus, Minus, Times, Equal, Unequal, Less, LessOrEqual, Greater, GreaterOrEqual}
use Rattle.grammar.specs.Tokens.{ordinal, alike}
use Rattle.grammar.specs.Phrases.{is_sign, is_relation}
use Rattle.grammar.specs.Held.{capped, held}

-- ---- one token of each sort

sorts : List Token
sorts =
    Unknown ∷ Number 0 ∷ Variable 0 ∷ True ∷ False ∷ Div ∷ Mod ∷ If ∷ Then ∷ Else ∷ Not ∷ And ∷ Or ∷ Open ∷ Close ∷ Comma ∷ Plus ∷ Minus ∷ Times ∷ Equal ∷ Unequal
    ∷ Less ∷ LessOrEqual ∷ Greater ∷ GreaterOrEqual ∷ []

-- it is the token itself, but for numbers and variables
of_sort : (t : Token) → 2 < ordinal t → get_or sorts (ordinal t) Unknown ≡ t
unfolding sorts
of_sort (Number n) h = absurd (omega arith)
of_sort (Variable x) h = absurd (omega arith)
of_sort _ h = refl

-- one sort
same_token : (t u : Token) → 2 < ordinal u → ordinal t ≡ ordinal u → t ≡ u
same_token t u h e = sym (of_sort t (omega arith)) ∙ ap (λ n. get_or sorts n Unknown) e ∙ of_sort u h

pub alike_same : (t u : Token) → 2 < ordinal u → T (alike t u) → t ≡ u
alike_same t u h e = same_token t u h (eqb→eq (ordinal t) (ordinal u) e)

-- another sort
pub other_alike : (t u : Token) → 2 < ordinal u → (t ≡ u → ⊥) → alike t u ≡ false
other_alike t u h n = ne_eqb (ordinal t) (ordinal u) (λ e. n (same_token t u h e))

-- ---- as the code holds them

pub held_ordinal : (t : Token) → ordinal (held t) ≡ ordinal t
unfolding held
held_ordinal (Number n) = refl
held_ordinal _ = refl

-- a token that is no number and no variable is held as itself
pub held_same : (t : Token) → 2 < ordinal t → held t ≡ t
unfolding held
held_same (Number n) h = absurd (omega arith)
held_same (Variable x) h = absurd (omega arith)
held_same _ h = refl

pub held_sign : (t : Token) → is_sign (held t) ≡ is_sign t
unfolding held
held_sign (Number n) = refl
held_sign _ = refl

pub held_relation : (t : Token) → is_relation (held t) ≡ is_relation t
unfolding held
held_relation (Number n) = refl
held_relation _ = refl

-- numbers and variables
pub held_number : (t : Token) (n : ℕ) → Number n ≡ held t → (m : ℕ) × (t ≡ Number m) × (n ≡ capped m)
unfolding held
held_number (Number m) n e = (m, refl, cc)
held_number (Variable x) n e = cc
held_number _ n e = cc

pub held_variable : (t : Token) (x : ℕ) → Variable x ≡ held t → (y : ℕ) × (t ≡ Variable y) × (x ≡ capped y)
unfolding held
held_variable (Number m) x e = cc
held_variable (Variable y) x e = (y, refl, cc)
held_variable _ x e = cc
