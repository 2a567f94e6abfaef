-- Operators that group from the left, word by word.
use mathlib.Core.Path.{◌≡◌, refl, sym, ap, ◌∙◌}
use mathlib.Core.Bool.{true, false}
use mathlib.Core.List.{List, [], ◌∷◌}
use Prim.Native.Nat.{ℕ, zero, suc, ◌+◌, ◌*◌, ◌≤◌, ◌<◌}
use native.Mathlib.Omega.{arith}
use borrow.Author.Tests.{eqb-true}
use lib.Dec.{lit≤}
use lib.ListN.{length}
use Rattle.grammar.specs.declared.Token.{Token}
use Rattle.grammar.specs.declared.Token.TheVariants.{Number, Variable}
use Rattle.grammar.specs.declared.Word.{Word}
use Rattle.grammar.specs.Tokens.{ordinal}
use Rattle.grammar.specs.Phrases.{Phrase, call_level, product_level, negation_level, conjunction_level, whole_level, is_chained}
use Rattle.grammar.specs.Phrases.Phrase.{operation}
use Rattle.grammar.specs.Reading.{and_then, chain, chain_by, level_by, read_level}
use Rattle.grammar.specs.Reading.Parse.{parsed}
use Rattle.grammar.specs.Held.{held, FirstWord}
use Rattle.grammar.proofs.Sound.{read_sound}
use Rattle.grammar.proofs.Fuel.{then_same, cond_same}
use Rattle.parser.specs.declared.Level.{Level}
use Rattle.parser.specs.declared.Level.TheVariants.{Product, Sum, Conjunction, Disjunction}
use Rattle.parser.specs.Levels.{Next, operand_level, chain_from}
use Rattle.grammar.proofs.Ordinals.{held_sign}
use Rattle.parser.proofs.Steps.{reader, words_at, level_at, sign_ordinal, relation_ordinal, held_word, level_call, level_sign, level_negation, level_whole, not_none}

-- an operator of a level is no number and no variable
pub chained_ordinal : (level : Level) (t : Token) → is_chained (suc (operand_level level)) t ≡ true → 2 < ordinal t
unfolding is_chained
chained_ordinal Product t h = omega (arith, eqb-true (ordinal t) 18 h)
chained_ordinal Sum t h = sign_ordinal t h
chained_ordinal Conjunction t h = omega (arith, eqb-true (ordinal t) 11 h)
chained_ordinal Disjunction t h = omega (arith, eqb-true (ordinal t) 12 h)

held_chained : (l : ℕ) (t : Token) → is_chained l (held t) ≡ is_chained l t
unfolding held is_chained
held_chained l (Number n) = refl
held_chained l (Variable n) = refl
held_chained l _ = refl

pub operand_low : (level : Level) → operand_level level ≤ whole_level
operand_low Product = omega arith
operand_low Sum = omega arith
operand_low Conjunction = omega arith
operand_low Disjunction = omega arith

-- any count that is enough reads the same
enough : (below : ℕ) → below ≤ whole_level → (n m : ℕ) (p : Phrase) (ts : List Token) → length ts ≤ n → length ts ≤ m
    → chain (reader below) (is_chained (suc below)) n p ts ≡ chain (reader below) (is_chained (suc below)) m p ts
unfolding chain
enough below h zero zero p ts a b = refl
enough below h zero (suc m) p [] a b = refl
enough below h zero (suc m) p (t ∷ ts) a b = absurd (omega arith)
enough below h (suc n) zero p [] a b = refl
enough below h (suc n) zero p (t ∷ ts) a b = absurd (omega arith)
enough below h (suc n) (suc m) p [] a b = refl
enough below h (suc n) (suc m) p (t ∷ ts) a b =
    cond_same (is_chained (suc below) t)
    (then_same (read_sound (9 * length ts + suc below) below ts h) refl λ q us k. enough below h n m (operation t p q) us (omega arith) (omega arith))
    refl

-- a level of such operators
module _ (text : List ℕ) (at : ℕ) where
  pub grouped_product : read_level product_level (words_at text at) ≡ and_then (read_level call_level (words_at text at)) (λ p us. chain_from call_level p us)
  unfolding level_by chain_by chain_from
  grouped_product = level_at text product_level at (lit≤ tt)

  pub grouped_sum : read_level 2 (words_at text at) ≡ and_then (read_level product_level (words_at text at)) (λ p us. chain_from product_level p us)
  unfolding level_by chain_by chain_from
  grouped_sum = level_at text 2 at (lit≤ tt)

  pub grouped_conjunction : read_level conjunction_level (words_at text at) ≡ and_then (read_level negation_level (words_at text at)) (λ p us. chain_from negation_level p us)
  unfolding level_by chain_by chain_from
  grouped_conjunction = level_at text conjunction_level at (lit≤ tt)

  pub grouped_disjunction : read_level 7 (words_at text at) ≡ and_then (read_level conjunction_level (words_at text at)) (λ p us. chain_from conjunction_level p us)
  unfolding level_by chain_by chain_from
  grouped_disjunction = level_at text 7 at (lit≤ tt)

  -- the operands of a level, by the level
  pub operand_sum : (level : Level) → level ≡ Sum
      → read_level (operand_level level) (words_at text at) ≡ and_then (read_level call_level (words_at text at)) (λ p us. chain_from call_level p us)
  operand_sum level e = rw e grouped_product

  pub operand_disjunction : (level : Level) → level ≡ Disjunction
      → read_level (operand_level level) (words_at text at) ≡ and_then (read_level negation_level (words_at text at)) (λ p us. chain_from negation_level p us)
  operand_disjunction level e = rw e grouped_conjunction

  -- at the end of the operators
  pub chain_end : (below : ℕ) (p : Phrase) → words_at text at ≡ [] → chain_from below p (words_at text at) ≡ parsed p (words_at text at)
  unfolding chain_from chain
  chain_end below p e = rw e

  pub chain_other : (below : ℕ) (p : Phrase) {w : Word} (f : FirstWord text at w) → is_chained (suc below) w.token ≡ false
      → chain_from below p (words_at text at) ≡ parsed p (words_at text at)
  unfolding chain_from chain
  chain_other below p f e =
      let none : is_chained (suc below) f.token ≡ false =
      sym (held_chained (suc below) f.token) ∙ ap (λ (t : Token). is_chained (suc below) t) (sym f.is_held) ∙ e in
      rw (f.first, none)

  -- one more operator
  module _ (below next : ℕ) (c : Token) (p : Phrase) (n : Next text c at next) (e : is_chained (suc below) c ≡ true) where
    chain_step : chain_from below p (words_at text at)
        ≡ and_then (read_level below (words_at text next))
        (λ q us. chain (reader below) (is_chained (suc below)) (length (words_at text next)) (operation c p q) us)
    unfolding chain_from chain
    chain_step = rw (n.first, e)

    pub chain_goes : below ≤ whole_level
        → chain_from below p (words_at text at) ≡ and_then (read_level below (words_at text next)) (λ q us. chain_from below (operation c p q) us)
    unfolding chain_from
    chain_goes h =
        chain_step
        ∙ then_same (read_sound (9 * length (words_at text next) + suc below) below (words_at text next) h) refl
        (λ q us k. enough below h (length (words_at text next)) (length us) (operation c p q) us (omega arith) (omega arith))

-- what the levels read, for the search
pub ruleset readings = (level_call, level_sign, level_negation, not_none, level_whole, grouped_product, grouped_sum, grouped_conjunction, grouped_disjunction, operand_sum, operand_disjunction, held_word, held_sign, sign_ordinal, relation_ordinal)
