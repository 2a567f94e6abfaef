-- Fuel for every word and level is enough, so each level is read by the levels that it calls.
use mathlib.Core.Path.{◌≡◌, refl, ap, ◌∙◌}
use mathlib.Core.Bool.{Bool, true, false, cond}
use mathlib.Core.List.{List, [], ◌∷◌}
use Prim.Native.Nat.{ℕ, zero, suc, ◌+◌, ◌*◌, ◌≤◌, ◌<◌}
use native.Mathlib.Nat.{add-suc}
use native.Mathlib.Omega.{arith}
use lib.Dec.{lit≤}
use lib.ListN.{length, length-append}
use Rattle.grammar.specs.declared.Token.{Token}
use Rattle.grammar.specs.declared.Token.TheVariants.{Div, Mod, If, Then, Else, Not, Open, Close, Comma}
use Rattle.grammar.specs.Tokens.{alike}
use Rattle.grammar.specs.Phrases.{Phrase, sign_level, relation_level, disjunction_level, whole_level, is_sign, is_relation}
use Rattle.grammar.specs.Phrases.Phrase.{operation, call, conditional}
use Rattle.grammar.specs.Reading.{Parse, and_then, is_next, after_next, expecting, chain, arguments_by, call_by, chain_by, prefix_by, related_by, whole_by, level_by, read_at, read_level}
use Rattle.grammar.specs.Reading.Parse.{parsed}
use Rattle.grammar.proofs.Found.{Found, Sound}
use Rattle.grammar.proofs.Found.Sound.{none, found}
use Rattle.grammar.proofs.Bounds.{begins}
use Rattle.grammar.proofs.Sound.{read_sound}

-- ---- what follows a phrase is shorter

-- at least one word is used
pub shorter : {l : ℕ} {ts : List Token} {p : Phrase} {rest : List Token} → Found l ts p rest → length rest < length ts
shorter {rest = rest} f =
    let b = begins f.derived in
    let n : length f.used ≡ suc (length b.more) = ap length b.parts in
    omega (arith, ap length f.parts, length-append f.used rest)

-- ---- readings that agree step by step

-- two readings one after the other
pub then_same : {l : ℕ} {ts : List Token} {x y : Parse} {j k : Phrase → List Token → Parse} → Sound l ts x → x ≡ y
    → ((p : Phrase) (us : List Token) → length us < length ts → j p us ≡ k p us) → and_then x j ≡ and_then y k
unfolding and_then
then_same {k = k} none e f = ap (λ (z : Parse). and_then z k) e
then_same {k = k} (found p us h) e f = f p us (shorter h) ∙ ap (λ (z : Parse). and_then z k) e

-- in either case
pub cond_same : (t : Bool) {a b c d : Parse} → a ≡ b → c ≡ d → cond t a c ≡ cond t b d
cond_same true g h = g
cond_same false g h = h

-- after a word that must follow
expecting_same : (c : Token) (ts : List Token) {j k : List Token → Parse} → ((us : List Token) → length us < length ts → j us ≡ k us)
    → expecting c ts j ≡ expecting c ts k
unfolding is_next after_next
expecting_same c [] f = refl
expecting_same c (t ∷ ts) f = cond_same (alike t c) (f ts (omega arith)) refl

-- what is read after the words of a call and of a conditional
abbrev pub after_comma : (ℕ → List Token → Parse) → Token → Phrase → List Token → Parse
after_comma r c p ws = and_then (r whole_level ws) (λ q xs. expecting Close xs (λ ys. parsed (call c p q) ys))

-- both arguments
abbrev pub after_open : (ℕ → List Token → Parse) → Token → List Token → Parse
after_open r c us = and_then (r whole_level us) (λ p vs. expecting Comma vs (after_comma r c p))

-- the last part of a conditional
abbrev pub after_else : (ℕ → List Token → Parse) → Phrase → Phrase → List Token → Parse
after_else r p q xs = and_then (r whole_level xs) (λ e ys. parsed (conditional p q e) ys)

-- the last two parts
abbrev pub after_then : (ℕ → List Token → Parse) → Phrase → List Token → Parse
after_then r p vs = and_then (r whole_level vs) (λ q ws. expecting Else ws (after_else r p q))

-- two readers that agree below a measure
module _ (r s : ℕ → List Token → Parse) (m : ℕ) (sound : (l : ℕ) (ts : List Token) → l ≤ whole_level → Sound l ts (r l ts))
    (agree : (l : ℕ) (ts : List Token) → l ≤ whole_level → 9 * length ts + l < m → r l ts ≡ s l ts) where
  -- one is read, and what follows it agrees
  step : (l : ℕ) (ts : List Token) {j k : Phrase → List Token → Parse} → l ≤ whole_level → 9 * length ts + l < m
      → ((p : Phrase) (us : List Token) → length us < length ts → j p us ≡ k p us) → and_then (r l ts) j ≡ and_then (s l ts) k
  step l ts g n f = then_same (sound l ts g) (agree l ts g n) f

  -- level by level
  arguments_same : (c : Token) (ts : List Token) → 9 * suc (length ts) ≤ m → arguments_by r c ts ≡ arguments_by s c ts
  unfolding arguments_by
  arguments_same c ts n =
      expecting_same Open ts {j = after_open r c} {k = after_open s c} λ us n₁.
      step whole_level us (lit≤ tt) (omega arith) λ p vs n₂.
      expecting_same Comma vs {j = after_comma r c p} {k = after_comma s c p} λ ws n₃.
      step whole_level ws (lit≤ tt) (omega arith) λ q xs n₄. refl

  -- words by themselves, parentheses, calls
  call_same : (ts : List Token) → 9 * length ts + 0 ≤ m → call_by r ts ≡ call_by s ts
  unfolding call_by
  call_same [] n = refl
  call_same (Open ∷ ts) n = step whole_level ts (lit≤ tt) (omega arith) λ p us n₁. refl
  call_same (Div ∷ ts) n = arguments_same Div ts (omega arith)
  call_same (Mod ∷ ts) n = arguments_same Mod ts (omega arith)
  call_same (_ ∷ ts) n = refl

  -- operators that group from the left
  chain_same : (l : ℕ) (groups : Token → Bool) → l ≤ whole_level → (n : ℕ) (p : Phrase) (ts : List Token) → 9 * length ts + l < m
      → chain (r l) groups n p ts ≡ chain (s l) groups n p ts
  unfolding chain
  chain_same l groups g zero p ts b = refl
  chain_same l groups g (suc n) p [] b = refl
  chain_same l groups g (suc n) p (t ∷ ts) b =
      cond_same (groups t) (step l ts g (omega arith) λ q us n₁. chain_same l groups g n (operation t p q) us (omega arith)) refl

  -- a level of such operators
  chain_level_same : (l k : ℕ) → l < whole_level → (ts : List Token) → 9 * length ts + suc l ≤ m → chain_by r k l ts ≡ chain_by s k l ts
  unfolding chain_by
  chain_level_same l k g ts b = step l ts (omega arith) (omega arith) λ p us n₁. chain_same l _ (omega arith) (length us) p us (omega arith)

  -- signs, and not
  prefix_same : (is_one : Token → Bool) (l : ℕ) → l < whole_level → (ts : List Token) → 9 * length ts + suc l ≤ m
      → prefix_by r is_one (suc l) l ts ≡ prefix_by s is_one (suc l) l ts
  unfolding prefix_by
  prefix_same is_one l g [] b = refl
  prefix_same is_one l g (t ∷ ts) b =
      cond_same (is_one t) (step (suc l) ts g (omega arith) λ p us n₁. refl) (agree l (t ∷ ts) (omega arith) (omega arith))

  -- the second operand of a relation
  related_same : (p : Phrase) (ts : List Token) → 9 * length ts + relation_level ≤ m → related_by r p ts ≡ related_by s p ts
  unfolding related_by
  related_same p [] b = refl
  related_same p (t ∷ ts) b = cond_same (is_relation t) (step sign_level ts (lit≤ tt) (omega arith) λ q us n₁. refl) refl

  -- if-then-else
  whole_same : (ts : List Token) → 9 * length ts + whole_level ≤ m → whole_by r ts ≡ whole_by s ts
  unfolding whole_by is_next after_next
  whole_same [] b = agree disjunction_level [] (lit≤ tt) (omega arith)
  whole_same (t ∷ ts) b =
      cond_same (alike t If)
      (step whole_level ts (lit≤ tt) (omega arith) λ p us n₁.
      expecting_same Then us {j = after_then r p} {k = after_then s p} λ vs n₂.
      step whole_level vs (lit≤ tt) (omega arith) λ q ws n₃.
      expecting_same Else ws {j = after_else r p q} {k = after_else s p q} λ xs n₄.
      step whole_level xs (lit≤ tt) (omega arith) λ q₁ ys n₅. refl)
      (agree disjunction_level (t ∷ ts) (lit≤ tt) (omega arith))

  -- every level
  pub level_same : (l : ℕ) (ts : List Token) → l ≤ whole_level → 9 * length ts + l ≤ m → level_by r l ts ≡ level_by s l ts
  unfolding level_by
  level_same zero ts g b = call_same ts b
  level_same (suc zero) ts g b = chain_level_same 0 1 (omega arith) ts b
  level_same (suc (suc zero)) ts g b = chain_level_same 1 2 (omega arith) ts b
  level_same (suc (suc (suc zero))) ts g b = prefix_same is_sign 2 (omega arith) ts b
  level_same (suc (suc (suc (suc zero)))) ts g b = step sign_level ts (lit≤ tt) (omega arith) λ p us n₁. related_same p us (omega arith)
  level_same (suc (suc (suc (suc (suc zero))))) ts g b = prefix_same (λ c. alike c Not) 4 (omega arith) ts b
  level_same (suc (suc (suc (suc (suc (suc zero)))))) ts g b = chain_level_same 5 6 (omega arith) ts b
  level_same (suc (suc (suc (suc (suc (suc (suc zero))))))) ts g b = chain_level_same 6 7 (omega arith) ts b
  level_same (suc (suc (suc (suc (suc (suc (suc (suc zero)))))))) ts g b = whole_same ts b
  level_same (suc (suc (suc (suc (suc (suc (suc (suc (suc l))))))))) ts g b = absurd (omega arith)

-- ---- any fuel that is enough

-- two fuels above the measure read the same
pub enough_fuel : (f g l : ℕ) (ts : List Token) → l ≤ whole_level → 9 * length ts + l < f → 9 * length ts + l < g → read_at f l ts ≡ read_at g l ts
unfolding read_at
enough_fuel zero g l ts k a b = absurd (omega arith)
enough_fuel (suc f) zero l ts k a b = absurd (omega arith)
enough_fuel (suc f) (suc g) l ts k a b =
    level_same (λ i us. read_at f i us) (λ i us. read_at g i us) (9 * length ts + l) (read_sound f)
    (λ i us m c. enough_fuel f g i us m (omega arith) (omega arith)) l ts k (omega arith)

-- what the code of a level follows
pub level_step : (l : ℕ) (ts : List Token) → l ≤ whole_level → read_level l ts ≡ level_by (λ k us. read_level k us) l ts
unfolding read_at
level_step l ts k =
    ap (λ (n : ℕ). read_at n l ts) (add-suc (9 * length ts) l)
    ∙ level_same (λ i us. read_at (9 * length ts + l) i us) (λ i us. read_level i us) (9 * length ts + l) (read_sound (9 * length ts + l))
    (λ i us m c. enough_fuel (9 * length ts + l) (9 * length us + suc i) i us m c (omega arith)) l ts k (omega arith)
