-- The flows that effects make known: every cell that changes is among them, each is one more that is known, and node by node.
use mathlib.Core.Path.{◌≡◌, refl, sym, ap, subst, ◌∙◌}
use mathlib.Core.Logic.{◌⊎◌, inl, inr, ⊎_elim}
use mathlib.Core.Bool.{Bool, true, false, true≢false, cond}
use mathlib.Core.List.Memᴰ
use mathlib.Core.List.{List, [], ◌∷◌, ◌++◌, append-nil, Memᴰ}
use mathlib.Core.Option.{some, none}
use Rattle.std.specs.Prelude.{Option as Optional, Some, None, is_some}
use Rattle.std.proofs.lemmas.List.{get_or-set_same, get_or-set_other}
use Prim.Native.Nat.{ℕ, ◌<◌}
use native.Mathlib.Omega.{arith}
use borrow.Author.Tests.{eqb-true, eqb-false}
use lib.Dec.{eqb}
use lib.IntN.{ℤ}
use lib.ListN.{length, get_or, set, length-set}
use Rattle.evaluation.specs.declared.Evaluation.{Evaluation}
use Rattle.evaluation.specs.declared.Evaluation.TheVariants.{Unknown, Failed, Value}
use Rattle.evaluation.specs.Numbers.{eq_z, boolean}
use Rattle.model.specs.Trees.{Instruction}
use Rattle.model.specs.Trees.Instruction.{skip, assign, if_then, block}
use Rattle.model.specs.Trees.Instructions.{none as no_branch, more}
use Rattle.model.specs.WellFormed.{All}
use Rattle.expressions.specs.Expressions.{Valuation, evaluate}
use Rattle.interpreter.specs.Instructions.{Effect, effects, effects_of_all, under}
use Rattle.interpreter.specs.Instructions.Effect.{fails, gives}
use Rattle.expressions.specs.Cells.{cell_value, valuation_of}
use Rattle.interpreter.specs.Gathering.{Gathering, taken, gather, gather_all, at_once, due_after, chosen_branch}
use Rattle.semantics.specs.Theorems.{Extends}
use Rattle.semantics.specs.Counting.{unknowns}
use Rattle.semantics.proofs.Counting.{unknowns_fall}
use Rattle.waiting.proofs.Gathering.{Admissible}
use Rattle.waiting.specs.News.{news_of, open_cells}

-- ---- effects node by node

pub effects_split : (σ : Valuation) (i : Instruction) → effects i σ ≡ at_once i σ ++ effects_of_all (due_after i σ) σ
unfolding effects effects_of_all due_after chosen_branch at_once under
effects_split σ skip = refl
effects_split σ (assign x e) = sym (append-nil (effects (assign x e) σ))
effects_split σ (if_then c i) = by (evaluate c σ)
  where
    chosen : (t : Bool) → cond t (effects i σ) [] ≡ cond t [] [] ++ effects_of_all (cond t (more i no_branch) no_branch) σ
    chosen true = sym (append-nil (effects i σ))
    chosen false = refl

    by : (v : Evaluation) → under v (effects i σ) ≡ under v [] ++ effects_of_all (chosen_branch v i) σ
    by Unknown = refl
    by (Failed manner) = refl
    by (Value v) = chosen (eq_z v (boolean true))
effects_split σ (block is) = refl

-- ---- one effect

module _ (lows highs : List ℤ) where
  abbrev after : List Effect → Gathering → List (Optional ℤ)
  after es g = (gather_all lows highs es g).given

  -- the cells after one effect
  pub one_given : (x : ℕ) (v : ℤ) (g : Gathering) → (gather lows highs (gives x v) g).given ≡ cond (is_some (get_or g.given x None)) g.given (set g.given x (Some v))
  unfolding gather taken
  one_given x v g = by (get_or g.given x None) refl
    where
      by : (c : Optional ℤ) → get_or g.given x None ≡ c → (gather lows highs (gives x v) g).given ≡ cond (is_some c) g.given (set g.given x (Some v))
      by (Some w) e = rw (e)
      by None e = rw (e)

  pub news_append : (es fs : List Effect) (g : Gathering) → news_of (es ++ fs) g.given ≡ news_of es g.given ++ news_of fs (gather_all lows highs es g).given
  unfolding news_of gather_all gather
  news_append [] fs g = refl
  news_append (fails manner ∷ es) fs g = news_append es fs (gather lows highs (fails manner) g)
  news_append (gives x v ∷ es) fs g =
      by (is_some (get_or g.given x None)) (one_given x v g) (news_append es fs (gather lows highs (gives x v) g))
    where
      by : (t : Bool) → (gather lows highs (gives x v) g).given ≡ cond t g.given (set g.given x (Some v))
          → news_of (es ++ fs) (gather lows highs (gives x v) g).given
          ≡ news_of es (gather lows highs (gives x v) g).given ++ news_of fs (gather_all lows highs es (gather lows highs (gives x v) g)).given
          → cond t (news_of (es ++ fs) g.given) (x ∷ news_of (es ++ fs) (set g.given x (Some v)))
          ≡ cond t (news_of es g.given) (x ∷ news_of es (set g.given x (Some v))) ++ news_of fs (gather_all lows highs es (gather lows highs (gives x v) g)).given
      by true e h =
          subst (λ z. news_of (es ++ fs) z ≡ news_of es z ++ news_of fs (gather_all lows highs es (gather lows highs (gives x v) g)).given) e h
      by false e h =
          ap (λ l. x ∷ l) (subst (λ z. news_of (es ++ fs) z ≡ news_of es z ++ news_of fs (gather_all lows highs es (gather lows highs (gives x v) g)).given) e h)

  -- a cell that is not among the news is as it was
  pub news_changed : (es : List Effect) (g : Gathering) (y : ℕ)
      → Memᴰ y (news_of es g.given) ⊎ (get_or (gather_all lows highs es g).given y None ≡ get_or g.given y None)
  unfolding news_of gather_all gather
  news_changed [] g y = inr refl
  news_changed (fails manner ∷ es) g y = news_changed es (gather lows highs (fails manner) g) y
  news_changed (gives x v ∷ es) g y =
      by (is_some (get_or g.given x None)) (eqb y x) refl (one_given x v g) (news_changed es (gather lows highs (gives x v) g) y)
    where
      last : Optional ℤ
      last = get_or (gather_all lows highs es (gather lows highs (gives x v) g)).given y None

      by : (t u : Bool) → eqb y x ≡ u → (gather lows highs (gives x v) g).given ≡ cond t g.given (set g.given x (Some v))
          → Memᴰ y (news_of es (gather lows highs (gives x v) g).given) ⊎ (last ≡ get_or (gather lows highs (gives x v) g).given y None)
          → Memᴰ y (cond t (news_of es g.given) (x ∷ news_of es (set g.given x (Some v)))) ⊎ (last ≡ get_or g.given y None)
      by true u q e h = subst (λ z. Memᴰ y (news_of es z) ⊎ (last ≡ get_or z y None)) e h
      by false true q e h = inl (Memᴰ.head (eqb-true y x q))
      by false false q e h =
          ⊎_elim (λ m. inl (Memᴰ.tail m)) (λ p. inr (p ∙ get_or-set_other g.given x y (Some v) None (eqb-false y x q)))
          (subst (λ z. Memᴰ y (news_of es z) ⊎ (last ≡ get_or z y None)) e h)

-- the news are targets
pub news_bounded : (n m : ℕ) (es : List Effect) (given : List (Optional ℤ)) → All (Admissible n m) es → (y : ℕ) → Memᴰ y (news_of es given) → y < m
unfolding news_of All Admissible
news_bounded n m [] given a y h = absurd (Memᴰ.not-nil h)
news_bounded n m (fails manner ∷ es) given a y h = news_bounded n m es given a.1 y h
news_bounded n m (gives x v ∷ es) given a y h =
    by (is_some (get_or given x None)) (λ k. news_bounded n m es given a.1 y k) (λ k. news_bounded n m es (set given x (Some v)) a.1 y k) h
  where
    by : (t : Bool) → (Memᴰ y (news_of es given) → y < m) → (Memᴰ y (news_of es (set given x (Some v))) → y < m)
        → Memᴰ y (cond t (news_of es given) (x ∷ news_of es (set given x (Some v)))) → y < m
    by true f g h = f h
    by false f g h = ⊎_elim (λ e. subst (λ z. z < m) (sym e) a.0.1) g (Memᴰ.cases_cons h)

-- ---- room in the queue: a cell that is set was unknown

unknown_where : (given : List (Optional ℤ)) (x : ℕ) → is_some (get_or given x None) ≡ false → valuation_of given x ≡ none
unfolding cell_value
unknown_where given x e = by (get_or given x None) e
  where
    by : (c : Optional ℤ) → is_some c ≡ false → cell_value c ≡ none
    by None e = refl
    by (Some w) e = absurd (true≢false e)

none≢some : {w : ℤ} → none ≡ some w → ⊥
none≢some {w} z = let y : true ≡ false = cc z in absurd (true≢false y)

pub set_opens : (given : List (Optional ℤ)) (x : ℕ) (v : ℤ) → x < length given → is_some (get_or given x None) ≡ false
    → open_cells (set given x (Some v)) < open_cells given
unfolding cell_value
set_opens given x v h e =
    subst (λ n. unknowns (valuation_of (set given x (Some v))) n 0 < open_cells given) (sym (length-set given x (Some v)))
    (unknowns_fall (valuation_of given) (valuation_of (set given x (Some v))) larger x v (unknown_where given x e) now (length given) 0 (omega arith) (omega arith))
  where
    now : valuation_of (set given x (Some v)) x ≡ some v
    now = ap cell_value (get_or-set_same given x (Some v) None h)

    larger : Extends (valuation_of given) (valuation_of (set given x (Some v)))
    larger y w p = by (eqb y x) refl
      where
        by : (u : Bool) → eqb y x ≡ u → valuation_of (set given x (Some v)) y ≡ some w
        by true q = let z : none ≡ some w = sym (unknown_where given x e) ∙ ap (valuation_of given) (sym (eqb-true y x q)) ∙ p in absurd (none≢some z)
        by false q = ap cell_value (get_or-set_other given x y (Some v) None (eqb-false y x q)) ∙ p
