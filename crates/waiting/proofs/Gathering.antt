-- The fold over effects finds what the definitions say: the fault, the values given, and whether one of them is new.
use mathlib.Core.Path.{◌≡◌, refl, sym, ap, ap₂, subst, ◌∙◌}
use mathlib.Core.Bool.{Bool, true, false, not, ◌||◌, or_assoc, or_comm, or-false, or-true}
use mathlib.Core.List.{List, [], ◌∷◌, map}
use mathlib.Core.Option.{Option, some, none}
use Rattle.std.specs.Prelude.{Option as Optional, Some, None}
use Rattle.std.proofs.lemmas.List.{get_or-set_same, get_or-set_other}
use Prim.Native.Nat.{ℕ, zero, suc, ◌<◌}
use native.Mathlib.Nat.{not-suc-le-zero, le_of_suc-le-suc}
use borrow.Author.Tests.{eq-eqb, ne_eqb, eqb-true, eqb-false}
use lib.Dec.{eqb}
use lib.IntN.{ℤ}
use lib.ListN.{length, get_or, set, get_elem?, length-set}
use Rattle.evaluation.specs.declared.Manner.{Manner}
use Rattle.evaluation.specs.declared.Manner.TheVariants.{ZeroDivisor, TooLarge}
use Rattle.evaluation.specs.Numbers.{eq_z}
use Rattle.evaluation.specs.Meaning.{same_manner}
use Rattle.evaluation.proofs.Laws.{eq_z_refl, eq_z_true, eq_z_comm}
use Rattle.model.specs.Trees.{Variable}
use Rattle.model.specs.WellFormed.{All}
use Rattle.expressions.specs.Expressions.{Valuation}
use Rattle.interpreter.specs.Instructions.{Effect, any, is_failure, is_within, is_outside, differs, given_by, conflicts_with, fault_of, first_of, given_to}
use Rattle.interpreter.specs.Instructions.Effect.{fails, gives}
use Rattle.semantics.specs.Propagation.{is_known, is_new, extended}
use Rattle.expressions.specs.Cells.{cell_value, valuation_of}
use Rattle.variables.specs.Rows.{within_ends}
use Rattle.interpreter.specs.declared.Gathered.{Gathered}
use Rattle.interpreter.specs.Gathering.{Gathering, gathering, nothing_found, failing, taken, gather, gather_all, fault_in}

-- to a variable that has a cell and ends
unfoldable pub Admissible : ℕ → ℕ → Effect → Type 0
Admissible cells variables (fails manner) = Unit {0}
Admissible cells variables (gives x v) = (x < cells) × (x < variables)

-- ---- Booleans

exchange : (a b c d : Bool) → (a || b || (c || d)) ≡ (a || c || (b || d))
exchange true b c d = refl
exchange false true true d = refl
exchange false true false d = refl
exchange false false c d = refl

again : (t r : Bool) → (t || (t || r)) ≡ (t || r)
again true r = refl
again false r = refl

module _ {A : Type 0} where
  any_both : (p q : A → Bool) (l : List A) → (any p l || any q l) ≡ any (λ a. p a || q a) l
  unfolding any
  any_both p q [] = refl
  any_both p q (a ∷ l) = exchange (p a) (any p l) (q a) (any q l) ∙ ap (λ t. p a || q a || t) (any_both p q l)

  -- where the tests agree unless d
  any_beside : (d : Bool) (p q : A → Bool) → ((a : A) → (d || p a) ≡ (d || q a)) → (l : List A) → (d || any p l) ≡ (d || any q l)
  unfolding any
  any_beside true p q h l = refl
  any_beside false p q h [] = refl
  any_beside false p q h (a ∷ l) = ap₂ ◌||◌ (h a) (any_beside false p q h l)

-- ---- options

first_none : (o : Option ℤ) → first_of o none ≡ o
unfolding first_of
first_none none = refl
first_none (some v) = refl

first_assoc : (a b c : Option ℤ) → first_of (first_of a b) c ≡ first_of a (first_of b c)
unfolding first_of
first_assoc none b c = refl
first_assoc (some v) b c = refl

eqb_comm : (x y : ℕ) → eqb x y ≡ eqb y x
eqb_comm x y = by (eqb y x) refl
  where
    by : (t : Bool) → eqb y x ≡ t → eqb x y ≡ t
    by true e = eq-eqb x y (sym (eqb-true y x e))
    by false e = ne_eqb x y (λ p. eqb-false y x e (sym p))

-- ---- the flag of a manner

abbrev flag_of : Manner → Gathered → Bool
flag_of ZeroDivisor f = f.zero_divisor
flag_of TooLarge f = f.too_large

flag_kept : (n : Manner) (f f' : Gathered) → f'.zero_divisor ≡ f.zero_divisor → f'.too_large ≡ f.too_large → flag_of n f' ≡ flag_of n f
flag_kept ZeroDivisor f f' z l = z
flag_kept TooLarge f f' z l = l

flag_failing : (n m : Manner) (f : Gathered) → flag_of n (failing m f) ≡ (same_manner n m || flag_of n f)
flag_failing ZeroDivisor m f = refl
flag_failing TooLarge m f = refl

-- ---- one effect

module _ (lows highs : List ℤ) (g : Gathering) where
  abbrev known : Valuation
  known = valuation_of g.given

  module _ (x : ℕ) (v : ℤ) where
    abbrev held : Optional ℤ
    held = get_or g.given x None

    abbrev outside : Bool
    outside = g.found.outside || not (within_ends lows highs x v)

    -- the variable has a value, or takes this one
    gather_held : {w : ℤ} → held ≡ Some w
        → gather lows highs (gives x v) g
        ≡ gathering (record { zero_divisor = g.found.zero_divisor; too_large = g.found.too_large; outside = outside; conflict = g.found.conflict || not (eq_z v w); fresh = g.found.fresh }) g.given
    unfolding gather taken
    gather_held e = rw (e)

    gather_new : held ≡ None
        → gather lows highs (gives x v) g
        ≡ gathering (record { zero_divisor = g.found.zero_divisor; too_large = g.found.too_large; outside = outside; conflict = g.found.conflict; fresh = true }) (set g.given x (Some v))
    unfolding gather taken
    gather_new e = rw (e)

    length_after : length (gather lows highs (gives x v) g).given ≡ length g.given
    length_after = by held refl
      where
        by : (c : Optional ℤ) → held ≡ c → length (gather lows highs (gives x v) g).given ≡ length g.given
        by (Some w) e = ap (λ a. length a.given) (gather_held e)
        by None e = ap (λ a. length a.given) (gather_new e) ∙ length-set g.given x (Some v)

    failed_after : (n : Manner) → flag_of n (gather lows highs (gives x v) g).found ≡ flag_of n g.found
    failed_after n = by held refl
      where
        by : (c : Optional ℤ) → held ≡ c → flag_of n (gather lows highs (gives x v) g).found ≡ flag_of n g.found
        by (Some w) e = flag_kept n g.found (gather lows highs (gives x v) g).found (ap (λ a. a.found.zero_divisor) (gather_held e)) (ap (λ a. a.found.too_large) (gather_held e))
        by None e = flag_kept n g.found (gather lows highs (gives x v) g).found (ap (λ a. a.found.zero_divisor) (gather_new e)) (ap (λ a. a.found.too_large) (gather_new e))

    outside_after : (gather lows highs (gives x v) g).found.outside ≡ outside
    outside_after = by held refl
      where
        by : (c : Optional ℤ) → held ≡ c → (gather lows highs (gives x v) g).found.outside ≡ outside
        by (Some w) e = ap (λ a. a.found.outside) (gather_held e)
        by None e = ap (λ a. a.found.outside) (gather_new e)

    module _ (h : x < length g.given) where
      conflict_after : (gather lows highs (gives x v) g).found.conflict ≡ (g.found.conflict || differs v (known x))
      unfolding differs cell_value
      conflict_after = by held refl
        where
          by : (c : Optional ℤ) → held ≡ c → (gather lows highs (gives x v) g).found.conflict ≡ (g.found.conflict || differs v (known x))
          by (Some w) e = ap (λ a. a.found.conflict) (gather_held e) ∙ rw (e)
          by None e = ap (λ a. a.found.conflict) (gather_new e) ∙ rw (e) (sym (or-false g.found.conflict))

      fresh_after : (gather lows highs (gives x v) g).found.fresh ≡ (g.found.fresh || is_new known (gives x v))
      unfolding is_new is_known cell_value
      fresh_after = by held refl
        where
          by : (c : Optional ℤ) → held ≡ c → (gather lows highs (gives x v) g).found.fresh ≡ (g.found.fresh || is_new known (gives x v))
          by (Some w) e = ap (λ a. a.found.fresh) (gather_held e) ∙ rw (e) (sym (or-false g.found.fresh))
          by None e = ap (λ a. a.found.fresh) (gather_new e) ∙ rw (e) (sym (or-true g.found.fresh))

      given_after_lem : (y : ℕ) → valuation_of (gather lows highs (gives x v) g).given y ≡ first_of (known y) (given_by y (gives x v))
      unfolding first_of given_by cell_value
      given_after_lem y = by held (eqb y x) refl refl
        where
          by : (c : Optional ℤ) (u : Bool) → held ≡ c → eqb y x ≡ u
              → valuation_of (gather lows highs (gives x v) g).given y ≡ first_of (known y) (given_by y (gives x v))
          by (Some w) true e q =
              let k : known y ≡ some w = ap known (eqb-true y x q) ∙ ap cell_value e in
              ap (λ a. valuation_of a.given y) (gather_held e) ∙ rw (k)
          by (Some w) false e q = ap (λ a. valuation_of a.given y) (gather_held e) ∙ rw (q) (sym (first_none (known y)))
          by None true e q =
              let k : known y ≡ none = ap known (eqb-true y x q) ∙ ap cell_value e in
              let l : get_or (set g.given x (Some v)) y None ≡ Some v = ap (λ z. get_or (set g.given x (Some v)) z None) (eqb-true y x q) ∙ get_or-set_same g.given x (Some v) None h in
              ap (λ a. valuation_of a.given y) (gather_new e) ∙ ap cell_value l ∙ rw (k, q)
          by None false e q =
              ap (λ a. valuation_of a.given y) (gather_new e)
              ∙ ap cell_value (get_or-set_other g.given x y (Some v) None (eqb-false y x q))
              ∙ rw (q) (sym (first_none (known y)))

-- ---- conflicts: the head's value is compared with what is known, the rest with what is known after it

module _ (known later : Valuation) (x : ℕ) (v : ℤ) (ext : (y : ℕ) → later y ≡ first_of (known y) (given_by y (gives x v))) (es : List Effect) where
  abbrev beside : Effect → Bool
  beside f = differs v (given_by x f) || conflicts_with known (gives x v ∷ es) f

  -- a value u for the same variable
  same_target : (o : Option ℤ) (u : ℤ) (r : Bool)
      → (differs v o || (differs v (some u) || (differs u o || (differs u (some v) || r)))) ≡ (differs v o || (differs u (first_of o (some v)) || r))
  unfolding differs first_of
  same_target none u r = rw (eq_z_comm v u) (again (not (eq_z u v)) r)
  same_target (some w) u r = by (eq_z v w) refl
    where
      by : (t : Bool) → eq_z v w ≡ t
          → (not (eq_z v w) || (not (eq_z v u) || (not (eq_z u w) || (not (eq_z u v) || r)))) ≡ (not (eq_z v w) || (not (eq_z u w) || r))
      by true e =
          let q : v ≡ w = eq_z_true v w e in
          rw (q, eq_z_comm w u) (ap (λ t. not (eq_z w w) || t) (again (not (eq_z u w)) (not (eq_z u w) || r) ∙ again (not (eq_z u w)) r))
      by false e = rw (e)

  beside_agrees : (f : Effect) → (differs v (known x) || beside f) ≡ (differs v (known x) || conflicts_with later es f)
  unfolding differs given_by conflicts_with any
  beside_agrees (fails manner) = refl
  beside_agrees (gives y u) = by (eqb y x) refl
    where
      by : (t : Bool) → eqb y x ≡ t
          → (differs v (known x) || beside (gives y u)) ≡ (differs v (known x) || conflicts_with later es (gives y u))
      by true q =
          subst (λ z. (differs v (known x) || beside (gives z u)) ≡ (differs v (known x) || conflicts_with later es (gives z u)))
          (sym (eqb-true y x q))
          (rw (ext x, eq-eqb x x refl) (same_target (known x) u (any (λ e. differs u (given_by x e)) es)))
      by false q = rw (ext y, eqb_comm x y, q, first_none (known y))

  head_conflict : any (conflicts_with known (gives x v ∷ es)) (gives x v ∷ es) ≡ (differs v (known x) || any (conflicts_with later es) es)
  unfolding any conflicts_with given_by differs
  head_conflict =
      rw (eq-eqb x x refl, eq_z_refl v)
      (or_assoc (differs v (known x)) (any (λ f. differs v (given_by x f)) es) (any (conflicts_with known (gives x v ∷ es)) es)
      ∙ ap (λ t. differs v (known x) || t) (any_both (λ f. differs v (given_by x f)) (conflicts_with known (gives x v ∷ es)) es)
      ∙ any_beside (differs v (known x)) beside (conflicts_with later es) beside_agrees es)

  -- a variable that was unknown counts as new once
  same_new : (o : Option ℤ) → (not (is_known o) || not (is_known o)) ≡ (not (is_known o) || not (is_known (first_of o (some v))))
  unfolding is_known first_of
  same_new none = refl
  same_new (some w) = refl

  new_agrees : (f : Effect) → (is_new known (gives x v) || is_new known f) ≡ (is_new known (gives x v) || is_new later f)
  unfolding is_new given_by
  new_agrees (fails manner) = refl
  new_agrees (gives y u) = by (eqb y x) refl
    where
      by : (t : Bool) → eqb y x ≡ t → (not (is_known (known x)) || not (is_known (known y))) ≡ (not (is_known (known x)) || not (is_known (later y)))
      by true q = rw (ext y, q, eqb-true y x q) (same_new (known x))
      by false q = rw (ext y, q, first_none (known y))

  head_new : any (is_new known) (gives x v ∷ es) ≡ (is_new known (gives x v) || any (is_new later) es)
  unfolding any
  head_new = any_beside (is_new known (gives x v)) (is_new known) (is_new later) new_agrees es

-- ---- the ends

ends_agree : (vs : List Variable) (x : ℕ) (v : ℤ) → x < length vs
    → within_ends (map (λ d. d.low) vs) (map (λ d. d.high) vs) x v ≡ is_within (get_elem? vs x) v
unfolding is_within
ends_agree [] x v h = absurd (not-suc-le-zero h)
ends_agree (d ∷ vs) zero v h = refl
ends_agree (d ∷ vs) (suc x) v h = ends_agree vs x v (le_of_suc-le-suc h)

-- ---- all effects

conflicts_past_failure : (m : Manner) (known : Valuation) (es l : List Effect) → any (conflicts_with known (fails m ∷ es)) l ≡ any (conflicts_with known es) l
unfolding conflicts_with any given_by differs
conflicts_past_failure m known es l = any_beside false (conflicts_with known (fails m ∷ es)) (conflicts_with known es) same l
  where
    same : (f : Effect) → conflicts_with known (fails m ∷ es) f ≡ conflicts_with known es f
    same (fails manner) = refl
    same (gives y u) = refl

module _ (lows highs : List ℤ) where
  failed_all : (n : Manner) (es : List Effect) (g : Gathering)
      → flag_of n (gather_all lows highs es g).found ≡ (flag_of n g.found || any (is_failure n) es)
  unfolding gather_all gather any is_failure
  failed_all n [] g = sym (or-false (flag_of n g.found))
  failed_all n (fails manner ∷ es) g =
      failed_all n es (gather lows highs (fails manner) g)
      ∙ ap (λ t. t || any (is_failure n) es) (flag_failing n manner g.found ∙ or_comm (same_manner n manner) (flag_of n g.found))
      ∙ or_assoc (flag_of n g.found) (same_manner n manner) (any (is_failure n) es)
  failed_all n (gives x v ∷ es) g =
      failed_all n es (gather lows highs (gives x v) g) ∙ ap (λ t. t || any (is_failure n) es) (failed_after lows highs g x v n)

  module _ (n m : ℕ) where
    given_all : (es : List Effect) (g : Gathering) → length g.given ≡ n → All (Admissible n m) es
        → (y : ℕ) → valuation_of (gather_all lows highs es g).given y ≡ first_of (valuation_of g.given y) (given_to y es)
    unfolding gather_all gather All Admissible given_to given_by first_of
    given_all [] g l a y = sym (first_none (valuation_of g.given y))
    given_all (fails manner ∷ es) g l a y = given_all es (gather lows highs (fails manner) g) l a.1 y
    given_all (gives x v ∷ es) g l a y =
        given_all es (gather lows highs (gives x v) g) (length_after lows highs g x v ∙ l) a.1 y
        ∙ ap (λ o. first_of o (given_to y es)) (given_after_lem lows highs g x v (subst (λ k. x < k) (sym l) a.0.0) y)
        ∙ first_assoc (valuation_of g.given y) (given_by y (gives x v)) (given_to y es)

    conflict_all : (es : List Effect) (g : Gathering) → length g.given ≡ n → All (Admissible n m) es
        → (gather_all lows highs es g).found.conflict ≡ (g.found.conflict || any (conflicts_with (valuation_of g.given) es) es)
    unfolding gather_all gather All Admissible any conflicts_with
    conflict_all [] g l a = sym (or-false g.found.conflict)
    conflict_all (fails manner ∷ es) g l a =
        conflict_all es (gather lows highs (fails manner) g) l a.1
        ∙ ap (λ t. g.found.conflict || t) (sym (conflicts_past_failure manner (valuation_of g.given) es es))
    conflict_all (gives x v ∷ es) g l a =
        let h : x < length g.given = subst (λ k. x < k) (sym l) a.0.0 in
        let later : Valuation = valuation_of (gather lows highs (gives x v) g).given in
        conflict_all es (gather lows highs (gives x v) g) (length_after lows highs g x v ∙ l) a.1
        ∙ ap (λ t. t || any (conflicts_with later es) es) (conflict_after lows highs g x v h)
        ∙ or_assoc g.found.conflict (differs v (valuation_of g.given x)) (any (conflicts_with later es) es)
        ∙ ap (λ t. g.found.conflict || t) (sym (head_conflict (valuation_of g.given) later x v (given_after_lem lows highs g x v h) es))

    fresh_all : (es : List Effect) (g : Gathering) → length g.given ≡ n → All (Admissible n m) es
        → (gather_all lows highs es g).found.fresh ≡ (g.found.fresh || any (is_new (valuation_of g.given)) es)
    unfolding gather_all gather All Admissible any is_new
    fresh_all [] g l a = sym (or-false g.found.fresh)
    fresh_all (fails manner ∷ es) g l a = fresh_all es (gather lows highs (fails manner) g) l a.1
    fresh_all (gives x v ∷ es) g l a =
        let h : x < length g.given = subst (λ k. x < k) (sym l) a.0.0 in
        let later : Valuation = valuation_of (gather lows highs (gives x v) g).given in
        fresh_all es (gather lows highs (gives x v) g) (length_after lows highs g x v ∙ l) a.1
        ∙ ap (λ t. t || any (is_new later) es) (fresh_after lows highs g x v h)
        ∙ or_assoc g.found.fresh (is_new (valuation_of g.given) (gives x v)) (any (is_new later) es)
        ∙ ap (λ t. g.found.fresh || t) (sym (head_new (valuation_of g.given) later x v (given_after_lem lows highs g x v h) es))

module _ (vs : List Variable) (n : ℕ) where
  outside_all : (es : List Effect) (g : Gathering) → All (Admissible n (length vs)) es
      → (gather_all (map (λ d. d.low) vs) (map (λ d. d.high) vs) es g).found.outside ≡ (g.found.outside || any (is_outside vs) es)
  unfolding gather_all gather All Admissible any is_outside
  outside_all [] g a = sym (or-false g.found.outside)
  outside_all (fails manner ∷ es) g a = outside_all es (gather (map (λ d. d.low) vs) (map (λ d. d.high) vs) (fails manner) g) a.1
  outside_all (gives x v ∷ es) g a =
      outside_all es (gather (map (λ d. d.low) vs) (map (λ d. d.high) vs) (gives x v) g) a.1
      ∙ ap (λ t. t || any (is_outside vs) es) (outside_after (map (λ d. d.low) vs) (map (λ d. d.high) vs) g x v ∙ ap (λ t. g.found.outside || not t) (ends_agree vs x v a.0.1))
      ∙ or_assoc g.found.outside (not (is_within (get_elem? vs x) v)) (any (is_outside vs) es)

-- ---- the fold from the beginning

abbrev pub folded : List ℤ → List ℤ → List (Optional ℤ) → List Effect → Gathering
folded lows highs given es = gather_all lows highs es (gathering nothing_found given)

module _ (vs : List Variable) {lows highs : List ℤ} (l : lows ≡ map (λ d. d.low) vs) (u : highs ≡ map (λ d. d.high) vs)
    (given : List (Optional ℤ)) (es : List Effect) (a : All (Admissible (length given) (length vs)) es) where
  pub fault_folded : fault_in (folded lows highs given es).found ≡ fault_of vs (valuation_of given) es
  unfolding fault_in fault_of
  fault_folded =
      let outside : (folded lows highs given es).found.outside ≡ any (is_outside vs) es = rw (l, u) (outside_all vs (length given) es (gathering nothing_found given) a) in
      rw (failed_all lows highs ZeroDivisor es (gathering nothing_found given), failed_all lows highs TooLarge es (gathering nothing_found given), outside, conflict_all lows highs (length given) (length vs) es (gathering nothing_found given) refl a)

  pub given_folded : (x : ℕ) → valuation_of (folded lows highs given es).given x ≡ extended es (valuation_of given) x
  given_folded x = given_all lows highs (length given) (length vs) es (gathering nothing_found given) refl a x

  pub fresh_folded : (folded lows highs given es).found.fresh ≡ any (is_new (valuation_of given)) es
  fresh_folded = fresh_all lows highs (length given) (length vs) es (gathering nothing_found given) refl a
