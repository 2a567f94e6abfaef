-- What a cursor hands back of the node that is due, for any rules of kinds and parameters.
use mathlib.Core.Path.{◌≡◌, refl, sym, ap, ◌∙◌}
use mathlib.Core.Bool.{Bool, true, false, not, cond}
use mathlib.Core.List.{List}
use Prim.Native.Nat.{ℕ, ◌<◌}
use native.Mathlib.Omega.{arith}
use borrow.Author.Tests.{eqb-false}
use lib.Dec.{leb, eqb}
use lib.IntN.{ℤ}
use lib.ListN.{length}
use Rattle.std.specs.Prelude.{◌≢◌, Result, Ok, Err, Some, None}
use Rattle.results.specs.declared.refusal.Refusal.{Refusal}
use Rattle.results.specs.declared.refusal.Refusal.TheVariants.{MissingNode, TooDeep, KindNotAllowed, ParameterNotAllowed}
use Rattle.syntax.specs.declared.Node.{Node}
use Rattle.syntax.specs.Nodes.{due_at, checked}
use Rattle.syntax.specs.Readings.{kind_at, parameter_at, node_at, refusal_at, reading_at}

module _ (ks : List ℕ) (ps : List ℤ) (left at : ℕ) where
  -- how a node that is due was read
  pub record Read (n : Node) : Type 0 where
    pub within : leb (length ks) at ≡ false
    pub depth : eqb left 0 ≡ false
    pub node : n ≡ node_at ks ps at

  pub read : {n : Node} → due_at ks ps left at ≡ Ok n → Read n
  unfolding due_at refusal_at reading_at
  read {n} e = by (leb (length ks) at) (eqb left 0) refl refl e
    where
      by : (t u : Bool) → leb (length ks) at ≡ t → eqb left 0 ≡ u
          → reading_at ks ps (cond t (Some MissingNode) (cond u (Some TooDeep) None)) at ≡ Ok n → Read n
      by true u p q h = cc
      by false true p q h = cc
      by false false p q h = record { within = p; depth = q; node = cc }

  module _ (allowed : ℕ → Bool) (fits : ℕ → ℤ → Bool) where
    abbrev reading : Result Node Refusal
    reading = reading_at ks ps (refusal_at ks ps allowed fits left at) at

    pub not_due : {r : Refusal} → due_at ks ps left at ≡ Err r → Err r ≡ reading
    unfolding due_at refusal_at reading_at
    not_due {r} e = by (leb (length ks) at) (eqb left 0) refl refl e
      where
        by : (t u : Bool) → leb (length ks) at ≡ t → eqb left 0 ≡ u
            → reading_at ks ps (cond t (Some MissingNode) (cond u (Some TooDeep) None)) at ≡ Err r → Err r ≡ reading
        by true u p q h = rw p (sym h)
        by false true p q h = rw (p, q) (sym h)
        by false false p q h = cc

    pub tested : {n : Node} → due_at ks ps left at ≡ Ok n → {a f : Bool} → a ≡ allowed n.kind → f ≡ fits n.kind n.parameter
        → checked a f n ≡ reading
    unfolding refusal_at reading_at checked
    tested {n} e {a} {f} x y =
        let r = read e in
        let a' : a ≡ allowed (kind_at ks ps at) = x ∙ ap (λ (m : Node). allowed m.kind) r.node in
        let f' : f ≡ fits (kind_at ks ps at) (parameter_at ks ps at) = y ∙ ap (λ (m : Node). fits m.kind m.parameter) r.node in
        rw (r.within, r.depth, ← a', ← f') (by a f r.node)
      where
        by : (a f : Bool) → {n : Node} → n ≡ node_at ks ps at
            → checked a f n ≡ reading_at ks ps (cond (not a) (Some KindNotAllowed) (cond (not f) (Some ParameterNotAllowed) None)) at
        by true true q = ap Ok q
        by true false q = refl
        by false f q = refl

  pub depth_left : {n : Node} → due_at ks ps left at ≡ Ok n → 0 < left
  depth_left e = let r = read e in let q : left ≢ 0 = eqb-false left 0 r.depth in omega arith
