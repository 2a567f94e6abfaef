-- Tests joined by and and or.
use mathlib.Core.Path.{◌≡◌, refl}
use mathlib.Core.Bool.{Bool, true, false, ◌&&◌, ◌||◌}
use mathlib.Core.Logic.{◌⊎◌, inl, inr}
use lib.Dec.{T}

-- one of two
pub or_either : (a b : Bool) → T (a || b) → T a ⊎ T b
or_either true b h = inl tt
or_either false b h = inr h

-- by cases
pub or_case : {A : Type 0} (a b : Bool) → (T a → A) → (T b → A) → T (a || b) → A
or_case true b f g h = f tt
or_case false b f g h = g h

-- by the first
pub or_left : (a b : Bool) → T a → T (a || b)
or_left true b h = tt
or_left false b h = absurd h

-- by the second
pub or_right : (a b : Bool) → T b → T (a || b)
or_right true b h = tt
or_right false b h = h

-- the first of both
pub and_left : (a b : Bool) → T (a && b) → T a
and_left true b h = tt
and_left false b h = h

-- the second of both
pub and_right : (a b : Bool) → T (a && b) → T b
and_right true b h = h
and_right false b h = absurd h

-- both at once
pub both : (a b : Bool) → T a → T b → T (a && b)
both true b g h = h
both false b g h = absurd g

-- a test that passes, as an equation
pub is_true : (a : Bool) → T a → a ≡ true
is_true true h = refl
is_true false h = absurd h

-- one that cannot pass
pub is_false : (a : Bool) → (T a → ⊥) → a ≡ false
is_false true h = absurd (h tt)
is_false false h = refl

-- from an equation
pub passes : (a : Bool) → a ≡ true → T a
passes true e = tt
passes false e = absurd (mathlib.Core.Bool.false≢true e)

-- against an equation
pub fails : (a : Bool) → a ≡ false → T a → ⊥
fails true e h = mathlib.Core.Bool.true≢false e
fails false e h = h
