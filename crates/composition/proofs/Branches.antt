-- What holds of both branches holds of either.
use mathlib.Core.Bool.{Bool, true, false, cond}

pub either : {A : Type 0} (P : A → Type 0) (t : Bool) {x y : A} → P x → P y → P (cond t x y)
either P true g h = g
either P false g h = h
