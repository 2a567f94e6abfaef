-- Parts of arrays that are declared blank.
use mathlib.Core.Path.{◌≡◌, refl, ap, ◌∙◌}
use mathlib.Core.List.{◌∷◌}
use Prim.Native.Nat.{ℕ, zero, suc, ◌≤◌}
use native.Mathlib.Nat.{not-suc-le-zero, le_of_suc-le-suc}
use lib.ListN.{length, take, replicate, length-replicate}

pub part_blank : {A : Type 0} (v : A) (n most : ℕ) → n ≤ most → take n (replicate most v) ≡ replicate n v
part_blank v zero most l = refl
part_blank v (suc n) zero l = absurd (not-suc-le-zero l)
part_blank v (suc n) (suc most) l = ap (λ r. v ∷ r) (part_blank v n most (le_of_suc-le-suc l))

pub part_length : {A : Type 0} (v : A) (n most : ℕ) → n ≤ most → length (take n (replicate most v)) ≡ n
part_length v n most l = ap length (part_blank v n most l) ∙ length-replicate n v
