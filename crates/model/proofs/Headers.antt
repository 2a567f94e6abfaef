-- The headers: that of every call; that of an old file, which is refused as it ever was, by 1, 2 and 3, and the whole by 1 to 8.
use mathlib.Core.Path.{refl, subst}
use mathlib.Core.Logic.{◌⊎◌, inl, inr}
use mathlib.Core.List.{List}
use Prim.Native.Nat.{ℕ, ◌+◌, ◌≤◌}
use native.Mathlib.Omega.{arith}
use borrow.Author.Tests.{ltb-true, le-ltb}
use Rattle.model.specs.Sizes.{byte_layout, sizes_in, sized}
use Rattle.model.specs.Theorems.{Bytes, FileHeader, OldHeader, OldCheckRefusals}
use Rattle.model.proofs.LittleBytes.{all_bytes, little_bound}
use Rattle.model.proofs.CheckRefusals.{Low, Refused, of_sizes}

pub file_header : FileHeader
unfolding sized
file_header m = refl

-- two sizes of one byte
few_in_bytes : (m : List ℕ) → Bytes m → (sizes_in byte_layout m).states + (sizes_in byte_layout m).flows ≤ 510
unfolding sizes_in
few_in_bytes m b = omega (arith, little_bound m (all_bytes m b) 1 0, little_bound m (all_bytes m b) 1 1)

pub old_header : OldHeader
unfolding sized
old_header m b = rw (le-ltb 510 ((sizes_in byte_layout m).states + (sizes_in byte_layout m).flows) (few_in_bytes m b))

pub old_check_refusals : OldCheckRefusals
unfolding Refused
old_check_refusals m b r e =
    let few = few_in_bytes m b in
    never (subst (Refused (λ r. ⊥)) e
    (of_sizes byte_layout m (λ r. ⊥) (λ h. absurd (omega (arith, ltb-true 510 ((sizes_in byte_layout m).states + (sizes_in byte_layout m).flows) h)))))
  where
    never : Low r ⊎ ⊥ → Low r
    never (inl h) = h
    never (inr h) = absurd h
