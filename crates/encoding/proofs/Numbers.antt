-- The bytes of a number, low byte first, as the library gives them; a signed number is the one whose bytes it has.
use mathlib.Core.Path.{◌≡◌, refl, sym, ap, ap₂, ◌∙◌}
use mathlib.Core.List.{◌∷◌}
use Prim.Native.Nat.{ℕ, zero, suc, ◌/◌, ◌%◌, ◌^◌, ◌≤◌}
use native.Mathlib.Omega.{arith}
use lib.IntN.{ℤ, pos, negsuc}
use lib.ListN.{take}
use mir.Syntax.{w32, w64}
use mir.Val.{of_z}
use Rattle.std.specs.Int.{byte_at, bytes_low_first, to_le_bytes}
use Rattle.std.proofs.Math.Nat.{pow-suc, div-div-eq-div-mul}
use Rattle.model.specs.Nodes.{little_bytes, twos_complement, parameter_bytes}

byte : (i n m : ℕ) → m ≡ n / 256 ^ i → byte_at i n ≡ m % 256
byte zero n m e = let whole : n / 1 ≡ n = omega arith in ap (λ k. k % 256) (sym (e ∙ whole))
byte (suc i) n m e = ap (λ k. k % 256) (sym e)

next : (i n m : ℕ) → m ≡ n / 256 ^ i → m / 256 ≡ n / 256 ^ suc i
next i n m e = ap (λ k. k / 256) e ∙ div-div-eq-div-mul n (256 ^ i) 256 ∙ ap (λ k. n / k) (sym (pow-suc 256 i))

low : (i k n m : ℕ) → m ≡ n / 256 ^ i → bytes_low_first i k n ≡ little_bytes k m
unfolding little_bytes
low i zero n m e = refl
low i (suc k) n m e = ap₂ (λ a l. a ∷ l) (byte i n m e) (low (suc i) k n (m / 256) (next i n m e))

front : (i k j n : ℕ) → k ≤ j → take k (bytes_low_first i j n) ≡ bytes_low_first i k n
front i zero j n h = refl
front i (suc k) zero n h = absurd (omega arith)
front i (suc k) (suc j) n h = ap (λ l. byte_at i n ∷ l) (front (suc i) k j n (omega arith))

whole : (n : ℕ) → n ≡ n / 256 ^ 0
whole n = let e : n / 1 ≡ n = omega arith in sym e

-- of the eight bytes of a number the first
pub low_bytes : (k n : ℕ) → k ≤ 8 → take k (to_le_bytes w64 n) ≡ little_bytes k n
low_bytes k n h = front 0 k 8 n h ∙ low 0 k n n (whole n)

complement : (p : ℤ) → of_z w32 p ≡ twos_complement p
unfolding twos_complement
complement (pos n) = refl
complement (negsuc n) = refl

-- a parameter has the bytes of its two's complement
pub signed_bytes : (p : ℤ) → to_le_bytes w32 (of_z w32 p) ≡ parameter_bytes p
signed_bytes p = let n = of_z w32 p in low 0 4 n n (whole n) ∙ ap (little_bytes 4) (complement p)
