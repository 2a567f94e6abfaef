-- Numbers in bytes, low byte first: read and written, both ways; parameters in four bytes.
use mathlib.Core.Path.{◌≡◌, refl, sym, ap, ap₂, ◌∙◌, subst}
use mathlib.Core.Bool.{Bool, true, false, ◌&&◌}
use mathlib.Core.List.{List, [], ◌∷◌, ◌++◌, flat_map}
use Prim.Native.Nat.{ℕ, zero, suc, ◌+◌, ◌*◌, ◌-◌, ◌/◌, ◌%◌, ◌^◌, ◌≤◌, ◌<◌}
use native.Mathlib.Nat.{add-zero}
use native.Mathlib.Numerals.{add-one}
use native.Mathlib.Omega.{arith}
use borrow.Author.Tests.{ltb-true, ltb-false, lt-ltb, le-ltb, le-leb, leb-true}
use lib.Dec.{T, ltb, leb, leb→le, le→leb}
use lib.IntN.{ℤ, pos, negsuc, neg_ℤ}
use lib.ListN.{length, get_or, take, drop, take-append-drop, drop_of_length-le, get_or-eq_default}
use lib.Seq.{drop-cons, drop-drop, drop_at, get_or-drop}
use Rattle.evaluation.specs.Numbers.{representable}
use Rattle.model.specs.Nodes.{little_bytes, twos_complement, parameter_bytes}
use Rattle.model.specs.Sizes.{little_at}
use Rattle.model.specs.Check.{signed, parameters_at}
use Rattle.model.specs.WellFormed.{All}
use Rattle.model.proofs.KindCases.{both}
use Rattle.model.proofs.Complete.{T_true}
use Rattle.model.proofs.Standing.{AllRepresentable}

-- ---- two's complement

negative : (k : ℕ) → 0 < k → neg_ℤ (pos k) ≡ negsuc (k - 1)
negative zero h = absurd (omega arith)
negative (suc k) h = ap negsuc (omega arith)

signed_low : (n : ℕ) → n < 2147483648 → signed n ≡ pos n
unfolding signed
signed_low n h = rw (lt-ltb n 2147483648 h)

signed_high : (n : ℕ) → 2147483648 ≤ n → n < 4294967296 → signed n ≡ negsuc (4294967295 - n)
unfolding signed
signed_high n h l = rw (le-ltb n 2147483648 h) (negative (4294967296 - n) (omega arith) ∙ ap negsuc (omega arith))

-- 32-bit numbers by their size
pub representable_pos : (n : ℕ) → n < 2147483648 → T (representable (pos n))
representable_pos n h = le→leb n 2147483647 (omega arith)

pub pos_representable : (n : ℕ) → T (representable (pos n)) → n < 2147483648
pos_representable n t = omega (arith, leb→le n 2147483647 t)

representable_negsuc : (n : ℕ) → n < 2147483648 → T (representable (negsuc n))
representable_negsuc n h = rw (le-leb n 2147483647 (omega arith)) tt

negsuc_representable : (n : ℕ) → T (representable (negsuc n)) → n < 2147483648
negsuc_representable n t = omega (arith, leb-true n 2147483647 (both (leb n 2147483647) true (T_true (leb n 2147483647 && true) t)).0)

-- read back as written
pub signed_written : (v : ℤ) → T (representable v) → (signed (twos_complement v) ≡ v) × (twos_complement v < 4294967296)
unfolding twos_complement
signed_written (pos n) r = let h = pos_representable n r in (signed_low n h, omega arith)
signed_written (negsuc n) r =
    let h = negsuc_representable n r in
    (signed_high (4294967296 - suc n) (omega arith) (omega arith) ∙ ap negsuc (omega arith), omega arith)

-- written back as read
pub written_signed : (n : ℕ) → n < 4294967296 → (twos_complement (signed n) ≡ n) × T (representable (signed n))
unfolding twos_complement
written_signed n h = by (ltb n 2147483648) refl
  where
    by : (t : Bool) → ltb n 2147483648 ≡ t → (twos_complement (signed n) ≡ n) × T (representable (signed n))
    by true e =
        let l = ltb-true n 2147483648 e in (ap twos_complement (signed_low n l), subst (λ v. T (representable v)) (sym (signed_low n l)) (representable_pos n l))
    by false e =
        let l = ltb-false n 2147483648 e in (
          ap twos_complement (signed_high n l h) ∙ omega arith,
          subst (λ v. T (representable v)) (sym (signed_high n l h)) (representable_negsuc (4294967295 - n) (omega arith)),
        )

-- ---- numbers of so many bytes

-- every place holds a byte, past the end too
abbrev pub AllBytes : List ℕ → Type 0
AllBytes m = (i : ℕ) → get_or m i 0 < 256

pub all_bytes : (m : List ℕ) → ((i : ℕ) → i < length m → get_or m i 0 < 256) → AllBytes m
all_bytes m b i = by (ltb i (length m)) refl
  where
    by : (t : Bool) → ltb i (length m) ≡ t → get_or m i 0 < 256
    by true e = b i (ltb-true i (length m) e)
    by false e = omega (arith, get_or-eq_default m 0 {n = i} (ltb-false i (length m) e))

pub little_bound : (m : List ℕ) → AllBytes m → (width at : ℕ) → little_at m at width < 256 ^ width
unfolding little_at
little_bound m b zero at = omega arith
little_bound m b (suc width) at = omega (arith, b at, little_bound m b width (at + 1))

-- a number of two bytes at most
pub bytes_bound : (width : ℕ) → width ≤ 2 → 256 ^ width ≤ 65536
bytes_bound zero h = omega arith
bytes_bound (suc zero) h = omega arith
bytes_bound (suc (suc zero)) h = omega arith
bytes_bound (suc (suc (suc width))) h = absurd (omega arith)

pub little_length : (width n : ℕ) → length (little_bytes width n) ≡ width
unfolding little_bytes
little_length zero n = refl
little_length (suc width) n = ap suc (little_length width (n / 256))

-- the bytes of the number that bytes are, are those bytes
pub little_written : (m : List ℕ) → AllBytes m → (width at : ℕ) → at + width ≤ length m → little_bytes width (little_at m at width) ≡ take width (drop at m)
unfolding little_bytes little_at
little_written m b zero at h = refl
little_written m b (suc width) at h =
    let byte = get_or m at 0 in
    let above = little_at m (at + 1) width in
    let p : (byte + 256 * above) % 256 ≡ byte = omega (arith, b at) in
    let q : (byte + 256 * above) / 256 ≡ above = omega (arith, b at) in
    ap₂ {C = List ℕ} ◌∷◌ p
    (ap (little_bytes width) q ∙ little_written m b width (at + 1) (omega arith) ∙ ap (λ (n : ℕ). take width (drop n m)) (add-one at))
    ∙ sym (ap (take (suc width)) (drop-cons m at 0 (omega arith)))

-- a number's bytes at a place are read as that number
pub little_read : (m : List ℕ) (width n at : ℕ) (rest : List ℕ) → n < 256 ^ width → drop at m ≡ little_bytes width n ++ rest → little_at m at width ≡ n
unfolding little_bytes little_at
little_read m zero n at rest h e = omega arith
little_read m (suc width) n at rest h e =
    let p : get_or m at 0 ≡ n % 256 =
    ap (λ (i : ℕ). get_or m i 0) (sym (add-zero at)) ∙ sym (get_or-drop at m 0 0) ∙ ap (λ (l : List ℕ). get_or l 0 0) e in
    let q : little_at m (at + 1) width ≡ n / 256 =
    little_read m width (n / 256) (at + 1) rest (omega arith) (sym (drop-drop 1 at m) ∙ ap (drop 1) e) in
    omega arith

pub little_rest : (m : List ℕ) (width n at : ℕ) (rest : List ℕ) → drop at m ≡ little_bytes width n ++ rest → drop (at + width) m ≡ rest
little_rest m width n at rest e =
    sym (drop-drop width at m) ∙ ap (drop width) e ∙ drop_at (little_bytes width n) rest width (little_length width n)

-- ---- parameters

pub parameters_length : (m : List ℕ) (n at : ℕ) → length (parameters_at m at n) ≡ n
unfolding parameters_at
parameters_length m zero at = refl
parameters_length m (suc n) at = ap suc (parameters_length m n (at + 4))

pub parameters_representable : (m : List ℕ) → AllBytes m → (n at : ℕ) → AllRepresentable (parameters_at m at n)
unfolding parameters_at
parameters_representable m b zero at i = tt
parameters_representable m b (suc n) at zero = (written_signed (little_at m at 4) (little_bound m b 4 at)).1
parameters_representable m b (suc n) at (suc i) = parameters_representable m b n (at + 4) i

pub parameters_written : (m : List ℕ) → AllBytes m → (n at : ℕ) → length m ≡ at + 4 * n → flat_map parameter_bytes (parameters_at m at n) ≡ drop at m
unfolding parameters_at flat_map
parameters_written m b zero at h = sym (drop_of_length-le m {i = at} (omega arith))
parameters_written m b (suc n) at h =
    ap₂ ◌++◌
    (ap (little_bytes 4) (written_signed (little_at m at 4) (little_bound m b 4 at)).0 ∙ little_written m b 4 at (omega arith))
    (parameters_written m b n (at + 4) (omega arith) ∙ sym (drop-drop 4 at m))
    ∙ take-append-drop 4 (drop at m)

pub parameters_read : (ps : List ℤ) (m : List ℕ) (at : ℕ) → All (λ v. T (representable v)) ps → drop at m ≡ flat_map parameter_bytes ps
    → parameters_at m at (length ps) ≡ ps
unfolding parameters_at flat_map All
parameters_read [] m at r e = refl
parameters_read (p ∷ ps) m at r e =
    let s = signed_written p r.0 in
    let rest = flat_map parameter_bytes ps in
    ap₂ {C = List ℤ} ◌∷◌ (ap signed (little_read m 4 (twos_complement p) at rest s.1 e) ∙ s.0)
    (parameters_read ps m (at + 4) r.1 (little_rest m 4 (twos_complement p) at rest e))
