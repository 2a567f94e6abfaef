-- A round over what waited: which marks are old, which are of this round, and what was read so far.
use Rattle.std.specs.Prelude.{◌≡◌, ◌⊎◌, ℕ, ◌+◌, ◌≤◌, ℤ, length, get_or}
use mathlib.Core.List.{List, Memᴰ}
use Rattle.model.specs.Trees.{Instruction}
use Rattle.model.specs.Standing.{size_of}
use Rattle.expressions.specs.Expressions.{Valuation}
use Rattle.waiting.specs.Spots.{Spot, spots}
use Rattle.waiting.specs.Index.{Mention, OwnerOf}

-- a mark of an earlier round
pub record Old (r z : ℕ) : Type 0 where
  pub set : z ≡ 0 → ⊥
  pub other : z ≡ r → ⊥

-- something waits at the place
pub record Spotted (i : Instruction) (at : ℕ) (ρ : Valuation) (p : ℕ) : Type 0 where
  pub spot : Spot
  pub among : Memᴰ spot (spots i ρ at)
  pub there : spot.place ≡ p

-- the marks are those of what waits
pub record Marked (i : Instruction) (at : ℕ) (ρ : Valuation) (waits : List ℕ) : Type 0 where
  pub only : (p : ℕ) → (get_or waits p 0 ≡ 0 → ⊥) → Spotted i at ρ p
  pub all : (s : Spot) → Memᴰ s (spots i ρ at) → get_or waits s.place 0 ≡ 0 → ⊥

module _ (i : Instruction) (at : ℕ) (σ τ : Valuation) (r : ℕ) where
  -- in round r, over τ, after what waited over σ was read in part
  pub record Woken (waits : List ℕ) (read : List Spot) : Type 0 where
    pub among : (s : Spot) → Memᴰ s read → Memᴰ s (spots i σ at)
    pub rest : (s : Spot) → Memᴰ s (spots i σ at) → Memᴰ s read ⊎ Old r (get_or waits s.place 0)
    pub old : (p : ℕ) → Old r (get_or waits p 0) → Spotted i at σ p
    pub new : (p : ℕ) → get_or waits p 0 ≡ r → Spotted i at τ p
    pub full : (s : Spot) → Memᴰ s read → (q : Spot) → Memᴰ q (spots s.instruction τ s.place) → get_or waits q.place 0 ≡ r
    pub done : (s : Spot) → Memᴰ s read → Old r (get_or waits s.place 0) → ⊥
    pub stamps : (p : ℕ) → get_or waits p 0 ≤ r
    pub long : at + size_of i ≤ length waits

-- no instruction from place `at` on whose own expression mentions the variable has a mark of an earlier round
abbrev pub Passed : List ℕ → List ℤ → ℕ → ℕ → List ℕ → ℕ → Type 0
Passed ks ps at r waits x = (p o : ℕ) → at ≤ o → Mention ks ps x p → OwnerOf ks p o → Old r (get_or waits o 0) → ⊥
