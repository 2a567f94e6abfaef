-- The index of an assertion: where each variable is mentioned, and in which instruction.
use Rattle.std.specs.Prelude.{◌≡◌, List, ℕ, ◌+◌, ◌≤◌, ◌<◌, ℤ, pos, nat_abs, length, get_or}

module _ (ks : List ℕ) (ps : List ℤ) where
  -- the node mentions the variable
  pub record Mention (x p : ℕ) : Type 0 where
    pub within : p < length ks
    pub kind : get_or ks p 0 ≡ 34
    pub parameter : nat_abs (get_or ps p (pos 0)) ≡ x

  -- the first mention of the variable from a place on; the number of nodes if there is none
  pub record First (x from first : ℕ) : Type 0 where
    pub after : from ≤ first
    pub bounded : first ≤ length ks
    pub least : (p : ℕ) → from ≤ p → p < first → Mention x p → ⊥
    pub found : first < length ks → Mention x first

  -- the first mention of each variable from a place on, and after each mention the next of the same variable
  pub record Linked (from : ℕ) (heads mentions : List ℕ) : Type 0 where
    pub first : (x : ℕ) → x < length heads → First x from (get_or heads x 0)
    pub later : (x p : ℕ) → x < length heads → from ≤ p → Mention x p → First x (p + 1) (get_or mentions p 0)

-- an assignment or an if-then
abbrev pub Owning : ℕ → Type 0
Owning k = (k ≡ 17 → ⊥) → (k ≡ 18 → ⊥) → ⊥

-- the last assignment or if-then at or before the place: the instruction whose own expression a mention stands in
pub record OwnerOf (ks : List ℕ) (p o : ℕ) : Type 0 where
  pub before : o ≤ p
  pub owning : Owning (get_or ks o 0)
  pub last : (q : ℕ) → o < q → q ≤ p → Owning (get_or ks q 0) → ⊥

-- the owners of the nodes from place `at` on and below place `to`
pub record Owners (ks : List ℕ) (at to : ℕ) (owner : ℕ → ℕ) : Type 0 where
  pub exact : (p o : ℕ) → at ≤ o → p < to → OwnerOf ks p o → owner p ≡ o
  pub within : (p : ℕ) → at ≤ p → p < to → owner p ≤ p

-- the index from the place of the assertion on, with a head for each of so many variables: for each node the next mention of the same
-- variable, and its owner
pub record Indexed (ks : List ℕ) (ps : List ℤ) (at variables : ℕ) (heads mentions owners : List ℕ) : Type 0 where
  pub head_length : length heads ≡ variables
  pub mention_length : length mentions ≡ length ks
  pub owner_length : length owners ≡ length ks
  pub linked : Linked ks ps at heads mentions
  pub owned : Owners ks at (length ks) (λ p. get_or owners p 0)
