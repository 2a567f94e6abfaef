-- What stored cases are compared by: cells beside stored ones, and the tally.
use Rattle.std.specs.Prelude.{◌≡◌, Option, Result, Ok, Err, ◌++◌, eqb, ℕ, ◌+◌, ◌%◌, ◌^◌, Bool, cond, List, length, replicate}
use Rattle.std.specs.List.{FoldsTo, fold}
use Rattle.std.specs.Cmp.Lexicographic.{pointwise}
use Rattle.std.specs.Io.KnownBytes.{Consumes}
use Rattle.results.specs.Results.{over}
use Rattle.cases.specs.declared.Tally.{Tally}

-- are the cells, by a test of two cells, the stored ones, and the fill past them?
unfoldable pub same_cells : {A : Type 0} → (A → A → Bool) → List A → List A → A → Bool
same_cells equal cells stored fill = pointwise equal cells (over stored (replicate (length cells) fill))

-- the answer that a header asks for: the number of a refusal, or how much is stored where that is 0
abbrev pub wanted_by : ℕ → ℕ → Result ℕ ℕ
wanted_by refusal count = cond (eqb refusal 0) (Ok count) (Err refusal)

-- a case was read: a header of so many bytes, and a body of the size that it tells
pub record CaseRead {C : Type 0} (count : ℕ) (made : List ℕ → C → Type 0) (size : C → ℕ) (before after : Option (List ℕ)) : Type 0 where
  pub header : List ℕ
  pub head : C
  pub body : List ℕ
  pub is_header : length header ≡ count
  pub is_head : made header head
  pub is_body : length body ≡ size head
  pub read : Consumes before after (header ++ body)

-- nothing counted yet
abbrev pub no_cases : Tally
no_cases = record { cases = 0; differing = 0 }

-- counted modulo 2 ^ 64
abbrev pub more : ℕ → ℕ
more n = (n + 1) % 2 ^ 64

-- one case more
unfoldable pub counted_in : Tally → Bool → Tally
counted_in t equal = record { cases = more t.cases; differing = cond equal t.differing (more t.differing) }

-- from `first`, cases were run one after the other up to `last`, each answering as stored or not, and the tally counts them
pub record Tallied {F : Type 0} (ran : F → Bool → F → Type 0) (first last : F) (t : Tally) : Type 0 where
  pub answers : List Bool
  pub steps : FoldsTo ran first answers last
  pub count : t ≡ fold counted_in no_cases answers
