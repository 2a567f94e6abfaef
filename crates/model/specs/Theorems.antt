-- The statements on model files. Proved in proofs/.
use Rattle.std.specs.Prelude.{◌≡◌, ◌↔◌, ◌⊎◌, cond, not, List, ℕ, ◌+◌, ◌*◌, ◌<◌, ◌≤◌, eqb, ltb, length, get_or, take, Ok, Err}
use Rattle.results.specs.declared.refusal.Refusal.{Refusal}
use Rattle.results.specs.declared.refusal.Refusal.TheVariants.{ShortFile, TooManyNodes, TooManyVariables, WrongLength}
use Rattle.results.specs.Refusals.{number_of}
use Rattle.model.specs.declared.Layout.{Layout}
use Rattle.model.specs.declared.Sizes.{Sizes}
use Rattle.model.specs.Trees.{System}
use Rattle.model.specs.Sizes.{byte_layout, file_layout, longest, sizes_in, sized}
use Rattle.model.specs.Check.{verdict, byte_verdict, verdict_of_layout}
use Rattle.model.specs.Check.Verdict.{refusal, accepted}
use Rattle.model.specs.WellFormed.{WellFormed, WellFormedIn, encode, encode_in, sizes_of}
use Rattle.model.specs.Shuffle.{Shuffled}

-- every entry is a byte, as in every slice of bytes
abbrev pub Bytes : List ℕ → Type 0
Bytes m = (i : ℕ) → i < length m → get_or m i 0 < 256

-- 01: "A model is accepted if its check refuses nothing."
abbrev pub Accepted : List ℕ → Type 0
Accepted m = (s : Sizes) × (t : System) × (verdict m ≡ accepted s t)

-- the check accepts exactly the bytes of well-formed trees, with their tree and their sizes
abbrev pub CheckExact : Type 0
CheckExact =
    (m : List ℕ) → Bytes m → (s : Sizes) (t : System)
    → (verdict m ≡ accepted s t) ↔ ((m ≡ encode t) × (s ≡ sizes_of t) × WellFormed t)

-- S, F, E and T take one byte each or two, and the most nodes fit N's two
pub record Sound (l : Layout) : Type 0 where
  pub widths : (1 ≤ l.width) × (l.width ≤ 2)
  pub nodes : l.max_nodes < 65536

-- the same by a layout
abbrev pub CheckExactIn : Layout → Type 0
CheckExactIn l =
    (m : List ℕ) → Bytes m → (s : Sizes) (t : System)
    → (verdict_of_layout l m ≡ accepted s t) ↔ ((m ≡ encode_in l t) × (s ≡ sizes_of t) × WellFormedIn l t)

-- and so by every such layout
abbrev pub LayoutsExact : Type 0
LayoutsExact = (l : Layout) → Sound l → CheckExactIn l

-- old files and those of every call are laid out so
abbrev pub LayoutsSound : Type 0
LayoutsSound = Sound byte_layout × Sound file_layout

-- 01, "Refused because of the input", and 02, A7: the check refuses by 1 to 8 and by 37 alone
abbrev pub CheckRefusals : Type 0
CheckRefusals =
    (m : List ℕ) (r : Refusal) → verdict m ≡ refusal r → ((1 ≤ number_of r) × (number_of r ≤ 8)) ⊎ (r ≡ TooManyVariables)

-- the header of a file that every call reads is refused as in 02, A7: 1 "under 10 bytes", 2 "N above 12,000", 37 "S+F above 4,000, between
-- 2 and 3", 3 "a length not 10 + 5N"
abbrev pub FileHeader : Type 0
FileHeader =
    (m : List ℕ) → sized file_layout m
    ≡ cond (ltb (length m) 10) (Err ShortFile)
    (cond (ltb 12000 (sizes_in file_layout m).nodes) (Err TooManyNodes)
    (cond (ltb 4000 ((sizes_in file_layout m).states + (sizes_in file_layout m).flows)) (Err TooManyVariables)
    (cond (not (eqb (length m) (10 + 5 * (sizes_in file_layout m).nodes))) (Err WrongLength)
    (Ok (sizes_in file_layout m)))))

-- the header of an old file is refused as in 01: 1 "under 6 bytes", 2 "N above 4,000", 3 "length not 6 + 5N", in this order, and by no 37
abbrev pub OldHeader : Type 0
OldHeader =
    (m : List ℕ) → Bytes m → sized byte_layout m
    ≡ cond (ltb (length m) 6) (Err ShortFile)
    (cond (ltb 4000 (sizes_in byte_layout m).nodes) (Err TooManyNodes)
    (cond (not (eqb (length m) (6 + 5 * (sizes_in byte_layout m).nodes))) (Err WrongLength)
    (Ok (sizes_in byte_layout m))))

-- and so the old check refuses by 1 to 8 alone
abbrev pub OldCheckRefusals : Type 0
OldCheckRefusals =
    (m : List ℕ) → Bytes m → (r : Refusal) → byte_verdict m ≡ refusal r → (1 ≤ number_of r) × (number_of r ≤ 8)

-- no accepted file is longer than its layout's longest, and so the check of a longer one is that of its first bytes
abbrev pub LongRefused : Type 0
LongRefused = (l : Layout) (m : List ℕ) → longest l < length m → (s : Sizes) (t : System) → verdict_of_layout l m ≡ accepted s t → ⊥

abbrev pub VerdictOfKept : Type 0
VerdictOfKept = (l : Layout) (m : List ℕ) (n : ℕ) → longest l < n → verdict_of_layout l m ≡ verdict_of_layout l (take n m)

-- a transition has three nodes at least, and the assertion one
abbrev pub FewTransitions : Type 0
FewTransitions =
    (l : Layout) (m : List ℕ) (s : Sizes) (t : System) → verdict_of_layout l m ≡ accepted s t → 3 * s.transitions < s.nodes

-- the bytes m' are those of a shuffle of the model that the bytes m are, by a layout
pub record ShuffledFileIn (l : Layout) (m m' : List ℕ) : Type 0 where
  pub sizes : Sizes
  pub before : System
  pub after : System
  pub read : verdict_of_layout l m ≡ accepted sizes before
  pub shuffled : Shuffled before after
  pub written : m' ≡ encode_in l after

abbrev pub ShuffledFile : List ℕ → List ℕ → Type 0
ShuffledFile = ShuffledFileIn file_layout

-- 01: "A shuffled model is accepted too", with the same five sizes, and it is the shuffled tree
abbrev pub ShuffledAccepted : Type 0
ShuffledAccepted =
    (m m' : List ℕ) → Bytes m → (f : ShuffledFile m m') → verdict m' ≡ accepted f.sizes f.after

-- the same by a layout
abbrev pub LayoutsShuffled : Type 0
LayoutsShuffled =
    (l : Layout) → Sound l → (m m' : List ℕ) → Bytes m → (f : ShuffledFileIn l m m') → verdict_of_layout l m' ≡ accepted f.sizes f.after
