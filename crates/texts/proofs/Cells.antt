-- The cells after a text was accepted: its nodes, and from there on what they were.
use mathlib.Core.Path.{◌≡◌, sym, ap, ◌∙◌}
use mathlib.Core.Bool.{true, false, true≢false}
use mathlib.Core.List.{List, map}
use Prim.Native.Nat.{ℕ, ◌≤◌}
use native.Mathlib.Omega.{arith}
use lib.ListN.{length, take, drop, length-append, length-drop, length-map}
use lib.Seq.{take_at, drop_at}
use Rattle.results.specs.Results.{over}
use Rattle.kinds.specs.declared.Sort.{Sort}
use Rattle.model.specs.Trees.{variables, sorts_of}
use Rattle.model.specs.Nodes.{Node, nodes_of_expression}
use Rattle.model.specs.Check.Verdict.{refusal, accepted}
use Rattle.composition.specs.Typing.{expression_of}
use Rattle.texts.specs.Texts.{Slices, written_into, typed_over, typed_in}
use Rattle.texts.specs.Theorems.{AcceptedAs, CellsStay}
use Rattle.texts.proofs.Accepting.{text_accepted, accepted_written}
use Rattle.texts.proofs.Room.{room_enough}

-- ---- one slice

-- the first n cells are these, the others as they were
pub record Begun {A : Type 0} (n : ℕ) (first old new : List A) : Type 0 where
  pub begins : take n new ≡ first
  pub stays : drop n new ≡ drop n old
  pub size : length new ≡ length old

begun : {A B : Type 0} (f : B → A) (l : List B) (old : List A) (n : ℕ) → n ≡ length l → n ≤ length old → Begun n (map f l) old (over (map f l) old)
begun f l old n e room =
    let size : length (map f l) ≡ n = length-map l f ∙ sym e in
    let rest = drop (length (map f l)) old in
    record {
      begins = take_at (map f l) rest n size;
      stays = drop_at (map f l) rest n size ∙ ap (λ (k : ℕ). drop k old) size;
      size = length-append (map f l) rest ∙ omega (arith, size, length-drop (length (map f l)) old, room);
    }

-- ---- both

module _ (vs : List Sort) (text : List ℕ) (s : Slices) (n : ℕ) (a : AcceptedAs vs text s n) where
  abbrev nodes : List Node
  nodes = nodes_of_expression (expression_of vs a.phrase)

  -- there is room for the nodes
  room : n ≤ 400
  room = omega (arith, room_enough vs text a.phrase a.reads, a.short, a.counted)

  pub kinds_begun : Begun n (map (λ n. n.kind) nodes) s.kinds (typed_over vs text s).left.kinds
  unfolding written_into
  kinds_begun =
      rw (accepted_written vs text s n a) (begun (λ n. n.kind) nodes s.kinds n a.counted (omega (arith, room, a.kinds)))

  pub parameters_begun : Begun n (map (λ n. n.parameter) nodes) s.parameters (typed_over vs text s).left.parameters
  unfolding written_into
  parameters_begun =
      rw (accepted_written vs text s n a) (begun (λ n. n.parameter) nodes s.parameters n a.counted (omega (arith, room, a.parameters)))

-- a refused model has no nodes
pub cells_stay : CellsStay
unfolding typed_in
cells_stay (refusal k) text s n h = let z : true ≡ false = cc in absurd (true≢false z)
cells_stay (accepted z t) text s n h =
    let vs = sorts_of (variables t) in
    let a = (text_accepted vs text s n).0 h in
    let k = kinds_begun vs text s n a in
    let p = parameters_begun vs text s n a in
    (k.stays, p.stays, k.size, p.size)
