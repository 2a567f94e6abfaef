-- The first line of a part, and the end of the input.
use mathlib.Core.Path.{◌≡◌, refl, sym, ap, ◌∙◌}
use mathlib.Core.Bool.{Bool, true, false, cond, not}
use mathlib.Core.List.{List, [], ◌∷◌, ◌++◌, append-nil, append_assoc}
use Prim.Native.Nat.{ℕ, zero, suc, ◌+◌, ◌-◌, ◌≤◌, ◌<◌}
use native.Mathlib.Omega.{arith}
use borrow.Author.Tests.{ltb-true, ltb-false}
use lib.Dec.{eqb, ltb}
use lib.ListN.{length, take, drop, get_or, drop_of_length-le, length-drop}
use lib.Seq.{drop-cons, take-take, take_all}
use Rattle.results.specs.Results.{Answered, answered}
use Rattle.standing.specs.Runs.{Store}
use Rattle.std.specs.Prelude.{Option, Some, None}
use Rattle.std.specs.List.{position, position_or_len}
use Rattle.std.specs.Option.{unwrap_or}
use Rattle.std.specs.Slice.{IsGetRangeResult}
use Rattle.std.proofs.Common.{inl, inr}
use denote.Ref.{Bor}
use Rattle.commands.specs.declared.Command.{Command}
use Rattle.commands.specs.Commands.{command_of}
use Rattle.lines.specs.Lines.{feed_byte}
use Rattle.replies.specs.Replies.{reply}
use Rattle.dialogue.specs.Sizes.{kept_bytes}
use Rattle.dialogue.specs.Turns.{Turn, progress, ended, turn, after, turns, closing_by, closing, before_line_feed, has_line_feed, to_line_feed, first_line}
use Rattle.dialogue.specs.Cells.{into}

pub take_take_append : {A : Type 0} (n : ℕ) (l x : List A) → take n (take n l ++ x) ≡ take n (l ++ x)
take_take_append zero l x = refl
take_take_append (suc n) [] x = refl
take_take_append (suc n) (a ∷ l) x = ap (λ r. a ∷ r) (take_take_append n l x)

-- one byte more is kept
kept_on : (kept rest : List ℕ) (byte : ℕ) → take kept_bytes (take kept_bytes (kept ++ (byte ∷ [])) ++ rest) ≡ take kept_bytes (kept ++ (byte ∷ rest))
kept_on kept rest byte = take_take_append kept_bytes (kept ++ (byte ∷ [])) rest ∙ ap (take kept_bytes) (append_assoc kept (byte ∷ []) rest)

-- ---- the first line feed

abbrev feed_or_end : List ℕ → ℕ
feed_or_end = position_or_len (λ byte. eqb byte feed_byte)

before_feed : (part : List ℕ) → before_line_feed part ≡ take (feed_or_end part) part
unfolding before_line_feed
before_feed [] = refl
before_feed (byte ∷ part) = by (eqb byte feed_byte) (before_feed part)
  where
    by : (t : Bool) → before_line_feed part ≡ take (feed_or_end part) part
        → cond t [] (byte ∷ before_line_feed part) ≡ take (cond (not t) (1 + feed_or_end part) 0) (byte ∷ part)
    by true e = refl
    by false e = let one : 1 + feed_or_end part ≡ suc (feed_or_end part) = omega arith in rw (one, e)

abbrev Feed : List ℕ → ℕ → ℕ → Bool → Type 0
Feed part at next is_ended =
    (at < length part → (next ≡ at + 1) × (is_ended ≡ true)) × (length part ≤ at → (next ≡ length part) × (is_ended ≡ false))

to_feed : (part : List ℕ) → Feed part (feed_or_end part) (to_line_feed part) (has_line_feed part)
unfolding to_line_feed has_line_feed
to_feed [] = (λ h. absurd (omega arith), λ h. (refl, refl))
to_feed (b ∷ part) = by (eqb b feed_byte) (to_feed part).0 (to_feed part).1
  where
    by : (t : Bool) → (feed_or_end part < length part → (to_line_feed part ≡ feed_or_end part + 1) × (has_line_feed part ≡ true))
        → (length part ≤ feed_or_end part → (to_line_feed part ≡ length part) × (has_line_feed part ≡ false))
        → Feed (b ∷ part) (cond (not t) (1 + feed_or_end part) 0) (suc (cond t 0 (to_line_feed part))) (cond t true (has_line_feed part))
    by true e f = (λ h. (refl, refl), λ h. absurd (omega arith))
    by false e f =
        (λ h. let r = e (omega arith) in (omega (arith, r.0), r.1), λ h. let r = f (omega arith) in (omega (arith, r.0), r.1))

-- a part with a line feed at this place, and one without any
pub record LineFeed (part : List ℕ) (at : ℕ) : Type 0 where
  pub before : before_line_feed part ≡ take at part
  pub next : to_line_feed part ≡ at + 1
  pub is_ended : has_line_feed part ≡ true
  pub within : at < length part

pub record NoLineFeed (part : List ℕ) : Type 0 where
  pub before : before_line_feed part ≡ part
  pub next : to_line_feed part ≡ length part
  pub is_ended : has_line_feed part ≡ false

pub feed_at : (part : List ℕ) {at : ℕ} {r : Option ℕ} → r ≡ position (λ byte. eqb byte feed_byte) part → r ≡ Some at → LineFeed part at
feed_at part {at} {r} e f = by (ltb (feed_or_end part) (length part)) refl (sym e ∙ f)
  where
    by : (t : Bool) → ltb (feed_or_end part) (length part) ≡ t → cond t (Some (feed_or_end part)) None ≡ Some at → LineFeed part at
    by true e f =
        let same : feed_or_end part ≡ at = cc in
        let within : feed_or_end part < length part = ltb-true (feed_or_end part) (length part) e in
        record {
          before = rw (← same) (before_feed part);
          next = omega (arith, ((to_feed part).0 within).0);
          is_ended = ((to_feed part).0 within).1;
          within = omega arith;
        }
    by false e f = let z : ◌≡◌ {A = ℕ} 0 1 = cc in absurd (omega arith)

pub no_feed : (part : List ℕ) {r : Option ℕ} → r ≡ position (λ byte. eqb byte feed_byte) part → r ≡ None → NoLineFeed part
no_feed part e f = by (ltb (feed_or_end part) (length part)) refl (sym e ∙ f)
  where
    by : (t : Bool) → ltb (feed_or_end part) (length part) ≡ t → cond t (Some (feed_or_end part)) None ≡ None → NoLineFeed part
    by true e f = let z : ◌≡◌ {A = ℕ} 0 1 = cc in absurd (omega arith)
    by false e f =
        let past : length part ≤ feed_or_end part = ltb-false (feed_or_end part) (length part) e in
        record {
          before = before_feed part ∙ take_all (feed_or_end part) part past;
          next = ((to_feed part).1 past).0;
          is_ended = ((to_feed part).1 past).1;
        }

-- what is left of a part, from a place on
pub rest_of : (part : List ℕ) (from : ℕ) (r : Option (Bor (List ℕ))) (none : Bor (List ℕ)) {x : Bor (List ℕ)} → IsGetRangeResult part from (length part) r → x ≡ unwrap_or r none → none.now ≡ []
    → x.now ≡ drop from part
rest_of part from None none h e z =
    ap (λ (b : Bor (List ℕ)). b.now) e ∙ z
    ∙ sym (drop_of_length-le part {i = from} (elim h.0 [ inl l ↦ omega arith | inr l ↦ absurd (omega arith) ]))
rest_of part from (Some y) none h e z =
    ap (λ (b : Bor (List ℕ)). b.now) e ∙ h.0.2 ∙ take_all (length part - from) (drop from part) (omega (arith, length-drop from part))

-- where bytes are left, some are taken
pub line_taken : (part : List ℕ) (at : ℕ) → at < length part → at < at + to_line_feed (drop at part)
unfolding to_line_feed
line_taken part at h =
    let some : to_line_feed (drop at part) ≡ suc (cond (eqb (get_or part at 0) feed_byte) 0 (to_line_feed (drop (suc at) part))) = ap to_line_feed (drop-cons part at 0 h) in
    omega arith

-- ---- the turns of the first line

module _ (m : List ℕ) where
  pub turn_ended : (byte : ℕ) (kept : List ℕ) (s : Store) → eqb byte feed_byte ≡ true → turn m byte (progress kept s) ≡ ended (reply m (command_of kept) s)
  unfolding turn
  turn_ended byte kept s e = rw e

  pub turn_kept : (byte : ℕ) (kept : List ℕ) (s : Store) → eqb byte feed_byte ≡ false
      → turn m byte (progress kept s) ≡ answered [] (progress (take kept_bytes (kept ++ (byte ∷ []))) s)
  unfolding turn
  turn_kept byte kept s e = rw e

  -- a first line that is ended is answered, any other is kept
  abbrev line_turn : Bool → List ℕ → Store → Turn
  line_turn t kept s = cond t (ended (reply m (command_of kept) s)) (answered [] (progress kept s))

  first_turns : (part kept : List ℕ) (s : Store) → take kept_bytes kept ≡ kept
      → turns m (first_line part) (progress kept s) ≡ line_turn (has_line_feed part) (take kept_bytes (kept ++ before_line_feed part)) s
  unfolding turns before_line_feed has_line_feed to_line_feed
  first_turns [] kept s h = ap (λ k. answered [] (progress k s)) (sym (ap (take kept_bytes) (append-nil kept) ∙ h))
  first_turns (byte ∷ part) kept s h = by (eqb byte feed_byte) refl (first_turns part)
    where
      by : (t : Bool) → eqb byte feed_byte ≡ t
          → ((kept : List ℕ) (s : Store) → take kept_bytes kept ≡ kept
          → turns m (first_line part) (progress kept s) ≡ line_turn (has_line_feed part) (take kept_bytes (kept ++ before_line_feed part)) s)
          → turns m (take (suc (cond t 0 (to_line_feed part))) (byte ∷ part)) (progress kept s)
          ≡ line_turn (cond t true (has_line_feed part)) (take kept_bytes (kept ++ cond t [] (byte ∷ before_line_feed part))) s
      by true e rest =
          ap (λ t. after t (answered [] t.left)) (turn_ended byte kept s e)
          ∙ ap (λ x. answered x (progress [] (reply m (command_of kept) s).left)) (append-nil (reply m (command_of kept) s).answer)
          ∙ ap (λ k. ended (reply m (command_of k) s)) (sym (ap (take kept_bytes) (append-nil kept) ∙ h))
      by false e rest =
          let kept' = take kept_bytes (kept ++ (byte ∷ [])) in
          ap (λ t. after t (turns m (first_line part) t.left)) (turn_kept byte kept s e)
          ∙ rest kept' s (take-take kept_bytes kept_bytes (kept ++ (byte ∷ [])) (omega arith))
          ∙ ap (λ k. line_turn (has_line_feed part) k s) (kept_on kept (before_line_feed part) byte)

  module _ (part kept : List ℕ) (s : Store) (h : take kept_bytes kept ≡ kept) {line : List ℕ} where
    taken : {before : List ℕ} {t : Bool} → before_line_feed part ≡ before → has_line_feed part ≡ t → line ≡ take kept_bytes (kept ++ before)
        → line_turn t line s ≡ turns m (first_line part) (progress kept s)
    taken {before} {t} f e k =
        ap (λ x. line_turn t x s) (k ∙ ap (λ x. take kept_bytes (kept ++ x)) (sym f))
        ∙ ap (λ x. line_turn x (take kept_bytes (kept ++ before_line_feed part)) s) (sym e) ∙ sym (first_turns part kept s h)

    pub line_answered : {at : ℕ} → LineFeed part at → line ≡ take kept_bytes (kept ++ take at part) → ended (reply m (command_of line) s) ≡ turns m (first_line part) (progress kept s)
    line_answered f k = taken f.before f.is_ended k

    pub line_kept : NoLineFeed part → line ≡ take kept_bytes (kept ++ part) → answered [] (progress line s) ≡ turns m (first_line part) (progress kept s)
    line_kept f k = taken f.before f.is_ended k

  -- a line that was answered, in the slice for the lines
  pub ended_into : (s : Store) (out line : List ℕ) {kept : List ℕ} {a : Answered ℕ (List ℕ)} {left : Store} {c : Option Command} {t : Turn}
      → kept ≡ [] → answered a left ≡ into out (reply m c s) → c ≡ command_of line → ended (reply m (command_of line) s) ≡ t
      → answered a (progress kept left) ≡ into out t
  ended_into s out line {a = a} {left = left} k e f g =
      ap (λ x. answered a (progress x left)) k
      ∙ ap (λ (x : Answered (Answered ℕ (List ℕ)) Store). answered x.answer (progress [] x.left)) e
      ∙ ap (λ x. into out (ended (reply m x s))) f ∙ ap (into out) g

  -- ---- the end of the input

  pub nothing_begun : (kept : List ℕ) (s : Store) → length kept ≡ 0 → answered [] s ≡ closing m (progress kept s)
  unfolding closing_by
  nothing_begun [] s h = refl
  nothing_begun (b ∷ kept) s h = absurd (omega (arith, h))

  pub begun_closed : (kept : List ℕ) (s : Store) {c : Option Command} → (length kept ≡ 0 → ⊥) → c ≡ command_of kept → reply m c s ≡ closing m (progress kept s)
  unfolding closing_by
  begun_closed [] s h k = absurd (h refl)
  begun_closed (b ∷ kept) s h k = ap (λ x. reply m x s) k
