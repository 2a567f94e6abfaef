-- The program prints of a rewritten file what it printed of the old one, but for fires of 4 or 5 digits.
use mathlib.Core.Path.{◌≡◌, refl, sym, ap, ◌∙◌}
use mathlib.Core.Bool.{Bool, true, false, cond, ◌&&◌, and-false}
use mathlib.Core.List.{List, [], ◌∷◌, ◌++◌}
use Prim.Native.Nat.{ℕ}
use native.Mathlib.Omega.{arith}
use borrow.Author.Tests.{leb-true, leb-false, le-leb, lt-leb, eqb-false}
use lib.Dec.{leb, eqb}
use lib.ListN.{length, take, drop}
use Rattle.std.specs.Prelude.{Some, None}
use Rattle.model.specs.Check.{Verdict, byte_verdict}
use Rattle.model.specs.Check.Verdict.{refusal, accepted}
use Rattle.model.specs.WellFormed.{All}
use Rattle.standing.specs.Runs.{Store}
use Rattle.ascii.specs.Ascii.{same, are_digits}
use Rattle.commands.specs.declared.Command.TheVariants.{Undo, Marks}
use Rattle.commands.specs.Commands.{undo_byte, marks_byte, most_digits, old_most_digits, is_number, fire_prefix, fire_within, command_within}
use Rattle.replies.specs.Replies.{reply_by, opening_by, is_started_by}
use Rattle.dialogue.specs.Transcript.{lines_of, replies_by, started_text, transcript_by}
use Rattle.rewriting.specs.Rewriting.{is_long_fire}
use Rattle.rewriting.specs.Theorems.{RewrittenPrints}
use Rattle.replaying.proofs.Tests.{neither}
use Rattle.rewriting.proofs.Accepted.{rewritten_accepted}

-- ---- a line

apart : (n k : ℕ) → eqb n k ≡ false → n ≡ k → ⊥
apart n k e = omega (arith, eqb-false n k e)

-- so many bytes that are neither 4 nor 5 digits: at most 5 digits are at most 3
number_same : (n : ℕ) (digits long : Bool) → (long ≡ false → (n ≡ 4 → ⊥) × (n ≡ 5 → ⊥)) → (digits && long) ≡ false
    → (leb 1 n && (leb n most_digits && digits)) ≡ (leb 1 n && (leb n old_most_digits && digits))
number_same n false long h e = rw (and-false (leb n most_digits), and-false (leb n old_most_digits))
number_same n true long h e = ap (λ b. leb 1 n && (b && true)) (by (leb n old_most_digits) refl)
  where
    by : (b : Bool) → leb n old_most_digits ≡ b → leb n most_digits ≡ b
    by true l = le-leb n most_digits (omega (arith, leb-true n old_most_digits l))
    by false l = let x = h e in lt-leb n most_digits (omega (arith, leb-false n old_most_digits l, x.0, x.1))

fire_same : (l : List ℕ) (b long : Bool) → (long ≡ false → (length l ≡ 4 → ⊥) × (length l ≡ 5 → ⊥)) → (b && (are_digits l && long)) ≡ false
    → cond b (fire_within most_digits l) None ≡ cond b (fire_within old_most_digits l) None
unfolding fire_within is_number
fire_same l false long h e = refl
fire_same l true long h e = rw (number_same (length l) (are_digits l) long h e)

command_same : (l : List ℕ) → is_long_fire l ≡ false → command_within most_digits l ≡ command_within old_most_digits l
unfolding command_within
command_same l e =
    ap (λ fire. cond (same l (undo_byte ∷ [])) (Some Undo) (cond (same l (marks_byte ∷ [])) (Some Marks) fire))
    (fire_same (drop 2 l) (same (take 2 l) fire_prefix) _ (λ h. let x = neither _ _ h in (apart _ _ x.0, apart _ _ x.1)) e)

-- ---- the lines, and the transcript

replies_same : (v : Verdict) (ls : List (List ℕ)) → All (λ l. is_long_fire l ≡ false) ls → (s : Store)
    → replies_by most_digits v ls s ≡ replies_by old_most_digits v ls s
unfolding replies_by All
replies_same v [] h s = refl
replies_same v (l ∷ ls) h s =
    ap (λ c. (reply_by v c s).answer ++ replies_by most_digits v ls (reply_by v c s).left) (command_same l h.0)
    ∙ ap (λ rest. (reply_by v (command_within old_most_digits l) s).answer ++ rest) (replies_same v ls h.1 _)

transcript_same : (v : Verdict) (input : List ℕ) → All (λ l. is_long_fire l ≡ false) (lines_of input)
    → transcript_by most_digits v input ≡ transcript_by old_most_digits v input
unfolding transcript_by
transcript_same (refusal r) input h = refl
transcript_same (accepted z t) input h = started (accepted z t) _
  where
    started : (v : Verdict) (s : Store) → started_text most_digits v input s ≡ started_text old_most_digits v input s
    started v s =
        ap (λ rest. (opening_by v s).answer ++ cond (is_started_by v s) rest []) (replies_same v (lines_of input) h (opening_by v s).left)

pub rewritten_prints : RewrittenPrints
rewritten_prints m input b z t e h =
    ap (λ v. transcript_by most_digits v input) (rewritten_accepted m b z t e ∙ sym e) ∙ transcript_same (byte_verdict m) input h
