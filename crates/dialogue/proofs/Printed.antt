-- By the promises of the functions the program prints 01's transcript: theorem TranscriptOfKept.
use mathlib.Core.Path.{◌≡◌, refl, sym, ap, ap₂, ◌∙◌}
use mathlib.Core.Bool.{Bool, true, false, cond}
use mathlib.Core.List.{List, [], ◌∷◌, ◌++◌, append-nil, flatten}
use Prim.Native.Nat.{ℕ, ◌+◌, ◌-◌, ◌≤◌, ◌<◌}
use native.Mathlib.Omega.{arith}
use borrow.Author.Tests.{ltb-true, ltb-false}
use lib.Dec.{ltb}
use lib.IntN.{ℤ, pos}
use lib.ListN.{length, take, drop, replicate, length-replicate, replicate-append-replicate}
use lib.Seq.{take_all, take_at, take-append_seam}
use Rattle.results.specs.declared.refusal.Refusal.{Refusal}
use Rattle.results.specs.Refusals.{number_of}
use Rattle.model.specs.declared.Sizes.{Sizes}
use Rattle.model.specs.Trees.{System}
use Rattle.model.specs.Sizes.{max_variables, max_transitions}
use Rattle.model.specs.Check.{Verdict, verdict, answer_of}
use Rattle.model.specs.Check.Verdict.{refusal, accepted}
use Rattle.model.specs.Theorems.{Bytes}
use Rattle.standing.specs.Runs.{Store, run, store}
use Rattle.run.specs.Lists.{call_by}
use Rattle.lines.specs.Lines.{refusal_text}
use Rattle.replies.specs.Replies.{opening, is_started, run_text, is_accepted}
use Rattle.dialogue.specs.Sizes.{places, longest_file, file_bytes}
use Rattle.commands.specs.Commands.{most_digits}
use Rattle.dialogue.specs.Transcript.{fresh, started_text, transcript_by, transcript}
use Rattle.dialogue.specs.Turns.{Progress, progress, turns, parts, closing}
use Rattle.dialogue.specs.Cells.{dimensions, dimensions_of, in_use, placed}
use Rattle.dialogue.specs.declared.Dimensions.{Dimensions}
use Rattle.dialogue.specs.Program.{text_in, pieces_of, pieces_text, empty, open_text, program_text}
use Rattle.dialogue.specs.Theorems.{TranscriptOfKept}
use Rattle.dialogue.proofs.RunSizes.{few_cells}
use Rattle.dialogue.proofs.Files.{verdict_of_first, long_file_refused}
use Rattle.dialogue.proofs.Pieces.{pieces_joined}
use Rattle.dialogue.proofs.Bytewise.{to_end, after_to_end, parts_joined, answered_by_lines}

-- what is printed at the beginning of a slice is the text
text_in_lem : (text out : List ℕ) → text_in (placed text out) ≡ text
text_in_lem text out = take-append_seam text (drop (length text) out)

take_replicate : {A : Type 0} (n k : ℕ) (a : A) → n ≤ k → take n (replicate k a) ≡ replicate n a
take_replicate n k a h =
    let split : n + (k - n) ≡ k = omega arith in
    ap (λ i. take n (replicate i a)) (sym split) ∙ ap (take n) (sym (replicate-append-replicate n (k - n) a))
    ∙ take_at (replicate n a) (replicate (k - n) a) n (length-replicate n a)

fresh_in_use : (bytes values marks : ℕ) → values ≤ max_variables → marks ≤ max_transitions → in_use (dimensions bytes values marks) empty ≡ fresh values marks
fresh_in_use bytes values marks v t =
    ap₂ (λ (x : List ℤ) (y : List ℕ). store (run x y (replicate places 0) 0) y) (take_replicate values max_variables (pos 0) v) (take_replicate marks max_transitions 0 t)

module _ (m : List ℕ) where
  pieces_printed : (ps : List (List ℕ)) (out : List ℕ) (s : Progress) → pieces_text m ps out s ≡ to_end m (parts m ps s)
  unfolding pieces_text parts
  pieces_printed [] out s = text_in_lem (closing m s).answer out
  pieces_printed (p ∷ ps) out s =
      let t = turns m p s in
      ap₂ (λ (x y : List ℕ). x ++ y) (text_in_lem t.answer out) (pieces_printed ps (placed t.answer out).left t.left)
      ∙ sym (after_to_end m t (parts m ps t.left))

  -- the start, then the lines of the input
  open_printed : (d : Dimensions) (ps : List (List ℕ)) (out : List ℕ) → open_text m d ps out ≡ started_text most_digits (verdict m) (flatten ps) (in_use d empty)
  unfolding open_text
  open_printed d ps out =
      let o = opening m (in_use d empty) in
      ap₂ (λ (x y : List ℕ). x ++ cond (is_started m (in_use d empty)) y []) (text_in_lem o.answer out)
      (pieces_printed (pieces_of ps) (placed o.answer out).left (progress [] o.left)
      ∙ ap (to_end m) (parts_joined m (pieces_of ps) (progress [] o.left) ∙ ap (λ x. turns m x (progress [] o.left)) (pieces_joined ps))
      ∙ answered_by_lines m (flatten ps) o.left)

  -- a refused model
  refused_opening : (r : Refusal) → verdict m ≡ refusal r → (input : List ℕ) (s : Store) → started_text most_digits (verdict m) input s ≡ refusal_text (number_of r)
  unfolding call_by run_text is_accepted
  refused_opening r e input s =
      ap (λ v. started_text most_digits v input s) e ∙ append-nil (refusal_text (number_of r))

-- ---- the program

module _ (ps : List (List ℕ)) (out : List ℕ) where
  refused_printed : (m m' : List ℕ) (n : Refusal) → verdict m ≡ refusal n → verdict m' ≡ refusal n → program_text m' ps out ≡ transcript m (flatten ps)
  unfolding transcript_by
  refused_printed m m' n e e' =
      let d = dimensions_of (length m') (verdict m') in
      open_printed m' d ps out ∙ refused_opening m' n e' (flatten ps) (in_use d empty) ∙ sym (ap (λ v. transcript_by most_digits v (flatten ps)) e)

  accepted_printed : (m : List ℕ) → Bytes m → (z : Sizes) (t : System) → verdict m ≡ accepted z t → program_text m ps out ≡ transcript m (flatten ps)
  unfolding transcript_by dimensions_of answer_of
  accepted_printed m b z t e =
      let few = few_cells z m (ap answer_of e) in
      open_printed m (dimensions_of (length m) (verdict m)) ps out
      ∙ ap (λ v. started_text most_digits v (flatten ps) (in_use (dimensions_of (length m) v) empty)) e
      ∙ ap (started_text most_digits (accepted z t) (flatten ps)) (fresh_in_use (length m) (z.states + z.flows) z.transitions few.0 few.1)
      ∙ sym (ap (λ v. transcript_by most_digits v (flatten ps)) e)

  whole_printed : (m : List ℕ) → Bytes m → program_text m ps out ≡ transcript m (flatten ps)
  whole_printed m b = by (verdict m) refl
    where
      by : (v : Verdict) → verdict m ≡ v → program_text m ps out ≡ transcript m (flatten ps)
      by (refusal n) e = refused_printed m m n e e
      by (accepted z t) e = accepted_printed m b z t e

pub transcript_of_kept : TranscriptOfKept
transcript_of_kept m ps out b = by (ltb longest_file (length m)) refl
  where
    long : longest_file < length m → (v : Verdict) → verdict m ≡ v → program_text (take file_bytes m) ps out ≡ transcript m (flatten ps)
    long h (refusal r) e = refused_printed ps out m (take file_bytes m) r e (sym (verdict_of_first m) ∙ e)
    long h (accepted z t) e = absurd (long_file_refused m h z t e)

    by : (t : Bool) → ltb longest_file (length m) ≡ t → program_text (take file_bytes m) ps out ≡ transcript m (flatten ps)
    by true e = long (ltb-true longest_file (length m) e) (verdict m) refl
    by false e =
        ap (λ x. program_text x ps out) (take_all file_bytes m (omega (arith, ltb-false longest_file (length m) e))) ∙ whole_printed ps out m b
