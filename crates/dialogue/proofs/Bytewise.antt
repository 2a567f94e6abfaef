-- An input taken byte by byte is answered as its lines are, and how it is cut into parts does not matter.
use mathlib.Core.Path.{◌≡◌, refl, sym, ap, ◌∙◌}
use mathlib.Core.Bool.{Bool, true, false, cond}
use mathlib.Core.List.{List, [], ◌∷◌, ◌++◌, append-nil, append_assoc, flatten}
use Prim.Native.Nat.{ℕ}
use lib.Dec.{eqb}
use lib.ListN.{take}
use Rattle.results.specs.Results.{answered}
use Rattle.standing.specs.Runs.{Store}
use Rattle.commands.specs.Commands.{command_of}
use Rattle.commands.proofs.Commands.{command_of_first}
use Rattle.lines.specs.Lines.{feed_byte}
use Rattle.replies.specs.Replies.{reply}
use Rattle.dialogue.specs.Sizes.{kept_bytes}
use Rattle.dialogue.specs.Transcript.{lines_after, replies_by, replies}
use Rattle.dialogue.specs.Turns.{Progress, Turn, progress, ended, turn, after, turns, parts, closing, closing_by}
use Rattle.dialogue.specs.Theorems.{AnsweredByLines, PartsAsWhole}
use Rattle.dialogue.proofs.Scanning.{take_take_append, turn_ended, turn_kept}

module _ (m : List ℕ) where
  -- what is printed by a turn and the end after it
  abbrev pub to_end : Turn → List ℕ
  to_end t = t.answer ++ (closing m t.left).answer

  -- the first bytes of a line are answered as the line is
  first_answered : (l : List ℕ) (s : Store) → reply m (command_of (take kept_bytes l)) s ≡ reply m (command_of l) s
  first_answered l s = ap (λ c. reply m c s) (sym (command_of_first l))

  pub after_to_end : (t u : Turn) → to_end (after t u) ≡ t.answer ++ to_end u
  after_to_end t u = append_assoc t.answer u.answer (closing m u.left).answer

  abbrev onward : List ℕ → Turn → List ℕ
  onward input t = t.answer ++ to_end (turns m input t.left)

  by_lines : (input begun : List ℕ) (s : Store) → to_end (turns m input (progress (take kept_bytes begun) s)) ≡ replies m (lines_after input begun) s
  unfolding turns replies_by lines_after closing_by
  by_lines [] [] s = refl
  by_lines [] (b ∷ begun) s = ap (λ r. r.answer) (first_answered (b ∷ begun) s) ∙ sym (append-nil (reply m (command_of (b ∷ begun)) s).answer)
  by_lines (byte ∷ input) begun s =
      let t = turn m byte (progress (take kept_bytes begun) s) in
      after_to_end t (turns m input t.left) ∙ by (eqb byte feed_byte) refl (by_lines input)
    where
      by : (t : Bool) → eqb byte feed_byte ≡ t
          → ((begun : List ℕ) (s : Store) → to_end (turns m input (progress (take kept_bytes begun) s)) ≡ replies m (lines_after input begun) s)
          → onward input (turn m byte (progress (take kept_bytes begun) s))
          ≡ replies m (cond t (begun ∷ lines_after input []) (lines_after input (begun ++ (byte ∷ [])))) s
      by true e rest =
          ap (onward input) (turn_ended m byte (take kept_bytes begun) s e ∙ ap ended (first_answered begun s))
          ∙ ap (λ x. (reply m (command_of begun) s).answer ++ x) (rest [] (reply m (command_of begun) s).left)
      by false e rest =
          ap (onward input) (turn_kept m byte (take kept_bytes begun) s e)
          ∙ ap (λ k. to_end (turns m input (progress k s))) (take_take_append kept_bytes begun (byte ∷ []))
          ∙ rest (begun ++ (byte ∷ [])) s

  turns_append : (a b : List ℕ) (s : Progress) → turns m (a ++ b) s ≡ after (turns m a s) (turns m b (turns m a s).left)
  unfolding turns
  turns_append [] b s = refl
  turns_append (byte ∷ a) b s =
      let t = turn m byte s in
      let u = turns m a t.left in
      let v = turns m b u.left in
      ap (after t) (turns_append a b t.left) ∙ ap (λ x. answered x v.left) (sym (append_assoc t.answer u.answer v.answer))

  pub parts_joined : (ps : List (List ℕ)) (s : Progress) → parts m ps s ≡ turns m (flatten ps) s
  unfolding parts turns flatten
  parts_joined [] s = refl
  parts_joined (p ∷ ps) s = ap (after (turns m p s)) (parts_joined ps (turns m p s).left) ∙ sym (turns_append p (flatten ps) s)

pub answered_by_lines : AnsweredByLines
answered_by_lines m input s = by_lines m input [] s

pub parts_as_whole : PartsAsWhole
parts_as_whole m ps s = parts_joined m ps s
