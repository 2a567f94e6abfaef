-- A shuffled model prints the same: theorem TranscriptIndependent, from the theorem on lists of calls.
use mathlib.Core.Path.{◌≡◌, refl, sym, ap, ◌∙◌}
use mathlib.Core.Bool.{cond}
use mathlib.Core.List.{List, [], ◌∷◌, ◌++◌}
use Prim.Native.Nat.{ℕ}
use lib.ListN.{get_or}
use Rattle.model.specs.Check.{Verdict}
use Rattle.model.specs.Check.Verdict.{accepted}
use Rattle.model.specs.Theorems.{Bytes, ShuffledFile}
use Rattle.model.proofs.Shuffling.{shuffled_accepted}
use Rattle.standing.specs.Runs.{Store, Done}
use Rattle.run.specs.declared.Call.{Call}
use Rattle.run.specs.declared.Call.TheVariants as calls
use Rattle.run.specs.Lists.{call_by, call, calls_by}
use Rattle.run.specs.Lists.Performed.{nothing, next}
use Rattle.run.proofs.Final.{order_independent}
use Rattle.commands.specs.declared.Command.{Command}
use Rattle.std.specs.Prelude.{Option, Some, None}
use Rattle.commands.specs.declared.Command.TheVariants.{Fire, Undo, Marks}
use Rattle.commands.specs.Commands.{most_digits, command_within}
use Rattle.replies.specs.Replies.{Reply, reply_by, run_reply, look_reply, opening_by, is_accepted, is_started_by}
use Rattle.dialogue.specs.Transcript.{lines_of, replies_by, started_text, transcript_by}
use Rattle.dialogue.specs.Theorems.{TranscriptIndependent}

module _ (m m' : List ℕ) (b : Bytes m) (f : ShuffledFile m m') where
  -- a list of one call
  same_call : (c : Call) (s : Store) → call m' c s ≡ call m c s
  unfolding calls_by
  same_call c s =
      ap (λ (ds : List (Done Store)). get_or ds 0 (call m c s))
      (order_independent m m' b (f.sizes, f.before, f.read) f (c ∷ []) s (call m c s ∷ []) (call m' c s ∷ []) (next refl nothing) (next refl nothing)).1

-- what is printed depends on a model by its calls
module _ (v v' : Verdict) (same : (c : Call) (s : Store) → call_by v' c s ≡ call_by v c s) where
  same_reply : (c : Option Command) (s : Store) → reply_by v' c s ≡ reply_by v c s
  unfolding reply_by
  same_reply (Some (Fire t)) s = ap run_reply (same (calls.Fire t) s)
  same_reply (Some Undo) s = ap run_reply (same calls.Undo s)
  same_reply (Some Marks) s = ap look_reply (same calls.Marks s)
  same_reply None s = refl

  same_replies : (most : ℕ) (ls : List (List ℕ)) (s : Store) → replies_by most v' ls s ≡ replies_by most v ls s
  unfolding replies_by
  same_replies most [] s = refl
  same_replies most (l ∷ ls) s =
      ap (λ (r : Reply). r.answer ++ replies_by most v' ls r.left) (same_reply (command_within most l) s)
      ∙ ap (λ x. (reply_by v (command_within most l) s).answer ++ x) (same_replies most ls (reply_by v (command_within most l) s).left)

  same_started : (most : ℕ) (input : List ℕ) (s : Store) → started_text most v' input s ≡ started_text most v input s
  same_started most input s =
      ap (λ (d : Done Store). (run_reply d).answer ++ cond (is_accepted d.answer) (replies_by most v' (lines_of input) d.left) []) (same calls.Start s)
      ∙ ap (λ x. (opening_by v s).answer ++ cond (is_started_by v s) x []) (same_replies most (lines_of input) (opening_by v s).left)

pub transcript_independent : TranscriptIndependent
unfolding transcript_by
transcript_independent m m' input b f =
    let after = shuffled_accepted m m' b f in
    ap (λ v. transcript_by most_digits v input) after
    ∙ same_started (accepted f.sizes f.before) (accepted f.sizes f.after)
    (λ c s. sym (ap (λ v. call_by v c s) after) ∙ same_call m m' b f c s ∙ ap (λ v. call_by v c s) f.read) most_digits input _
    ∙ sym (ap (λ v. transcript_by most_digits v input) f.read)
