-- 01: "It prints a line for the start, then one per command: `ok`, round count, values; `back`, values; `m`, marks; or `no`, number."
-- What is printed for a command and for the start, over the definitions of the calls.
use Rattle.std.specs.Prelude.{Option, Some, None, Bool, true, false, List, [], ℕ, ℤ}
use Rattle.results.specs.Results.{Answered, answered}
use Rattle.run.specs.declared.Call.TheVariants as calls
use Rattle.standing.specs.Runs.{Store, Answer, Done}
use Rattle.standing.specs.Runs.Answer.{refused, rounds, done, number, sizes, picked, outside}
use Rattle.model.specs.Check.{Verdict, verdict}
use Rattle.run.specs.Lists.{call_by}
use Rattle.commands.specs.declared.Command.{Command}
use Rattle.commands.specs.declared.Command.TheVariants.{Fire, Undo, Marks}
use Rattle.lines.specs.Lines.{ok_text, back_text, marks_text, refusal_text}

-- what is printed, with all that was lent as it is left
abbrev pub Reply : Type 0
Reply = Answered (List ℕ) Store

-- ---- an answer's line

-- of start, fire and undo, with the values left; the last four are no answers of theirs
unfoldable pub run_text : Answer → List ℤ → List ℕ
run_text (refused n) values = refusal_text n
run_text (rounds count) values = ok_text count values
run_text done values = back_text values
run_text (number v) values = []
run_text (sizes z) values = []
run_text (picked t) values = []
run_text (outside x looked) values = []

abbrev pub run_reply : Done Store → Reply
run_reply d = answered (run_text d.answer d.left.run.values) d.left

-- of marks, with the marks copied
unfoldable pub look_text : Answer → List ℕ → List ℕ
look_text (refused n) marks = refusal_text n
look_text (rounds count) marks = []
look_text done marks = marks_text marks
look_text (number v) marks = []
look_text (sizes z) marks = []
look_text (picked t) marks = []
look_text (outside x looked) marks = []

abbrev pub look_reply : Done Store → Reply
look_reply d = answered (look_text d.answer d.left.buffer) d.left

-- ---- a command, or a line that is none

-- 13 "a line is no command"
abbrev pub no_command : ℕ
no_command = 13

-- by the check's verdict on the file
unfoldable pub reply_by : Verdict → Option Command → Store → Reply
reply_by v (Some (Fire t)) s = run_reply (call_by v (calls.Fire t) s)
reply_by v (Some Undo) s = run_reply (call_by v calls.Undo s)
reply_by v (Some Marks) s = look_reply (call_by v calls.Marks s)
reply_by v None s = answered (refusal_text no_command) s

abbrev pub reply : List ℕ → Option Command → Store → Reply
reply m = reply_by (verdict m)

-- ---- the start: "It stops after a refused start."

abbrev pub opening_by : Verdict → Store → Reply
opening_by v s = run_reply (call_by v calls.Start s)

abbrev pub opening : List ℕ → Store → Reply
opening m = opening_by (verdict m)

unfoldable pub is_accepted : Answer → Bool
is_accepted (refused n) = false
is_accepted (rounds count) = true
is_accepted done = true
is_accepted (number v) = true
is_accepted (sizes z) = true
is_accepted (picked t) = true
is_accepted (outside x looked) = true

abbrev pub is_started_by : Verdict → Store → Bool
is_started_by v s = is_accepted (call_by v calls.Start s).answer

abbrev pub is_started : List ℕ → Store → Bool
is_started m = is_started_by (verdict m)
