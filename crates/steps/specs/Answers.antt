-- What a call answers, by 01's numbers and values, and a call on a model file.
use Rattle.std.specs.Prelude.{ℕ, zero, suc, Result, Ok, Err}
use Rattle.results.specs.declared.refusal.Refusal.{Refusal}
use Rattle.results.specs.Refusals.{number_of}
use Rattle.model.specs.Check.{Verdict}
use Rattle.model.specs.Check.Verdict.{refusal, accepted}
use Rattle.semantics.specs.Meanings.{Meaning, meaning_of}
use Rattle.standing.specs.Runs.{Answer, Done, answered}
use Rattle.standing.specs.Runs.Answer.{refused, rounds, done}
use Rattle.replaying.specs.declared.Move.{Move}
use Rattle.replaying.specs.declared.Move.TheVariants.{Start, Fire, Undo}

-- what is answered for a value, or the number of a refusal
abbrev pub seen_as : {A : Type 0} → (A → Answer) → Result A Refusal → Answer
seen_as f (Ok a) = f a
seen_as f (Err r) = refused (number_of r)

-- what a move tells of the number that it answers: start and fire that so many rounds were made, an undo that it was done. An undo that is
-- done answers 0 and nothing else: another number would tell of rounds, which no undo does
unfoldable pub told_by : Move → ℕ → Answer
told_by Start n = rounds n
told_by (Fire t) n = rounds n
told_by Undo zero = done
told_by Undo (suc n) = rounds (suc n)

-- a call over the meaning of a file's model and a thing that is lent; a refused file leaves it
unfoldable pub on_file : {A : Type 0} → Verdict → (Meaning → Done A) → A → Done A
on_file (refusal r) f a = answered (refused (number_of r)) a
on_file (accepted z t) f a = f (meaning_of t)

-- the same where nothing that could change is lent
unfoldable pub on_file_answer : Verdict → (Meaning → Answer) → Answer
on_file_answer (refusal r) f = refused (number_of r)
on_file_answer (accepted z t) f = f (meaning_of t)
