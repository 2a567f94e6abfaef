-- Different answers of the code never look alike: what they tell has an inverse, and no two refusals have one number.
use mathlib.Core.Path.{◌≡◌, refl, sym, ap, ◌∙◌}
use Prim.Native.Nat.{ℕ, zero, suc}
use lib.IntN.{ℤ, pos}
use Rattle.std.specs.Prelude.{Option, None}
use Rattle.std.proofs.Common.{Ok, Err}
use Rattle.model.specs.declared.Sizes.{Sizes as FiveSizes}
use Rattle.standing.specs.declared.RangeCheck.{RangeCheck}
use Rattle.inspection.specs.Asked.{told_outside}
use Rattle.results.specs.Refusals.{number_of}
use Rattle.results.proofs.Numbers.{numbers_differ}
use Rattle.run.specs.declared.Answer as declared
use Rattle.run.specs.declared.Answer.TheVariants.{Rounds, Done, Number, Sizes, Picked, Outside}
use Rattle.standing.specs.Runs.{Answer}
use Rattle.standing.specs.Runs.Answer.{refused, rounds, done, number, sizes, picked, outside}
use Rattle.replaying.specs.declared.Move.{Move}
use Rattle.replaying.specs.declared.Move.TheVariants.{Start, Fire, Undo}
use Rattle.replaying.proofs.Tests.{clash}
use Rattle.steps.specs.Answers.{told_by}
use Rattle.steps.proofs.NumbersApart.{refused_same}
use Rattle.run.specs.Promises.{told}
use Rattle.run.specs.Theorems.{Distinct, SeenDistinct}

-- the answer that tells this; of a refusal it has no meaning
inverse : Answer → declared.Answer
inverse (refused n) = Done
inverse (rounds n) = Rounds n
inverse done = Done
inverse (number v) = Number v
inverse (sizes z) = Sizes z
inverse (picked o) = Picked o
inverse (outside o looked) = Outside (record { outside = o; looked = looked })

inverse_told : (a : declared.Answer) → inverse (told a) ≡ a
unfolding inverse told
inverse_told (Rounds n) = refl
inverse_told Done = refl
inverse_told (Number v) = refl
inverse_told (Sizes z) = refl
inverse_told (Picked o) = refl
inverse_told (Outside c) = refl

-- what is told is no refusal
not_refused : (a : declared.Answer) (n : ℕ) → told a ≡ refused n → ⊥
unfolding told
not_refused (Rounds k) n e = clash cc
not_refused Done n e = clash cc
not_refused (Number v) n e = clash cc
not_refused (Sizes z) n e = clash cc
not_refused (Picked o) n e = clash cc
not_refused (Outside c) n e = clash cc

-- results of two kinds of values, told apart by what has the value back from what is told
module _ {A : Type 0} (f : A → Answer) (back : Answer → A) (has_back : (a : A) → back (f a) ≡ a) (no_refusal : (a : A) (n : ℕ) → f a ≡ refused n → ⊥) where
  distinct : Distinct f
  distinct (Ok a) (Ok b) e = ap Ok (sym (has_back a) ∙ ap back e ∙ has_back b)
  distinct (Ok a) (Err r) e = absurd (no_refusal a (number_of r) e)
  distinct (Err r) (Ok b) e = absurd (no_refusal b (number_of r) (sym e))
  distinct (Err r) (Err r') e = ap Err (numbers_differ.1 r r' (refused_same e))

-- the value of each kind of answer; of the others it has no meaning
count_in : Answer → ℕ
count_in (rounds n) = n
count_in _ = 0

value_in : Answer → ℤ
value_in (number v) = v
value_in _ = pos 0

sizes_in : Answer → FiveSizes
sizes_in (sizes z) = z
sizes_in _ = record { states = 0; flows = 0; events = 0; transitions = 0; nodes = 0 }

choice_in : Answer → Option ℕ
choice_in (picked o) = o
choice_in _ = None

range_in : Answer → RangeCheck
range_in (outside o looked) = record { outside = o; looked = looked }
range_in _ = record { outside = None; looked = 0 }

-- the number that a move answered has the number back from what it tells, and tells no refusal
number_back : (s : Move) (n : ℕ) → count_in (told_by s n) ≡ n
unfolding count_in told_by
number_back Start n = refl
number_back (Fire t) n = refl
number_back Undo zero = refl
number_back Undo (suc n) = refl

move_not_refused : (s : Move) (n k : ℕ) → told_by s n ≡ refused k → ⊥
unfolding told_by
move_not_refused Start n k e = clash cc
move_not_refused (Fire t) n k e = clash cc
move_not_refused Undo zero k e = clash cc
move_not_refused Undo (suc n) k e = clash cc

pub seen_distinct : SeenDistinct
unfolding count_in value_in sizes_in choice_in range_in
seen_distinct =
    record {
      listed = distinct told inverse inverse_told not_refused;
      checked = distinct sizes sizes_in (λ z. refl) (λ z n e. clash cc);
      fired = distinct rounds count_in (λ n. refl) (λ k n e. clash cc);
      undone = distinct (λ (a : Unit {0}). done) (λ _. tt) (λ a. refl) (λ a n e. clash cc);
      valued = distinct number value_in (λ v. refl) (λ v n e. clash cc);
      chosen = distinct picked choice_in (λ o. refl) (λ o n e. clash cc);
      looked = distinct told_outside range_in (λ c. refl) (λ c n e. clash cc);
      moved = λ s. distinct (told_by s) count_in (number_back s) (move_not_refused s);
    }
