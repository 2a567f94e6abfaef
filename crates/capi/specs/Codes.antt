-- Codes and results for C: 0 and the results, or the number of the refusal and nothing that was lent changed. Each with what it leaves in
-- the cells that it may change.
use Rattle.std.specs.Prelude.{cond, List, [], ◌∷◌, ℕ, ltb, ℤ, length, Option, Some, None, Result, Ok, Err}
use Rattle.results.specs.Results.{Answered, answered, over}
use Rattle.model.specs.declared.Sizes.{Sizes}
use Rattle.standing.specs.Runs.{Answer, Done}
use Rattle.standing.specs.Runs.Answer.{refused, rounds, done, number, sizes, picked, outside}
use Rattle.results.specs.declared.refusal.Refusal.{Refusal}
use Rattle.results.specs.Refusals.{number_of}

-- the number of the refusal, else 0
unfoldable pub code_of : Answer → ℕ
code_of (refused n) = n
code_of (rounds n) = 0
code_of done = 0
code_of (number v) = 0
code_of (sizes z) = 0
code_of (picked t) = 0
code_of (outside x looked) = 0

-- the round count where one is answered, else what stood there
unfoldable pub rounds_or : ℕ → Answer → ℕ
rounds_or old (refused n) = old
rounds_or old (rounds n) = n
rounds_or old done = old
rounds_or old (number v) = old
rounds_or old (sizes z) = old
rounds_or old (picked t) = old
rounds_or old (outside x looked) = old

-- the value where one is answered, else what stood there
unfoldable pub number_or : ℤ → Answer → ℤ
number_or old (refused n) = old
number_or old (rounds n) = old
number_or old done = old
number_or old (number v) = v
number_or old (sizes z) = old
number_or old (picked t) = old
number_or old (outside x looked) = old

-- a call with one result, over what stood there
abbrev pub coded_result : {R A B : Type 0} → (R → ℕ) → (B → R → B) → B → Answered R A → Answered ℕ (A × B)
coded_result code result old d = answered (code d.answer) (d.left, result old d.answer)

-- a call without results: undo, marks
abbrev pub coded_by : {A : Type 0} → Done A → Answered ℕ A
coded_by d = answered (code_of d.answer) d.left

-- a call whose result is the round count, over what stood there: start, fire
abbrev pub coded_rounds : {A : Type 0} → ℕ → Done A → Answered ℕ (A × ℕ)
coded_rounds = coded_result code_of rounds_or

-- a call whose result is a number, over what stood there: value
abbrev pub coded_number : ℤ → Answer → Answered ℕ ℤ
coded_number old a = answered (code_of a) (number_or old a)

-- S F E T N
abbrev pub cells_of : Sizes → List ℕ
cells_of z = z.states ∷ z.flows ∷ z.events ∷ z.transitions ∷ z.nodes ∷ []

-- how many cells these are
abbrev pub size_cells : ℕ
size_cells = 5

-- a call whose result is the sizes, over the cells for them: check. Under 5 of them is 10, after the check's refusals; the cells from 5 on
-- stay; the other answers are none of check's.
unfoldable pub coded_sizes : List ℕ → Answer → Answered ℕ (List ℕ)
coded_sizes old (refused n) = answered n old
coded_sizes old (rounds n) = answered 0 old
coded_sizes old done = answered 0 old
coded_sizes old (number v) = answered 0 old
coded_sizes old (picked t) = answered 0 old
coded_sizes old (outside x looked) = answered 0 old
coded_sizes old (sizes z) = cond (ltb (length old) size_cells) (answered 10 old) (answered 0 (over (cells_of z) old))

-- what was found and 1; where there is none what stood there and 0
unfoldable pub found_over : ℕ → Option ℕ → ℕ × ℕ
found_over old (Some x) = (x, 1)
found_over old None = (old, 0)

-- what pick answers as these two cells, else what stood in `transition` and `found`
unfoldable pub picked_or : ℕ × ℕ → Answer → ℕ × ℕ
picked_or old (refused n) = old
picked_or old (rounds n) = old
picked_or old done = old
picked_or old (number v) = old
picked_or old (sizes z) = old
picked_or old (picked t) = found_over old.0 t
picked_or old (outside x looked) = old

-- a call whose result is a transition, or that there is none, over what stood there: pick
abbrev pub coded_pick : ℕ × ℕ → Answer → Answered ℕ (ℕ × ℕ)
coded_pick old a = answered (code_of a) (picked_or old a)

-- `variable`, `found` and `looked` as the check of the values answers them, else what stood there
unfoldable pub outside_or : (ℕ × ℕ) × ℕ → Answer → (ℕ × ℕ) × ℕ
outside_or old (refused n) = old
outside_or old (rounds n) = old
outside_or old done = old
outside_or old (number v) = old
outside_or old (sizes z) = old
outside_or old (picked t) = old
outside_or old (outside x looked) = (found_over old.0.0 x, looked)

-- a call whose result is a variable, or that there is none, and a count, over what stood there: first outside
abbrev pub coded_outside : (ℕ × ℕ) × ℕ → Answer → Answered ℕ ((ℕ × ℕ) × ℕ)
coded_outside old a = answered (code_of a) (outside_or old a)

-- the number of the refusal, else 0
unfoldable pub code_in : {A : Type 0} → Result A Refusal → ℕ
code_in (Err r) = number_of r
code_in (Ok a) = 0

-- the value where there is one, else what stood there
unfoldable pub value_or : {A : Type 0} → A → Result A Refusal → A
value_or old (Err r) = old
value_or old (Ok a) = a

-- a call whose result is a count, over what stood there: the nodes of a text, the bytes of a new model or of an old one rewritten
abbrev pub coded_count : {A : Type 0} → ℕ → Answered (Result ℕ Refusal) A → Answered ℕ (A × ℕ)
coded_count = coded_result code_in value_or
