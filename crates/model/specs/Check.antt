-- The check of a model file, and of an expression handed outside a model.
-- 01: "Orders: 1, 2, 3, then the walk, where the first offending node ends it and 4 to 7 are tried in that order; 8 last." 02, A7: 37
-- "between 2 and 3".
use Rattle.std.specs.Prelude.{cond, not, List, [], ◌∷◌, ℕ, zero, suc, ◌+◌, ◌-◌, eqb, ltb, ℤ, pos, neg_ℤ, length, take, drop, Option, Result, Ok, Err}
use Rattle.model.specs.declared.Layout.{Layout}
use Rattle.model.specs.declared.Sizes.{Sizes}
use Rattle.results.specs.declared.refusal.Refusal.{Refusal}
use Rattle.results.specs.declared.refusal.Refusal.TheVariants.{WrongLength, NodesLeftOver}
use Rattle.kinds.specs.declared.Sort.{Sort}
use Rattle.model.specs.Trees.{Expression, Variable, Transition, Instruction, System, sorts_of}
use Rattle.model.specs.Nodes.{parameter_width}
use Rattle.model.specs.Sizes.{byte_layout, file_layout, header_of, little_at, sized}
use Rattle.model.specs.Walk.{Walk, Scope, scope_of, and_then, expression_at, instruction_at, variable_at, transition_at, row_at}
use Rattle.model.specs.Walk.Walk.{refused, found}

-- 01: "The limits belong to the model": depth at most 32
abbrev pub max_depth : ℕ
max_depth = 32

-- 01: "signed two's complement"
unfoldable pub signed : ℕ → ℤ
signed n = cond (ltb n 2147483648) (pos n) (neg_ℤ (pos (4294967296 - n)))

-- so many parameters of four bytes from place `at` on
unfoldable pub parameters_at : List ℕ → ℕ → ℕ → List ℤ
parameters_at m at zero = []
parameters_at m at (suc n) = signed (little_at m at parameter_width) ∷ parameters_at m (at + parameter_width) n

-- 01: "Then two parallel arrays: N kinds of one byte, and N parameters of four bytes"
abbrev pub kinds_in : Layout → ℕ → List ℕ → List ℕ
kinds_in l n m = take n (drop (header_of l) m)

abbrev pub parameters_in : Layout → ℕ → List ℕ → List ℤ
parameters_in l n m = parameters_at m (header_of l + n) n

-- an action assigns states, the assertion flows
abbrev pub action_scope : Sizes → List Variable → Scope
action_scope s vs = scope_of (sorts_of vs) 0 s.states

abbrev pub assertion_scope : Sizes → List Variable → Scope
assertion_scope s vs = scope_of (sorts_of vs) s.states (s.states + s.flows)

-- 8 "nodes left over"
unfoldable pub complete : {A : Type 0} → ℕ → Walk A → Walk A
complete n w = and_then w (λ a next. cond (ltb next n) (refused NodesLeftOver) (found a next))

-- the transitions and the assertion, over variables of these sorts
unfoldable pub rest_at : List ℕ → List ℤ → List Sort → Sizes → ℕ → Walk (List Transition × Instruction)
rest_at ks ps vs s at =
    and_then (row_at (transition_at ks ps s.events (scope_of vs 0 s.states) max_depth) s.transitions at) (λ ts second.
    and_then (instruction_at ks ps (scope_of vs s.states (s.states + s.flows)) max_depth second) (λ a next.
    found (ts, a) next))

-- 01: "S+F variables (states first, numbered from 0), T transitions, one instruction that is the assertion"
unfoldable pub system_at : List ℕ → List ℤ → Sizes → Walk System
system_at ks ps s =
    and_then (row_at (variable_at ks ps) (s.states + s.flows) 0) (λ vs second.
    and_then (rest_at ks ps (sorts_of vs) s second) (λ r next.
    found (record { states = take s.states vs; flows = drop s.states vs; events = s.events; transitions = r.0; assertion = r.1 }) next))

-- the walk of the model in a file whose sizes have been read
abbrev pub walked_in : Layout → List ℕ → Sizes → Walk System
walked_in l m s = complete s.nodes (system_at (kinds_in l s.nodes m) (parameters_in l s.nodes m) s)

-- 01: "A model is accepted if its check refuses nothing." The refusal, or the model.
pub data Verdict : Type 0 where
  refusal : Refusal → Verdict
  accepted : Sizes → System → Verdict

unfoldable pub verdict_of : Sizes → Walk System → Verdict
verdict_of s (refused r) = refusal r
verdict_of s (found t next) = accepted s t

unfoldable pub verdict_in : Layout → List ℕ → Result Sizes Refusal → Verdict
verdict_in l m (Err r) = refusal r
verdict_in l m (Ok s) = verdict_of s (walked_in l m s)

-- the check by a layout
unfoldable pub verdict_of_layout : Layout → List ℕ → Verdict
verdict_of_layout l m = verdict_in l m (sized l m)

-- that of every call
abbrev pub verdict : List ℕ → Verdict
verdict = verdict_of_layout file_layout

-- that of an old file. 02, A7: "one that the old check refuses"
abbrev pub byte_verdict : List ℕ → Verdict
byte_verdict = verdict_of_layout byte_layout

-- 01: "Check of a model: its five sizes." What the call answers.
unfoldable pub answer_of : Verdict → Result Sizes Refusal
answer_of (refusal r) = Err r
answer_of (accepted s t) = Ok s

-- 01: "An expression handed outside a model stands in two slices, kinds and parameters, its top at depth 1, and is refused
-- right after the model by 3 (lengths differ) and 4 to 8."
unfoldable pub expression_given : List ℕ → List ℤ → List Sort → Option Sort → Walk Expression
expression_given ks ps sorts wanted =
    cond (not (eqb (length ks) (length ps))) (refused WrongLength)
    (complete (length ks) (expression_at ks ps sorts max_depth wanted 0))

-- what the call answers: the refusal, or that it is accepted
unfoldable pub given_answer : Walk Expression → Result (Unit {0}) Refusal
given_answer (refused r) = Err r
given_answer (found e next) = Ok tt
