-- How the code goes about a reading: the node first, then whether its kind and its parameter are allowed.
use Rattle.std.specs.Prelude.{Bool, true, cond, not, List, ℕ, ℤ, Result, Ok, Err}
use Rattle.results.specs.declared.refusal.Refusal.{Refusal}
use Rattle.results.specs.declared.refusal.Refusal.TheVariants.{KindNotAllowed, ParameterNotAllowed}
use Rattle.syntax.specs.declared.Node.{Node}
use Rattle.syntax.specs.Readings.{refusal_at, reading_at}

-- the reading at place `at` before any rule for the node's kind and its parameter
unfoldable pub due_at : List ℕ → List ℤ → ℕ → ℕ → Result Node Refusal
due_at ks ps left at = reading_at ks ps (refusal_at ks ps (λ k. true) (λ k p. true) left at) at

-- a node that is due, where its kind and its parameter are allowed
unfoldable pub checked : Bool → Bool → Node → Result Node Refusal
checked allowed fits n = cond (not allowed) (Err KindNotAllowed) (cond (not fits) (Err ParameterNotAllowed) (Ok n))
