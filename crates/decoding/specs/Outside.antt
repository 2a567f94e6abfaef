-- The check of an expression handed outside a model.
use Rattle.std.specs.Prelude.{List, ℕ, ℤ, Option, Result, Err}
use Rattle.results.specs.Results.{Answered, answered}
use Rattle.results.specs.declared.refusal.Refusal.{Refusal}
use Rattle.kinds.specs.declared.Sort.{Sort}
use Rattle.syntax.specs.declared.Tree.{Tree}
use Rattle.model.specs.Trees.{Expression, variables, sorts_of}
use Rattle.model.specs.Walk.{Walk}
use Rattle.model.specs.Walk.Walk.{refused, found}
use Rattle.model.specs.Check.{Verdict, expression_given, given_answer}
use Rattle.model.specs.Check.Verdict.{accepted, refusal}

-- 01: "An expression handed outside a model [..] is refused right after the model by 3 (lengths differ) and 4 to 8."
unfoldable pub given_after : Verdict → List ℕ → List ℤ → Option Sort → Result (Unit {0}) Refusal
given_after (refusal r) ks ps wanted = Err r
given_after (accepted s t) ks ps wanted = given_answer (expression_given ks ps (sorts_of (variables t)) wanted)

-- 01: it "stands in two slices, kinds and parameters"
pub record Handed : Type 0 where
  pub kinds : List ℕ
  pub parameters : List ℤ

-- the expression whose slices are lent
abbrev pub handed_in : Tree → Handed
handed_in t = record { kinds = t.kinds.now; parameters = t.parameters.now }

-- what is made of an expression that was found; a refusal leaves what was lent
unfoldable pub on_found : {R A : Type 0} → Walk Expression → A → (Expression → Answered (Result R Refusal) A) → Answered (Result R Refusal) A
on_found (refused r) old f = answered (Err r) old
on_found (found e next) old f = f e
